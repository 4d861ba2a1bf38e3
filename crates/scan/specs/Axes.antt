-- An axis as a list of edges: what every axis keeps, and its edges and cells by number, counted from 0.
use Rattle.std.specs.Prelude.{ℕ, ◌+◌, ◌-◌, ◌<◌, ◌≤◌, min, max, List, map, fold, length, ℤ, pos, ◌+ℤ◌, ◌*ℤ◌, ◌<ℤ◌, slice_index_or, unsigned_abs}
use Rattle.std.specs.List.{range_with_len}

-- Each edge lies above the one before it.
abbrev pub Rises : List ℤ → Type 0
Rises es = (i : ℕ) → i + 1 < length es → slice_index_or es i (pos 0) <ℤ slice_index_or es (i + 1) (pos 0)

-- Each edge lies from -4,194,304 to 4,194,304.
abbrev pub Within : List ℤ → Type 0
Within es = (i : ℕ) → i < length es → unsigned_abs (slice_index_or es i (pos 0)) ≤ 4194304

-- What every axis keeps: 2 to 513 edges, so 1 to 512 cells, that rise strictly and lie in range.
pub record Proper (es : List ℤ) : Type 0 where
  pub least : 2 ≤ length es
  pub most : length es ≤ 513
  pub rises : Rises es
  pub within : Within es

-- The number of cells, one less than that of edges: each lies between two neighbouring edges.
abbrev pub cells_of : List ℤ → ℕ
cells_of es = length es - 1

-- Edge i, where a number past the last stands for the last.
abbrev pub edge_of : List ℤ → ℕ → ℤ
edge_of es i = slice_index_or es (min i (cells_of es)) (pos 0)

-- The number of cell j, where a number past the last stands for the last.
abbrev pub cell_of : List ℤ → ℕ → ℕ
cell_of es j = min j (cells_of es - 1)

-- The edge at which cell j begins.
abbrev pub low_of : List ℤ → ℕ → ℤ
low_of es j = edge_of es (cell_of es j)

-- The edge at which cell j ends.
abbrev pub high_of : List ℤ → ℕ → ℤ
high_of es j = edge_of es (cell_of es j + 1)

-- The greatest |edge| of some edges.
abbrev pub greatest : List ℤ → ℕ
greatest es = fold (λ most e. max most (unsigned_abs e)) 0 es

-- The greatest |edge| of x and y.
abbrev pub widest : List ℤ → List ℤ → ℕ
widest x y = max (greatest x) (greatest y)

-- Edge i of an even axis, whose cells are all as wide as the pitch: first + i pitch.
abbrev pub even_edge : ℤ → ℤ → ℕ → ℤ
even_edge first pitch i = first +ℤ pos i *ℤ pitch

-- The n + 1 edges of an even axis of n cells.
abbrev pub even_edges : ℤ → ℤ → ℕ → List ℤ
even_edges first pitch n = map (even_edge first pitch) (range_with_len 0 (n + 1))
