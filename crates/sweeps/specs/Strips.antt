-- What the loops of a sweep promise one another: for readers of the code. The calls' promises do not rest on it.
use Rattle.std.specs.Prelude.{◌≡◌, ℕ, ◌+◌, ◌-◌, ◌*◌, ◌<◌, if◌then◌else◌, List, length, ◌==◌}
use Rattle.values.specs.Laws.{Ops}
use Rattle.values.specs.Naturals.{naturals}
use Rattle.values.specs.Sums.{sum}
use Rattle.calls.specs.Stores.{at}
use Rattle.sweeps.specs.Runs.{share}
use Rattle.sweeps.specs.declared.strip.Strip.{Strip}

-- What the place p of a store gets of n numbers w, laid on the places start, start + stride, ..
unfoldable pub laid : ℕ → ℕ → (ℕ → ℕ) → ℕ → ℕ → ℕ
laid start stride w n p = sum naturals n (λ i. if p == start + i * stride then w i else 0)

-- The number of cells of a strip.
abbrev pub strip_cells : Strip → ℕ
strip_cells s = length s.line.edges.at.now - 1

-- The place of a strip's cell i in the store.
abbrev pub place : Strip → ℕ → ℕ
place s i = s.line.start + i * s.line.stride

-- How far a strip's cell i overlaps its stretch.
abbrev pub cell_overlap : Strip → ℕ → ℕ
cell_overlap s i = share s.line.edges.at.now s.over.low s.over.high i

-- What the place p of the store gets of the overlaps of a strip's first n cells.
abbrev pub first_share : Strip → ℕ → ℕ → ℕ
first_share s n p = laid s.line.start s.line.stride (cell_overlap s) n p

-- How far the strip's cell at place p of the store overlaps its stretch.
abbrev pub strip_share : Strip → ℕ → ℕ
strip_share s p = first_share s (strip_cells s) p

-- The strip lies in a store of n places.
abbrev pub Inside : Strip → ℕ → Type 0
Inside s n = (i : ℕ) → i < strip_cells s → place s i < n

-- The sum over all places q of a store of the multiple of its value by w q.
abbrev pub total : {V : Type 0} → Ops V → List V → (ℕ → ℕ) → V
total o from w = sum o (length from) (λ q. o.multiple (at o from q) (w q))

-- Each place p of a store has gained f times the total of another by the weights M q p.
pub record Gained {V : Type 0} (o : Ops V) (f : V) (from : List V) (M : ℕ → ℕ → ℕ) (old new : List V) : Type 0 where
  pub gain : (p : ℕ) → p < length old → at o new p ≡ o.plus (at o old p) (o.times f (total o from (λ q. M q p)))
