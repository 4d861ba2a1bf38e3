-- Tables of landed edges: for readers of the code. The calls' promises do not rest on it.
use Rattle.std.specs.Prelude.{◌≡◌, ℕ, ◌<◌, List, length, ℤ, pos, slice_index_or}

-- The table holds n edges, each as f tells it.
abbrev pub Tabled : List ℤ → ℕ → (ℕ → ℤ) → Type 0
Tabled es n f = (length es ≡ n) × ((i : ℕ) → i < n → slice_index_or es i (pos 0) ≡ f i)
