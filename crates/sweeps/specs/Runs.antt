-- Runs of the cells between landed edges: for readers of the code. The calls' promises do not rest on it.
use Rattle.std.specs.Prelude.{◌≡◌, ℕ, ◌+◌, ◌-◌, ◌<◌, ◌≤◌, List, length, ℤ, pos, ◌≤ℤ◌, ◌<ℤ◌, slice_index_or}
use Rattle.geometry.specs.Overlap.{overlap}

-- How far cell i between the landed edges es overlaps the stretch from low to high.
abbrev pub share : List ℤ → ℤ → ℤ → ℕ → ℕ
share es low high i = overlap (slice_index_or es i (pos 0)) (slice_index_or es (i + 1) (pos 0)) low high

-- The edges never fall.
abbrev pub Rising : List ℤ → Type 0
Rising es = (i : ℕ) → i < length es - 1 → slice_index_or es i (pos 0) ≤ℤ slice_index_or es (i + 1) (pos 0)

-- Each of the run of cells first, .., last - 1 begins below the stretch's upper end and ends above its lower one, and outside the run none overlaps the stretch.
pub record Covers (es : List ℤ) (low high : ℤ) (first last : ℕ) : Type 0 where
  pub run : first ≤ last
  pub ends : last ≤ length es - 1
  pub meets : (i : ℕ) → first ≤ i → i < last → (slice_index_or es i (pos 0) <ℤ high) × (low <ℤ slice_index_or es (i + 1) (pos 0))
  pub before : (i : ℕ) → i < first → share es low high i ≡ 0
  pub after : (i : ℕ) → last ≤ i → i < length es - 1 → share es low high i ≡ 0
