-- The shadows of a voxel, across the slab axis and in height, and the overlaps that add up to them.
use Rattle.std.specs.Prelude.{◌≡◌, ℕ, ◌+◌, ◌<◌, length}
use Rattle.values.specs.Naturals.{naturals}
use Rattle.values.specs.Sums.{sum}
use Rattle.geometry.specs.Overlap.{overlap}
use Rattle.scan.specs.Landing.{Landing, voxels, slab_of, cross_of, height_of, cross_overlap, height_overlap}
use Rattle.scan.specs.Scans.{Scan}
use Rattle.scan.specs.Views.{landing}

-- The cross shadow of the voxel at place x inside the panel: how far its U stretch overlaps all columns taken as one stretch.
abbrev pub cross_shadow_in_panel : Landing → ℕ → ℕ
cross_shadow_in_panel L x =
    overlap (L.U (slab_of L x) (cross_of L x)) (L.U (slab_of L x) (cross_of L x + 1)) (L.S 0) (L.S L.columns)

-- The height shadow of the voxel at place x inside column k: how far its W stretch overlaps the column's cells taken as one stretch.
abbrev pub height_shadow_in_column : Landing → ℕ → ℕ → ℕ
height_shadow_in_column L x k =
    overlap (L.W (slab_of L x) (height_of L x)) (L.W (slab_of L x) (height_of L x + 1)) (L.T k 0) (L.T k L.rows)

-- The overlaps of a voxel with all columns add up to its cross shadow inside the panel, and those of its height with the cells of a column to its height shadow inside that column.
pub record AddsUp (L : Landing) (x : ℕ) : Type 0 where
  pub across : sum naturals L.columns (λ k. cross_overlap L (slab_of L x) (cross_of L x) k) ≡ cross_shadow_in_panel L x
  pub down : (k : ℕ) → k < L.columns → sum naturals L.rows (λ m. height_overlap L (slab_of L x) (height_of L x) k m) ≡ height_shadow_in_column L x k

-- The overlaps add up to the shadows for every voxel in every view of a scan.
abbrev pub Conserved : Scan → Type 0
Conserved scan = (view x : ℕ) → view < length scan.steps → x < voxels (landing scan view) → AddsUp (landing scan view) x
