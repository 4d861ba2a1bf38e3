-- The shadow of a file, which is what the panel sees of its voxels, and when a file is refused.
use Rattle.std.specs.Option.{option_or, option_map}
use Rattle.std.specs.Prelude.{◌≡◌, ℕ, ◌||◌, List, [], length, pos, nat_lt, true, Option}
use Rattle.values.specs.Counts.{count_ops}
use Rattle.values.specs.Reaches.{reach_ops, reached}
use Rattle.scan.specs.Axes.{cells_of}
use Rattle.scan.specs.Scans.{Scan, voxels_of, places_of}
use Rattle.scan.specs.Verdicts.{refused_where}
use Rattle.calls.specs.Stores.{built}
use Rattle.calls.specs.Systems.{places}
use Rattle.planfile.specs.Sections.{start}
use Rattle.planfile.specs.FileChecks.{plan_check, voxels_check}
use Rattle.planfile.specs.Plans.{scan_in}
use Rattle.values.specs.Counts.{count_of}
use Rattle.values.specs.declared.count.Count.{Count}
use Rattle.sweeps.specs.Systems.{system_of}
use Rattle.sweeps.specs.Tally.{tallied}
use Rattle.shadows.specs.EveryView.{projected, backprojected}
use Rattle.shadows.specs.declared.refusal.Refusal.{Refusal}
use Rattle.shadows.specs.declared.refusal.Refusal.TheVariants.{File, TooLarge}
use Rattle.shadows.specs.declared.shadow.Shadow.{Shadow}

-- 10 for a plan of more than 4,096 voxels, or of more than 4,096 cells over all its views, at the place p at which the section of the voxels begins.
abbrev pub size_check : Scan → ℕ → Option Refusal
size_check scan p = refused_where (nat_lt 4096 (voxels_of scan) || nat_lt 4096 (places_of scan)) (TooLarge (voxels_of scan) (places_of scan) p)

-- A file: the plan is checked, then 10, and then the section of the voxels, which follows the plan's eight.
unfoldable pub shadow_check : List ℕ → Option Refusal
shadow_check bytes =
    option_or (option_map File (plan_check bytes))
    (option_or (size_check (scan_in bytes) (start bytes 8)) (option_map File (voxels_check bytes (start bytes 8) (voxels_of (scan_in bytes)))))

-- The cells of a scan's shadow: its voxels projected forward in every view, as Count with factor 1.
abbrev pub cells_seen : Scan → List Count → List Count
cells_seen scan volume = projected count_ops (system_of scan) (count_of (pos 1)) volume

-- How many voxels of a scan are hit: those that are yes after back from every view onto voxels all no, as Reach, with the factor and all cells yes.
abbrev pub voxels_hit : Scan → ℕ
voxels_hit scan = tallied (backprojected reach_ops (system_of scan) (reached true) (built (places (system_of scan)) (λ _. reached true)))

-- The shadow of a scan whose voxels have these values: its numbers of views, rows and columns, the voxels, the cells of all views, and how many voxels are hit.
pub record ShadowOf (scan : Scan) (values : List Count) (shadow : Shadow) : Type 0 where
  pub views : shadow.views ≡ length scan.steps
  pub rows : shadow.rows ≡ cells_of scan.row
  pub columns : shadow.columns ≡ cells_of scan.column
  pub volume : shadow.volume.items ≡ values
  pub cells : shadow.cells.items ≡ cells_seen scan values
  pub hit : shadow.hit ≡ voxels_hit scan

-- A blank shadow, before a file is read: of no voxel, in no view, on a panel of one cell.
pub record Blank (shadow : Shadow) : Type 0 where
  pub views : shadow.views ≡ 0
  pub rows : shadow.rows ≡ 1
  pub columns : shadow.columns ≡ 1
  pub volume : shadow.volume.items ≡ []
  pub cells : shadow.cells.items ≡ []
  pub hit : shadow.hit ≡ 0
