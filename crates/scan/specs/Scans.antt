-- A scan, which is what a draft and a plan hold, and its numbers of cells.
use Rattle.std.specs.Prelude.{ℕ, ◌*◌, List, [], ◌∷◌, ◌++◌, length, ℤ}
use Rattle.geometry.specs.declared.heading.Heading.{Heading}
use Rattle.scan.specs.Axes.{cells_of}
use Rattle.scan.specs.declared.scan_axis.ScanAxis.{ScanAxis}
use Rattle.scan.specs.declared.scan_axis.ScanAxis.TheVariants.{X, Y, Z, Column, Row}

-- A scan: the distances D and F from the source to the rotation axis and to the panel, the edges of the volume along x, y and z and of the panel's columns and rows, the list of directions, which is empty where the turn table serves, and the step of each view.
pub record Scan : Type 0 where
  pub source : ℤ
  pub panel : ℤ
  pub x : List ℤ
  pub y : List ℤ
  pub z : List ℤ
  pub column : List ℤ
  pub row : List ℤ
  pub directions : List Heading
  pub steps : List ℕ

-- A scan that has the directions of the turn table, and no views yet.
abbrev pub without_views : ℤ → ℤ → List ℤ → List ℤ → List ℤ → List ℤ → List ℤ → Scan
without_views source panel x y z column row =
    record { source = source; panel = panel; x = x; y = y; z = z; column = column; row = row; directions = []; steps = [] }

-- A scan with a list of directions in place of its own.
abbrev pub with_directions : Scan → List Heading → Scan
with_directions scan directions = record scan { directions = directions }

-- A scan with more views at its end, of these steps.
abbrev pub with_views : Scan → List ℕ → Scan
with_views scan steps = record scan { steps = scan.steps ++ steps }

-- A scan with one more view at its end, of this step.
abbrev pub with_view : Scan → ℕ → Scan
with_view scan step = with_views scan (step ∷ [])

-- The edges of one of the five axes of a scan.
abbrev pub edges_along : Scan → ScanAxis → List ℤ
edges_along scan X = scan.x
edges_along scan Y = scan.y
edges_along scan Z = scan.z
edges_along scan Column = scan.column
edges_along scan Row = scan.row

-- The number of voxels.
abbrev pub voxels_of : Scan → ℕ
voxels_of scan = cells_of scan.z * cells_of scan.y * cells_of scan.x

-- The number of cells of the panel, in one view.
abbrev pub panel_cells_of : Scan → ℕ
panel_cells_of scan = cells_of scan.row * cells_of scan.column

-- The number of cells of all views.
abbrev pub places_of : Scan → ℕ
places_of scan = length scan.steps * panel_cells_of scan
