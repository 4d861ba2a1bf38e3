-- The limits that every draft and every plan keeps.
use Rattle.std.specs.Prelude.{ℕ, ◌*◌, ◌^◌, ◌<◌, ◌≤◌, List, length, ℤ, pos, ◌≤ℤ◌, slice_index_or, unsigned_abs}
use Rattle.scan.specs.Axes.{Proper, widest}
use Rattle.scan.specs.Scans.{Scan}
use Rattle.scan.specs.ViewDirections.{AllAccepted, StepsKnown}

-- The source is clear of the volume: twice the widest |edge| of x and y stays below D.
abbrev pub SourceClear : ℤ → List ℤ → List ℤ → Type 0
SourceClear source x y = 2 * widest x y < unsigned_abs source

-- F is above |edge| for every edge of the columns.
abbrev pub ColumnsNearer : ℤ → List ℤ → Type 0
ColumnsNearer panel column = (i : ℕ) → i < length column → unsigned_abs (slice_index_or column i (pos 0)) < unsigned_abs panel

-- The limits: 1 <= D <= 2^24, D <= F <= 2^25, five proper axes, a source clear of the volume, column edges nearer to 0 than F, at most 1,024 directions, each accepted, steps of which each is one of the directions, and at most 1,024 views.
pub record Fitted (scan : Scan) : Type 0 where
  pub source_least : pos 1 ≤ℤ scan.source
  pub source_most : scan.source ≤ℤ pos (2 ^ 24)
  pub panel_least : scan.source ≤ℤ scan.panel
  pub panel_most : scan.panel ≤ℤ pos (2 ^ 25)
  pub x : Proper scan.x
  pub y : Proper scan.y
  pub z : Proper scan.z
  pub column : Proper scan.column
  pub row : Proper scan.row
  pub clear : SourceClear scan.source scan.x scan.y
  pub nearer : ColumnsNearer scan.panel scan.column
  pub accepted : AllAccepted scan.directions
  pub steps : StepsKnown scan.directions scan.steps
  pub views : length scan.steps ≤ 1024
