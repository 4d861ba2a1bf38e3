-- A plan as the calls know it. Here the weights that come of geometry meet the theory of calls and rows, which is over any weights.
use Rattle.std.specs.Prelude.{length}
use Rattle.scan.specs.Axes.{cells_of}
use Rattle.scan.specs.Scans.{Scan, panel_cells_of}
use Rattle.scan.specs.Views.{weight_of}
use Rattle.calls.specs.Systems.{System}

-- A scan as the calls know it: its numbers of views, cells and voxels, and its weights.
abbrev pub system_of : Scan → System
system_of scan =
    record {
      views = length scan.steps;
      cells = panel_cells_of scan;
      nx = cells_of scan.x;
      ny = cells_of scan.y;
      nz = cells_of scan.z;
      weight = weight_of scan;
    }
