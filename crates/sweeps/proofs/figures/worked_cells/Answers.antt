use Rattle.std.proofs.Common.{refl, rules}
use Rattle.values.specs.Sums.{sum}
use Rattle.geometry.specs.Turn.{sine}
use Rattle.geometry.specs.Directions.{slab_axis, main_of, side_of}
use Rattle.geometry.specs.Landed.{depth, panel_depth, cross_edge, height_edge, column_edge, row_edge}
use Rattle.scan.specs.Landing.{cross_overlap, height_overlap, weight}
use Rattle.scan.specs.Views.{landing}
use Rattle.calls.specs.Calls.{forward, back}
use Rattle.calls.specs.RowLaws.{inner}
use Rattle.calls.specs.Rows.{outcome}
use Rattle.sweeps.proofs.figures.worked_cells.Goals as goal

pub returns : goal.returns
unfolding sum sine slab_axis main_of side_of depth panel_depth cross_edge height_edge column_edge row_edge cross_overlap height_overlap weight landing forward back inner outcome
returns c =
    record { cells = refl; figures = search rules }
