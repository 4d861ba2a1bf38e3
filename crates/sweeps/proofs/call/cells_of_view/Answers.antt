use Rattle.std.proofs.Common.{◌≡◌, ◌<◌, length, None, arith}
use Rattle.scan.specs.Meanings.{plan_of}
use Rattle.scan.specs.Scans.{panel_cells_of}
use Rattle.sweeps.specs.Checks.{view_number_check}
use Rattle.sweeps.specs.Systems.{system_of}
use Rattle.std.proofs.lemmas.Nat.{row_fits}
use Rattle.sweeps.proofs.call.cells_of_view.Goals as goal

pub returns : goal.returns
returns c =
    let scan = plan_of c.args.plan.now in
    let none : view_number_check (system_of scan) c.args.view ≡ None = grind arith in
    let known : c.args.view < length scan.steps = grind arith in
    let count : c.cells-count.result ≡ panel_cells_of scan = c.cells-count.ensures.value in (
      none,
      record {
        known = known;
        within = rw count (row_fits c.args.view (panel_cells_of scan) (length scan.steps) (panel_cells_of scan) known (omega arith));
        start_is = rw count;
        cells_are = count;
        lands = grind arith;
      },
    )
