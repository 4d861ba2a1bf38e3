use Rattle.std.proofs.Common.{◌≤◌}
use Rattle.sweeps.specs.Passes.{Swept}
use Rattle.sweeps.proofs.Levels.{summed}
use Rattle.sweeps.proofs.Whole.{whole_column}
use Rattle.sweeps.proofs.sweep.sweep.Given as goal

abbrev pub invariant-loop-first : goal.invariant-loop-first
invariant-loop-first g l =
    let L = g.L.Landed.landing l.pass.view.now in
    (l.first ≤ L.columns)
    × Swept g.V.Value.ops l.pass (summed (whole_column L) l.first) l.initial.to l.to
