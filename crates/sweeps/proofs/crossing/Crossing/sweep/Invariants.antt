use Rattle.std.proofs.Common.{◌+◌}
use Rattle.sweeps.specs.Passes.{Swept, height_weight}
use Rattle.sweeps.proofs.Levels.{summed}
use Rattle.sweeps.proofs.crossing.Crossing.sweep.Given as goal

abbrev pub invariant-loop-offset : goal.invariant-loop-offset
invariant-loop-offset g l =
    let L = g.L.Landed.landing l.self.pass.now.view.now in
    Swept g.V.Value.ops l.self.pass.now (summed (λ t. height_weight L l.self.slab.number l.self.column.number (l.layer.first + t)) l.offset) l.initial.to l.to
