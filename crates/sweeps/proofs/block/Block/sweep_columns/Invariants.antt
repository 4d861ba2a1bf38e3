use Rattle.std.proofs.Common.{◌+◌}
use Rattle.sweeps.specs.Passes.{Swept, column_weight}
use Rattle.sweeps.proofs.Levels.{summed}
use Rattle.sweeps.proofs.block.Block.sweep_columns.Given as goal

abbrev pub invariant-loop-offset : goal.invariant-loop-offset
invariant-loop-offset g l =
    let L = g.L.Landed.landing l.self.pass.now.view.now in
    Swept g.V.Value.ops l.self.pass.now (summed (λ d. column_weight L l.slab.number (l.self.first + d) l.layer.first l.layer.count) l.offset) l.initial.to l.to
