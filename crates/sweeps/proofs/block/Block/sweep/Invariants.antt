use Rattle.std.proofs.Common.{◌-◌, length}
use Rattle.sweeps.specs.Passes.{Swept, slab_weight}
use Rattle.sweeps.proofs.Levels.{summed}
use Rattle.sweeps.proofs.block.Block.sweep.Given as goal

abbrev pub invariant-loop-number : goal.invariant-loop-number
invariant-loop-number g l =
    let L = g.L.Landed.landing l.self.pass.now.view.now in
    Swept g.V.Value.ops l.self.pass.now (summed (slab_weight L l.self.first (length l.self.columns.now - 1)) l.number) l.initial.to l.to
