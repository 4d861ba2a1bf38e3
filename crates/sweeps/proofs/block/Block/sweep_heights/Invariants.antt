use Rattle.std.proofs.Common.{◌-◌, ◌≤◌, length}
use Rattle.sweeps.specs.Passes.{Swept, layer_weight}
use Rattle.sweeps.proofs.block.Block.sweep_heights.Given as goal

abbrev pub invariant-loop-first : goal.invariant-loop-first
invariant-loop-first g l =
    let L = g.L.Landed.landing l.self.pass.now.view.now in
    (l.first ≤ L.heights)
    × Swept g.V.Value.ops l.self.pass.now (layer_weight L l.self.first (length l.self.columns.now - 1) l.slab.number 0 l.first) l.initial.to l.to
