use Rattle.std.proofs.Common.{◌≡◌, ◌-◌, length, arith}
use Rattle.sweeps.specs.Passes.{slab_weight, block_weight}
use Rattle.sweeps.proofs.Levels.{summed_none, summed_more}
use Rattle.sweeps.proofs.block.Block.sweep.Goals as goal

pub loop-number-init : goal.loop-number-init
loop-number-init g c =
    let b = c.args.self.now in
    summed_none g.met.V.Value.lawful (slab_weight (g.L.Landed.landing b.pass.now.view.now) b.first (length b.columns.now - 1))

pub loop-number-preserved : goal.loop-number-preserved
loop-number-preserved g c =
    let b = c.args.self.now in
    let M = slab_weight (g.L.Landed.landing b.pass.now.view.now) b.first (length b.columns.now - 1) in
    summed_more g.met.V.Value.lawful M _ c.loop-number.auto.to c.loop-number.invariant c.sweep_slab-near.ensures

pub returns : goal.returns
unfolding block_weight
returns g c =
    let slabs = c.slabs-number-end.ensures in
    let end : c.loop-number.number ≡ (g.L.Landed.landing c.args.self.now.pass.now.view.now).slabs = omega arith in
    rw end at c.loop-number.invariant
