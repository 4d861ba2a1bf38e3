use Rattle.std.proofs.Common.{◌≡◌, ℕ, ◌+◌, arith}
use Rattle.sweeps.specs.Passes.{height_weight, column_weight}
use Rattle.sweeps.proofs.Levels.{summed_none, summed_more}
use Rattle.sweeps.proofs.crossing.Crossing.sweep.Goals as goal

pub loop-offset-init : goal.loop-offset-init
loop-offset-init g c =
    let x = c.args.self.now in
    summed_none g.met.V.Value.lawful (λ t. height_weight (g.L.Landed.landing x.pass.now.view.now) x.slab.number x.column.number (c.args.layer.first + t))

pub loop-offset-preserved : goal.loop-offset-preserved
loop-offset-preserved g c =
    let x = c.args.self.now in
    let M : ℕ → ℕ → ℕ → ℕ = λ t. height_weight (g.L.Landed.landing x.pass.now.view.now) x.slab.number x.column.number (c.args.layer.first + t) in
    summed_more g.met.V.Value.lawful M _ c.loop-offset.auto.to c.loop-offset.invariant c.sweep_height-near.ensures

pub returns : goal.returns
unfolding column_weight
returns g c =
    let end : c.loop-offset.offset ≡ c.args.layer.count = omega arith in
    rw end at c.loop-offset.invariant
