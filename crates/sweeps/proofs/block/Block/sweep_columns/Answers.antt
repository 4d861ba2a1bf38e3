use Rattle.std.proofs.Common.{◌≡◌, ℕ, ◌+◌, ◌-◌, length, arith}
use Rattle.sweeps.specs.Passes.{column_weight, layer_weight}
use Rattle.sweeps.proofs.Levels.{summed_none, summed_more}
use Rattle.sweeps.proofs.block.Block.sweep_columns.Goals as goal

pub loop-offset-init : goal.loop-offset-init
loop-offset-init g c =
    let b = c.args.self.now in
    summed_none g.met.V.Value.lawful (λ d. column_weight (g.L.Landed.landing b.pass.now.view.now) c.args.slab.number (b.first + d) c.args.layer.first c.args.layer.count)

pub loop-offset-preserved : goal.loop-offset-preserved
loop-offset-preserved g c =
    let b = c.args.self.now in
    let M : ℕ → ℕ → ℕ → ℕ = λ d. column_weight (g.L.Landed.landing b.pass.now.view.now) c.args.slab.number (b.first + d) c.args.layer.first c.args.layer.count in
    summed_more g.met.V.Value.lawful M _ c.loop-offset.auto.to c.loop-offset.invariant (rw c.column.ensures.number at c.sweep_column-near.ensures)

pub returns : goal.returns
unfolding layer_weight
returns g c =
    let end : c.loop-offset.offset ≡ length c.args.self.now.columns.now - 1 = omega arith in
    rw end at c.loop-offset.invariant
