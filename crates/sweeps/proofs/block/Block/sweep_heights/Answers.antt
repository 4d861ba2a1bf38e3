use Rattle.std.proofs.Common.{◌≡◌, ◌+◌, ◌-◌, length, arith}
use Rattle.sweeps.proofs.Whole.{layer_none, layer_swept}
use Rattle.sweeps.proofs.block.Block.sweep_heights.Goals as goal

pub loop-first-init : goal.loop-first-init
loop-first-init g c =
    let b = c.args.self.now in
    (omega arith, layer_none g.met.V.Value.lawful (g.L.Landed.landing b.pass.now.view.now) b.first (length b.columns.now - 1) c.args.slab.number)

pub loop-first-preserved : goal.loop-first-preserved
loop-first-preserved g c =
    let b = c.args.self.now in
    let heights = c.requires.slab.heights.0 in
    let next : c.loop-first.first + c.min.result ≡ c.loop-first.first + 32 = omega arith in (
      omega arith,
      rw next at (layer_swept g.met.V.Value.lawful (g.L.Landed.landing b.pass.now.view.now) b.first (length b.columns.now - 1) c.args.slab.number _ _ c.loop-first.auto.to c.loop-first.invariant.1 c.sweep_columns-near.ensures),
    )

pub returns : goal.returns
returns g c =
    let heights = c.requires.slab.heights.0 in
    let end : c.loop-first.first ≡ (g.L.Landed.landing c.args.self.now.pass.now.view.now).heights = omega arith in
    rw end at c.loop-first.invariant.1

pub returns-2 : goal.returns-2
returns-2 g c =
    let b = c.args.self.now in
    let L = g.L.Landed.landing b.pass.now.view.now in
    let heights = c.requires.slab.heights.0 in
    let end : c.loop-first.first + c.min.result ≡ L.heights = omega arith in
    rw end at
    (layer_swept g.met.V.Value.lawful L b.first (length b.columns.now - 1) c.args.slab.number _ _ c.loop-first.auto.to c.loop-first.invariant.1 c.sweep_columns-near.ensures)
