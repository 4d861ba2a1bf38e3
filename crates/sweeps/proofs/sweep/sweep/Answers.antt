use Rattle.std.proofs.Common.{◌≡◌, ◌+◌, arith}
use Rattle.sweeps.proofs.Levels.{summed_none}
use Rattle.sweeps.proofs.Whole.{whole_column, block_swept, whole_swept}
use Rattle.sweeps.proofs.sweep.sweep.Goals as goal

pub loop-first-init : goal.loop-first-init
loop-first-init g c =
    (omega arith, summed_none g.met.V.Value.lawful (whole_column (g.L.Landed.landing c.args.pass.now.view.now)))

pub loop-first-preserved : goal.loop-first-preserved
loop-first-preserved g c =
    let L = g.L.Landed.landing c.args.pass.now.view.now in
    let laws = g.met.V.Value.lawful in
    let columns = c.columns-columns.ensures in
    let next : c.loop-first.first + c.min.result ≡ c.loop-first.first + 32 = omega arith in
    (omega arith, rw next at (block_swept laws L _ _ c.loop-first.auto.to c.loop-first.invariant.1 c.sweep_block.ensures))

pub returns : goal.returns
returns g c =
    let view = c.args.pass.now.view.now in
    whole_swept g.met.V.Value.lawful (g.L.Landed.landing view) (g.met.L.Landed.sound view) c.requires (omega arith) c.loop-first.invariant.1

pub returns-2 : goal.returns-2
returns-2 g c =
    let L = g.L.Landed.landing c.args.pass.now.view.now in
    let laws = g.met.V.Value.lawful in
    let end : c.loop-first.first + c.min.result ≡ L.columns = omega arith in
    whole_swept laws L (g.met.L.Landed.sound c.args.pass.now.view.now) c.requires end (block_swept laws L _ _ c.loop-first.auto.to c.loop-first.invariant.1 c.sweep_block.ensures)
