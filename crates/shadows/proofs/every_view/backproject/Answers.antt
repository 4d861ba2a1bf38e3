use Rattle.std.proofs.Common.{arith}
use Rattle.shadows.proofs.EveryView.{backprojecting, back_done, backprojecting_more, backprojecting_end}
use Rattle.shadows.proofs.every_view.backproject.Goals as goal

pub loop-view-init : goal.loop-view-init
loop-view-init g c = backprojecting c.requires.volume

pub unwrap-requires : goal.unwrap-requires
unwrap-requires g c = back_done c.loop-view.invariant (omega arith) c.requires.working c.back.result c.back.ensures.answer

pub loop-view-preserved : goal.loop-view-preserved
loop-view-preserved g c =
    backprojecting_more c.loop-view.invariant (omega arith) c.requires.working g.met.V.Value.lawful c.back.ensures.volume

pub returns : goal.returns
returns g c = backprojecting_end c.loop-view.invariant (omega arith) (omega arith)
