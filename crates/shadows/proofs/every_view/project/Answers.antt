use Rattle.std.proofs.Common.{arith}
use Rattle.shadows.proofs.EveryView.{projecting, forward_done, projecting_more, projecting_end}
use Rattle.shadows.proofs.every_view.project.Goals as goal

pub loop-view-init : goal.loop-view-init
loop-view-init g c = projecting c.requires.working

pub unwrap-requires : goal.unwrap-requires
unwrap-requires g c = forward_done c.loop-view.invariant (omega arith) c.requires.volume c.forward.result c.forward.ensures.answer

pub loop-view-preserved : goal.loop-view-preserved
loop-view-preserved g c =
    projecting_more c.loop-view.invariant (omega arith) c.requires.volume g.met.V.Value.lawful c.forward.ensures.working

pub returns : goal.returns
returns g c = projecting_end c.loop-view.invariant (omega arith) (omega arith)
