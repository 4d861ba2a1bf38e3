use Rattle.scan.specs.Meanings.{plan_of}
use Rattle.sweeps.specs.Systems.{system_of}
use Rattle.shadows.proofs.EveryView.{BackprojectedTo}
use Rattle.shadows.proofs.every_view.backproject.Given as goal

abbrev pub invariant-loop-view : goal.invariant-loop-view
invariant-loop-view g l =
    BackprojectedTo g.V.Value.ops (system_of (plan_of l.plan)) l.factor l.working l.view l.volume
