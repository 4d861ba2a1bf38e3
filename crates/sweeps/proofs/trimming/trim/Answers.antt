use Rattle.scan.specs.Meanings.{plan_of}
use Rattle.sweeps.specs.Systems.{system_of}
use Rattle.sweeps.proofs.CallFacts.{trim_sized}
use Rattle.sweeps.proofs.Lines.{trim_is}
use Rattle.sweeps.proofs.trimming.trim.Goals as goal

pub trim_lines-requires : goal.trim_lines-requires
trim_lines-requires g c = trim_sized _ _ _ c.in_ok-checked_trim.ensures.0

pub returns-clause-volume : goal.returns-clause-volume
returns-clause-volume g c =
    let none = c.in_ok-checked_trim.ensures.0 in
    rw none (trim_is g.V.Value.ops (system_of (plan_of c.args.plan.now)) c.args.within c.args.volume.now c.trim_lines.new.volume (trim_sized _ _ _ none) c.trim_lines.auto.volume c.trim_lines.ensures)
