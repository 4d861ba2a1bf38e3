use Rattle.std.proofs.Common.{◌*◌}
use Rattle.scan.specs.Meanings.{plan_of}
use Rattle.sweeps.specs.Systems.{system_of}
use Rattle.sweeps.proofs.Lines.{DoneBelow, trimmed}
use Rattle.sweeps.proofs.trimming.trim_lines.Given as goal

abbrev pub invariant-loop-line : goal.invariant-loop-line
invariant-loop-line g l =
    let o = g.V.Value.ops in
    DoneBelow o (l.line * l.nx) (trimmed o (system_of (plan_of l.plan)) l.within l.fn.volume) l.fn.volume l.volume
