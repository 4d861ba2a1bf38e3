use Rattle.std.proofs.Common.{◌*◌, ◌∙◌, sym, refl}
use Rattle.scan.specs.Meanings.{plan_of}
use Rattle.sweeps.specs.Systems.{system_of}
use Rattle.sweeps.proofs.Lines.{line_trimmed}
use Rattle.sweeps.proofs.trimming.trim_lines.Goals as goal

pub loop-line-preserved : goal.loop-line-preserved
loop-line-preserved g c =
    let x = c.cells_along-nx in
    let y = c.cells_along-ny in
    let z = c.cells_along in
    line_trimmed g.V.Value.ops (system_of (plan_of c.args.plan.now)) c.args.within x.result y.result c.loop-line.line (z.result * y.result) c.args.volume.now c.loop-line.volume c.trim_line.new.line x.ensures.value y.ensures.value c.loop-line.auto.volume
    (c.loop-line.auto.volume ∙ c.requires ∙ sym (rw (x.ensures.value, y.ensures.value, z.ensures.value) refl))
    c.loop-line-test.true c.trim_line.auto.line c.loop-line.invariant c.trim_line.ensures
