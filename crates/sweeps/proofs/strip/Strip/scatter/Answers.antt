use Rattle.std.proofs.Common.{◌<◌, length, ap, ◌∙◌, ap₂, arith}
use Rattle.std.proofs.lemmas.List.{get_or_read}
use Rattle.sweeps.specs.Strips.{place}
use Rattle.sweeps.proofs.Laid.{scatter_none, scatter_more, scatter_all}
use Rattle.sweeps.proofs.strip.Strip.scatter.Goals as goal

pub loop-cell-init : goal.loop-cell-init
loop-cell-init g c = scatter_none g.met.V.Value.lawful c.args.self c.args.to.now c.args.value

pub loop-cell-preserved : goal.loop-cell-preserved
loop-cell-preserved g c =
    let o = g.V.Value.ops in
    let s = c.args.self in
    let i = c.loop-cell.cell in
    let inside = c.requires i (omega arith) in
    let within : place s i < length c.loop-cell.to = omega arith in
    let item = get_or_read c.loop-cell.to (place s i) _ within c.index-to-place.is o.zero in
    scatter_more g.met.V.Value.lawful s c.args.to.now c.args.value i c.loop-cell.to c.plus.result
    within c.loop-cell.invariant (c.plus.ensures ∙ ap₂ o.plus item (c.multiple.ensures ∙ ap (o.multiple c.args.value) c.share.ensures))

pub returns : goal.returns
returns g c = scatter_all g.met.V.Value.lawful c.args.self c.args.to.now c.args.value c.loop-cell.cell c.loop-cell.to (omega arith) c.loop-cell.invariant
