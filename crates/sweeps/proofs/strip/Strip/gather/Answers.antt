use Rattle.std.proofs.Common.{◌≡◌, ◌<◌, length, sym, ◌∙◌, ap₂, arith, rules}
use Rattle.std.proofs.lemmas.List.{get_or_read}
use Rattle.sweeps.specs.Strips.{place}
use Rattle.sweeps.proofs.Laid.{gather_none, gather_more, gather_all}
use Rattle.sweeps.proofs.strip.Strip.gather.Goals as goal

pub loop-cell-init : goal.loop-cell-init
loop-cell-init g c = c.ZERO-sum.ensures ∙ g.met.V.Value.zero_named ∙ sym (gather_none g.met.V.Value.lawful c.args.self c.args.from.now)

pub loop-cell-preserved : goal.loop-cell-preserved
loop-cell-preserved g c =
    let o = g.V.Value.ops in
    let s = c.args.self in
    let i = c.loop-cell.cell in
    let within : place s i < length c.args.from.now = c.requires i (omega arith) in
    let item = get_or_read c.args.from.now (place s i) _ within c.index-from-place.is o.zero in
    let added : c.plus-sum.result ≡ o.plus c.loop-cell.sum c.multiple.result = search rules in
    added ∙ gather_more g.met.V.Value.lawful s c.args.from.now i c.loop-cell.sum c.multiple.result within c.loop-cell.invariant (c.multiple.ensures ∙ ap₂ o.multiple item c.share.ensures)

pub returns : goal.returns
returns g c = c.loop-cell.invariant ∙ gather_all g.met.V.Value.lawful c.args.self c.args.from.now c.loop-cell.cell (omega arith)
