use Rattle.std.proofs.Common.{ap, ◌∙◌}
use Rattle.calls.specs.Stores.{at}
use Rattle.sweeps.specs.Strips.{strip_share}
use Rattle.sweeps.proofs.Gains.{multiple_total}
use Rattle.sweeps.proofs.carry.carry.Goals as goal

pub returns : goal.returns
returns g c =
    let o = g.V.Value.ops in
    let a = c.args in
    record {
      gain = λ p l.
          c.scatter.ensures p l
          ∙ ap (o.plus (at o a.to.now p))
          (ap (λ v. o.multiple v (strip_share a.target p)) (c.times.ensures ∙ ap (o.times a.factor) c.gather.ensures)
          ∙ multiple_total g.met.V.Value.lawful a.factor a.from.now (strip_share a.source) (strip_share a.target p));
    }
