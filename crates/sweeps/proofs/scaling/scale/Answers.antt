use Rattle.std.proofs.Common.{refl}
use Rattle.sweeps.proofs.CallFacts.{scale_sized, scale_leaves}
use Rattle.sweeps.proofs.scaling.scale.Goals as goal

pub returns-clause-working : goal.returns-clause-working
returns-clause-working g c =
    let call = c.in_ok-cells.ensures in
    rw call.0 (scale_leaves call.1 g.V.Value.ops c.args.factor c.args.working.now refl (scale_sized _ _ _ call.0) c.alter.new.store c.alter.auto.store c.alter.ensures)
