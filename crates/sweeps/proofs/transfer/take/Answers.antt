use Rattle.std.proofs.Common.{refl}
use Rattle.sweeps.proofs.CallFacts.{transfer_sized, transfer_leaves}
use Rattle.sweeps.proofs.transfer.take.Goals as goal

pub returns-clause-working : goal.returns-clause-working
returns-clause-working g c =
    let call = c.in_ok-cells.ensures in
    let sized = transfer_sized _ _ _ _ call.0 in
    rw call.0 (transfer_leaves call.1.1 g.V.Value.ops c.args.factor c.args.working.now refl sized.1 c.args.measured.now c.gain.new.to c.gain.auto.to c.gain.ensures)
