use Rattle.sweeps.proofs.CallFacts.{transfer_sized, transfer_leaves}
use Rattle.sweeps.proofs.transfer.give.Goals as goal

pub returns-clause-measured : goal.returns-clause-measured
returns-clause-measured g c =
    let call = c.in_ok-cells.ensures in
    let sized = transfer_sized _ _ _ _ call.0 in
    rw call.0 (transfer_leaves call.1.1 g.V.Value.ops c.args.factor c.args.measured.now call.1.0 sized.1 c.args.working.now c.gain.new.to c.gain.auto.to c.gain.ensures)
