use Rattle.std.proofs.Common.{sym, refl}
use Rattle.sweeps.proofs.CallFacts.{sweep_sized, volume_sized, part_sized, forward_leaves}
use Rattle.sweeps.proofs.projection.forward.Goals as goal

pub sweep-requires : goal.sweep-requires
sweep-requires g c =
    let call = c.in_ok-cells.ensures in
    let sized = sweep_sized _ _ _ _ call.0 in
    (volume_sized call.1 sized.0, part_sized call.1 c.args.working.now refl)

pub returns : goal.returns
returns g c =
    let call = c.in_ok-cells.ensures in
    let sized = sweep_sized _ _ _ _ call.0 in
    record {
      answer = sym call.0;
      working = rw call.0 (forward_leaves call.1 g.met.V.Value.lawful c.args.factor c.args.volume.now c.args.working.now sized.0 sized.1 c.sweep.new.to c.sweep.auto.to c.sweep.ensures.gained);
    }
