use Rattle.std.proofs.Common.{mul_comm}
use Rattle.sweeps.specs.Strips.{strip_share}
use Rattle.sweeps.proofs.Gains.{gained_same}
use Rattle.sweeps.proofs.crossing.exchange.Goals as goal

pub carry-requires : goal.carry-requires
carry-requires g c = let p = rw c.in-Forward.is at c.requires in record { source = p.0; target = p.1 }

pub carry-requires-in-Back : goal.carry-requires-in-Back
carry-requires-in-Back g c = let p = rw c.in-Back.is at c.requires in record { source = p.0; target = p.1 }

pub returns-in-Forward : goal.returns-in-Forward
returns-in-Forward g c = record { gained = rw c.in-Forward.is c.carry.ensures }

pub returns-in-Back : goal.returns-in-Back
returns-in-Back g c =
    record {
      gained = rw c.in-Back.is
          (gained_same g.met.V.Value.lawful (λ q p h k. mul_comm (strip_share c.args.cells q) (strip_share c.args.voxels p)) c.carry-in-Back.ensures);
    }
