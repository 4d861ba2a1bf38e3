use Rattle.std.proofs.Common.{◌≤◌, drop}
use Rattle.scan.specs.Meanings.{plan_of}
use Rattle.calls.specs.Stores.{three}
use Rattle.sweeps.specs.Systems.{system_of}
use Rattle.sweeps.proofs.RowFacts.{Ran}
use Rattle.sweeps.proofs.row.run.Given as goal

abbrev pub invariant-loop-call : goal.invariant-loop-call
invariant-loop-call g l =
    record {
      ran : Ran g.V.Value.ops (system_of (plan_of l.plan)) l.row (three l.fn.volume l.fn.measured l.fn.working) (drop l.call-index l.row) (three l.volume l.measured l.working) l.refused;
      few : l.refused ≤ l.call-index;
    }
