use Rattle.std.proofs.Common.{◌≡◌, ℕ, ◌<◌, ◌≤◌, length}
use Rattle.calls.specs.Stores.{at}
use Rattle.sweeps.proofs.alter.alter.Given as goal

-- the places before are changed, the others are as they were
abbrev pub invariant-loop-i : goal.invariant-loop-i
invariant-loop-i g l =
    let o = g.V.Value.ops in
    record {
      changed : (k : ℕ) → k < l.i → goal.F-post g l.change k (at o l.fn.store k) (at o l.store k);
      kept : (k : ℕ) → l.i ≤ k → k < length l.store → at o l.store k ≡ at o l.fn.store k;
    }
