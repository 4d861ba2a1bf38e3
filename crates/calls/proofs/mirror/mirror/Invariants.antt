use Rattle.std.proofs.Common.{◌≡◌, ◌++◌, map, take, drop}
use Rattle.calls.specs.Rows.{mirrored_call}
use Rattle.calls.proofs.mirror.mirror.Given as goal

-- the calls so far are mirrored, and the others are as they were
abbrev pub invariant-loop-call : goal.invariant-loop-call
invariant-loop-call g l = l.row ≡ map mirrored_call (take l.call-index l.initial.row) ++ drop l.call-index l.initial.row
