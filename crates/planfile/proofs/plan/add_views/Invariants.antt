use Rattle.std.proofs.Common.{◌≡◌, map, take, unsigned_abs}
use Rattle.scan.specs.Meanings.{draft_of}
use Rattle.planfile.specs.Numbers.{numbers_in}
use Rattle.scan.specs.Scans.{with_views}
use Rattle.planfile.proofs.plan.add_views.Given as goal

-- the views of the steps so far are added
abbrev pub invariant-loop-i : goal.invariant-loop-i
invariant-loop-i l = draft_of l.draft ≡ with_views (draft_of l.initial.draft) (map unsigned_abs (take l.i (numbers_in l.steps.bytes.now)))
