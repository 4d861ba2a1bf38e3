use Rattle.std.proofs.Common.{◌≡◌, take}
use Rattle.scan.proofs.draft.headings_of.Given as goal

-- the headings so far
abbrev pub invariant-loop-i : goal.invariant-loop-i
invariant-loop-i g l = l.copied.items ≡ take l.i (g.H.Headings.headings l.headings)
