use Rattle.std.proofs.Common.{◌≡◌, take}
use Rattle.scan.proofs.listed.edges_of.Given as goal

-- the edges so far
abbrev pub invariant-loop-i : goal.invariant-loop-i
invariant-loop-i g l = l.edges.items ≡ take l.i (g.A.Axis.edges l.axis)
