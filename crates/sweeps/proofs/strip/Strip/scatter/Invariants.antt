use Rattle.sweeps.proofs.Laid.{Scattered}
use Rattle.sweeps.proofs.strip.Strip.scatter.Given as goal

abbrev pub invariant-loop-cell : goal.invariant-loop-cell
invariant-loop-cell g l = Scattered g.met.V.Value.lawful l.self l.initial.to l.value l.cell l.to
