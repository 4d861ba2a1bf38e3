use Rattle.std.proofs.Common.{◌≡◌}
use Rattle.sweeps.specs.Strips.{first_share, total}
use Rattle.sweeps.proofs.strip.Strip.gather.Given as goal

abbrev pub invariant-loop-cell : goal.invariant-loop-cell
invariant-loop-cell g l = l.sum ≡ total g.V.Value.ops l.from (first_share l.self l.cell)
