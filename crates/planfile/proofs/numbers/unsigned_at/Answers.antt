use Rattle.std.proofs.Common.{arith}
use Rattle.planfile.specs.Numbers.{count_at}
use Rattle.planfile.proofs.numbers.unsigned_at.Goals as goal

pub returns : goal.returns
unfolding count_at
returns c = omega (arith, c.from_le_bytes.ensures)
