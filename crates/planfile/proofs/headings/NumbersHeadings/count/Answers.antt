use Rattle.std.proofs.Common.{arith}
use Rattle.planfile.specs.Numbers.{numbers_in}
use Rattle.planfile.proofs.PairFacts.{headings_many}
use Rattle.planfile.proofs.headings.NumbersHeadings.count.Goals as goal

pub returns : goal.returns
returns c = omega (arith, headings_many (numbers_in c.args.self.now.bytes.now))
