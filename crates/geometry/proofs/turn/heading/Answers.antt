use Rattle.std.proofs.Common.{rules}
use Rattle.geometry.proofs.Table.{round_at_each}
use Rattle.geometry.proofs.turn.heading.Goals as goal

pub returns-clause-round : goal.returns-clause-round
returns-clause-round c = round_at_each c.args.step.number _ _ (search rules) (search rules)
