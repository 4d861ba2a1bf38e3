use Rattle.std.proofs.Common.{refl}
use Rattle.values.specs.CountLaws.{same}
use Rattle.values.specs.PairLaws.{both}
use Rattle.values.proofs.pair.PairValue.ZERO.Goals as goal

pub returns : goal.returns
returns c = both (same refl) (same refl)
