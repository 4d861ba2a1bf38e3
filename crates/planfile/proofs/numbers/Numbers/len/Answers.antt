use Rattle.std.specs.Prelude.{◌/◌, length}
use Rattle.std.proofs.Common.{sym}
use Rattle.planfile.proofs.NumberFacts.{how_many}
use Rattle.planfile.proofs.numbers.Numbers.len.Goals as goal

pub returns : goal.returns
returns c = let bytes = c.args.self.now.bytes.now in sym (how_many bytes 0 (length bytes / 4))
