use Rattle.std.specs.Prelude.{◌≡◌, ◌<◌, ◌/◌, ◌*◌, ◌+◌, length}
use Rattle.std.proofs.Common.{arith, rules, sym, ap, ◌∙◌, w32, to_z, SFits}
use Rattle.std.proofs.lemmas.Int.{to_z-of_z}
use Rattle.planfile.specs.Numbers.{number_at}
use Rattle.planfile.proofs.NumberFacts.{how_many, number_from}
use Rattle.planfile.proofs.numbers.Numbers.number.Goals as goal

pub overflow_mul-i : goal.overflow_mul-i
overflow_mul-i c =
    let bytes = c.args.self.now.bytes.now in
    let many = how_many bytes 0 (length bytes / 4) in omega arith

pub unsigned_at-requires : goal.unsigned_at-requires
unsigned_at-requires c =
    let bytes = c.args.self.now.bytes.now in
    let many = how_many bytes 0 (length bytes / 4) in omega arith

pub returns-then-i-len : goal.returns-then-i-len
returns-then-i-len c =
    let bytes = c.args.self.now.bytes.now in
    let many = how_many bytes 0 (length bytes / 4) in
    let here : c.args.i < length bytes / 4 = omega arith in
    let fits : SFits w32 c.cast_signed.result = search rules in
    let place : 4 * c.args.i ≡ 0 + 4 * c.args.i = omega arith in
    simp to_z-of_z (c.cast_signed.ensures ∙ ap (to_z w32) c.unsigned_at.ensures ∙ ap (number_at bytes) place ∙ sym (number_from bytes 0 (length bytes / 4) c.args.i here))
