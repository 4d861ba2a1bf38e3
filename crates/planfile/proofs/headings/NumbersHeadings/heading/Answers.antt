use Rattle.std.specs.Prelude.{◌<◌, ◌/◌, length}
use Rattle.std.proofs.Common.{arith, sym, ap₂, ◌∙◌, rules, w32, SFits}
use Rattle.std.proofs.lemmas.Int.{to_z-of_z}
use Rattle.std.proofs.lemmas.List.{get_or_past}
use Rattle.planfile.specs.Numbers.{numbers_in}
use Rattle.planfile.specs.Pairs.{headings_in}
use Rattle.planfile.proofs.PairFacts.{headings_many, heading_is}
use Rattle.planfile.proofs.headings.NumbersHeadings.heading.Goals as goal

pub returns-then-i-len : goal.returns-then-i-len
returns-then-i-len c =
    let zs = numbers_in c.args.self.now.bytes.now in
    let here : c.args.i < length zs / 2 = omega arith in
    let first : SFits w32 c.number.result = search rules in
    let second : SFits w32 c.number-then-i-len.result = search rules in
    simp to_z-of_z (ap₂ (λ x y. record { c = x; s = y }) c.number.ensures c.number-then-i-len.ensures ∙ sym (heading_is zs c.args.i here))

pub returns-else-i-len : goal.returns-else-i-len
returns-else-i-len c =
    let zs = numbers_in c.args.self.now.bytes.now in
    sym (get_or_past (headings_in zs) c.args.i _ (omega (arith, headings_many zs)))
