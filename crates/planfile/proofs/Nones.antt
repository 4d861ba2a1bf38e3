-- Checks that find nothing.
use Rattle.std.specs.Option.{option_or, option_map}
use Rattle.std.specs.Prelude.{◌≡◌, ℕ, ◌≤◌, Bool, false, Option, None}
use Rattle.std.proofs.Common.{arith, ap}
use Rattle.std.proofs.lemmas.Bool.Decides.{nat_tests}
use Rattle.scan.specs.AxisChecks.{count_check}
use Rattle.scan.specs.Verdicts.{refused_where}

-- where each of two checks finds nothing, both together find nothing
pub none_or : {E : Type 0} {a b : Option E} → a ≡ None → b ≡ None → option_or a b ≡ None
none_or e f = grind arith

-- where two checks find nothing, the first finds nothing
pub first_nothing : {E : Type 0} (a b : Option E) → option_or a b ≡ None → a ≡ None
first_nothing a b e = grind arith

-- where two checks find nothing, the second finds nothing
pub second_nothing : {E : Type 0} (a b : Option E) → option_or a b ≡ None → b ≡ None
second_nothing a b e = grind arith

-- what is made of nothing is nothing
pub none_map : {A E : Type 0} (f : A → E) {a : Option A} → a ≡ None → option_map f a ≡ None
none_map f e = ap (option_map f) e

-- where what is made of it is nothing, it is nothing
pub map_none : {A E : Type 0} (f : A → E) (a : Option A) → option_map f a ≡ None → a ≡ None
map_none f a e = grind arith

-- where the condition fails, nothing is refused
pub none_where : {E : Type 0} {holds : Bool} (refusal : E) → holds ≡ false → refused_where holds refusal ≡ None
none_where refusal e = grind arith

-- where nothing is refused, the condition fails
pub where_none : {E : Type 0} (holds : Bool) (refusal : E) → refused_where holds refusal ≡ None → holds ≡ false
where_none holds refusal e = grind arith

-- a count within its limits is not refused
pub count_fits : (found least most : ℕ) → least ≤ found → found ≤ most → count_check found least most ≡ None
count_fits found least most l m = grind (arith, nat_tests)
