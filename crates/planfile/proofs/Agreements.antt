-- Two checks that find the same.
use Rattle.std.specs.Prelude.{◌≡◌, Option, Some, None}
use Rattle.std.specs.Option.{option_or, option_map}
use Rattle.std.proofs.Common.{refl, ap, arith}
use Rattle.planfile.proofs.Nones.{map_none}

-- two checks find the same, and where they find nothing, P holds
pub record Agree {E : Type 0} (check other : Option E) (P : Type 0) : Type 0 where
  pub same : check ≡ other
  pub known : check ≡ None → P

-- two checks find nothing, and P holds
pub nothing_found : {E P : Type 0} {check other : Option E} → check ≡ None → other ≡ None → P → Agree check other P
nothing_found e f p = record { same = grind arith; known = λ _. p }

-- checks that follow them agree, where they agree if nothing is found before
pub and_then : {E P Q : Type 0} (check other : Option E) {next other_next : Option E} → Agree check other P → (P → Agree next other_next Q) → Agree (option_or check next) (option_or other other_next) Q
and_then None None agree more =
    let after = more (agree.known refl) in
    record { same = after.same; known = after.known }
and_then None (Some found) agree more = absurd (let e = agree.same in cc)
and_then (Some found) other agree more = record { same = let e = agree.same in grind arith; known = λ none. absurd (let e : Some found ≡ None = none in cc) }

-- what is made of them agrees
pub made_of : {A E P : Type 0} (f : A → E) {check other : Option A} → Agree check other P → Agree (option_map f check) (option_map f other) P
made_of f {check} agree = record { same = ap (option_map f) agree.same; known = λ none. agree.known (map_none f check none) }

-- what follows from P may be said in its place
pub giving : {E P Q : Type 0} {check other : Option E} → (P → Q) → Agree check other P → Agree check other Q
giving more agree = record { same = agree.same; known = λ none. more (agree.known none) }

-- that nothing is found may be kept with what holds then
pub noting : {E P : Type 0} {check other : Option E} → Agree check other P → Agree check other (P × (check ≡ None))
noting agree = record { same = agree.same; known = λ none. (agree.known none, none) }
