-- Whether so many numbers are whole.
use Rattle.std.specs.Prelude.{◌≡◌, ℕ, ◌+◌, ◌-◌, ◌*◌, ◌/◌, ◌<◌, ◌≤◌, Bool, List, length, Some, None, nat_lt}
use Rattle.std.proofs.Common.{arith, ap}
use Rattle.std.specs.Option.{option_map}
use Rattle.planfile.specs.FileChecks.{numbers_check}
use Rattle.planfile.specs.declared.fault.Fault.TheVariants.{Incomplete}
use Rattle.planfile.proofs.Searches.{first_is, first_none_is}

-- where the bytes reach to the end of the last number, each is whole
pub all_whole : (bytes : List ℕ) (p n : ℕ) → p + 4 * n ≤ length bytes → numbers_check bytes p n ≡ None
all_whole bytes p n l =
    let test : ℕ → Bool = λ i. nat_lt (length bytes) (p + 4 * i + 4) in
    ap (option_map (λ i. Incomplete (p + 4 * i))) (first_none_is test n (λ i below. grind arith))

-- and else the first that is not comes after those for which there are bytes
pub first_broken : (bytes : List ℕ) (p n whole : ℕ) → p ≤ length bytes → whole ≡ (length bytes - p) / 4 → whole < n → numbers_check bytes p n ≡ Some (Incomplete (p + 4 * whole))
first_broken bytes p n whole l e short =
    let test : ℕ → Bool = λ i. nat_lt (length bytes) (p + 4 * i + 4) in
    ap (option_map (λ i. Incomplete (p + 4 * i))) (first_is test n whole short (grind arith) (λ i below. grind arith))
