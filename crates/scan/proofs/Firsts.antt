-- The first number at which a test holds.
use Rattle.std.specs.Prelude.{◌≡◌, ℕ, zero, suc, ◌+◌, ◌<◌, ◌≤◌, Bool, false, None}
use Rattle.std.specs.List.{find, range_with_len}
use Rattle.std.proofs.Common.{arith}
use Rattle.scan.specs.Verdicts.{first_where}

-- where none is found, the test fails at every number
found_none : (test : ℕ → Bool) (a n : ℕ) → find test (range_with_len a n) ≡ None → (k : ℕ) → a ≤ k → k < a + n → test k ≡ false
found_none test a zero e k at l = absurd (omega arith)
found_none test a (suc n) e k at l = grind (arith, found_none test (a + 1) n)

pub first_none : (test : ℕ → Bool) (n : ℕ) → first_where test n ≡ None → (k : ℕ) → k < n → test k ≡ false
first_none test n e k l = found_none test 0 n e k (omega arith) (omega arith)
