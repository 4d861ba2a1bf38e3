-- The first number at which a test holds, below a bound.
use Rattle.std.specs.Prelude.{◌≡◌, ℕ, zero, suc, ◌+◌, ◌<◌, ◌≤◌, Bool, true, false, Some, None}
use Rattle.std.specs.List.{find, range_with_len}
use Rattle.std.proofs.Common.{arith}
use Rattle.scan.specs.Verdicts.{first_where}

-- the first of n numbers from a on at which the test holds
found_at : (test : ℕ → Bool) (a n k : ℕ) → a ≤ k → k < a + n → test k ≡ true → ((i : ℕ) → a ≤ i → i < k → test i ≡ false) → find test (range_with_len a n) ≡ Some k
found_at test a zero k at l holds before = absurd (omega arith)
found_at test a (suc n) k at l holds before = grind (arith, found_at test (a + 1) n k, before a)

-- where the test fails at every number, none is found
found_none : (test : ℕ → Bool) (a n : ℕ) → ((i : ℕ) → a ≤ i → i < a + n → test i ≡ false) → find test (range_with_len a n) ≡ None
found_none test a zero fails = grind arith
found_none test a (suc n) fails = grind (arith, found_none test (a + 1) n, fails a)

-- what is found is one of the numbers
found_below : (test : ℕ → Bool) (a n k : ℕ) → find test (range_with_len a n) ≡ Some k → k < a + n
found_below test a zero k e = absurd (grind arith)
found_below test a (suc n) k e = grind (arith, found_below test (a + 1) n k)

-- where the test holds at k and at no number before it, k is found
pub first_is : (test : ℕ → Bool) (n k : ℕ) → k < n → test k ≡ true → ((i : ℕ) → i < k → test i ≡ false) → first_where test n ≡ Some k
first_is test n k l holds before = found_at test 0 n k (omega arith) (omega arith) holds (λ i _ below. before i below)

-- where the test fails at every number, nothing is found
pub first_none_is : (test : ℕ → Bool) (n : ℕ) → ((i : ℕ) → i < n → test i ≡ false) → first_where test n ≡ None
first_none_is test n fails = found_none test 0 n (λ i _ below. fails i (omega arith))

-- what is found lies below the bound
pub first_below : (test : ℕ → Bool) (n k : ℕ) → first_where test n ≡ Some k → k < n
first_below test n k e = let below = found_below test 0 n k e in omega arith
