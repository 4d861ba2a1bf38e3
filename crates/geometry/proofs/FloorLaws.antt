-- The law of floor division.
use Rattle.std.proofs.Common.{ℕ, zero, suc, ◌<◌, ℤ, pos, negsuc, ◌+ℤ◌, ◌*ℤ◌, neg_ℤ, nat_abs, ◌≤ℤ◌, ◌<ℤ◌, arith}
use borrow.Author.Differences.{ints}
use Rattle.std.proofs.lemmas.Int.{by_lt_z}
use Rattle.geometry.specs.Floor.{floor_by, floor_div, Floor}
use Rattle.geometry.proofs.Products.{times_less}

-- r * m ≤ n < r * m + m
floor_by_low : (n : ℤ) (m : ℕ) → (floor_by n (suc m) *ℤ pos (suc m)) ≤ℤ n
floor_by_low (pos a) m = omega (arith, ints)
floor_by_low (negsuc a) m = omega (arith, ints)

floor_by_high : (n : ℤ) (m : ℕ) → n <ℤ (floor_by n (suc m) *ℤ pos (suc m) +ℤ pos (suc m))
floor_by_high (pos a) m = omega (arith, ints)
floor_by_high (negsuc a) m = omega (arith, ints)

-- what is at most n / m is at most the floor
below_floor_by : (k n : ℤ) (m : ℕ) → (k *ℤ pos (suc m)) ≤ℤ n → k ≤ℤ floor_by n (suc m)
below_floor_by k n m h =
    let r = floor_by n (suc m) in
    by_lt_z r k
    (λ (l : r <ℤ k). absurd (omega (arith, ints, times_less r k m l, floor_by_high n m)))
    (λ (l : k ≤ℤ r). l)

pub floor_is : (n d : ℤ) → 0 < nat_abs d → Floor n d (floor_div n d)
floor_is n (pos zero) p = absurd (omega arith)
floor_is n (pos (suc m)) p = record { low = floor_by_low n m; greatest = λ k h. below_floor_by k n m h }
floor_is n (negsuc m) p =
    let r = floor_by (neg_ℤ n) (suc m) in
    record {
      low = omega (arith, ints, floor_by_low (neg_ℤ n) m);
      greatest = λ k h. below_floor_by k (neg_ℤ n) m (omega (arith, ints));
    }
