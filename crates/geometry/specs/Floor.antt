-- Division that rounds down.
use Rattle.std.specs.Prelude.{ℕ, zero, suc, ◌/◌, ℤ, pos, negsuc, ◌*ℤ◌, neg_ℤ, ◌≤ℤ◌}

-- n / m for a divisor m above 0, rounded down.
abbrev pub floor_by : ℤ → ℕ → ℤ
floor_by (pos a) m = pos (a / m)
floor_by (negsuc a) m = negsuc (a / m)

-- ⌊n / d⌋, n / d rounded down: where d is below 0, n and d are both negated first. Division by zero gives 0.
abbrev pub floor_div : ℤ → ℤ → ℤ
floor_div n (pos zero) = pos 0
floor_div n (pos (suc d)) = floor_by n (suc d)
floor_div n (negsuc d) = floor_by (neg_ℤ n) (suc d)

-- k is at most n / d, said without a division: k d <= n where d is above 0, and n <= k d where it is below.
abbrev pub AtMost : ℤ → ℤ → ℤ → Type 0
AtMost k n (pos d) = (k *ℤ pos d) ≤ℤ n
AtMost k n (negsuc d) = n ≤ℤ (k *ℤ negsuc d)

-- r is the greatest whole number that is at most n / d.
pub record Floor (n d r : ℤ) : Type 0 where
  pub low : AtMost r n d
  pub greatest : (k : ℤ) → AtMost k n d → k ≤ℤ r
