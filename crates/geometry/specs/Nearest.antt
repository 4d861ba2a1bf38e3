-- Division to the nearest whole number, halves away from zero.
use Rattle.std.specs.Prelude.{◌≡◌, ◌+◌, ◌*◌, ◌/◌, ◌<◌, ◌≤◌, ℤ, pos, negsuc, ◌-ℤ◌, ◌*ℤ◌, neg_ℤ, unsigned_abs}
use Rattle.geometry.specs.Floor.{floor_div}

-- z, negated where just one of n and d is below 0.
abbrev pub signed_as : ℤ → ℤ → ℤ → ℤ
signed_as (pos n) (pos d) z = z
signed_as (pos n) (negsuc d) z = neg_ℤ z
signed_as (negsuc n) (pos d) z = neg_ℤ z
signed_as (negsuc n) (negsuc d) z = z

-- ⌊n / d⌉, the whole number nearest to n / d, halves away from zero: ⌊(|n| + ⌊|d| / 2⌋) / |d|⌋ with the sign of n / d. Division by zero gives 0, and no plan divides by zero.
abbrev pub nearest : ℤ → ℤ → ℤ
nearest n d = signed_as n d (floor_div (pos (unsigned_abs n + unsigned_abs d / 2)) (pos (unsigned_abs d)))

-- r is the whole number nearest to n / d, said without a division: twice |n - r d| is at most |d|, and where it is exactly |d|, r lies farther from zero than n / d.
pub record Nearest (n d r : ℤ) : Type 0 where
  pub near : 2 * unsigned_abs (n -ℤ r *ℤ d) ≤ unsigned_abs d
  pub away : 2 * unsigned_abs (n -ℤ r *ℤ d) ≡ unsigned_abs d → unsigned_abs n < unsigned_abs (r *ℤ d)

-- Rounding gives the nearest whole number for all n and all d but 0, whatever the signs.
abbrev pub RoundsToNearest : Type 0
RoundsToNearest = (n d : ℤ) → 0 < unsigned_abs d → Nearest n d (nearest n d)

-- Rounding is odd: -n / d gives the negative of what n / d gives.
abbrev pub RoundsOddly : Type 0
RoundsOddly = (n d : ℤ) → nearest (neg_ℤ n) d ≡ neg_ℤ (nearest n d)
