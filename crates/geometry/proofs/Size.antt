-- The size and the side of sums and products of signed numbers.
use Rattle.std.proofs.Common.{◌≡◌, ℕ, zero, suc, ◌+◌, ◌*◌, ◌^◌, ◌<◌, ◌≤◌, ℤ, pos, negsuc, ◌+ℤ◌, ◌-ℤ◌, ◌*ℤ◌, nat_abs, ◌<ℤ◌, ap, ◌∙◌, mul-le-mul, arith, w64, SFits}
use Rattle.std.proofs.lemmas.Int.{unsigned_abs-mul}
use borrow.Author.Differences.{ints}

-- of the size of a sum and of a difference
pub abs_plus : (x y : ℤ) → nat_abs (x +ℤ y) ≤ nat_abs x + nat_abs y
abs_plus x y = omega (arith, ints)

pub abs_minus : (x y : ℤ) → nat_abs (x -ℤ y) ≤ nat_abs x + nat_abs y
abs_minus x y = omega (arith, ints)

-- bounds: the shape that a caller uses
pub times_within : (x y : ℤ) (A B : ℕ) → nat_abs x ≤ A → nat_abs y ≤ B → nat_abs (x *ℤ y) ≤ A * B
times_within x y A B h k = omega (arith, unsigned_abs-mul x y, mul-le-mul h k)

pub plus_within : (x y : ℤ) (A B : ℕ) → nat_abs x ≤ A → nat_abs y ≤ B → nat_abs (x +ℤ y) ≤ A + B
plus_within x y A B h k = omega (arith, abs_plus x y)

pub minus_within : (x y : ℤ) (A B : ℕ) → nat_abs x ≤ A → nat_abs y ≤ B → nat_abs (x -ℤ y) ≤ A + B
minus_within x y A B h k = omega (arith, abs_minus x y)

pub within_fits : (x : ℤ) (A : ℕ) → A < 2 ^ 63 → nat_abs x ≤ A → SFits w64 x
within_fits x A l h = omega (arith, ints)

-- x lies on the side of zero on which a does
abbrev pub SameSide : ℤ → ℤ → Type 0
SameSide a x = (pos 0 <ℤ a → pos 0 <ℤ x) × (a <ℤ pos 0 → x <ℤ pos 0)

-- a lesser number taken away does not change the side
pub lead_side : (x y : ℤ) → nat_abs y < nat_abs x → SameSide x (x -ℤ y)
lead_side x y h = (λ p. omega (arith, ints), λ p. omega (arith, ints))

-- nor does a positive factor
pub times_side : (d a : ℤ) → pos 0 <ℤ d → SameSide a (d *ℤ a)
times_side (pos zero) a p = absurd (omega (arith, ints))
times_side (pos (suc n)) (pos zero) p = (λ q. absurd (omega (arith, ints)), λ q. absurd (omega (arith, ints)))
times_side (pos (suc n)) (pos (suc m)) p = (λ q. omega (arith, ints), λ q. absurd (omega (arith, ints)))
times_side (pos (suc n)) (negsuc m) p = (λ q. absurd (omega (arith, ints)), λ q. omega (arith, ints))
times_side (negsuc n) a p = absurd (omega (arith, ints))

pub side_trans : (a x y : ℤ) → SameSide a x → SameSide x y → SameSide a y
side_trans a x y h k = (λ p. k.0 (h.0 p), λ p. k.1 (h.1 p))

pub abs_times_3 : (x y z : ℤ) → nat_abs (x *ℤ y *ℤ z) ≡ nat_abs x * nat_abs y * nat_abs z
abs_times_3 x y z = unsigned_abs-mul (x *ℤ y) z ∙ ap (λ n. n * nat_abs z) (unsigned_abs-mul x y)
