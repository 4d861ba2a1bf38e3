-- The circle rule of the turn table: one computed test over its entries, carried to every step by the quarters and their signs.
use Rattle.std.proofs.Common.{◌≡◌, ℕ, zero, suc, ◌-◌, ◌/◌, ◌%◌, ◌<◌, Bool, true, ◌&&◌, nat_le, ℤ, neg_ℤ, sym, refl, subst, arith}
use Rattle.std.proofs.lemmas.Bool.{leb-true, le-leb}
use Rattle.std.proofs.lemmas.Bool.Decides.{Decides-below_and}
use borrow.Author.Differences.{ints}
use Rattle.geometry.specs.Circle.{off_circle, is_accepted}
use Rattle.geometry.specs.Turn.{sine, in_quarter, sin_of, cos_of, turn, CircleRule}
use Rattle.geometry.proofs.Circles.{square_negated}

-- the test passes at each number below n
abbrev all_below : (ℕ → Bool) → ℕ → Bool
all_below p zero = true
all_below p (suc n) = p n && all_below p n

from_all : (p : ℕ → Bool) (n : ℕ) → all_below p n ≡ true → (k : ℕ) → k < n → p k ≡ true
from_all p n e = (Decides-below_and p (λ k. p k ≡ true) (all_below p) (λ k. (λ h. h, λ h. h)) refl (λ _. refl) n).0 e

abbrev round_at : ℕ → Bool
round_at r = nat_le (off_circle (sine r) (sine (16 - r))) 17126

-- each entry of the quarter turn, with the one that goes with it
entries_round : (r : ℕ) → r < 17 → CircleRule (sine r) (sine (16 - r))
unfolding sine off_circle
entries_round r h = leb-true _ 17126 (from_all round_at 17 refl r h)

-- what holds of a sine and a cosine holds of them in each quarter
in_each_quarter : (h : ℕ) (up down : ℤ) → CircleRule up down → CircleRule (in_quarter h up down (neg_ℤ up) (neg_ℤ down)) (in_quarter h down (neg_ℤ up) (neg_ℤ down) up)
unfolding off_circle
in_each_quarter zero up down round = round
in_each_quarter (suc zero) up down round = omega (arith, ints, square_negated up, square_negated down)
in_each_quarter (suc (suc zero)) up down round = omega (arith, ints, square_negated up, square_negated down)
in_each_quarter (suc (suc (suc h))) up down round = omega (arith, ints, square_negated up, square_negated down)

-- a sine and a cosine that are a step's lie near the circle
pub round_at_each : (q : ℕ) (s c : ℤ) → s ≡ sin_of q → c ≡ cos_of q → CircleRule s c
round_at_each q s c e f =
    let r : q % 16 < 17 = omega arith in
    subst (λ x. CircleRule x c) (sym e) (subst (λ y. CircleRule (sin_of q) y) (sym f) (in_each_quarter (q / 16) (sine (q % 16)) (sine (16 - q % 16)) (entries_round (q % 16) r)))

-- so each heading of the turn table is accepted
pub turn_accepted : (q : ℕ) → is_accepted (turn q) ≡ true
turn_accepted q = let round = round_at_each q (sin_of q) (cos_of q) refl refl in le-leb (off_circle (sin_of q) (cos_of q)) 32768 (omega arith)
