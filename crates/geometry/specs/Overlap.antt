-- How much two stretches have in common, of each of which either end may come first: what every weight of the distance-driven method is made of.
use Rattle.std.specs.Prelude.{◌≡◌, ℕ, zero, suc, ◌+◌, ◌<◌, ◌⊎◌, ℤ, pos, negsuc, ◌-ℤ◌, ◌≤ℤ◌}
use Rattle.std.specs.Int.{int_min, int_max}

-- z, or 0 where z is below 0.
abbrev pub or_zero : ℤ → ℕ
or_zero (pos n) = n
or_zero (negsuc n) = 0

-- The overlap of the stretches from a0 to a1 and from b0 to b1: from the higher lower end up to the lower upper end, and 0 where they do not meet.
abbrev pub overlap : ℤ → ℤ → ℤ → ℤ → ℕ
overlap a0 a1 b0 b1 = or_zero (int_min (int_max a0 a1) (int_max b0 b1) -ℤ int_max (int_min a0 a1) (int_min b0 b1))

-- The sum of the overlaps of the stretch from u0 to u1 with the first n of the stretches between the edges S 0, S 1, ...
abbrev pub overlaps : ℤ → ℤ → (ℕ → ℤ) → ℕ → ℕ
overlaps u0 u1 S zero = 0
overlaps u0 u1 S (suc n) = overlaps u0 u1 S n + overlap u0 u1 (S n) (S (suc n))

-- The edges S 0, .., S n never fall, or they never rise.
abbrev pub OneWay : (ℕ → ℤ) → ℕ → Type 0
OneWay S n = ((k : ℕ) → k < n → S k ≤ℤ S (suc k)) ⊎ ((k : ℕ) → k < n → S (suc k) ≤ℤ S k)

-- The overlaps with stretches that follow one another one way add up to the overlap with the whole.
abbrev pub OverlapsAddUp : Type 0
OverlapsAddUp = (u0 u1 : ℤ) (S : ℕ → ℤ) (n : ℕ) → OneWay S n → overlaps u0 u1 S n ≡ overlap u0 u1 (S 0) (S n)

-- Which end of a stretch comes first does not matter to the overlap.
abbrev pub EitherWay : Type 0
EitherWay = (a0 a1 b0 b1 : ℤ) → overlap (int_min a0 a1) (int_max a0 a1) (int_min b0 b1) (int_max b0 b1) ≡ overlap a0 a1 b0 b1
