-- The sine s and the cosine c of a step, in 16384ths. A step is 5.625 degrees, counter-clockwise from the y axis.
use Rattle.std.specs.Prelude.{ℕ, zero, suc, ◌-◌, ◌/◌, ◌%◌, ◌≤◌, List, [], ◌∷◌, ℤ, pos, neg_ℤ, slice_index_or}
use Rattle.geometry.specs.Circle.{off_circle}
use Rattle.geometry.specs.declared.heading.Heading.{Heading}

-- The sines of the steps 0 to 16 of a quarter turn.
abbrev pub sines : List ℤ
sines =
    pos 0 ∷ pos 1606 ∷ pos 3196 ∷ pos 4756 ∷ pos 6270 ∷ pos 7723 ∷ pos 9102 ∷ pos 10394 ∷ pos 11585
    ∷ pos 12665 ∷ pos 13623 ∷ pos 14449 ∷ pos 15137 ∷ pos 15679 ∷ pos 16069 ∷ pos 16305 ∷ pos 16384 ∷ []

-- The sine of step r of a quarter turn.
unfoldable pub sine : ℕ → ℤ
sine r = slice_index_or sines r (pos 0)

-- One of four numbers, by the quarter of the turn.
abbrev pub in_quarter : ℕ → ℤ → ℤ → ℤ → ℤ → ℤ
in_quarter zero a b c d = a
in_quarter (suc zero) a b c d = b
in_quarter (suc (suc zero)) a b c d = c
in_quarter (suc (suc (suc h))) a b c d = d

-- s: the sine of step q = 16 h + r of the whole turn, from the sines of r and 16 - r by the quarter h.
abbrev pub sin_of : ℕ → ℤ
sin_of q = in_quarter (q / 16) (sine (q % 16)) (sine (16 - q % 16)) (neg_ℤ (sine (q % 16))) (neg_ℤ (sine (16 - q % 16)))

-- c: the cosine of step q, in the same way.
abbrev pub cos_of : ℕ → ℤ
cos_of q = in_quarter (q / 16) (sine (16 - q % 16)) (neg_ℤ (sine (q % 16))) (neg_ℤ (sine (16 - q % 16))) (sine (q % 16))

-- The heading of step q of the whole turn.
abbrev pub turn : ℕ → Heading
turn q = record { c = cos_of q; s = sin_of q }

-- The circle rule: c² + s² differs from 2^28 by at most 17,126.
abbrev pub CircleRule : ℤ → ℤ → Type 0
CircleRule s c = off_circle s c ≤ 17126
