-- Which headings are accepted: those whose cosine and sine lie near the circle.
use Rattle.std.specs.Prelude.{ℕ, ◌^◌, Bool, ℤ, pos, ◌+ℤ◌, ◌-ℤ◌, ◌*ℤ◌, nat_le, unsigned_abs}
use Rattle.geometry.specs.declared.heading.Heading.{Heading}

-- By how much c² + s² differs from 2^28.
unfoldable pub off_circle : ℤ → ℤ → ℕ
off_circle s c = unsigned_abs (c *ℤ c +ℤ s *ℤ s -ℤ pos (2 ^ 28))

-- The acceptance rule: c² + s² differs from 2^28 by at most 32,768.
abbrev pub is_accepted : Heading → Bool
is_accepted h = nat_le (off_circle h.s h.c) 32768
