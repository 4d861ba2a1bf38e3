-- What the two parts a and b of every direction keep.
use Rattle.std.specs.Prelude.{◌≤◌, ℤ, unsigned_abs}

-- The central ray runs at most 45 degrees off the slab axis: 11,585 <= |a| <= 16,384, and |b| <= |a|.
pub record Steep (a b : ℤ) : Type 0 where
  pub least : 11585 ≤ unsigned_abs a
  pub most : unsigned_abs a ≤ 16384
  pub side : unsigned_abs b ≤ unsigned_abs a
