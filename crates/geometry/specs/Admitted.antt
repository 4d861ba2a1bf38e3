-- The distances D, from the source to the rotation axis, and F, from the source to the panel, that are admitted.
use Rattle.std.specs.Prelude.{◌^◌, ◌≤◌, ℤ, pos, ◌≤ℤ◌, ◌<ℤ◌, unsigned_abs}

-- The source stands off the rotation axis, 0 < D <= 2^24, and the panel no nearer to the source than the axis, D <= F <= 2^25.
pub record Admitted (source panel : ℤ) : Type 0 where
  pub source_some : pos 0 <ℤ source
  pub source_most : unsigned_abs source ≤ 2 ^ 24
  pub panel_least : source ≤ℤ panel
  pub panel_most : unsigned_abs panel ≤ 2 ^ 25
