-- What the lemmas on landed edges ask of distances, slabs and panel edges.
use Rattle.std.proofs.Common.{◌^◌, ◌<◌, ◌≤◌, ℤ, pos, nat_abs, ◌<ℤ◌}

-- a slab whose edges' sum is Q lies nearer the rotation axis than half the distance D
pub record Placed (D Q : ℤ) : Type 0 where
  pub some : pos 0 <ℤ D
  pub most : nat_abs D ≤ 2 ^ 24
  pub near : nat_abs Q < nat_abs D

-- the panel's edge k lies less than F from 0
pub record Reached (F k : ℤ) : Type 0 where
  pub some : pos 0 <ℤ F
  pub most : nat_abs F ≤ 2 ^ 26
  pub near : nat_abs k < nat_abs F

-- x is not 0, and lies on the side of zero on which a does
pub record Beside (a x : ℤ) : Type 0 where
  pub apart : 0 < nat_abs x
  pub above : pos 0 <ℤ a → pos 0 <ℤ x
  pub below : a <ℤ pos 0 → x <ℤ pos 0
