-- Bounds of the dividends, and of where the edges of voxels land.
use Rattle.std.proofs.Common.{ℕ, ◌+◌, ◌*◌, ◌^◌, ◌≤◌, ℤ, pos, ◌+ℤ◌, ◌*ℤ◌, nat_abs, refl, mul-le-mul_right, mul-le-mul, mul-le-mul_left, arith}
use Rattle.std.proofs.lemmas.Int.{unsigned_abs-mul}
use borrow.Author.Differences.{ints}
use Rattle.geometry.specs.Landed.{depth, cross_edge, height_edge}
use Rattle.geometry.proofs.NearestLaws.{nearest_within}
use Rattle.geometry.proofs.Size.{abs_times_3, abs_plus}
use Rattle.geometry.proofs.Words.{Reads}
use Rattle.geometry.proofs.Dividends.{cross_made, height_made, column_made}
use Rattle.geometry.specs.Steep.{Steep}
use Rattle.geometry.proofs.Conditions.{Placed}

-- a number as its own operand
own : (x : ℤ) {A : ℕ} → nat_abs x ≤ A → Reads x x A
own x h = record { is = refl; within = h }

pub cross_dividend : (D a b Q e : ℤ) → nat_abs D ≤ 2 ^ 24 → Steep a b → nat_abs Q ≤ 8388608 → nat_abs e ≤ 4194304 → nat_abs (D *ℤ (pos 2 *ℤ e *ℤ a +ℤ Q *ℤ b)) ≤ 2 ^ 62
cross_dividend D a b Q e d s q h = (cross_made (own a s.most) (own b (omega (arith, s.most, s.side))) (own D d) (own Q q) (own e h)).within

pub height_dividend : (D a b z : ℤ) → nat_abs D ≤ 2 ^ 24 → Steep a b → nat_abs z ≤ 4194304 → nat_abs (pos 2 *ℤ D *ℤ a *ℤ z) ≤ 2 ^ 61
height_dividend D a b z d s h = (height_made (own D d) (own a s.most) (own z h)).within

pub column_dividend : (D k : ℤ) → nat_abs D ≤ 2 ^ 24 → nat_abs k ≤ 4194304 → nat_abs (D *ℤ pos 16384 *ℤ k) ≤ 2 ^ 60
column_dividend D k d h = (column_made (own D d) (own k h)).within

module _ (D a b Q : ℤ) (p : Placed D Q) (s : Steep a b) where
  -- of the product of D and a
  lead : 11585 * nat_abs D ≤ nat_abs D * nat_abs a
  lead = omega (arith, mul-le-mul_left (nat_abs D) s.least)

  depth_least : 2 * (nat_abs D * nat_abs a) ≤ nat_abs (depth D a Q) + 16384 * nat_abs Q
  unfolding depth
  depth_least = omega (arith, ints, abs_times_3 (pos 2) D a, unsigned_abs-mul (pos 16384) Q)

  pub cross_within : (e : ℤ) → nat_abs e ≤ 4194304 → nat_abs Q ≤ 8388608 → nat_abs (cross_edge D a b Q e) ≤ 29360128
  unfolding cross_edge
  cross_within e h q =
      let x : nat_abs (pos 2 *ℤ e *ℤ a +ℤ Q *ℤ b) ≤ 16777216 * nat_abs a =
      omega (arith, abs_plus (pos 2 *ℤ e *ℤ a) (Q *ℤ b), abs_times_3 (pos 2) e a, unsigned_abs-mul Q b, mul-le-mul_right (nat_abs a) h, mul-le-mul q s.side) in
      let y : nat_abs (D *ℤ (pos 2 *ℤ e *ℤ a +ℤ Q *ℤ b)) ≤ 16777216 * (nat_abs D * nat_abs a) =
      omega (arith, unsigned_abs-mul D (pos 2 *ℤ e *ℤ a +ℤ Q *ℤ b), mul-le-mul_left (nat_abs D) x) in
      nearest_within _ (depth D a Q) 29360128 (omega (arith, y, lead, depth_least, p.near))

  pub height_within : (z : ℤ) → nat_abs z ≤ 4194304 → nat_abs (height_edge D a Q z) ≤ 2 ^ 24
  unfolding height_edge
  height_within z h =
      let y : nat_abs (pos 2 *ℤ D *ℤ a *ℤ z) ≤ 8388608 * (nat_abs D * nat_abs a) =
      omega (arith, unsigned_abs-mul (pos 2 *ℤ D *ℤ a) z, abs_times_3 (pos 2) D a, mul-le-mul_left (nat_abs (pos 2 *ℤ D *ℤ a)) h) in
      nearest_within _ (depth D a Q) (2 ^ 24) (omega (arith, y, lead, depth_least, p.near))
