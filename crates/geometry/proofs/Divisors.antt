-- The divisors of the landed edges are not 0, and lie on a's side of it.
use Rattle.std.proofs.Common.{◌<◌, ℤ, pos, ◌-ℤ◌, ◌*ℤ◌, nat_abs, mul-le-mul_left, mul-lt-mul_of_pos_right, arith}
use Rattle.std.proofs.lemmas.Int.{unsigned_abs-mul}
use borrow.Author.Differences.{ints}
use Rattle.geometry.specs.Landed.{depth, panel_depth}
use Rattle.geometry.proofs.Size.{abs_times_3, SameSide, lead_side, times_side, side_trans}
use Rattle.geometry.specs.Steep.{Steep}
use Rattle.geometry.proofs.Conditions.{Placed, Reached, Beside}

-- where x lies beside a and y is less, x - y does
beside_minus : (a x y : ℤ) → SameSide a x → nat_abs y < nat_abs x → Beside a (x -ℤ y)
beside_minus a x y s h =
    let l = side_trans a x (x -ℤ y) s (lead_side x y h) in
    record { apart = omega (arith, ints); above = l.0; below = l.1 }

pub depth_beside : (D a b Q : ℤ) → Placed D Q → Steep a b → Beside a (depth D a Q)
unfolding depth
depth_beside D a b Q p s =
    beside_minus a (pos 2 *ℤ D *ℤ a) (pos 16384 *ℤ Q)
    (times_side (pos 2 *ℤ D) a (omega (arith, ints)))
    (omega (arith, abs_times_3 (pos 2) D a, unsigned_abs-mul (pos 16384) Q, mul-le-mul_left (nat_abs D) s.least))

pub panel_depth_beside : (F a b k : ℤ) → Reached F k → Steep a b → Beside a (panel_depth F a b k)
unfolding panel_depth
panel_depth_beside F a b k p s =
    let some : 0 < nat_abs a = omega (arith, s.least) in
    beside_minus a (F *ℤ a) (k *ℤ b) (times_side F a p.some)
    (omega (arith, unsigned_abs-mul F a, unsigned_abs-mul k b, mul-le-mul_left (nat_abs k) s.side, mul-lt-mul_of_pos_right p.near some))
