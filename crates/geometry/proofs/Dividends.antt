-- The dividends and the divisors of the landed edges, as the code makes them: what each step means, its bound, and that it fits.
-- Each bound stays below 2 ^ 63.
use Rattle.std.proofs.Common.{◌+◌, ◌^◌, ℤ, pos, ◌+ℤ◌, ◌-ℤ◌, ◌*ℤ◌, arith, lit<}
use Rattle.geometry.specs.declared.direction.Direction.{Direction}
use Rattle.geometry.specs.declared.distances.Distances.{Distances}
use Rattle.geometry.specs.declared.edge.Edge.{Edge}
use Rattle.geometry.specs.declared.landed.Middle.{Middle}
use Rattle.geometry.proofs.Words.{again, Reads, Makes, lit, arg, read, times, plus, minus}

-- the operands that the arguments hold
pub place : (e : Edge) → Reads (again e.at) e.at 4194304
place e = arg e.at e.within (lit< tt)

pub middle : (m : Middle) → Reads (again m.twice) m.twice 8388608
middle m = arg m.twice m.within (lit< tt)

pub source : (d : Distances) → Reads (again d.source) d.source (2 ^ 24)
source d = arg d.source d.admitted.source_most (lit< tt)

pub main : (t : Direction) → Reads (again t.a) t.a 16384
main t = arg t.a t.steep.most (lit< tt)

pub side : (t : Direction) → Reads (again t.b) t.b 16384
side t = arg t.b (omega (arith, t.steep.most, t.steep.side)) (lit< tt)

-- of operands A and B that are the parts a and b of a direction
module _ {A B a b : ℤ} (main : Reads A a 16384) (side : Reads B b 16384) where
  -- 2 e a + Q b
  along_made : {Z e : ℤ} → Reads Z e 4194304 → Makes (again (pos 2 *ℤ Z) *ℤ A) (pos 2 *ℤ e *ℤ a) (2 ^ 37)
  along_made e = times (read (times (lit 2) e (lit< tt))) main (lit< tt)

  across_made : {Y Q : ℤ} → Reads Y Q 8388608 → Makes (Y *ℤ B) (Q *ℤ b) (2 ^ 37)
  across_made q = times q side (lit< tt)

  pub sum_made : {Y Z Q e : ℤ} → Reads Y Q 8388608 → Reads Z e 4194304 → Makes (again (again (pos 2 *ℤ Z) *ℤ A) +ℤ again (Y *ℤ B)) (pos 2 *ℤ e *ℤ a +ℤ Q *ℤ b) (2 ^ 38)
  sum_made q e = plus (read (along_made e)) (read (across_made q)) (lit< tt)

  -- D (2 e a + Q b)
  pub cross_made : {X Y Z D Q e : ℤ} → Reads X D (2 ^ 24) → Reads Y Q 8388608 → Reads Z e 4194304 → Makes (X *ℤ again (again (again (pos 2 *ℤ Z) *ℤ A) +ℤ again (Y *ℤ B))) (D *ℤ (pos 2 *ℤ e *ℤ a +ℤ Q *ℤ b)) (2 ^ 62)
  cross_made d q e = times d (read (sum_made q e)) (lit< tt)

  -- F a - k b
  ray_made : {X F : ℤ} → Reads X F (2 ^ 26) → Makes (X *ℤ A) (F *ℤ a) (2 ^ 40)
  ray_made f = times f main (lit< tt)

  pub panel_depth_made : {X Y F k : ℤ} → Reads X F (2 ^ 26) → Reads Y k 8388608 → Makes (again (X *ℤ A) -ℤ again (Y *ℤ B)) (F *ℤ a -ℤ k *ℤ b) (2 ^ 40 + 2 ^ 37)
  panel_depth_made f k = minus (read (ray_made f)) (read (across_made k)) (lit< tt)

-- of an operand X that is the distance D
module _ {X D : ℤ} (source : Reads X D (2 ^ 24)) where
  -- D R k
  pub column_made : {Z k : ℤ} → Reads Z k 4194304 → Makes (again (X *ℤ pos 16384) *ℤ Z) (D *ℤ pos 16384 *ℤ k) (2 ^ 60)
  column_made k = times (read (times source (lit 16384) (lit< tt))) k (lit< tt)

  module _ {A a : ℤ} (main : Reads A a 16384) where
    -- 2 D a
    double_made : Makes (again (pos 2 *ℤ X) *ℤ A) (pos 2 *ℤ D *ℤ a) (2 ^ 39)
    double_made = times (read (times (lit 2) source (lit< tt))) main (lit< tt)

    -- 2 D a z
    pub height_made : {Z z : ℤ} → Reads Z z 4194304 → Makes (again (again (pos 2 *ℤ X) *ℤ A) *ℤ Z) (pos 2 *ℤ D *ℤ a *ℤ z) (2 ^ 61)
    height_made z = times (read double_made) z (lit< tt)

    -- 2 D a - R Q
    pub depth_made : {Y Q : ℤ} → Reads Y Q 8388608 → Makes (again (again (pos 2 *ℤ X) *ℤ A) -ℤ again (pos 16384 *ℤ Y)) (pos 2 *ℤ D *ℤ a -ℤ pos 16384 *ℤ Q) (2 ^ 39 + 2 ^ 37)
    depth_made q = minus (read double_made) (read (times (lit 16384) q (lit< tt))) (lit< tt)
