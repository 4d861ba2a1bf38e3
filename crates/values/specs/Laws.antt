-- Kinds of value: what can be done with them, and the laws that they keep.
use Rattle.std.specs.Prelude.{◌≡◌, ℕ, ◌+◌}

-- What a kind of value has: a zero, two ways to join two values (sum and product), and a way to take one n times over (multiple).
pub record Ops (V : Type 0) : Type 0 where
  pub zero : V
  pub plus : V → V → V
  pub times : V → V → V
  pub multiple : V → ℕ → V

-- All that a kind of value must show: the order and the grouping of a sum or a product do not matter, x + zero = x, x (y + z) = x y + x z, x zero = zero, and x taken n times over is x added n times to zero.
pub record Laws {V : Type 0} (o : Ops V) : Type 0 where
  pub plus_comm : (x y : V) → o.plus x y ≡ o.plus y x
  pub plus_assoc : (x y z : V) → o.plus (o.plus x y) z ≡ o.plus x (o.plus y z)
  pub plus_zero : (x : V) → o.plus x o.zero ≡ x
  pub times_comm : (x y : V) → o.times x y ≡ o.times y x
  pub times_assoc : (x y z : V) → o.times (o.times x y) z ≡ o.times x (o.times y z)
  pub times_plus : (x y z : V) → o.times x (o.plus y z) ≡ o.plus (o.times x y) (o.times x z)
  pub times_zero : (x : V) → o.times x o.zero ≡ o.zero
  pub multiple_zero : (x : V) → o.multiple x 0 ≡ o.zero
  pub multiple_more : (x : V) (n : ℕ) → o.multiple x (n + 1) ≡ o.plus (o.multiple x n) x
