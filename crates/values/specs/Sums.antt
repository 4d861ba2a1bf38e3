-- Finite sums of values, of any kind.
use Rattle.std.specs.Prelude.{ℕ, zero, suc}
use Rattle.values.specs.Laws.{Ops}

-- The sum f 0 + f 1 + .. + f (n - 1), which is zero where n is 0.
unfoldable pub sum : {V : Type 0} → Ops V → ℕ → (ℕ → V) → V
sum o zero f = o.zero
sum o (suc n) f = o.plus (sum o n f) (f n)
