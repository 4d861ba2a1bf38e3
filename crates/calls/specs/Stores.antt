-- Stores of values by place, counted from 0, and the three stores.
use Rattle.std.specs.Prelude.{ℕ, List, map, slice_index_or}
use Rattle.std.specs.List.{range_with_len}
use Rattle.values.specs.Laws.{Ops}
use Rattle.values.specs.Sums.{sum}

-- The store f 0, f 1, .., f (n - 1).
abbrev pub built : {V : Type 0} → ℕ → (ℕ → V) → List V
built n f = map f (range_with_len 0 n)

-- What stands at place i of a store; past its end, zero.
abbrev pub at : {V : Type 0} → Ops V → List V → ℕ → V
at o xs i = slice_index_or xs i o.zero

-- The inner product of two stores of n places: the sum of the products, place by place.
abbrev pub dot : {V : Type 0} → Ops V → ℕ → List V → List V → V
dot o n xs ys = sum o n (λ i. o.times (at o xs i) (at o ys i))

-- The sum of two stores of n places, place by place.
abbrev pub plus_of : {V : Type 0} → Ops V → ℕ → List V → List V → List V
plus_of o n xs ys = built n (λ i. o.plus (at o xs i) (at o ys i))

-- The product of a value with a store of n places, place by place.
abbrev pub times_of : {V : Type 0} → Ops V → ℕ → V → List V → List V
times_of o n c xs = built n (λ i. o.times c (at o xs i))

-- A set of stores: the volume, the measured and the working store.
pub record Stores (V : Type 0) : Type 0 where
  pub volume : List V
  pub measured : List V
  pub working : List V

-- The set of stores of three lists of values.
abbrev pub three : {V : Type 0} → List V → List V → List V → Stores V
three volume measured working = record { volume = volume; measured = measured; working = working }
