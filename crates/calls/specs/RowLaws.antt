-- What holds of every row of calls: the mirrored row is the transpose, and the outcome is linear in the start.
use Rattle.std.specs.Prelude.{◌≡◌, List}
use Rattle.values.specs.Laws.{Ops}
use Rattle.calls.specs.Stores.{dot, plus_of, times_of, Stores, three}
use Rattle.calls.specs.Systems.{System, voxels, places}
use Rattle.calls.specs.Rows.{Fits, outcome, mirrored}
use Rattle.calls.specs.declared.call.Call.{Call}

-- The inner product of two triples of stores: the products at all places of volume, measured and working store, added up.
unfoldable pub inner : {V : Type 0} → Ops V → System → Stores V → Stores V → V
inner o s a b =
    o.plus (dot o (voxels s) a.volume b.volume)
    (o.plus (dot o (places s) a.measured b.measured) (dot o (places s) a.working b.working))

-- The sum of two sets of stores, place by place.
unfoldable pub added : {V : Type 0} → Ops V → System → Stores V → Stores V → Stores V
added o s a b =
    three (plus_of o (voxels s) a.volume b.volume) (plus_of o (places s) a.measured b.measured) (plus_of o (places s) a.working b.working)

-- A set of stores multiplied by a value, place by place.
unfoldable pub multiplied : {V : Type 0} → Ops V → System → V → Stores V → Stores V
multiplied o s c a =
    three (times_of o (voxels s) c a.volume) (times_of o (places s) c a.measured) (times_of o (places s) c a.working)

-- The mirrored row is the transpose: the inner product of a row's outcome with test stores is that of the start with the mirrored row's outcome from the test stores, for stores of the system's lengths.
abbrev pub Matched : {V : Type 0} → Ops V → System → Type 0
Matched {V} o s =
    (row : List (Call V)) (start test : Stores V) → Fits s start → Fits s test
    → inner o s (outcome o s row start) test ≡ inner o s start (outcome o s (mirrored row) test)

-- The outcome is linear in the start: that of a sum of starts is the sum of their outcomes, and that of a start times a value is its outcome times the value, for stores of the system's lengths.
pub record Linear {V : Type 0} (o : Ops V) (s : System) : Type 0 where
  pub sums : (row : List (Call V)) (a b : Stores V) → Fits s a → Fits s b → outcome o s row (added o s a b) ≡ added o s (outcome o s row a) (outcome o s row b)
  pub multiples : (row : List (Call V)) (c : V) (a : Stores V) → Fits s a → outcome o s row (multiplied o s c a) ≡ multiplied o s c (outcome o s row a)
