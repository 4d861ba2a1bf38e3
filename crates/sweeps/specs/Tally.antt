-- The tally of a store of Reach values.
use Rattle.std.specs.Prelude.{ℕ, List, count_by}
use Rattle.values.specs.declared.reach.Reach.{Reach}

-- How many values of a Reach store are yes.
abbrev pub tallied : List Reach → ℕ
tallied rs = count_by (λ r. r.yes) rs
