-- A store that is filled with one value.
use Rattle.std.specs.Prelude.{◌≡◌, ℕ, ◌+◌, [], ◌∷◌, ◌++◌}
use Rattle.std.proofs.Common.{sym, arith}
use Rattle.std.proofs.lemmas.List.FromFn.{map-range_with_len_more}
use Rattle.calls.specs.Stores.{built}

-- one value more
pub built_more : {V : Type 0} (x : V) (n : ℕ) → built n (λ _. x) ++ x ∷ [] ≡ built (n + 1) (λ _. x)
built_more x n = sym (map-range_with_len_more (λ _. x) 0 n n (omega arith))
