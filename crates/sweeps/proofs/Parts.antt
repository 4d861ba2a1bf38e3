-- Parts of a list.
use Rattle.std.proofs.Common.{◌≡◌, ℕ, ◌+◌, ◌<◌, ◌≤◌, List, length, get_or, ◌∙◌, arith}
use Rattle.std.specs.List.{between}
use Rattle.std.proofs.lemmas.List.Edits.{length-between, get_or-between}

-- the n places from s on, as `&xs[s..s + n]`
abbrev pub part : {V : Type 0} → ℕ → ℕ → List V → List V
part s n xs = between s (s + n) xs

module _ {V : Type 0} (s n : ℕ) (xs : List V) where
  pub length_part : s + n ≤ length xs → length (part s n xs) ≡ n
  length_part le = length-between xs s (s + n) le ∙ omega arith

  pub at_part : (d : V) (p : ℕ) → p < n → get_or (part s n xs) p d ≡ get_or xs (s + p) d
  at_part d p h = get_or-between xs s (s + n) p d (omega arith)
