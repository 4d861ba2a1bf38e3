-- What is copied from a reader that is cut short.
use Rattle.std.specs.Prelude.{◌≡◌, ℕ, List, [], ◌++◌, Option, Some, None, IfSome, take}
use Rattle.std.specs.Option.{option_map}

-- what holds of the front of the bytes, where they are known
of_front : (n : ℕ) (bytes : Option (List ℕ)) (new : List ℕ) → IfSome (option_map (take n) bytes) (λ xs. new ≡ [] ++ xs) → IfSome bytes (λ xs. new ≡ take n xs)
of_front n None new h = tt
of_front n (Some xs) new h = h

-- what was copied into nothing from a reader that ends at a limit is the front of what it had
pub copied_of : {R : Type 0} (remaining : R → Option (List ℕ)) (limit n : ℕ) (inner reader : R) (old new : List ℕ)
    → limit ≡ n → inner ≡ reader → old ≡ [] → IfSome (option_map (take limit) (remaining inner)) (λ xs. new ≡ old ++ xs) → IfSome (remaining reader) (λ xs. new ≡ take n xs)
copied_of remaining limit n inner reader old new same_limit same empty h = of_front n (remaining reader) new (rw (same_limit, same, empty) at h)
