-- Reach: yes or no, where a sum says whether either is yes, and a product whether both are.
use Rattle.std.specs.Prelude.{Bool, false, ◌||◌, ◌&&◌, if◌then◌else◌, ℕ, zero, suc, List, codes}
use Rattle.values.specs.Laws.{Ops}
use Rattle.values.specs.declared.reach.Reach.{Reach}

-- The Reach of yes or no.
abbrev pub reached : Bool → Reach
reached b = record { yes = b }

-- The multiple of yes or no by a whole number: no by 0, and the same by any other.
abbrev pub multiple_of : ℕ → Bool → Bool
multiple_of zero b = false
multiple_of (suc n) b = b

-- Zero is no, the sum is "either", the product is "both", and the multiple is as above.
abbrev pub reach_ops : Ops Reach
reach_ops = record {
  zero = reached false;
  plus = λ x y. reached (x.yes || y.yes);
  times = λ x y. reached (x.yes && y.yes);
  multiple = λ x n. reached (multiple_of n x.yes);
}

-- What is printed of a Reach: yes or no.
abbrev pub reach_text : Reach → List ℕ
reach_text x = (if x.yes then codes "yes" else codes "no")
