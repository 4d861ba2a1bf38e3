-- Lemmas, no definitions of the subject: Reaches keep the laws.
use Rattle.std.specs.Prelude.{◌≡◌, refl, Bool, ◌||◌, ℕ, zero, suc}
use Rattle.std.proofs.Common.{ap, sym, add-one}
use Rattle.std.proofs.Math.Bool.{or_comm, or_assoc, or-false, or_self, and_comm, and_assoc, and-or_distrib_left, and-false}
use Rattle.values.specs.Laws.{Laws}
use Rattle.values.specs.Reaches.{reached, multiple_of, reach_ops}

-- the multiple by one more is the multiple, or the value
one_more : (n : ℕ) (b : Bool) → multiple_of (suc n) b ≡ (multiple_of n b || b)
one_more zero b = refl
one_more (suc n) b = sym (or_self b)

-- each law of Reaches, from those of yes and no
pub reach_laws : Laws reach_ops
reach_laws = record {
  plus_comm = λ x y. ap reached (or_comm x.yes y.yes);
  plus_assoc = λ x y z. ap reached (or_assoc x.yes y.yes z.yes);
  plus_zero = λ x. ap reached (or-false x.yes);
  times_comm = λ x y. ap reached (and_comm x.yes y.yes);
  times_assoc = λ x y z. ap reached (and_assoc x.yes y.yes z.yes);
  times_plus = λ x y z. ap reached (and-or_distrib_left x.yes y.yes z.yes);
  times_zero = λ x. ap reached (and-false x.yes);
  multiple_zero = λ x. refl;
  multiple_more = λ x n. ap reached (rw add-one (one_more n x.yes));
}
