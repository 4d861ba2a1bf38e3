-- Lemmas, no definitions of the subject: Counts keep the laws.
use Rattle.std.specs.Prelude.{◌≡◌, ℕ, ◌^◌, ◌<◌}
use Rattle.std.proofs.Common.{ap, subst, add_comm, add_assoc, mul_comm, mul_assoc, mul-add, arith}
use Rattle.std.proofs.Math.Nat.{mod-add-mod, add-mod-mod}
use Rattle.std.proofs.lemmas.Nat.{mul-mod_first, mul-mod_second}
use Rattle.std.proofs.Math.Bridge.{le_prop}
use Rattle.values.specs.Laws.{Laws}
use Rattle.values.specs.Counts.{counted, count_ops}
use Rattle.values.specs.declared.count.Count.{Count}

-- a Count of bits that fit
abbrev make : (n : ℕ) → n < 2 ^ 64 → Count
make n h = record { bits = n; fits = h }

-- a Count is its bits
pub same : {x y : Count} → x.bits ≡ y.bits → x ≡ y
same {x} {y} e =
    subst (λ (b : ℕ). (q : b < 2 ^ 64) → x ≡ make b q) e (λ q. ap (make x.bits) (le_prop x.fits q)) y.fits

-- each law of Counts, from that of whole numbers
pub count_laws : Laws count_ops
count_laws = record {
  plus_comm = λ x y. ap counted (add_comm x.bits y.bits);
  plus_assoc = λ x y z. same (simp (mod-add-mod, add-mod-mod, add_assoc));
  plus_zero = λ x. same (omega arith);
  times_comm = λ x y. ap counted (mul_comm x.bits y.bits);
  times_assoc = λ x y z. same (simp (mul-mod_first, mul-mod_second, mul_assoc));
  times_plus = λ x y z. same (simp (mul-mod_second, mod-add-mod, add-mod-mod, mul-add));
  times_zero = λ x. same (omega arith);
  multiple_zero = λ x. same (omega arith);
  multiple_more = λ x n. same (simp (mod-add-mod) (omega (arith, mul-add x.bits n 1)));
}
