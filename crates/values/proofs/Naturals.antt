-- Whole numbers keep the laws of values, so the lemmas on sums serve them too.
use Rattle.std.proofs.Common.{◌+◌, ◌*◌, ap, ◌∙◌, add-zero, add_assoc, mul_assoc, mul_comm, add_comm, mul-zero, mul-one, mul-add}
use Rattle.values.specs.Laws.{Laws}
use Rattle.values.specs.Naturals.{naturals}

pub naturals_laws : Laws naturals
naturals_laws = record {
  plus_comm = add_comm;
  plus_assoc = add_assoc;
  plus_zero = add-zero;
  times_comm = mul_comm;
  times_assoc = mul_assoc;
  times_plus = mul-add;
  times_zero = mul-zero;
  multiple_zero = mul-zero;
  multiple_more = λ x n. mul-add x n 1 ∙ ap (λ m. x * n + m) (mul-one x);
}
