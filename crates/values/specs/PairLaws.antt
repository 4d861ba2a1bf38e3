-- Lemmas, no definitions of the subject: Pairs keep the laws, since Counts do.
use Rattle.std.specs.Prelude.{◌≡◌}
use Rattle.values.specs.Laws.{Laws}
use Rattle.values.specs.Pairs.{paired, pair_ops}
use Rattle.values.specs.declared.count.Count.{Count}
use Rattle.values.specs.CountLaws.{count_laws}

-- equal parts make equal Pairs
pub both : {a b c d : Count} → a ≡ b → c ≡ d → paired a c ≡ paired b d
both p q = λ i. paired (p i) (q i)

-- each law of Pairs, from that of Counts
pub pair_laws : Laws pair_ops
pair_laws = record {
  plus_comm = λ x y. both (count_laws.plus_comm x.first y.first) (count_laws.plus_comm x.second y.second);
  plus_assoc = λ x y z. both (count_laws.plus_assoc x.first y.first z.first) (count_laws.plus_assoc x.second y.second z.second);
  plus_zero = λ x. both (count_laws.plus_zero x.first) (count_laws.plus_zero x.second);
  times_comm = λ x y. both (count_laws.times_comm x.first y.first) (count_laws.times_comm x.second y.second);
  times_assoc = λ x y z. both (count_laws.times_assoc x.first y.first z.first) (count_laws.times_assoc x.second y.second z.second);
  times_plus = λ x y z. both (count_laws.times_plus x.first y.first z.first) (count_laws.times_plus x.second y.second z.second);
  times_zero = λ x. both (count_laws.times_zero x.first) (count_laws.times_zero x.second);
  multiple_zero = λ x. both (count_laws.multiple_zero x.first) (count_laws.multiple_zero x.second);
  multiple_more = λ x n. both (count_laws.multiple_more x.first n) (count_laws.multiple_more x.second n);
}
