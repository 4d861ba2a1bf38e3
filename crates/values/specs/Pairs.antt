-- Pair: the Counts of two materials side by side, which never mix.
use Rattle.std.specs.Prelude.{ℕ, List, ◌++◌, codes}
use Rattle.values.specs.Laws.{Ops}
use Rattle.values.specs.Counts.{count_ops, count_text}
use Rattle.values.specs.declared.count.Count.{Count}
use Rattle.values.specs.declared.pair.Pair.{Pair}

-- The Pair of two Counts.
abbrev pub paired : Count → Count → Pair
paired a b = record { first = a; second = b }

-- What is done to a Pair is done to each of its Counts.
abbrev pub pair_ops : Ops Pair
pair_ops = record {
  zero = paired count_ops.zero count_ops.zero;
  plus = λ x y. paired (count_ops.plus x.first y.first) (count_ops.plus x.second y.second);
  times = λ x y. paired (count_ops.times x.first y.first) (count_ops.times x.second y.second);
  multiple = λ x n. paired (count_ops.multiple x.first n) (count_ops.multiple x.second n);
}

-- What is printed of a Pair: its two Counts.
abbrev pub pair_text : Pair → List ℕ
pair_text x = codes "(" ++ count_text x.first ++ codes ", " ++ count_text x.second ++ codes ")"
