-- What is checked of the edges of an axis, in which order, and the refusal that follows: a check is none where nothing is refused.
use Rattle.std.specs.Option.{option_or, option_map}
use Rattle.std.specs.Prelude.{ℕ, ◌+◌, ◌-◌, ◌||◌, List, length, ℤ, pos, Option, slice_index_or, unsigned_abs, int_le, nat_lt}
use Rattle.scan.specs.Axes.{even_edges}
use Rattle.scan.specs.Verdicts.{refused_where, first_where}
use Rattle.scan.specs.declared.refusal.Refusal.{Refusal}
use Rattle.scan.specs.declared.refusal.Refusal.TheVariants.{Count, NotRising, OutOfRange}

-- Edge i; past the last, 0.
abbrev pub edge_or_zero : List ℤ → ℕ → ℤ
edge_or_zero es i = slice_index_or es i (pos 0)

-- The first edge with |edge| above the limit.
abbrev pub first_outside : ℕ → List ℤ → Option ℕ
first_outside limit es = first_where (λ i. nat_lt limit (unsigned_abs (edge_or_zero es i))) (length es)

-- The first cell whose upper edge is not above its lower one.
abbrev pub first_not_rising : List ℤ → Option ℕ
first_not_rising es = first_where (λ i. int_le (edge_or_zero es (i + 1)) (edge_or_zero es i)) (length es - 1)

-- 5 for the first edge out of range, and then 4 for the first that is not above the one before it.
abbrev pub edges_check : List ℤ → Option Refusal
edges_check es =
    option_or (option_map (λ i. OutOfRange i (edge_or_zero es i)) (first_outside 4194304 es))
    (option_map (λ i. NotRising (i + 1) (edge_or_zero es i) (edge_or_zero es (i + 1))) (first_not_rising es))

-- 2 for a count outside its limits.
abbrev pub count_check : ℕ → ℕ → ℕ → Option Refusal
count_check found least most = refused_where (nat_lt found least || nat_lt most found) (Count found least most)

-- Of an axis of even cells 2, 5, 4 are checked, in this order: it has 1 to 512 cells, and its edges lie in range and in order.
abbrev pub even_check : ℤ → ℤ → ℕ → Option Refusal
even_check first pitch cells = option_or (count_check cells 1 512) (edges_check (even_edges first pitch cells))

-- Of a listed axis 2, 5, 4 are checked, in this order: it has 2 to 513 edges, and they lie in range and in order.
abbrev pub listed_check : List ℤ → Option Refusal
listed_check es = option_or (count_check (length es) 2 513) (edges_check es)
