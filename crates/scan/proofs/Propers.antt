-- Edges that pass every check are those of an axis.
use Rattle.std.specs.Prelude.{◌≡◌, ℕ, ◌+◌, ◌-◌, ◌<◌, ◌≤◌, min, Bool, List, length, ℤ, pos, None, int_le, nat_lt, unsigned_abs}
use Rattle.std.proofs.Common.{sym, ap, ◌∙◌, arith, w32, SFits}
use Rattle.std.proofs.lemmas.Int.{ints}
use Rattle.std.proofs.lemmas.List.{get_or_past}
use Rattle.std.proofs.lemmas.List.FromFn.{length-map-range_with_len, get_or-map-range_with_len}
use Rattle.scan.specs.Axes.{Proper, Rises, Within, edge_of, even_edge, even_edges}
use Rattle.scan.specs.AxisChecks.{edge_or_zero, first_outside, first_not_rising, edges_check, count_check}
use Rattle.scan.specs.Numbered.{edge_within}
use Rattle.scan.proofs.Firsts.{first_none}

module _ (es : List ℤ) (passed : edges_check es ≡ None) where
  within : Within es
  within i l =
      let test : ℕ → Bool = λ k. nat_lt 4194304 (unsigned_abs (edge_or_zero es k)) in
      let none : first_outside 4194304 es ≡ None = grind arith in
      let inside = first_none test (length es) none i l in
      grind arith

  rises : Rises es
  rises i l =
      let test : ℕ → Bool = λ k. int_le (edge_or_zero es (k + 1)) (edge_or_zero es k) in
      let none : first_not_rising es ≡ None = grind arith in
      let above = first_none test (length es - 1) none i (omega arith) in
      grind (arith, ints)

  pub proper : 2 ≤ length es → length es ≤ 513 → Proper es
  proper some few = record { least = omega arith; most = omega arith; rises = rises; within = within }

pub even_length : (first pitch : ℤ) (n : ℕ) → length (even_edges first pitch n) ≡ n + 1
even_length first pitch n = length-map-range_with_len (even_edge first pitch) 0 (n + 1)

pub even_edge_at : (first pitch : ℤ) (n i : ℕ) → i < n + 1 → edge_or_zero (even_edges first pitch n) i ≡ even_edge first pitch i
even_edge_at first pitch n i l = get_or-map-range_with_len (even_edge first pitch) 0 (n + 1) i i (pos 0) l (omega arith)

pub even_edge_past : (first pitch : ℤ) (n i : ℕ) → n < i → edge_or_zero (even_edges first pitch n) i ≡ pos 0
even_edge_past first pitch n i l = let long = even_length first pitch n in get_or_past (even_edges first pitch n) i (pos 0) (omega arith)

-- a count that is not refused lies within its limits
pub count_within : (found least most : ℕ) → count_check found least most ≡ None → (least ≤ found) × (found ≤ most)
count_within found least most e = (grind arith, grind arith)

-- an edge of an even axis, where a number past the last stands for the last
pub even_edge_of : (first pitch : ℤ) (n i k : ℕ) (z : ℤ) → k ≡ min i n → z ≡ even_edge first pitch k → z ≡ edge_of (even_edges first pitch n) i
even_edge_of first pitch n i k z e f =
    let long = even_length first pitch n in
    let place : min i (length (even_edges first pitch n) - 1) ≡ k = omega arith in
    rw place (f ∙ sym (even_edge_at first pitch n k (omega arith)))

-- an edge of an axis fits 32 bits
pub edge_fits : (es : List ℤ) → Proper es → (i : ℕ) (z : ℤ) → z ≡ edge_of es i → SFits w32 z
edge_fits es proper i z e = let size = ap unsigned_abs e in let small = edge_within es proper i in omega (arith, ints)

pub listed_proper : (es : List ℤ) → count_check (length es) 2 513 ≡ None → edges_check es ≡ None → Proper es
listed_proper es counted passed = let n = count_within (length es) 2 513 counted in proper es passed n.0 n.1

pub even_proper : (first pitch : ℤ) (n : ℕ) → count_check n 1 512 ≡ None → edges_check (even_edges first pitch n) ≡ None → Proper (even_edges first pitch n)
even_proper first pitch n counted passed =
    let few = count_within n 1 512 counted in
    let long = even_length first pitch n in proper (even_edges first pitch n) passed (omega arith) (omega arith)
