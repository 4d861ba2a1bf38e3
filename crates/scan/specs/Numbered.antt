-- Lemmas, no definitions of the subject: the edges of an axis by their numbers.
use Rattle.std.specs.Prelude.{◌≡◌, ℕ, ◌+◌, ◌-◌, ◌<◌, ◌≤◌, min, List, map, length, ℤ, pos, ◌≤ℤ◌, slice_index_or, unsigned_abs, refl}
use Rattle.std.specs.List.{range_with_len}
use Rattle.std.proofs.Common.{sym, ap, ⊎_elim, arith}
use Rattle.std.proofs.lemmas.List.FromFn.{fill_by_all}
use Rattle.std.proofs.lemmas.Int.{ints}
use Rattle.std.proofs.lemmas.Bool.{cases_lt}
use Rattle.scan.specs.Axes.{Proper, edge_of}

-- an edge that there is
pub edge_at : (es : List ℤ) (i : ℕ) → i < length es → edge_of es i ≡ slice_index_or es i (pos 0)
edge_at es i l = let e : min i (length es - 1) ≡ i = omega arith in ap (λ k. slice_index_or es k (pos 0)) e

module _ (es : List ℤ) (proper : Proper es) where
  pub edge_within : (i : ℕ) → unsigned_abs (edge_of es i) ≤ 4194304
  edge_within i = proper.within (min i (length es - 1)) (omega (arith, proper.least))

  pub edge_rises : (i : ℕ) → edge_of es i ≤ℤ edge_of es (i + 1)
  edge_rises i =
      ⊎_elim
      (λ lt. let up = proper.rises i lt in rw (edge_at es i (omega arith), edge_at es (i + 1) lt) (omega (arith, ints)))
      (λ ge. let e : min i (length es - 1) ≡ min (i + 1) (length es - 1) = omega arith in
      let same = ap (λ k. slice_index_or es k (pos 0)) e in omega (arith, ints))
      (cases_lt (i + 1) (length es))

-- the list of the edges by their numbers
pub by_number : (es : List ℤ) → es ≡ map (edge_of es) (range_with_len 0 (length es))
by_number es = fill_by_all (edge_of es) es (length es) (pos 0) refl (λ i l. sym (edge_at es i l))
