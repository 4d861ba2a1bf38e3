-- The run of a strip holds every cell that overlaps its stretch, and none that lies wholly to one side of it.
use Rattle.std.proofs.Common.{◌≡◌, ℕ, zero, suc, ◌+◌, ◌-◌, ◌<◌, ◌≤◌, Option, Some, None, List, length, slice_index_or, ℤ, pos, ◌≤ℤ◌, ◌<ℤ◌, arith}
use Rattle.std.specs.Option.{MatchOption, unwrap_or}
use Rattle.std.specs.Int.Signed.{≤ℤ_refl}
use Rattle.std.proofs.lemmas.Int.{ints}
use Rattle.sweeps.specs.Runs.{share, Rising, Covers}
use Rattle.geometry.proofs.Overlaps.{overlap_low, overlap_high, overlap_sym, overlap_most}

-- up to the first number of a range that passes, or to the range's end where none does, no number passes
pub fails_before : (r : Option ℕ) (start end : ℕ) (Yes No : ℕ → Type 0) → MatchOption r ((k : ℕ) → start ≤ k → k < end → No k) (λ i. (start ≤ i) × (i < end) × Yes i × ((k : ℕ) → start ≤ k → k < i → No k)) → (k : ℕ) → start ≤ k → k < unwrap_or r end → No k
fails_before None start end Yes No h = h
fails_before (Some i) start end Yes No h = h.3

module _ (es : List ℤ) (rises : Rising es) where
  abbrev edge : ℕ → ℤ
  edge i = slice_index_or es i (pos 0)

  climbs : (i d : ℕ) → i + d < length es → edge i ≤ℤ edge (i + d)
  climbs i zero l = let e : i + 0 ≡ i = omega arith in rw e (≤ℤ_refl (edge i))
  climbs i (suc d) l =
      let e : i + suc d ≡ (i + d) + 1 = omega arith in
      let a = climbs i d (omega arith) in
      let b = rises (i + d) (omega arith) in
      rw e (omega (arith, ints))

  -- edges by number, one not below another
  edge_le : (i j : ℕ) → i ≤ j → j < length es → edge i ≤ℤ edge j
  edge_le i j le l = let e : i + (j - i) ≡ j = omega arith in rw e at (climbs i (j - i) (omega arith))

  -- up to `down` by its edge, and from there up to `first` one by one
  pub edges_before : (low : ℤ) (down first : ℕ) → down ≤ first → first < length es → (0 < down → edge down ≤ℤ low) → ((i : ℕ) → down ≤ i → i < first → edge (i + 1) ≤ℤ low) → (i : ℕ) → i < first → edge (i + 1) ≤ℤ low
  edges_before low down first le l below passed i h =
      let up : i < down → edge (i + 1) ≤ℤ edge down = λ lt. edge_le (i + 1) down (omega arith) (omega arith) in
      grind (arith, ints, up, passed)

  -- a run ends at the first cell past the stretch, or is empty where the stretch is
  pub covers_run : (low high : ℤ) → low ≤ℤ high → (first last : ℕ) → first ≤ last → last < length es → ((i : ℕ) → i < first → edge (i + 1) ≤ℤ low) → (low <ℤ high → last + 1 < length es → high ≤ℤ edge last)
      → (first + 1 < length es → low <ℤ edge (first + 1)) → ((i : ℕ) → first ≤ i → i < last → edge i <ℤ high) → Covers es low high first last
  covers_run low high ordered first last run ends passed beyond met before =
      record {
        run = run;
        ends = omega arith;
        meets = λ i le l.
            let up = edge_le (first + 1) (i + 1) (omega arith) (omega arith) in
            let above = met (omega arith) in
            (before i le l, omega (arith, ints));
        before = λ i h. overlap_low (edge i) (edge (i + 1)) low high (rises i (omega arith)) ordered (passed i h);
        after = λ i le l.
            let high_is : high ≤ℤ edge i → share es low high i ≡ 0 = overlap_high (edge i) (edge (i + 1)) low high (rises i l) ordered in
            let a = edge_le last i le (omega arith) in
            let b : low <ℤ high → high ≤ℤ edge last = λ h. beyond h (omega arith) in
            let e = overlap_sym (edge i) (edge (i + 1)) low high in
            let most = overlap_most low high (edge i) (edge (i + 1)) in
            grind (arith, ints, high_is, b);
      }
