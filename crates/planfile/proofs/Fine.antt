-- The values of a proper scan: no check finds anything of them, and each fits 32 bits.
use Rattle.std.specs.Prelude.{◌≡◌, ℕ, zero, suc, ◌+◌, ◌-◌, ◌^◌, ◌<◌, ◌≤◌, ◌||◌, false, true, not, List, [], ◌∷◌, map, length, ℤ, pos, ◌≤ℤ◌, None, int_lt, int_le, nat_lt, slice_index, slice_index_or, unsigned_abs}
use Rattle.std.specs.Int.{w32}
use Rattle.std.proofs.Common.{refl, ap, arith, ⊎_elim}
use Rattle.std.proofs.lemmas.Bool.{cases_lt, le-ltb}
use Rattle.std.proofs.lemmas.Bool.Decides.{nat_tests}
use Rattle.std.proofs.lemmas.Int.{ints, fits_signed_from_abs}
use Rattle.std.proofs.lemmas.List.{get_or_past}
use Rattle.scan.specs.Axes.{Proper}
use Rattle.scan.specs.AxisChecks.{edge_or_zero, edges_check, first_outside, first_not_rising}
use Rattle.geometry.specs.Circle.{is_accepted}
use Rattle.geometry.specs.declared.heading.Heading.{Heading}
use Rattle.geometry.proofs.Circles.{accepted_within}
use Rattle.scan.specs.DraftChecks.{distances_check, source_check, columns_check, first_off_circle}
use Rattle.scan.specs.ViewDirections.{heading_or_zero, AllAccepted}
use Rattle.scan.specs.Limits.{SourceClear, ColumnsNearer}
use Rattle.scan.specs.Numbered.{edge_at}
use Rattle.scan.specs.declared.refusal.Refusal.TheVariants.{NotRising, OutOfRange}
use Rattle.planfile.specs.FileChecks.{first_no_step}
use Rattle.planfile.specs.Pairs.{numbers_of}
use Rattle.planfile.proofs.Searches.{first_none_is}
use Rattle.planfile.proofs.Nones.{none_or, none_map, none_where}
use Rattle.planfile.proofs.SectionFacts.{Small}

-- nothing is found of the edges of an axis
pub edges_fine : (es : List ℤ) → Proper es → edges_check es ≡ None
edges_fine es proper =
    let inside : first_outside 4194304 es ≡ None = first_none_is (λ i. nat_lt 4194304 (unsigned_abs (edge_or_zero es i))) (length es) (λ i l. le-ltb 4194304 (unsigned_abs (edge_or_zero es i)) (proper.within i l)) in
    let rising : first_not_rising es ≡ None =
    first_none_is (λ i. int_le (edge_or_zero es (i + 1)) (edge_or_zero es i)) (length es - 1) (λ i l. let up = proper.rises i (omega arith) in grind (arith, ints)) in
    none_or (none_map (λ i. OutOfRange i (edge_or_zero es i)) inside) (none_map (λ i. NotRising (i + 1) (edge_or_zero es i) (edge_or_zero es (i + 1))) rising)

-- nothing is found of distances within their limits
pub distances_fine : (source panel : ℤ) → pos 1 ≤ℤ source → source ≤ℤ pos (2 ^ 24) → source ≤ℤ panel → panel ≤ℤ pos (2 ^ 25) → distances_check source panel ≡ None
distances_fine source panel a b c d =
    let e : int_lt source (pos 1) || int_lt (pos 16777216) source ≡ false = grind (arith, ints) in
    let f : int_lt panel source || int_lt (pos 33554432) panel ≡ false = grind (arith, ints) in
    none_or (none_where _ e) (none_where _ f)

-- nothing is found of a source that is far enough
pub source_fine : (source : ℤ) (x y : List ℤ) → SourceClear source x y → source_check source x y ≡ None
source_fine source x y clear = none_where _ (grind (arith, nat_tests))

-- nothing is found of columns that are near enough
pub columns_fine : (panel : ℤ) (column : List ℤ) → ColumnsNearer panel column → columns_check panel column ≡ None
columns_fine panel column nearer = none_map _ (first_none_is _ (length column) (λ i l. let near = nearer i l in rw (edge_at column i l) (grind (arith, nat_tests))))

-- a step, as a signed number
step_is : (steps : List ℕ) (i : ℕ) → slice_index_or (map pos steps) i (pos 0) ≡ pos (slice_index steps i)
step_is [] i = refl
step_is (step ∷ steps) zero = refl
step_is (step ∷ steps) (suc i) = step_is steps i

-- nothing is found of steps of which each is one of so many directions
pub steps_fine : (directions : ℕ) (steps : List ℕ) → ((v : ℕ) → slice_index steps v < directions) → first_no_step directions (map pos steps) ≡ None
steps_fine directions steps below = first_none_is _ (length (map pos steps)) (λ i l. let low = below i in rw (step_is steps i) (grind (arith, ints)))

-- the edges of an axis fit
pub edges_small : (es : List ℤ) → Proper es → Small es
edges_small es proper i =
    ⊎_elim
    (λ lt. fits_signed_from_abs w32 _ (omega (arith, proper.within i lt)))
    (λ ge. rw (get_or_past es i (pos 0) ge) (omega arith))
    (cases_lt i (length es))

-- the distances fit
pub distances_small : (source panel : ℤ) → pos 1 ≤ℤ source → source ≤ℤ pos (2 ^ 24) → source ≤ℤ panel → panel ≤ℤ pos (2 ^ 25) → Small (source ∷ panel ∷ [])
distances_small source panel a b c d zero = omega (arith, ints)
distances_small source panel a b c d (suc zero) = omega (arith, ints)
distances_small source panel a b c d (suc (suc i)) = omega (arith, ints)

-- the steps fit
pub steps_small : (directions : ℕ) (steps : List ℕ) → directions ≤ 1024 → ((v : ℕ) → slice_index steps v < directions) → Small (map pos steps)
steps_small directions steps few below i = let low = below i in rw (step_is steps i) (omega arith)

-- nothing is found of a list of directions
pub headings_fine : (hs : List Heading) → AllAccepted hs → first_off_circle hs ≡ None
headings_fine hs all = first_none_is _ (length hs) (λ i l. ap not (all.accepted i l))

-- the numbers of accepted headings fit
pub headings_small : (hs : List Heading) → ((i : ℕ) → i < length hs → is_accepted (heading_or_zero hs i) ≡ true) → Small (numbers_of hs)
headings_small [] accepted i = omega arith
headings_small (h ∷ hs) accepted zero = let near = accepted_within h (accepted 0 (omega arith)) in fits_signed_from_abs w32 h.c (omega (arith, near.0))
headings_small (h ∷ hs) accepted (suc zero) = let near = accepted_within h (accepted 0 (omega arith)) in fits_signed_from_abs w32 h.s (omega (arith, near.1))
headings_small (h ∷ hs) accepted (suc (suc i)) = headings_small hs (λ k l. accepted (suc k) (omega arith)) i
