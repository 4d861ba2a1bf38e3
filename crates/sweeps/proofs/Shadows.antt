-- In every view of a plan, overlaps add up to shadows.
use Rattle.std.proofs.Common.{◌≡◌, ℕ, zero, suc, ◌+◌, ◌⊎◌, inl, inr, ℤ, ◌≤ℤ◌, refl, ap₂, ◌∙◌, add-one}
use Rattle.values.specs.Naturals.{naturals}
use Rattle.values.specs.Sums.{sum}
use Rattle.geometry.specs.Overlap.{overlap, overlaps}
use Rattle.geometry.proofs.Overlaps.{conserved}
use Rattle.scan.specs.Fits.{fitted}
use Rattle.scan.specs.Landing.{Landing, Sound, slab_of, cross_of, height_of, cross_overlap, height_overlap}
use Rattle.scan.specs.Landings.{lands}
use Rattle.scan.specs.Meanings.{plan_of}
use Rattle.scan.specs.declared.plan.Plan.{Plan}
use Rattle.sweeps.specs.Shadows.{AddsUp, Conserved}

module _ (u0 u1 : ℤ) (S : ℕ → ℤ) where
  -- the sum of the overlaps with the stretches between neighbouring edges
  overlaps_sum : (n : ℕ) → sum naturals n (λ k. overlap u0 u1 (S k) (S (k + 1))) ≡ overlaps u0 u1 S n
  unfolding sum
  overlaps_sum zero = refl
  overlaps_sum (suc n) = rw add-one (ap₂ (λ a b. a + b) (overlaps_sum n) refl)

  -- along edges that go one way it is the overlap with the whole
  whole : (n : ℕ) → ((k : ℕ) → S k ≤ℤ S (k + 1)) ⊎ ((k : ℕ) → S (k + 1) ≤ℤ S k) → sum naturals n (λ k. overlap u0 u1 (S k) (S (k + 1))) ≡ overlap u0 u1 (S 0) (S n)
  whole n (inl up) = overlaps_sum n ∙ conserved u0 u1 S n (inl (λ k l. rw add-one at (up k)))
  whole n (inr down) = overlaps_sum n ∙ conserved u0 u1 S n (inr (λ k l. rw add-one at (down k)))

-- in a view that lands soundly
adds_up : (L : Landing) → Sound L → (x : ℕ) → AddsUp L x
unfolding cross_overlap height_overlap
adds_up L sound x =
    record {
      across = whole (L.U (slab_of L x) (cross_of L x)) (L.U (slab_of L x) (cross_of L x + 1)) L.S L.columns sound.S_one_way;
      down = λ k l. whole (L.W (slab_of L x) (height_of L x)) (L.W (slab_of L x) (height_of L x + 1)) (L.T k) L.rows (inl (sound.T_rises k));
    }

pub shadows : (plan : Plan) → Conserved (plan_of plan)
shadows plan view x known within = adds_up _ (lands (plan_of plan) (fitted plan.layout) view).sound x
