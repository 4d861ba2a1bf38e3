-- Every view in turn: the stores after n views, and what one view more makes of them.
use Rattle.std.proofs.Common.{◌≡◌, ℕ, ◌+◌, ◌-◌, ◌*◌, ◌/◌, ◌%◌, ◌<◌, ◌≤◌, nat_lt, if◌then◌else◌, Result, Ok, Err, None, List, length, inl, inr, refl, sym, ap, ◌∙◌, add-mul, one-mul, arith}
use Rattle.std.specs.Result.{IsOk, result_err}
use Rattle.std.proofs.lemmas.Bool.{cases_lt}
use Rattle.std.proofs.lemmas.Bool.Decides.{nat_tests}
use Rattle.std.proofs.lemmas.Nat.{div-mul-add, mod-mul-add}
use Rattle.scan.specs.Verdicts.{unless_refused}
use Rattle.scan.specs.declared.refusal.Refusal.{Refusal}
use Rattle.values.specs.Laws.{Ops, Laws}
use Rattle.values.specs.Sums.{sum}
use Rattle.values.proofs.Sums.{sum_more}
use Rattle.calls.specs.Calls.{forward, back}
use Rattle.calls.specs.Stores.{built, at}
use Rattle.calls.specs.Systems.{System, voxels, places, in_view}
use Rattle.calls.proofs.Built.{length_built, at_built, built_same}
use Rattle.sweeps.specs.Checks.{sweep_check}
use Rattle.shadows.specs.EveryView.{projected, backprojected}

-- a sweep of a view that there is, between stores of the system's sizes, is not refused
not_refused : (s : System) (view volume working : ℕ) → view < s.views → volume ≡ voxels s → working ≡ places s → sweep_check s view volume working ≡ None
unfolding sweep_check
not_refused s view volume working known volume_is working_is = grind (arith, nat_tests)

-- what is not refused is done
done : (r : Result (Unit {0}) Refusal) → result_err r ≡ None → IsOk r
done (Ok u) e = refl
done (Err refusal) e = absurd (grind arith)

module _ {V : Type 0} (o : Ops V) (s : System) (cell : ℕ → ℕ → V) where
  -- what stands at place i after n views: its cell, where it is of one of these views, and else zero
  abbrev after : ℕ → ℕ → V
  after n i = if nat_lt i (n * s.cells) then cell (i / s.cells) (i % s.cells) else o.zero

module _ {V : Type 0} {o : Ops V} (laws : Laws o) (s : System) (cell : ℕ → ℕ → V) where
  zero_plus : (x : V) → o.plus o.zero x ≡ x
  zero_plus x = laws.plus_comm o.zero x ∙ laws.plus_zero x

  -- view n adds to its own places, which are zero, and to no other
  after_more : (n i : ℕ) → (if in_view s n i then o.plus (after o s cell n i) (cell n (i - n * s.cells)) else after o s cell n i) ≡ after o s cell (n + 1) i
  after_more n i =
      let more : (n + 1) * s.cells ≡ n * s.cells + s.cells = add-mul n 1 s.cells ∙ ap (λ k. n * s.cells + k) (one-mul s.cells) in
      elim (cases_lt i (n * s.cells)) [
        | inl before ↦ grind (arith, nat_tests)
        | inr from ↦
            elim (cases_lt i (n * s.cells + s.cells)) [
              | inl here ↦
                  let whole : n * s.cells + (i - n * s.cells) ≡ i = omega arith in
                  let view : i / s.cells ≡ n = rw whole at (div-mul-add n s.cells (i - n * s.cells) (omega arith)) in
                  let within : i % s.cells ≡ i - n * s.cells = rw whole at (mod-mul-add n s.cells (i - n * s.cells) (omega arith)) in
                  rw (view, within) (grind (arith, nat_tests, zero_plus))
              | inr past ↦ grind (arith, nat_tests)
            ]
      ]

module _ {V : Type 0} (o : Ops V) (s : System) (f : V) (volume : List V) where
  -- what forward adds to cell c of view v
  abbrev cell_of : ℕ → ℕ → V
  cell_of v c = o.times f (sum o (voxels s) (λ x. o.multiple (at o volume x) (s.weight v x c)))

  -- the cells as they are after n views
  pub record ProjectedTo (n : ℕ) (working : List V) : Type 0 where
    pub are : working ≡ built (places s) (after o s cell_of n)

module _ {V : Type 0} {o : Ops V} {s : System} {f : V} {volume : List V} where
  -- before the first view
  pub projecting : {working : List V} → working ≡ built (places s) (λ i. o.zero) → ProjectedTo o s f volume 0 working
  projecting zeros = record { are = zeros ∙ built_same o (places s) _ _ (λ i l. grind (arith, nat_tests)) }

  module _ {n : ℕ} {working : List V} (to : ProjectedTo o s f volume n working) where
    -- after the last
    pub projecting_end : n ≤ s.views → s.views ≤ n → working ≡ projected o s f volume
    unfolding projected
    projecting_end most least =
        let all : n ≡ s.views = omega arith in
        rw all at to.are ∙ built_same o (places s) _ _ (λ i l. grind (arith, nat_tests))

    module _ (known : n < s.views) (volume_is : length volume ≡ voxels s) where
      forward_goes : sweep_check s n (length volume) (length working) ≡ None
      forward_goes = not_refused s n (length volume) (length working) known volume_is (ap length to.are ∙ length_built _ _)

      pub forward_done : (r : Result (Unit {0}) Refusal) → result_err r ≡ sweep_check s n (length volume) (length working) → IsOk r
      forward_done r answer = done r (answer ∙ forward_goes)

      -- one view more
      pub projecting_more : Laws o → {new : List V} → new ≡ unless_refused (sweep_check s n (length volume) (length working)) (forward o s n f volume working) working → ProjectedTo o s f volume (n + 1) new
      unfolding forward
      projecting_more laws left = record {
        are = rw forward_goes at left ∙ built_same o (places s) _ _ (λ i l. rw (to.are, at_built o (places s) _ i l) (after_more laws s (cell_of o s f volume) n i));
      }

module _ {V : Type 0} (o : Ops V) (s : System) (f : V) (working : List V) where
  -- what back from view v adds to voxel x
  abbrev gain_of : ℕ → ℕ → V
  gain_of x v = o.times f (sum o s.cells (λ c. o.multiple (at o working (v * s.cells + c)) (s.weight v x c)))

  -- the voxels as they are after n views
  pub record BackprojectedTo (n : ℕ) (volume : List V) : Type 0 where
    pub are : volume ≡ built (voxels s) (λ x. sum o n (gain_of x))

module _ {V : Type 0} {o : Ops V} {s : System} {f : V} {working : List V} where
  -- before the first view
  pub backprojecting : {volume : List V} → volume ≡ built (voxels s) (λ x. o.zero) → BackprojectedTo o s f working 0 volume
  unfolding sum
  backprojecting zeros = record { are = zeros }

  module _ {n : ℕ} {volume : List V} (to : BackprojectedTo o s f working n volume) where
    -- after the last
    pub backprojecting_end : n ≤ s.views → s.views ≤ n → volume ≡ backprojected o s f working
    unfolding backprojected
    backprojecting_end most least =
        let all : n ≡ s.views = omega arith in
        rw all at to.are

    module _ (known : n < s.views) (working_is : length working ≡ places s) where
      back_goes : sweep_check s n (length volume) (length working) ≡ None
      back_goes = not_refused s n (length volume) (length working) known (ap length to.are ∙ length_built _ _) working_is

      pub back_done : (r : Result (Unit {0}) Refusal) → result_err r ≡ sweep_check s n (length volume) (length working) → IsOk r
      back_done r answer = done r (answer ∙ back_goes)

      -- one view more
      pub backprojecting_more : Laws o → {new : List V} → new ≡ unless_refused (sweep_check s n (length volume) (length working)) (back o s n f working volume) volume → BackprojectedTo o s f working (n + 1) new
      unfolding back
      backprojecting_more laws left = record {
        are = rw back_goes at left ∙ built_same o (voxels s) _ _ (λ x l. rw (to.are, at_built o (voxels s) _ x l) (sym (sum_more laws n (gain_of o s f working x))));
      }

-- a voxel for each place
pub length_backprojected : {V : Type 0} (o : Ops V) (s : System) (f : V) (working : List V) → length (backprojected o s f working) ≡ voxels s
unfolding backprojected
length_backprojected o s f working = length_built (voxels s) _
