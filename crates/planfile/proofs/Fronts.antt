-- Bytes that are the same up to a place: the same is found of them before that place.
use Rattle.std.specs.Prelude.{◌≡◌, ℕ, suc, ◌+◌, ◌*◌, ◌<◌, ◌≤◌, List, length, ℤ, pos, take, Option, nat_lt, slice_index, slice_index_or}
use Rattle.std.specs.Int.{w32, cast_signed}
use Rattle.std.specs.Option.{option_or, option_map}
use Rattle.std.proofs.Common.{refl, sym, ap, ◌∙◌, arith}
use Rattle.std.proofs.lemmas.Bool.{le-ltb}
use Rattle.std.proofs.lemmas.Bool.Decides.{nat_tests}
use Rattle.std.proofs.lemmas.List.{get_or-take, length-take-le}
use Rattle.std.proofs.lemmas.List.FromFn.{fill_by_all}
use Rattle.scan.specs.AxisChecks.{count_check, edges_check}
use Rattle.scan.specs.DraftChecks.{distances_check}
use Rattle.scan.specs.Verdicts.{refused_where}
use Rattle.scan.specs.declared.refusal.Refusal.TheVariants.{StepOutOfRange}
use Rattle.scan.proofs.Propers.{count_within}
use Rattle.planfile.specs.Numbers.{count_at, number_at, numbers_from}
use Rattle.planfile.specs.Sections.{place_of, section_at, end_of, start}
use Rattle.planfile.specs.Faults.{refused_at}
use Rattle.planfile.specs.FileChecks.{whole_check, limits_check, numbers_check, section_check, even_check, pairs_check, refused_in, distances_section, axis_section, circle_check, directions_section, direction_count_in, first_no_step, steps_section, clearance, axes_check, plan_check, voxels_check}
use Rattle.planfile.specs.Pairs.{headings_in}
use Rattle.planfile.specs.Plans.{scan_in}
use Rattle.planfile.specs.declared.fault.Fault.{Fault}
use Rattle.planfile.specs.declared.fault.Fault.TheVariants.{Incomplete, Trailing}
use Rattle.planfile.proofs.Agreements.{Agree, nothing_found, and_then, giving}
use Rattle.planfile.proofs.Nones.{none_where, map_none}
use Rattle.planfile.proofs.NumberChecks.{all_whole}
use Rattle.planfile.proofs.NumberFacts.{how_many, number_from}

-- both have n bytes, and their first n are the same
pub record SameFront (n : ℕ) (bytes other : List ℕ) : Type 0 where
  pub each : (p : ℕ) → p < n → slice_index bytes p ≡ slice_index other p
  pub long : n ≤ length bytes
  pub other_long : n ≤ length other

-- some bytes and their first n have the same front
pub front_of : (n : ℕ) (bytes : List ℕ) → n ≤ length bytes → SameFront n bytes (take n bytes)
front_of n bytes l = record {
  each = λ p below. sym (get_or-take n bytes p 0 below);
  long = l;
  other_long = omega (arith, length-take-le n bytes l);
}

-- some bytes have the same front as themselves
pub itself : (n : ℕ) (bytes : List ℕ) → n ≤ length bytes → SameFront n bytes bytes
itself n bytes l = record { each = λ p below. refl; long = l; other_long = l }

-- the section at place p, read from either: its numbers and its end are the same, and it ends where at most so many numbers do
pub record SameSection (bytes other : List ℕ) (p most : ℕ) : Type 0 where
  pub numbers : section_at bytes p ≡ section_at other p
  pub ends : end_of bytes p ≡ end_of other p
  pub within : end_of bytes p ≤ place_of p most

-- section k begins at the same place in both, which is no later than the bound
pub record Begins (bytes other : List ℕ) (k bound : ℕ) : Type 0 where
  pub place : start bytes k ≡ start other k
  pub within : start bytes k ≤ bound

-- section k begins at the same place in both, has the same numbers, and is followed by the next no later than the bound
pub record Passed (bytes other : List ℕ) (k bound : ℕ) : Type 0 where
  pub place : start bytes k ≡ start other k
  pub numbers : section_at bytes (start bytes k) ≡ section_at other (start other k)
  pub next : Begins bytes other (suc k) bound

-- the first section begins at place 0
first_begins : (bytes other : List ℕ) → Begins bytes other 0 0
unfolding start
first_begins bytes other = record { place = refl; within = omega arith }

-- a section is passed at the place where it begins
passed : {bytes other : List ℕ} {k bound : ℕ} (most : ℕ) → Begins bytes other k bound → SameSection bytes other (start bytes k) most → Passed bytes other k (place_of bound most)
unfolding start
passed {bytes} {other} {k} most begins section = record {
  place = begins.place;
  numbers = section.numbers ∙ ap (section_at other) begins.place;
  next = record {
    place = section.ends ∙ ap (end_of other) begins.place;
    within = let end = section.within in let from = begins.within in omega arith;
  };
}

module _ {n : ℕ} {bytes other : List ℕ} (front : SameFront n bytes other) where
  -- an unsigned number in the front is the same
  count_same : (p : ℕ) → p + 4 ≤ n → count_at bytes p ≡ count_at other p
  unfolding count_at
  count_same p l = rw (front.each p (omega arith), front.each (p + 1) (omega arith), front.each (p + 2) (omega arith), front.each (p + 3) (omega arith)) refl

  -- numbers in the front are the same
  numbers_same : (p k : ℕ) → p + 4 * k ≤ n → numbers_from bytes p k ≡ numbers_from other p k
  numbers_same p k l =
      fill_by_all (λ i. number_at other (p + 4 * i)) (numbers_from bytes p k) k (pos 0) (how_many bytes p k)
      (λ i below. number_from bytes p k i below ∙ ap (cast_signed w32) (count_same (p + 4 * i) (omega arith)))

  -- a section in the front is the same
  section_same : (p most : ℕ) → place_of p most ≤ n → count_at bytes p ≤ most → SameSection bytes other p most
  unfolding section_at end_of
  section_same p most l few =
      let count = count_same p (omega arith) in
      record {
        numbers = numbers_same (p + 4) (count_at bytes p) (omega arith) ∙ ap (numbers_from other (p + 4)) count;
        ends = ap (place_of p) count;
        within = omega arith;
      }

  -- a number in the front is whole in both
  wholes_agree : (p : ℕ) → p + 4 ≤ n → Agree (whole_check bytes p) (whole_check other p) (Unit {0})
  wholes_agree p l =
      let long = front.long in
      let other_long = front.other_long in
      nothing_found (none_where (Incomplete p) (le-ltb (length bytes) (p + 4) (omega arith))) (none_where (Incomplete p) (le-ltb (length other) (p + 4) (omega arith))) tt

  -- a count in the front is refused in both, or lies within its limits
  counts_agree : (p least most : ℕ) → p + 4 ≤ n
      → Agree (option_map (refused_at p) (count_check (count_at bytes p) least most)) (option_map (refused_at p) (count_check (count_at other p) least most)) (count_at bytes p ≤ most)
  counts_agree p least most l = record {
    same = rw (count_same p l) refl;
    known = λ none. (count_within (count_at bytes p) least most (map_none (refused_at p) _ none)).1;
  }

  -- so is a count that is not whole
  limits_agree : (p least most : ℕ) → p + 4 ≤ n → Agree (limits_check bytes p least most) (limits_check other p least most) (count_at bytes p ≤ most)
  limits_agree p least most l = and_then _ _ (wholes_agree p l) (λ _. counts_agree p least most l)

  -- numbers in the front are whole in both
  numbers_agree : (p least most : ℕ) → place_of p most ≤ n → count_at bytes p ≤ most
      → Agree (numbers_check bytes (p + 4) (count_at bytes p)) (numbers_check other (p + 4) (count_at other p)) (SameSection bytes other p most)
  numbers_agree p least most l few =
      let long = front.long in
      let other_long = front.other_long in
      let count = count_same p (omega arith) in
      nothing_found (all_whole bytes (p + 4) (count_at bytes p) (omega arith)) (all_whole other (p + 4) (count_at other p) (omega arith)) (section_same p most l few)

  -- the check of a section that lies in the front, if it has at most so many numbers, finds the same
  sections_agree : (p least most : ℕ) → place_of p most ≤ n → Agree (section_check bytes p least most) (section_check other p least most) (SameSection bytes other p most)
  unfolding section_check
  sections_agree p least most l = and_then _ _ (limits_agree p least most (omega arith)) (numbers_agree p least most l)

  -- so does a further check of its numbers
  contents_agree : (check : List ℤ → Option Fault) (p least most : ℕ) → place_of p most ≤ n
      → Agree (option_or (section_check bytes p least most) (check (section_at bytes p))) (option_or (section_check other p least most) (check (section_at other p))) (SameSection bytes other p most)
  contents_agree check p least most l =
      and_then _ _ (sections_agree p least most l) (λ section. record { same = ap check section.numbers; known = λ _. section })

  -- what agrees at a place agrees where the places are the same
  there : {P : Type 0} (check : List ℕ → ℕ → Option Fault) {p q : ℕ} → p ≡ q → Agree (check bytes p) (check other p) P → Agree (check bytes p) (check other q) P
  there check e agree = record { same = agree.same ∙ ap (check other) e; known = agree.known }

  -- where the check of a section finds the same at each place, it does where section k begins
  at_start : (check : List ℕ → ℕ → Option Fault) (k bound most : ℕ) → ((p : ℕ) → place_of p most ≤ n → Agree (check bytes p) (check other p) (SameSection bytes other p most)) → place_of bound most ≤ n
      → Begins bytes other k bound → Agree (check bytes (start bytes k)) (check other (start other k)) (Passed bytes other k (place_of bound most))
  at_start check k bound most agree l begins =
      let within = begins.within in
      there check begins.place (giving (passed most begins) (agree (start bytes k) (omega arith)))

  -- the check of the section of the distances finds the same
  distances_agree : (p : ℕ) → place_of p 2 ≤ n → Agree (distances_section bytes p) (distances_section other p) (SameSection bytes other p 2)
  unfolding distances_section
  distances_agree p l = contents_agree (λ zs. option_map (refused_in p) (distances_check (slice_index_or zs 0 (pos 0)) (slice_index_or zs 1 (pos 0)))) p 2 2 l

  -- the check of the section of an axis finds the same
  axis_agrees : (p : ℕ) → place_of p 513 ≤ n → Agree (axis_section bytes p) (axis_section other p) (SameSection bytes other p 513)
  unfolding axis_section
  axis_agrees p l = contents_agree (λ zs. option_map (refused_in p) (edges_check zs)) p 2 513 l

  -- so does that of a section of pairs
  pairs_agree : (p most : ℕ) → place_of p most ≤ n → Agree (pairs_check bytes p most) (pairs_check other p most) (SameSection bytes other p most)
  unfolding pairs_check
  pairs_agree p most l =
      and_then _ _ (limits_agree p 0 most (omega arith)) (λ few.
      and_then _ _ (record { same = ap (λ k. option_map (refused_at p) (even_check k)) (count_same p (omega arith)); known = λ _. few }) (numbers_agree p 0 most l))

  -- the check of the section of the directions finds the same
  directions_agree : (p : ℕ) → place_of p 2048 ≤ n → Agree (directions_section bytes p) (directions_section other p) (SameSection bytes other p 2048)
  unfolding directions_section
  directions_agree p l =
      and_then _ _ (pairs_agree p 2048 l) (λ section. record { same = ap (λ zs. circle_check p (headings_in zs)) section.numbers; known = λ _. section })

  -- the check of the section of the steps finds the same, where there are as many directions
  steps_agree : (directions p : ℕ) → place_of p 1024 ≤ n → Agree (steps_section bytes p directions) (steps_section other p directions) (SameSection bytes other p 1024)
  unfolding steps_section
  steps_agree directions p l = contents_agree (λ zs. option_map (λ i. refused_at (place_of p i) (StepOutOfRange (slice_index_or zs i (pos 0)) directions)) (first_no_step directions zs)) p 0 1024 l

  -- the check of an axis finds the same where its section begins
  axis_at : (k bound : ℕ) → place_of bound 513 ≤ n → Begins bytes other k bound → Agree (axis_section bytes (start bytes k)) (axis_section other (start other k)) (Passed bytes other k (place_of bound 513))
  axis_at k bound = at_start axis_section k bound 513 axis_agrees

-- what is the same of the first six sections: the distances have at most 12 bytes, and each axis has at most 2,056
record SameAxes (bytes other : List ℕ) : Type 0 where
  distances : Passed bytes other 0 12
  x : Passed bytes other 1 2068
  y : Passed bytes other 2 4124
  z : Passed bytes other 3 6180
  column : Passed bytes other 4 8236
  row : Passed bytes other 5 10292

-- what is the same of a plan: the scan, and where the section of the voxels begins
pub record SamePlan (bytes other : List ℕ) : Type 0 where
  pub scan : scan_in bytes ≡ scan_in other
  pub voxels : start bytes 8 ≡ start other 8

module _ {n : ℕ} {bytes other : List ℕ} (front : SameFront n bytes other) (long : 22588 ≤ n) where
  -- the check of the first six sections finds the same
  axes_agree : Agree (axes_check bytes) (axes_check other) (SameAxes bytes other)
  unfolding axes_check
  axes_agree =
      and_then _ _ (at_start front distances_section 0 0 2 (distances_agree front) (omega arith) (first_begins bytes other)) (λ distances.
      and_then _ _ (axis_at front 1 12 (omega arith) distances.next) (λ x.
      and_then _ _ (axis_at front 2 2068 (omega arith) x.next) (λ y.
      and_then _ _ (axis_at front 3 4124 (omega arith) y.next) (λ z.
      and_then _ _ (axis_at front 4 6180 (omega arith) z.next) (λ column.
      giving (λ row. record { distances = distances; x = x; y = y; z = z; column = column; row = row }) (axis_at front 5 8236 (omega arith) column.next))))))

  -- what has to lie clear is checked the same
  clearances_agree : SameAxes bytes other → Agree (clearance bytes) (clearance other) (Unit {0})
  unfolding clearance
  clearances_agree axes = record {
    same = rw (axes.distances.numbers, axes.x.numbers, axes.y.numbers, axes.column.numbers, axes.distances.place, axes.column.place) refl;
    known = λ _. tt;
  }

  -- the scan is the same once all eight sections are
  scan_same : {bound more : ℕ} → SameAxes bytes other → Passed bytes other 6 bound → Passed bytes other 7 more → scan_in bytes ≡ scan_in other
  unfolding scan_in
  scan_same axes directions steps =
      rw (axes.distances.numbers, axes.x.numbers, axes.y.numbers, axes.z.numbers, axes.column.numbers, axes.row.numbers, directions.numbers, steps.numbers) refl

  -- the check of the steps finds the same once the directions are
  steps_at : {bound : ℕ} → place_of bound 1024 ≤ n → Passed bytes other 6 bound → Agree (steps_section bytes (start bytes 7) (direction_count_in bytes)) (steps_section other (start other 7) (direction_count_in other)) (Passed bytes other 7 (place_of bound 1024))
  steps_at {bound} l directions =
      rw (← directions.numbers) (at_start front (λ some at. steps_section some at (direction_count_in bytes)) 7 bound 1024 (steps_agree front (direction_count_in bytes)) l directions.next)

  -- the check of a plan finds the same where the front takes in so much, since the directions have at most 8,196 bytes and the steps 4,100
  pub plans_agree : Agree (plan_check bytes) (plan_check other) (SamePlan bytes other)
  unfolding plan_check
  plans_agree =
      and_then _ _ axes_agree (λ axes.
      and_then _ _ (clearances_agree axes) (λ _.
      and_then _ _ (at_start front directions_section 6 10292 2048 (directions_agree front) (omega arith) axes.row.next) (λ directions.
      giving (λ steps. record { scan = scan_same axes directions steps; voxels = steps.next.place }) (steps_at (omega arith) directions))))

module _ {n : ℕ} {bytes other : List ℕ} (front : SameFront n bytes other) where
  -- where a file ends before the front does, bytes follow it in both
  trailing_agree : (p q : ℕ) → p ≡ q → p < n → Agree (refused_where (nat_lt p (length bytes)) (Trailing p)) (refused_where (nat_lt q (length other)) (Trailing q)) ⊥
  trailing_agree p q e l =
      let long = front.long in
      let other_long = front.other_long in
      record { same = grind (arith, nat_tests); known = λ none. absurd (grind (arith, nat_tests, none)) }

  -- the check of voxels at a place finds the same, and finds something, where the front goes on after them
  voxels_here : (p voxels : ℕ) → place_of p voxels < n → Agree (voxels_check bytes p voxels) (voxels_check other p voxels) ⊥
  voxels_here p voxels l =
      and_then _ _ (sections_agree front p voxels voxels (omega arith)) (λ section. trailing_agree (end_of bytes p) (end_of other p) section.ends (let within = section.within in omega arith))

  -- so it does at two places that are the same
  pub voxels_agree : (p q voxels : ℕ) → p ≡ q → place_of p voxels < n → Agree (voxels_check bytes p voxels) (voxels_check other q voxels) ⊥
  voxels_agree p q voxels e l = there front (λ some at. voxels_check some at voxels) e (voxels_here p voxels l)
