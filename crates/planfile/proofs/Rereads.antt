-- A scan that is written is read again.
use Rattle.std.specs.Prelude.{◌≡◌, ℕ, ◌^◌, ◌<◌, ◌≤◌, List, [], ◌∷◌, ◌++◌, map, length, ℤ, pos, drop, None, slice_index_or, unsigned_abs}
use Rattle.std.proofs.Common.{refl, arith, ap, ◌∙◌}
use Rattle.std.proofs.lemmas.List.{length-map}
use Rattle.scan.specs.Axes.{Proper}
use Rattle.scan.specs.Limits.{Fitted}
use Rattle.scan.specs.Scans.{Scan}
use Rattle.scan.specs.ViewDirections.{direction_count}
use Rattle.planfile.specs.Sections.{section_at, start, entry}
use Rattle.planfile.specs.Pairs.{headings_in, numbers_of}
use Rattle.planfile.specs.FileChecks.{refused_in, distances_section, axis_section, directions_section, direction_count_in, steps_section, clearance, axes_check, plan_check}
use Rattle.planfile.specs.Plans.{scan_in}
use Rattle.planfile.specs.Written.{section_bytes, written}
use Rattle.planfile.proofs.Nones.{none_or, none_map}
use Rattle.planfile.proofs.SectionFacts.{Stands, section_again}
use Rattle.planfile.proofs.SectionChecks.{section_passes, pairs_pass}
use Rattle.planfile.proofs.PairFacts.{numbers_many, headings_back, directions_few}
use Rattle.planfile.proofs.Parts.{distances_of, from_x, from_y, from_z, from_column, from_row, from_directions, from_steps, by_sections}
use Rattle.planfile.proofs.Fine.{edges_fine, distances_fine, source_fine, columns_fine, steps_fine, headings_fine, edges_small, distances_small, steps_small, headings_small}

-- an axis that is written is read again
axis_again : (es : List ℤ) (bytes : List ℕ) (p : ℕ) (rest : List ℕ) → Proper es → drop p bytes ≡ section_bytes es ++ rest → Stands bytes p es rest
axis_again es bytes p rest proper e = section_again es bytes p rest (omega (arith, proper.most)) (edges_small es proper) e

-- nothing is found of an axis
axis_passes : (es : List ℤ) (bytes : List ℕ) (p : ℕ) (rest : List ℕ) → Proper es → Stands bytes p es rest → axis_section bytes p ≡ None
unfolding axis_section
axis_passes es bytes p rest proper stands = none_or (section_passes 2 513 stands proper.least proper.most) (none_map (refused_in p) (rw stands.numbers (edges_fine es proper)))

-- scans of the same numbers are the same
same_scan : (made scan : Scan) → made.source ≡ scan.source → made.panel ≡ scan.panel → made.x ≡ scan.x → made.y ≡ scan.y → made.z ≡ scan.z → made.column ≡ scan.column → made.row ≡ scan.row → made.directions ≡ scan.directions → made.steps ≡ scan.steps → made ≡ scan
same_scan made scan a b c d e f g h i =
    let same : record made { source = made.source } ≡ record scan { source = scan.source } = cc in same

-- steps as signed numbers and back
signed_back : (steps : List ℕ) → map unsigned_abs (map pos steps) ≡ steps
signed_back [] = refl
signed_back (step ∷ steps) = ap (λ (rest : List ℕ). step ∷ rest) (signed_back steps)

module _ (scan : Scan) (fit : Fitted scan) (bytes rest : List ℕ) where
  -- the sections of a scan, each where it begins
  record Laid : Type 0 where
    distances : Stands bytes (start bytes 0) (distances_of scan) (from_x scan rest)
    x : Stands bytes (start bytes 1) scan.x (from_y scan rest)
    y : Stands bytes (start bytes 2) scan.y (from_z scan rest)
    z : Stands bytes (start bytes 3) scan.z (from_column scan rest)
    column : Stands bytes (start bytes 4) scan.column (from_row scan rest)
    row : Stands bytes (start bytes 5) scan.row (from_directions scan rest)
    directions : Stands bytes (start bytes 6) (numbers_of scan.directions) (from_steps scan rest)
    steps : Stands bytes (start bytes 7) (map pos scan.steps) rest

  laid : bytes ≡ section_bytes (distances_of scan) ++ from_x scan rest → Laid
  unfolding start
  laid e =
      let s0 : Stands bytes (start bytes 0) (distances_of scan) (from_x scan rest) = section_again (distances_of scan) bytes 0 (from_x scan rest) (omega arith) (distances_small scan.source scan.panel fit.source_least fit.source_most fit.panel_least fit.panel_most) e in
      let s1 : Stands bytes (start bytes 1) scan.x (from_y scan rest) = axis_again scan.x bytes (start bytes 1) (from_y scan rest) fit.x s0.after in
      let s2 : Stands bytes (start bytes 2) scan.y (from_z scan rest) = axis_again scan.y bytes (start bytes 2) (from_z scan rest) fit.y s1.after in
      let s3 : Stands bytes (start bytes 3) scan.z (from_column scan rest) = axis_again scan.z bytes (start bytes 3) (from_column scan rest) fit.z s2.after in
      let s4 : Stands bytes (start bytes 4) scan.column (from_row scan rest) = axis_again scan.column bytes (start bytes 4) (from_row scan rest) fit.column s3.after in
      let s5 : Stands bytes (start bytes 5) scan.row (from_directions scan rest) = axis_again scan.row bytes (start bytes 5) (from_directions scan rest) fit.row s4.after in
      let listed : length (numbers_of scan.directions) < 2 ^ 32 = omega (arith, fit.accepted.most, numbers_many scan.directions) in
      let s6 : Stands bytes (start bytes 6) (numbers_of scan.directions) (from_steps scan rest) = section_again (numbers_of scan.directions) bytes (start bytes 6) (from_steps scan rest) listed (headings_small scan.directions fit.accepted.accepted) s5.after in
      let few : length (map pos scan.steps) < 2 ^ 32 = omega (arith, fit.views, length-map scan.steps pos) in
      let s7 : Stands bytes (start bytes 7) (map pos scan.steps) rest = section_again (map pos scan.steps) bytes (start bytes 7) rest few (steps_small (direction_count (length scan.directions)) scan.steps (directions_few (length scan.directions) fit.accepted.most) fit.steps) s6.after in
      record { distances = s0; x = s1; y = s2; z = s3; column = s4; row = s5; directions = s6; steps = s7 }

  -- an entry of the distances
  entry_is : Laid → (i : ℕ) → entry bytes (start bytes 0) i ≡ slice_index_or (distances_of scan) i (pos 0)
  entry_is l i = rw l.distances.numbers refl

  -- nothing is found of the distances
  distances_pass : Laid → distances_section bytes (start bytes 0) ≡ None
  unfolding distances_section
  distances_pass l =
      let far = distances_fine scan.source scan.panel fit.source_least fit.source_most fit.panel_least fit.panel_most in
      none_or (section_passes 2 2 l.distances (omega arith) (omega arith)) (none_map (refused_in (start bytes 0)) (rw (entry_is l 0, entry_is l 1) far))

  -- nothing is found of what has to lie clear
  clearance_passes : Laid → clearance bytes ≡ None
  unfolding clearance
  clearance_passes l =
      let clear = source_fine scan.source scan.x scan.y fit.clear in
      let nearer = columns_fine scan.panel scan.column fit.nearer in
      none_or (none_map (refused_in (start bytes 0)) (rw (entry_is l 0, l.x.numbers, l.y.numbers) clear)) (none_map (refused_in (start bytes 4)) (rw (entry_is l 1, l.column.numbers) nearer))

  -- the directions are those that the bytes hold
  directions_are : Laid → headings_in (section_at bytes (start bytes 6)) ≡ scan.directions
  directions_are l = ap headings_in l.directions.numbers ∙ headings_back scan.directions

  -- nothing is found of the directions
  directions_pass : Laid → directions_section bytes (start bytes 6) ≡ None
  unfolding directions_section
  directions_pass l =
      let many = numbers_many scan.directions in
      none_or (pairs_pass 2048 l.directions (omega (arith, many)) (omega (arith, fit.accepted.most, many)))
      (none_map _ (rw (directions_are l) (headings_fine scan.directions fit.accepted)))

  -- nothing is found of the steps
  steps_pass : Laid → steps_section bytes (start bytes 7) (direction_count_in bytes) ≡ None
  unfolding steps_section
  steps_pass l =
      let few : length (map pos scan.steps) ≤ 1024 = omega (arith, fit.views, length-map scan.steps pos) in
      rw (directions_are l)
      (none_or (section_passes 0 1024 l.steps (omega arith) few) (none_map _ (rw l.steps.numbers (steps_fine (direction_count (length scan.directions)) scan.steps fit.steps))))

  -- nothing is found of the plan
  nothing : Laid → plan_check bytes ≡ None
  unfolding plan_check axes_check
  nothing l =
      none_or
      (none_or (distances_pass l)
      (none_or (axis_passes scan.x bytes (start bytes 1) (from_y scan rest) fit.x l.x)
      (none_or (axis_passes scan.y bytes (start bytes 2) (from_z scan rest) fit.y l.y)
      (none_or (axis_passes scan.z bytes (start bytes 3) (from_column scan rest) fit.z l.z)
      (none_or (axis_passes scan.column bytes (start bytes 4) (from_row scan rest) fit.column l.column)
      (axis_passes scan.row bytes (start bytes 5) (from_directions scan rest) fit.row l.row))))))
      (none_or (clearance_passes l) (none_or (directions_pass l) (steps_pass l)))

  -- the scan is the one that the bytes hold
  held : Laid → scan_in bytes ≡ scan
  unfolding scan_in
  held l = same_scan _ scan (entry_is l 0) (entry_is l 1) l.x.numbers l.y.numbers l.z.numbers l.column.numbers l.row.numbers (directions_are l) (ap (map unsigned_abs) l.steps.numbers ∙ signed_back scan.steps)

  -- what follows the plan is the rest
  followed : Laid → drop (start bytes 8) bytes ≡ rest
  unfolding start
  followed l = l.steps.after

-- A proper scan, written and followed by any bytes, is refused by nothing, is the scan that those bytes hold, and what follows the plan is those bytes.
pub reread : (scan : Scan) (rest : List ℕ) → Fitted scan → (plan_check (written scan ++ rest) ≡ None) × (scan_in (written scan ++ rest) ≡ scan) × (drop (start (written scan ++ rest) 8) (written scan ++ rest) ≡ rest)
reread scan rest fit =
    let bytes = written scan ++ rest in
    let l = laid scan fit bytes rest (by_sections scan rest) in (nothing scan fit bytes rest l, held scan fit bytes rest l, followed scan fit bytes rest l)
