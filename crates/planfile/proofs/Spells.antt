-- Bytes of which nothing is refused are those of the scan that they hold.
use Rattle.std.specs.Prelude.{◌≡◌, ℕ, suc, ◌%◌, ◌<◌, false, List, [], ◌∷◌, ◌++◌, map, length, ℤ, pos, negsuc, drop, None, int_lt, slice_index, slice_index_or, unsigned_abs}
use Rattle.std.proofs.Common.{refl, arith, ap, sym, ◌∙◌}
use Rattle.scan.proofs.Firsts.{first_none}
use Rattle.planfile.specs.Sections.{section_at, entry, end_of, start}
use Rattle.planfile.specs.FileChecks.{axes_check, section_check, pairs_check, distances_section, axis_section, directions_section, direction_count_in, steps_section, clearance, plan_check, first_no_step}
use Rattle.planfile.specs.Pairs.{headings_in, numbers_of}
use Rattle.planfile.specs.Plans.{scan_in}
use Rattle.planfile.specs.Written.{section_bytes, written}
use Rattle.planfile.proofs.FourBytes.{AreBytes}
use Rattle.planfile.proofs.Nones.{first_nothing, second_nothing, map_none}
use Rattle.planfile.proofs.SectionFacts.{section_count, section_takes}
use Rattle.planfile.proofs.SectionChecks.{section_known, pairs_known}
use Rattle.planfile.proofs.PairFacts.{numbers_back}
use Rattle.planfile.proofs.Parts.{distances_of, from_x, by_sections}

-- a list of two
two_of : (zs : List ℤ) → length zs ≡ 2 → zs ≡ slice_index_or zs 0 (pos 0) ∷ slice_index_or zs 1 (pos 0) ∷ []
two_of [] e = absurd (omega arith)
two_of (a ∷ []) e = absurd (omega arith)
two_of (a ∷ b ∷ []) e = refl
two_of (a ∷ b ∷ c ∷ zs) e = absurd (omega arith)

-- numbers of which none is negative, as unsigned numbers and back
unsigned_back : (zs : List ℤ) → ((i : ℕ) → i < length zs → int_lt (slice_index_or zs i (pos 0)) (pos 0) ≡ false) → map pos (map unsigned_abs zs) ≡ zs
unsigned_back [] least = refl
unsigned_back (pos n ∷ zs) least = ap (λ (rest : List ℤ). pos n ∷ rest) (unsigned_back zs (λ i l. least (suc i) (omega arith)))
unsigned_back (negsuc n ∷ zs) least = absurd (let first = least 0 (omega arith) in grind arith)

-- steps, as unsigned numbers and back
steps_back : (directions : ℕ) (zs : List ℤ) → first_no_step directions zs ≡ None → map pos (map unsigned_abs zs) ≡ zs
steps_back directions zs none = unsigned_back zs (λ i l. let step = first_none _ (length zs) none i l in grind arith)

-- what follows a section, rewritten
followed : (zs : List ℤ) {all after other : List ℕ} → all ≡ section_bytes zs ++ after → after ≡ other → all ≡ section_bytes zs ++ other
followed zs e f = e ∙ ap (λ (rest : List ℕ). section_bytes zs ++ rest) f

module _ (bytes : List ℕ) (fits : AreBytes bytes) where
  -- a section of which nothing is refused stands as it is written
  section_spelled : (p least most : ℕ) → section_check bytes p least most ≡ None → drop p bytes ≡ section_bytes (section_at bytes p) ++ drop (end_of bytes p) bytes
  section_spelled p least most e = section_takes bytes p fits (section_known bytes p least most e).2

  -- so is an axis
  axis_spelled : (p : ℕ) → axis_section bytes p ≡ None → drop p bytes ≡ section_bytes (section_at bytes p) ++ drop (end_of bytes p) bytes
  unfolding axis_section
  axis_spelled p e = section_spelled p 2 513 (first_nothing _ _ e)

  -- so are the distances
  distances_spelled : (p : ℕ) → distances_section bytes p ≡ None → drop p bytes ≡ section_bytes (entry bytes p 0 ∷ entry bytes p 1 ∷ []) ++ drop (end_of bytes p) bytes
  unfolding distances_section
  distances_spelled p e =
      let checked = first_nothing (section_check bytes p 2 2) _ e in
      let known = section_known bytes p 2 2 checked in
      let two : length (section_at bytes p) ≡ 2 = omega (arith, section_count bytes p, known.0, known.1) in
      section_spelled p 2 2 checked ∙ ap (λ (zs : List ℤ). section_bytes zs ++ drop (end_of bytes p) bytes) (two_of (section_at bytes p) two)

  -- so are the directions, whose numbers go two by two
  directions_spelled : (p : ℕ) → directions_section bytes p ≡ None → drop p bytes ≡ section_bytes (numbers_of (headings_in (section_at bytes p))) ++ drop (end_of bytes p) bytes
  unfolding directions_section
  directions_spelled p e =
      let checked = pairs_known bytes p 2048 (first_nothing (pairs_check bytes p 2048) _ e) in
      let even : length (section_at bytes p) % 2 ≡ 0 = rw (section_count bytes p) checked.1 in
      rw (numbers_back (section_at bytes p) even) (section_spelled p 0 2048 checked.0)

  -- so are the steps, which are not negative
  steps_spelled : (p directions : ℕ) → steps_section bytes p directions ≡ None → drop p bytes ≡ section_bytes (map pos (map unsigned_abs (section_at bytes p))) ++ drop (end_of bytes p) bytes
  unfolding steps_section
  steps_spelled p directions e =
      let checked = first_nothing (section_check bytes p 0 1024) _ e in
      let none = map_none _ (first_no_step directions (section_at bytes p)) (second_nothing (section_check bytes p 0 1024) _ e) in
      rw (steps_back directions (section_at bytes p) none) (section_spelled p 0 1024 checked)

  -- the plan, section by section
  sections_spelled : plan_check bytes ≡ None → bytes ≡ section_bytes (distances_of (scan_in bytes)) ++ from_x (scan_in bytes) (drop (start bytes 8) bytes)
  unfolding plan_check axes_check scan_in start
  sections_spelled e =
      let axes = first_nothing _ _ e in
      let x_on = second_nothing (distances_section bytes (start bytes 0)) _ axes in
      let y_on = second_nothing (axis_section bytes (start bytes 1)) _ x_on in
      let z_on = second_nothing (axis_section bytes (start bytes 2)) _ y_on in
      let column_on = second_nothing (axis_section bytes (start bytes 3)) _ z_on in
      let row_on = second_nothing (axis_section bytes (start bytes 4)) _ column_on in
      let clear_on = second_nothing (axes_check bytes) _ e in
      let directions_on = second_nothing (clearance bytes) _ clear_on in
      let distances = distances_spelled (start bytes 0) (first_nothing _ _ axes) in
      let x = axis_spelled (start bytes 1) (first_nothing _ _ x_on) in
      let y = axis_spelled (start bytes 2) (first_nothing _ _ y_on) in
      let z = axis_spelled (start bytes 3) (first_nothing _ _ z_on) in
      let column = axis_spelled (start bytes 4) (first_nothing _ _ column_on) in
      let row = axis_spelled (start bytes 5) row_on in
      let directions = directions_spelled (start bytes 6) (first_nothing _ _ directions_on) in
      let steps = steps_spelled (start bytes 7) (direction_count_in bytes) (second_nothing (directions_section bytes (start bytes 6)) _ directions_on) in
      let scan = scan_in bytes in
      followed (distances_of scan) distances (followed scan.x x (followed scan.y y (followed scan.z z (followed scan.column column (followed scan.row row (followed (numbers_of scan.directions) directions steps))))))

-- Bytes that nothing refuses are the written form of the scan that they hold, and then the rest.
pub spelled : (bytes : List ℕ) → ((i : ℕ) → slice_index bytes i < 256) → plan_check bytes ≡ None → bytes ≡ written (scan_in bytes) ++ drop (start bytes 8) bytes
spelled bytes fits e = sections_spelled bytes fits e ∙ sym (by_sections (scan_in bytes) (drop (start bytes 8) bytes))
