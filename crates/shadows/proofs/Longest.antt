-- How long the longest file is that is not refused: where the section of the voxels ends, from the numbers of every section.
use Rattle.std.specs.Prelude.{◌≡◌, ℕ, suc, ◌≤◌, List, length, None, unsigned_abs}
use Rattle.std.proofs.Common.{refl, arith}
use Rattle.std.proofs.lemmas.List.{length-map}
use Rattle.scan.specs.Axes.{cells_of}
use Rattle.scan.specs.Scans.{voxels_of, places_of}
use Rattle.planfile.specs.Sections.{place_of, section_at, end_of, start}
use Rattle.planfile.specs.FileChecks.{section_check, distances_section, axis_section, directions_section, direction_count_in, steps_section, clearance, axes_check, plan_check}
use Rattle.planfile.specs.Plans.{scan_in}
use Rattle.planfile.proofs.Nones.{first_nothing, second_nothing}
use Rattle.planfile.proofs.SectionChecks.{section_known, pairs_known}
use Rattle.planfile.proofs.SectionFacts.{section_count}
use Rattle.shadows.proofs.Most.{axes_most, views_most}

-- section k has between so many numbers, and the next begins where they end
record Counted (bytes : List ℕ) (k least most : ℕ) : Type 0 where
  some : least ≤ length (section_at bytes (start bytes k))
  few : length (section_at bytes (start bytes k)) ≤ most
  next : start bytes (suc k) ≡ place_of (start bytes k) (length (section_at bytes (start bytes k)))

-- a section has so many numbers where its check finds nothing
counted : (bytes : List ℕ) (k least most : ℕ) → section_check bytes (start bytes k) least most ≡ None → Counted bytes k least most
unfolding start end_of
counted bytes k least most none =
    let known = section_known bytes (start bytes k) least most none in
    let count = section_count bytes (start bytes k) in
    record { some = omega (arith, known.0); few = omega (arith, known.1); next = omega arith }

-- an axis has 2 to 513 edges
axis_counted : (bytes : List ℕ) (k : ℕ) → axis_section bytes (start bytes k) ≡ None → Counted bytes k 2 513
unfolding axis_section
axis_counted bytes k none = counted bytes k 2 513 (first_nothing _ _ none)

-- how many numbers the distances and the five axes have
record AxesCounted (bytes : List ℕ) : Type 0 where
  distances : Counted bytes 0 2 2
  x : Counted bytes 1 2 513
  y : Counted bytes 2 2 513
  z : Counted bytes 3 2 513
  column : Counted bytes 4 2 513
  row : Counted bytes 5 2 513

-- they have so many where the check of the axes finds nothing
axes_counted : (bytes : List ℕ) → axes_check bytes ≡ None → AxesCounted bytes
unfolding axes_check distances_section
axes_counted bytes none =
    let from_x = second_nothing _ _ none in
    let from_y = second_nothing _ _ from_x in
    let from_z = second_nothing _ _ from_y in
    let from_column = second_nothing _ _ from_z in
    record {
      distances = counted bytes 0 2 2 (first_nothing _ _ (first_nothing _ _ none));
      x = axis_counted bytes 1 (first_nothing _ _ from_x);
      y = axis_counted bytes 2 (first_nothing _ _ from_y);
      z = axis_counted bytes 3 (first_nothing _ _ from_z);
      column = axis_counted bytes 4 (first_nothing _ _ from_column);
      row = axis_counted bytes 5 (second_nothing _ _ from_column);
    }

-- there are at most 1,024 directions, of two numbers each
directions_counted : (bytes : List ℕ) → directions_section bytes (start bytes 6) ≡ None → Counted bytes 6 0 2048
unfolding directions_section
directions_counted bytes none = counted bytes 6 0 2048 (pairs_known bytes (start bytes 6) 2048 (first_nothing _ _ none)).0

-- there are at most 1,024 steps
steps_counted : (bytes : List ℕ) (directions : ℕ) → steps_section bytes (start bytes 7) directions ≡ None → Counted bytes 7 0 1024
unfolding steps_section
steps_counted bytes directions none = counted bytes 7 0 1024 (first_nothing _ _ none)

-- the first section begins at place 0
first_start : (bytes : List ℕ) → start bytes 0 ≡ 0
unfolding start
first_start bytes = refl

-- with sections of so many numbers, a plan that is not too large ends with its voxels after 30,840 bytes at most
counted_end : (bytes : List ℕ) → AxesCounted bytes → Counted bytes 6 0 2048 → Counted bytes 7 0 1024 → voxels_of (scan_in bytes) ≤ 4096 → places_of (scan_in bytes) ≤ 4096 → place_of (start bytes 8) (voxels_of (scan_in bytes)) ≤ 30840
unfolding scan_in
counted_end bytes axes directions steps voxels places =
    let cells : ℕ → ℕ = λ k. cells_of (section_at bytes (start bytes k)) in
    let first = first_start bytes in
    let views = length-map (section_at bytes (start bytes 7)) unsigned_abs in
    let edges = axes_most (cells 1) (cells 2) (cells 3) (omega arith) (omega arith) (omega arith) (omega arith) (omega arith) (omega arith) voxels in
    let seen = views_most (length (section_at bytes (start bytes 7))) (cells 5) (cells 4) (omega arith) (omega arith) (omega arith) (omega arith) (omega arith) (rw views at places) in
    omega arith

-- where nothing is found of a plan, and it is not too large, its voxels end after 30,840 bytes at most
pub longest_end : (bytes : List ℕ) → plan_check bytes ≡ None → voxels_of (scan_in bytes) ≤ 4096 → places_of (scan_in bytes) ≤ 4096 → place_of (start bytes 8) (voxels_of (scan_in bytes)) ≤ 30840
unfolding plan_check
longest_end bytes none =
    let on = second_nothing (clearance bytes) _ (second_nothing (axes_check bytes) _ none) in
    counted_end bytes (axes_counted bytes (first_nothing _ _ none)) (directions_counted bytes (first_nothing _ _ on)) (steps_counted bytes (direction_count_in bytes) (second_nothing _ _ on))
