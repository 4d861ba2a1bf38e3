-- What is checked of the bytes of a plan and of its values, in which order, and the fault that follows with its place: of checks joined by `option_or` the first that refuses is the answer.
use Rattle.std.specs.Option.{option_or, option_map}
use Rattle.std.specs.Prelude.{ℕ, ◌+◌, ◌*◌, ◌%◌, not, List, length, ℤ, Option, nat_lt, ◌==◌}
use Rattle.geometry.specs.declared.heading.Heading.{Heading}
use Rattle.scan.specs.Verdicts.{refused_where, first_where}
use Rattle.scan.specs.Refusals.{place as edge_number}
use Rattle.scan.specs.AxisChecks.{edge_or_zero, count_check, edges_check}
use Rattle.scan.specs.DraftChecks.{distances_check, source_check, columns_check, first_off_circle, no_step}
use Rattle.scan.specs.ViewDirections.{direction_count, heading_or_zero}
use Rattle.scan.specs.declared.refusal.Refusal.{Refusal}
use Rattle.scan.specs.declared.refusal.Refusal.TheVariants.{NotMultiple, OffCircle, StepOutOfRange, StoreLength}
use Rattle.scan.specs.declared.refusal.Store.TheVariants.{Volume}
use Rattle.planfile.specs.Numbers.{count_at}
use Rattle.planfile.specs.Pairs.{headings_in}
use Rattle.planfile.specs.Sections.{place_of, section_at, entry, end_of, start}
use Rattle.planfile.specs.Faults.{refused_at}
use Rattle.planfile.specs.declared.fault.Fault.{Fault}
use Rattle.planfile.specs.declared.fault.Fault.TheVariants.{Incomplete, Trailing}

-- 1 where the bytes end before the number that begins at place p does.
abbrev pub whole_check : List ℕ → ℕ → Option Fault
whole_check bytes p = refused_where (nat_lt (length bytes) (p + 4)) (Incomplete p)

-- 1 for the first of n numbers, from place p on, that is not whole.
abbrev pub numbers_check : List ℕ → ℕ → ℕ → Option Fault
numbers_check bytes p n = option_map (λ i. Incomplete (p + 4 * i)) (first_where (λ i. nat_lt (length bytes) (p + 4 * i + 4)) n)

-- 1 for the count of the section at place p, and then 2 for a count outside these limits.
abbrev pub limits_check : List ℕ → ℕ → ℕ → ℕ → Option Fault
limits_check bytes p least most = option_or (whole_check bytes p) (option_map (refused_at p) (count_check (count_at bytes p) least most))

-- Of the section at place p, whose count has these limits, 1 is checked for its count, 2 for a count outside the limits, and 1 for its numbers.
unfoldable pub section_check : List ℕ → ℕ → ℕ → ℕ → Option Fault
section_check bytes p least most = option_or (limits_check bytes p least most) (numbers_check bytes (p + 4) (count_at bytes p))

-- 2 for an odd count, of numbers that go two by two.
abbrev pub even_check : ℕ → Option Refusal
even_check found = refused_where (not (found % 2 == 0)) (NotMultiple found 2)

-- Of the section at place p, whose numbers go two by two, 1 is checked for its count, 2 for a count above the most, 2 for an odd one, and 1 for its numbers.
unfoldable pub pairs_check : List ℕ → ℕ → ℕ → Option Fault
pairs_check bytes p most =
    option_or (limits_check bytes p 0 most)
    (option_or (option_map (refused_at p) (even_check (count_at bytes p))) (numbers_check bytes (p + 4) (count_at bytes p)))

-- The fault of a refusal, at the edge or the distance that it names, of the section that begins at place p.
abbrev pub refused_in : ℕ → Refusal → Fault
refused_in p refusal = refused_at (place_of p (edge_number refusal)) refusal

-- The section of the distances has two numbers, of which then 6 for D and 6 for F are checked.
unfoldable pub distances_section : List ℕ → ℕ → Option Fault
distances_section bytes p =
    option_or (section_check bytes p 2 2) (option_map (refused_in p) (distances_check (entry bytes p 0) (entry bytes p 1)))

-- The section of an axis has 2 to 513 edges, of which 5 and then 4 are checked.
unfoldable pub axis_section : List ℕ → ℕ → Option Fault
axis_section bytes p = option_or (section_check bytes p 2 513) (option_map (refused_in p) (edges_check (section_at bytes p)))

-- 11 for the first heading that is not accepted, at its c, where their section begins at place p.
abbrev pub circle_check : ℕ → List Heading → Option Fault
circle_check p hs = option_map (λ i. refused_at (place_of p (2 * i)) (OffCircle i (heading_or_zero hs i))) (first_off_circle hs)

-- The section of the directions has an even count of 0 to 2,048 numbers, of whose headings then 11 is checked.
unfoldable pub directions_section : List ℕ → ℕ → Option Fault
directions_section bytes p = option_or (pairs_check bytes p 2048) (circle_check p (headings_in (section_at bytes p)))

-- How many directions there are in a file: those of their section, or the 64 of the turn table.
abbrev pub direction_count_in : List ℕ → ℕ
direction_count_in bytes = direction_count (length (headings_in (section_at bytes (start bytes 6))))

-- The first of some numbers that is no step, where there are so many directions.
abbrev pub first_no_step : ℕ → List ℤ → Option ℕ
first_no_step directions zs = first_where (λ i. no_step directions (edge_or_zero zs i)) (length zs)

-- The section of the steps has 0 to 1,024, of which then 9 is checked, for the first that is no step.
unfoldable pub steps_section : List ℕ → ℕ → ℕ → Option Fault
steps_section bytes p directions =
    option_or (section_check bytes p 0 1024)
    (option_map (λ i. refused_at (place_of p i) (StepOutOfRange (entry bytes p i) directions)) (first_no_step directions (section_at bytes p)))

-- Of the distances and axes together 7 is checked, at D, and then 8, at the first such edge of the columns.
unfoldable pub clearance : List ℕ → Option Fault
clearance bytes =
    option_or (option_map (refused_in (start bytes 0)) (source_check (entry bytes (start bytes 0) 0) (section_at bytes (start bytes 1)) (section_at bytes (start bytes 2))))
    (option_map (refused_in (start bytes 4)) (columns_check (entry bytes (start bytes 0) 1) (section_at bytes (start bytes 4))))

-- The first six sections are checked in their order: the distances, x, y, z, the columns and the rows.
unfoldable pub axes_check : List ℕ → Option Fault
axes_check bytes =
    option_or (distances_section bytes (start bytes 0))
    (option_or (axis_section bytes (start bytes 1))
    (option_or (axis_section bytes (start bytes 2))
    (option_or (axis_section bytes (start bytes 3))
    (option_or (axis_section bytes (start bytes 4)) (axis_section bytes (start bytes 5))))))

-- A plan's bytes: the distances and the axes are checked one by one, then together, and then the directions and the steps.
unfoldable pub plan_check : List ℕ → Option Fault
plan_check bytes =
    option_or (axes_check bytes)
    (option_or (clearance bytes)
    (option_or (directions_section bytes (start bytes 6)) (steps_section bytes (start bytes 7) (direction_count_in bytes))))

-- Of the values of n voxels, whose section begins at place p, 1 is checked for their count, 2 for a count other than n, 1 for the values, and 3 for bytes that follow.
abbrev pub voxels_check : List ℕ → ℕ → ℕ → Option Fault
voxels_check bytes p n =
    option_or (section_check bytes p n n) (refused_where (nat_lt (end_of bytes p) (length bytes)) (Trailing (end_of bytes p)))

-- Where they are read into a store the same is checked, and then 23 for a store of another length than n.
unfoldable pub values_check : List ℕ → ℕ → ℕ → ℕ → Option Fault
values_check bytes p n store =
    option_or (voxels_check bytes p n) (refused_where (not (store == n)) (refused_at 0 (StoreLength Volume store n)))
