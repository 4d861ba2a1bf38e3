-- What is checked of a draft and of its views, in which order, and the refusal that follows.
use Rattle.std.specs.Option.{option_or, option_map}
use Rattle.std.specs.Prelude.{ℕ, ◌*◌, Bool, not, ◌||◌, List, length, ℤ, pos, Option, int_le, int_lt, nat_le, unsigned_abs}
use Rattle.geometry.specs.Circle.{is_accepted}
use Rattle.geometry.specs.declared.heading.Heading.{Heading}
use Rattle.scan.specs.Axes.{edge_of, widest}
use Rattle.scan.specs.AxisChecks.{count_check}
use Rattle.scan.specs.ViewDirections.{heading_or_zero}
use Rattle.scan.specs.Verdicts.{refused_where, first_where}
use Rattle.scan.specs.declared.refusal.Refusal.{Refusal}
use Rattle.scan.specs.declared.refusal.Refusal.TheVariants.{SourceDistance, PanelDistance, SourceTooNear, ColumnBeyond, StepOutOfRange, OffCircle, DraftFull}

-- The first edge with |edge| at the limit or above.
abbrev pub first_beyond : ℕ → List ℤ → Option ℕ
first_beyond limit es = first_where (λ i. nat_le limit (unsigned_abs (edge_of es i))) (length es)

-- 6 for D outside 1 to 2^24, and then 6 for F outside D to 2^25.
abbrev pub distances_check : ℤ → ℤ → Option Refusal
distances_check source panel =
    option_or (refused_where (int_lt source (pos 1) || int_lt (pos 16777216) source) (SourceDistance source))
    (refused_where (int_lt panel source || int_lt (pos 33554432) panel) (PanelDistance panel source))

-- 7 where the source is too near: D is no more than twice the widest |edge| of x and y.
abbrev pub source_check : ℤ → List ℤ → List ℤ → Option Refusal
source_check source x y = refused_where (nat_le (unsigned_abs source) (2 * widest x y)) (SourceTooNear source (pos (widest x y)))

-- 8 for the first edge of the columns with |edge| >= F.
abbrev pub columns_check : ℤ → List ℤ → Option Refusal
columns_check panel column = option_map (λ i. ColumnBeyond i (edge_of column i) panel) (first_beyond (unsigned_abs panel) column)

-- Of a draft's distances and axes together 7 is checked, and then 8.
abbrev pub clearance_check : ℤ → ℤ → List ℤ → List ℤ → List ℤ → Option Refusal
clearance_check source panel x y column = option_or (source_check source x y) (columns_check panel column)

-- Of a draft 6 for D, 6 for F, 7, 8 are checked, in this order.
abbrev pub draft_check : ℤ → ℤ → List ℤ → List ℤ → List ℤ → Option Refusal
draft_check source panel x y column = option_or (distances_check source panel) (clearance_check source panel x y column)

-- The first heading of a list that is not accepted.
abbrev pub first_off_circle : List Heading → Option ℕ
first_off_circle hs = first_where (λ i. not (is_accepted (heading_or_zero hs i))) (length hs)

-- Of a list of directions 2 is checked, that there are 1 to 1,024, and then 11 for the first that is not accepted.
abbrev pub directions_check : List Heading → Option Refusal
directions_check hs = option_or (count_check (length hs) 1 1024) (option_map (λ i. OffCircle i (heading_or_zero hs i)) (first_off_circle hs))

-- Of a draft with a list of directions 6 for D, 6 for F, 7, 8 are checked, and then 2 and 11 of the list.
abbrev pub listed_draft_check : ℤ → ℤ → List ℤ → List ℤ → List ℤ → List Heading → Option Refusal
listed_draft_check source panel x y column hs = option_or (draft_check source panel x y column) (directions_check hs)

-- Whether a number is no step: it is below 0, or not below the number of directions.
abbrev pub no_step : ℕ → ℤ → Bool
no_step directions step = int_lt step (pos 0) || int_le (pos directions) step

-- Of a view to be added 9 is checked, a number that is no step, and then 21, a draft that has 1,024 views.
abbrev pub view_check : ℕ → ℕ → ℤ → Option Refusal
view_check views directions step =
    option_or (refused_where (no_step directions step) (StepOutOfRange step directions))
    (refused_where (nat_le 1024 views) (DraftFull views))
