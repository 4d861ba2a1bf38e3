-- The directions of a scan's views: those of a list of headings, or those of the turn table where the list is empty.
use Rattle.std.specs.Prelude.{◌≡◌, ℕ, zero, suc, ◌<◌, ◌≤◌, true, List, [], ◌∷◌, length, pos, slice_index, slice_index_or}
use Rattle.geometry.specs.Circle.{is_accepted}
use Rattle.geometry.specs.Turn.{turn}
use Rattle.geometry.specs.declared.heading.Heading.{Heading}

-- Heading i of a list; past the last, one whose c and s are 0.
abbrev pub heading_or_zero : List Heading → ℕ → Heading
heading_or_zero hs i = slice_index_or hs i (record { c = pos 0; s = pos 0 })

-- How many directions there are, of which a step is one, where the list has n: as many, or the 64 of the turn table where it is empty.
abbrev pub direction_count : ℕ → ℕ
direction_count zero = 64
direction_count (suc n) = suc n

-- The heading of step q: the one at place q of the list, or that of the turn table where the list is empty.
abbrev pub heading_at : List Heading → ℕ → Heading
heading_at [] q = turn q
heading_at (h ∷ hs) q = heading_or_zero (h ∷ hs) q

-- What every list of directions keeps: there are at most 1,024, and each is accepted.
pub record AllAccepted (hs : List Heading) : Type 0 where
  pub most : length hs ≤ 1024
  pub accepted : (i : ℕ) → i < length hs → is_accepted (heading_or_zero hs i) ≡ true

-- Each step is one of the directions.
abbrev pub StepsKnown : List Heading → List ℕ → Type 0
StepsKnown hs steps = (v : ℕ) → slice_index steps v < direction_count (length hs)
