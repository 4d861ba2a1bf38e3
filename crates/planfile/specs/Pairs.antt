-- Directions as numbers, two to a heading: c, and then s.
use Rattle.std.specs.Prelude.{List, [], ◌∷◌, ℤ}
use Rattle.geometry.specs.declared.heading.Heading.{Heading}

-- The headings of numbers taken two by two; a number that is left over is left out.
abbrev pub headings_in : List ℤ → List Heading
headings_in [] = []
headings_in (c ∷ []) = []
headings_in (c ∷ s ∷ zs) = record { c = c; s = s } ∷ headings_in zs

-- The numbers of headings, one heading after the other.
abbrev pub numbers_of : List Heading → List ℤ
numbers_of [] = []
numbers_of (h ∷ hs) = h.c ∷ h.s ∷ numbers_of hs
