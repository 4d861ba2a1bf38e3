-- The slab axis of a heading, and its direction (a, b): the parts of the cosine and the sine along the slab axis and across it.
use Rattle.std.specs.Prelude.{◌≡◌, false, true, if◌then◌else◌, ℤ, neg_ℤ, nat_le, unsigned_abs, Option, MatchOption}
use Rattle.geometry.specs.Circle.{is_accepted}
use Rattle.geometry.specs.declared.direction.Direction.{Direction}
use Rattle.geometry.specs.declared.direction.SlabAxis.{SlabAxis}
use Rattle.geometry.specs.declared.direction.SlabAxis.TheVariants.{X, Y}
use Rattle.geometry.specs.declared.heading.Heading.{Heading}

-- The slabs are the cells of the axis along which the central ray runs more: of y where |s| <= |c|, so at a tie too, and else of x.
abbrev pub slabs_by : ℤ → ℤ → SlabAxis
slabs_by s c = if nat_le (unsigned_abs s) (unsigned_abs c) then Y else X

-- a: c where the slabs are the cells of y, and s where they are the cells of x.
abbrev pub main_part : SlabAxis → ℤ → ℤ → ℤ
main_part Y s c = c
main_part X s c = s

-- b: s where the slabs are the cells of y, and -c where they are the cells of x.
abbrev pub side_part : SlabAxis → ℤ → ℤ → ℤ
side_part Y s c = s
side_part X s c = neg_ℤ c

-- The slab axis of a heading.
unfoldable pub slab_axis : Heading → SlabAxis
slab_axis h = slabs_by h.s h.c

-- a of a heading.
unfoldable pub main_of : Heading → ℤ
main_of h = main_part (slab_axis h) h.s h.c

-- b of a heading.
unfoldable pub side_of : Heading → ℤ
side_of h = side_part (slab_axis h) h.s h.c

-- The slab axis, a and b are those of a heading.
pub record Points (h : Heading) (d : Direction) : Type 0 where
  pub slabs : d.slabs ≡ slab_axis h
  pub main : d.a ≡ main_of h
  pub side : d.b ≡ side_of h

-- What is answered to a heading: its direction where it is accepted, and else none.
abbrev pub DirectionOf : Heading → Option Direction → Type 0
DirectionOf h answer = MatchOption answer (is_accepted h ≡ false) (λ d. (is_accepted h ≡ true) × Points h d)
