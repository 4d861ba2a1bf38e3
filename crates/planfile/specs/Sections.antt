-- Sections: a count, and then as many numbers. A file has nine: the distances; the edges of x, of y, of z, of the columns and of the rows; the directions; the steps; and the values of the voxels. The first eight are the plan. Here they are counted from 0.
use Rattle.std.specs.Prelude.{ℕ, zero, suc, ◌+◌, ◌*◌, List, ℤ, pos, slice_index_or}
use Rattle.planfile.specs.Numbers.{count_at, numbers_from}

-- The place of number i, counted from 0, of the section that begins at place p, with its count.
abbrev pub place_of : ℕ → ℕ → ℕ
place_of p i = p + 4 + 4 * i

-- The numbers of the section that begins at place p.
unfoldable pub section_at : List ℕ → ℕ → List ℤ
section_at bytes p = numbers_from bytes (p + 4) (count_at bytes p)

-- Number i, counted from 0, of the section that begins at place p; past the last, 0.
abbrev pub entry : List ℕ → ℕ → ℕ → ℤ
entry bytes p i = slice_index_or (section_at bytes p) i (pos 0)

-- Where the section that begins at place p ends: the place after its last number.
unfoldable pub end_of : List ℕ → ℕ → ℕ
end_of bytes p = place_of p (count_at bytes p)

-- Where section k, counted from 0, begins: section 0 at place 0, and each other where the one before it ends.
unfoldable pub start : List ℕ → ℕ → ℕ
start bytes zero = 0
start bytes (suc k) = end_of bytes (start bytes k)
