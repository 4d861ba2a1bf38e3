-- How a plan is written as bytes.
use Rattle.std.specs.Prelude.{ℕ, List, [], ◌∷◌, ◌++◌, map, length, ℤ, pos}
use Rattle.std.specs.List.{flat_map}
use Rattle.std.specs.Int.{w32, to_le_bytes, cast_unsigned}
use Rattle.planfile.specs.Pairs.{numbers_of}
use Rattle.scan.specs.Scans.{Scan}

-- A signed number as four bytes, the low one first, in two's complement.
abbrev pub number_bytes : ℤ → List ℕ
number_bytes z = to_le_bytes w32 (cast_unsigned w32 z)

-- A section as bytes: how many numbers it has, and then each of them.
abbrev pub section_bytes : List ℤ → List ℕ
section_bytes zs = to_le_bytes w32 (length zs) ++ flat_map number_bytes zs

-- A plan as bytes: the sections of its distances, of the edges of x, y, z, the columns and the rows, of its directions, and of its steps.
unfoldable pub written : Scan → List ℕ
written scan =
    section_bytes (scan.source ∷ scan.panel ∷ [])
    ++ (section_bytes scan.x ++ (section_bytes scan.y ++ (section_bytes scan.z
    ++ (section_bytes scan.column ++ (section_bytes scan.row
    ++ (section_bytes (numbers_of scan.directions) ++ section_bytes (map pos scan.steps)))))))
