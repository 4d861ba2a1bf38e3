-- The sections of a written scan, one after the other, before what follows it.
use Rattle.std.specs.Prelude.{◌≡◌, ℕ, List, [], ◌∷◌, ◌++◌, map, ℤ, pos}
use Rattle.std.proofs.Common.{append_assoc}
use Rattle.scan.specs.Scans.{Scan}
use Rattle.planfile.specs.Pairs.{numbers_of}
use Rattle.planfile.specs.Written.{section_bytes, written}

-- the numbers of the section of the distances
abbrev pub distances_of : Scan → List ℤ
distances_of scan = scan.source ∷ scan.panel ∷ []

-- the sections from the steps on, and what follows them
abbrev pub from_steps : Scan → List ℕ → List ℕ
from_steps scan rest = section_bytes (map pos scan.steps) ++ rest

-- the sections from the directions on
abbrev pub from_directions : Scan → List ℕ → List ℕ
from_directions scan rest = section_bytes (numbers_of scan.directions) ++ from_steps scan rest

-- the sections from the rows on
abbrev pub from_row : Scan → List ℕ → List ℕ
from_row scan rest = section_bytes scan.row ++ from_directions scan rest

-- the sections from the columns on
abbrev pub from_column : Scan → List ℕ → List ℕ
from_column scan rest = section_bytes scan.column ++ from_row scan rest

-- the sections from z on
abbrev pub from_z : Scan → List ℕ → List ℕ
from_z scan rest = section_bytes scan.z ++ from_column scan rest

-- the sections from y on
abbrev pub from_y : Scan → List ℕ → List ℕ
from_y scan rest = section_bytes scan.y ++ from_z scan rest

-- the sections from x on
abbrev pub from_x : Scan → List ℕ → List ℕ
from_x scan rest = section_bytes scan.x ++ from_y scan rest

-- eight lists, and what follows them
eight : (a b c d e f g h rest : List ℕ) → (a ++ (b ++ (c ++ (d ++ (e ++ (f ++ (g ++ h))))))) ++ rest ≡ a ++ (b ++ (c ++ (d ++ (e ++ (f ++ (g ++ (h ++ rest)))))))
eight a b c d e f g h rest = simp append_assoc

-- a written scan and what follows it, section by section
pub by_sections : (scan : Scan) (rest : List ℕ) → written scan ++ rest ≡ section_bytes (distances_of scan) ++ from_x scan rest
unfolding written
by_sections scan rest =
    eight (section_bytes (distances_of scan)) (section_bytes scan.x) (section_bytes scan.y) (section_bytes scan.z) (section_bytes scan.column) (section_bytes scan.row) (section_bytes (numbers_of scan.directions)) (section_bytes (map pos scan.steps)) rest
