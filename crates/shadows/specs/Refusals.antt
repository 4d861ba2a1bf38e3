-- The number, the place and the text of each reason why there is no shadow of a file.
use Rattle.std.specs.Prelude.{ℕ, List}
use Rattle.planfile.specs.Faults.{number as fault_number, place as fault_place, refused_text}
use Rattle.shadows.specs.declared.refusal.Refusal.{Refusal}
use Rattle.shadows.specs.declared.refusal.Refusal.TheVariants.{File, TooLarge}

-- The number of each refusal, by which it is known to users.
abbrev pub number : Refusal → ℕ
number (File fault) = fault_number fault
number (TooLarge voxels cells p) = 10

-- The place of each refusal: the byte at which what is refused begins.
abbrev pub place : Refusal → ℕ
place (File fault) = fault_place fault
place (TooLarge voxels cells p) = p

-- What is printed of a refusal.
abbrev pub refusal_text : Refusal → List ℕ
refusal_text refusal = refused_text (number refusal) (place refusal)
