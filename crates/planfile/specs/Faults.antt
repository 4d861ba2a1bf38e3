-- The number, the place and the text of each fault of a file.
use Rattle.std.specs.Prelude.{ℕ, List, ◌++◌, codes}
use Rattle.std.specs.Fmt.{decimal}
use Rattle.scan.specs.declared.refusal.Refusal.{Refusal}
use Rattle.scan.specs.Refusals.{number as refusal_number}
use Rattle.planfile.specs.declared.fault.Fault.{Fault}
use Rattle.planfile.specs.declared.fault.Fault.TheVariants.{Incomplete, Trailing, Refused}

-- The number of each fault, by which it is known to users.
abbrev pub number : Fault → ℕ
number (Incomplete p) = 1
number (Trailing p) = 3
number (Refused placed) = refusal_number placed.refusal

-- The place of each fault: the byte at which what is refused begins, and 0 for a store of another length.
abbrev pub place : Fault → ℕ
place (Incomplete p) = p
place (Trailing p) = p
place (Refused placed) = placed.place

-- The fault of a refusal of what begins at place p.
abbrev pub refused_at : ℕ → Refusal → Fault
refused_at p refusal = Refused (record { refusal = refusal; place = p })

-- What is printed of a number and a place.
abbrev pub refused_text : ℕ → ℕ → List ℕ
refused_text n p = codes "refused " ++ decimal n ++ codes " at " ++ decimal p

-- What is printed of a fault.
abbrev pub fault_text : Fault → List ℕ
fault_text fault = refused_text (number fault) (place fault)
