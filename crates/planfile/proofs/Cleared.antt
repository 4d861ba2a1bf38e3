-- What is found of distances and axes together, and where it stands in a file.
use Rattle.std.specs.Prelude.{◌≡◌, ℕ, List, ℤ, Bool, true, false, Option, Some, None}
use Rattle.std.specs.Option.{option_or, option_map}
use Rattle.std.proofs.Common.{ap}
use Rattle.scan.specs.Verdicts.{refused_where}
use Rattle.scan.specs.DraftChecks.{source_check, clearance_check}
use Rattle.scan.specs.declared.refusal.Refusal.{Refusal}
use Rattle.scan.specs.declared.refusal.Refusal.TheVariants.{SourceTooNear, ColumnBeyond}
use Rattle.planfile.specs.Sections.{section_at, entry, start}
use Rattle.planfile.specs.FileChecks.{refused_in, clearance}
use Rattle.planfile.specs.declared.fault.Fault.{Fault}
use Rattle.planfile.proofs.Nones.{none_or, none_map, first_nothing, second_nothing}

-- the check of a draft, of the distances and axes that bytes hold
abbrev pub checked : List ℕ → Option Refusal
checked bytes =
    clearance_check (entry bytes (start bytes 0) 0) (entry bytes (start bytes 0) 1) (section_at bytes (start bytes 1)) (section_at bytes (start bytes 2)) (section_at bytes (start bytes 4))

-- where it finds nothing, nothing is found in the file
pub cleared : (bytes : List ℕ) → checked bytes ≡ None → clearance bytes ≡ None
unfolding clearance
cleared bytes e =
    none_or (none_map (refused_in (start bytes 0)) (first_nothing _ _ e)) (none_map (refused_in (start bytes 4)) (second_nothing (source_check (entry bytes (start bytes 0) 0) (section_at bytes (start bytes 1)) (section_at bytes (start bytes 2))) _ e))

-- of two findings the first is placed at D, and the second at an edge of the columns
placed_by : (near : Bool) (n : Refusal) (refused : ℕ → Refusal) (far : Option ℕ) (at_source at_column : Refusal → Fault) (r : Refusal) (fault : Fault)
    → option_or (refused_where near n) (option_map refused far) ≡ Some r → (r ≡ n → at_source r ≡ fault) → ((i : ℕ) → r ≡ refused i → at_column r ≡ fault)
    → option_or (option_map at_source (refused_where near n)) (option_map at_column (option_map refused far)) ≡ Some fault
placed_by true n refused far at_source at_column r fault e h k = let same : r ≡ n = cc in ap Some (rw (← same) (h same))
placed_by false n refused None at_source at_column r fault e h k = absurd cc
placed_by false n refused (Some i) at_source at_column r fault e h k = let same : r ≡ refused i = cc in ap Some (rw (← same) (k i same))

-- where it finds a refusal, that is found in the file at its place
pub refused_clear : (bytes : List ℕ) (r : Refusal) (fault : Fault) → checked bytes ≡ Some r
    → ((edge : ℕ) (at panel : ℤ) → r ≡ ColumnBeyond edge at panel → refused_in (start bytes 4) r ≡ fault) → ((source widest : ℤ) → r ≡ SourceTooNear source widest → refused_in (start bytes 0) r ≡ fault)
    → clearance bytes ≡ Some fault
unfolding clearance
refused_clear bytes r fault e column source = placed_by _ _ _ _ (refused_in (start bytes 0)) (refused_in (start bytes 4)) r fault e (λ same. source _ _ same) (λ i same. column _ _ _ same)
