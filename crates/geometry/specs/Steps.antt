-- The steps of the turn: 0 to 63, each of 5.625 degrees.
use Rattle.std.specs.Prelude.{◌≡◌, ℕ, ◌⊎◌, ℤ, pos, ◌<ℤ◌, List, ◌++◌, Result, MatchResult, codes}
use Rattle.std.specs.Fmt.{signed_decimal}
use Rattle.geometry.specs.declared.step.Step.{Step}
use Rattle.geometry.specs.declared.no_step.NoStep.{NoStep}

-- What is answered to a number: the step of that number from 0 to 63, and otherwise an error with the number.
abbrev pub StepOf : ℤ → Result Step NoStep → Type 0
StepOf number r = MatchResult r (λ step. pos step.number ≡ number) (λ e. (e.number ≡ number) × ((number <ℤ pos 0) ⊎ (pos 63 <ℤ number)))

-- What is printed of a number that no step has.
abbrev pub no_step_text : NoStep → List ℕ
no_step_text e = codes "no step of the turn has the number " ++ signed_decimal e.number
