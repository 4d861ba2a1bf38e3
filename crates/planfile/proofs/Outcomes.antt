-- What follows from what reading answers.
use Rattle.std.specs.Prelude.{◌≡◌, Option, None, IfOk, IsOk, IsOkAnd, Result, Ok, Err}
use Rattle.std.proofs.Common.{refl, sym, ◌∙◌}
use Rattle.scan.specs.Verdicts.{Verdict}
use Rattle.planfile.specs.declared.fault.Fault.{Fault}

-- what is read has what follows where the check finds nothing
pub of_read : {A : Type 0} (check : Option Fault) (P Q : A → Type 0) (answer : Result A Fault) → ((value : A) → check ≡ None → P value → Q value) → Verdict check P answer → IfOk answer Q
of_read check P Q (Ok value) h r = h value r.0 r.1
of_read check P Q (Err failure) h r = tt

-- where the check finds nothing, there is a value, and it has what follows
pub not_refused : {A : Type 0} (check : Option Fault) (P Q : A → Type 0) (answer : Result A Fault) → check ≡ None → ((value : A) → P value → Q value) → Verdict check P answer → IsOkAnd answer Q
not_refused check P Q (Ok value) e h r = h value r.1
not_refused check P Q (Err fault) e h r = absurd (let both = sym e ∙ r in cc)

-- where the check finds nothing, there is a value
pub passed : {A E : Type 0} (check : Option E) (P : A → Type 0) (answer : Result A E) → check ≡ None → Verdict check P answer → IsOk answer
passed check P (Ok value) e r = refl
passed check P (Err refusal) e r = absurd (let both = sym e ∙ r in cc)
