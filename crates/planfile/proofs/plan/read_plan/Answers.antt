use Rattle.std.proofs.Common.{sym, ap, ap₂, ◌∙◌, ◌++◌, arith}
use Rattle.planfile.specs.FileChecks.{plan_check}
use Rattle.planfile.specs.Plans.{scan_in}
use Rattle.planfile.specs.Sections.{start}
use Rattle.planfile.specs.Written.{written}
use Rattle.std.specs.Prelude.{drop}
use Rattle.planfile.proofs.Outcomes.{of_read, not_refused}
use Rattle.planfile.proofs.Rereads.{reread}
use Rattle.planfile.proofs.Spells.{spelled}
use Rattle.planfile.proofs.plan.read_plan.Goals as goal

pub returns-clause-spelled : goal.returns-clause-spelled
returns-clause-spelled c =
    let bytes = c.args.bytes.now in
    of_read (plan_check bytes) _ _ c.plan_and_rest.result (λ read fine told. spelled bytes (λ i. omega (arith, c.type_inv.bytes i)) fine ∙ sym (ap₂ (λ scan rest. written scan ++ rest) told.0 told.1)) c.plan_and_rest.ensures

pub returns-clause-again : goal.returns-clause-again
returns-clause-again c scan rest fitted e =
    let bytes = c.args.bytes.now in
    let again = reread scan rest fitted in
    not_refused (plan_check bytes) _ _ c.plan_and_rest.result (ap plan_check e ∙ again.0) (λ read told. (told.0 ∙ ap scan_in e ∙ again.1, told.1 ∙ ap (λ b. drop (start b 8) b) e ∙ again.2)) c.plan_and_rest.ensures
