use Rattle.std.proofs.Common.{◌≡◌, ◌+◌, ◌∷◌, drop, refl, sym, ap, ◌∙◌, arith}
use Rattle.std.proofs.lemmas.List.{drop_more}
use Rattle.std.specs.Result.{is_err}
use Rattle.calls.proofs.Linearity.{linear}
use Rattle.calls.proofs.Transposes.{matched}
use Rattle.sweeps.proofs.CallFacts.{row_sized}
use Rattle.sweeps.proofs.RowFacts.{one_if, ran_more, ran_all}
use Rattle.sweeps.proofs.Shadows.{shadows}
use Rattle.sweeps.proofs.row.run.Goals as goal
use Rattle.sweeps.proofs.row.run.Goals.{then-is_err, else-is_err}

pub returns-in_err-checked_stores-clause-matched :
    goal.returns-in_err-checked_stores-clause-matched
returns-in_err-checked_stores-clause-matched g c sealed = matched g.met.V.Value.lawful _

pub returns-in_err-checked_stores-clause-linear : goal.returns-in_err-checked_stores-clause-linear
returns-in_err-checked_stores-clause-linear g c sealed = linear g.met.V.Value.lawful _

pub returns-in_err-checked_stores-clause-conserved :
    goal.returns-in_err-checked_stores-clause-conserved
returns-in_err-checked_stores-clause-conserved g c = shadows

pub returns-clause-matched : goal.returns-clause-matched
returns-clause-matched g c sealed = matched g.met.V.Value.lawful _

pub returns-clause-linear : goal.returns-clause-linear
returns-clause-linear g c sealed = linear g.met.V.Value.lawful _

pub returns-clause-conserved : goal.returns-clause-conserved
returns-clause-conserved g c = shadows

pub loop-call-init : goal.loop-call-init
loop-call-init g c =
    let sized = row_sized _ _ _ _ c.in_ok-checked_stores.ensures.0 in
    record { ran = record { fits = record { volume = sized.0; measured = sized.1.0; working = sized.1.1 }; left = refl; count = omega arith }; few = omega arith }

pub loop-call-preserved : goal.loop-call-preserved
loop-call-preserved g c =
    let row = c.args.row.now in
    let i = c.loop-call.call-index in
    let call = c.call-item.result in
    let rest : drop i row ≡ call ∷ drop (i + 1) row = drop_more row i call c.loop-call-test.true ∙ ap (λ k. k ∷ drop (i + 1) row) (sym c.call-item.is) in
    let refused : c.if-is_err.refused ≡ c.loop-call.refused + one_if (is_err c.perform.result) = elim c.if-is_err.branch [ then-is_err w ↦ grind arith | else-is_err w ↦ grind arith ] in
    record {
      ran = rw refused (ran_more _ _ _ _ c.perform.result rest c.loop-call.invariant.ran c.perform.ensures.answer c.perform.ensures.stores);
      few = grind (arith, c.loop-call.invariant.few);
    }

pub returns-clause-stores : goal.returns-clause-stores
returns-clause-stores g c = rw c.in_ok-checked_stores.ensures.0 (ran_all _ _ _ _ c.loop-call.call-index c.loop-call-test.false c.loop-call.invariant.ran)
