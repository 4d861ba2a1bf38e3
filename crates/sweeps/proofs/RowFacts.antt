-- How a row goes on, call after call, on stores of the plan's sizes.
use Rattle.std.proofs.Common.{◌≡◌, ℕ, ◌+◌, ◌≤◌, Bool, true, false, IsTrue, ◌↔◌, not, if◌then◌else◌, Option, Some, None, Result, Ok, Err, List, ◌∷◌, length, drop, refl, sym, ap, ◌∙◌, add_assoc, arith}
use Rattle.std.specs.Option.{is_some}
use Rattle.std.specs.Result.{is_err, result_err}
use Rattle.std.proofs.lemmas.Bool.Decides.{nat_tests}
use Rattle.std.proofs.lemmas.List.{at_drop_all}
use Rattle.std.proofs.lemmas.List.Sums.{sum_by-cons}
use Rattle.scan.specs.declared.refusal.Refusal.{Refusal}
use Rattle.values.specs.Laws.{Ops}
use Rattle.calls.specs.Rows.{Fits, accepted, made_by, outcome, refusals}
use Rattle.calls.specs.Stores.{Stores}
use Rattle.calls.proofs.Built.{fits_kept}
use Rattle.calls.specs.Systems.{System}
use Rattle.calls.specs.declared.call.Call.{Call}
use Rattle.calls.specs.declared.call.Call.TheVariants.{Forward, Back, Take, Give, Scale, Trim}
use Rattle.scan.specs.Verdicts.{unless_refused}
use Rattle.sweeps.specs.Checks.{sweep_check, transfer_check, scale_check, trim_check, call_check}

module _ {V : Type 0} (s : System) where
  -- a call is refused by its check exactly where a row does not accept it
  refused_where_not_accepted : (call : Call V) (r : Stores V) → Fits s r → is_some (call_check s call r) ≡ not (accepted s call)
  unfolding sweep_check transfer_check scale_check trim_check
  refused_where_not_accepted (Forward view factor) r h = rw (h.volume, h.working) (grind (arith, nat_tests))
  refused_where_not_accepted (Back view factor) r h = rw (h.volume, h.working) (grind (arith, nat_tests))
  refused_where_not_accepted (Take view factor) r h = rw (h.measured, h.working) (grind (arith, nat_tests))
  refused_where_not_accepted (Give view factor) r h = rw (h.measured, h.working) (grind (arith, nat_tests))
  refused_where_not_accepted (Scale view factor) r h = rw h.working (grind (arith, nat_tests))
  refused_where_not_accepted (Trim within) r h = rw h.volume (grind (arith, nat_tests))

-- a check finds nothing exactly where a test holds, if it refuses where the test does not
none_where_true : (check : Option Refusal) (b : Bool) → is_some check ≡ not b → IsTrue b ↔ (check ≡ None)
none_where_true None true e = (λ _. refl, λ _. refl)
none_where_true None false e = absurd (grind arith)
none_where_true (Some refusal) true e = absurd (grind arith)
none_where_true (Some refusal) false e = (λ holds. absurd (grind arith), λ none. absurd cc)

-- a call is accepted by a row exactly where its check finds nothing
pub accepted_where_none : {V : Type 0} (s : System) (call : Call V) (r : Stores V) → Fits s r → IsTrue (accepted s call) ↔ (call_check s call r ≡ None)
accepted_where_none s call r fits =
    none_where_true (call_check s call r) (accepted s call) (refused_where_not_accepted s call r fits)

-- what a check leaves, by whether there is a refusal
left_by : {A : Type 0} (check : Option Refusal) (b : Bool) (new old : A) → is_some check ≡ not b → unless_refused check new old ≡ (if b then new else old)
left_by None true new old e = refl
left_by None false new old e = absurd (grind arith)
left_by (Some refusal) true new old e = absurd (grind arith)
left_by (Some refusal) false new old e = refl

err_by : (r : Result (Unit {0}) Refusal) → is_err r ≡ is_some (result_err r)
err_by (Ok u) = refl
err_by (Err e) = refl

-- one if a test holds
abbrev pub one_if : Bool → ℕ
one_if b = (if b then 1 else 0)

module _ {V : Type 0} (o : Ops V) (s : System) (row : List (Call V)) (start : Stores V) where
  -- so far a row has come: the outcome of the rest from the stores as they are is that of the row, and its refusals are those so far and those of the rest
  pub record Ran (rest : List (Call V)) (now : Stores V) (refused : ℕ) : Type 0 where
    pub fits : Fits s now
    pub left : outcome o s rest now ≡ outcome o s row start
    pub count : refused + refusals s rest ≡ refusals s row

  -- one call more
  pub ran_more : {call : Call V} {rest more : List (Call V)} {now new : Stores V} {refused : ℕ} (result : Result (Unit {0}) Refusal) → rest ≡ call ∷ more → Ran rest now refused
      → result_err result ≡ call_check s call now → new ≡ unless_refused (call_check s call now) (made_by o s call now) now → Ran more new (refused + one_if (is_err result))
  unfolding outcome
  ran_more {call = call} {more = more} {now = now} {refused = refused} result e ran answer stores =
      let told = refused_where_not_accepted s call now ran.fits in
      let new_is = stores ∙ left_by (call_check s call now) (accepted s call) (made_by o s call now) now told in
      let err = err_by result ∙ ap is_some answer ∙ told in
      record {
        fits = rw new_is (fits_kept o s call now ran.fits);
        left = rw new_is (rw e at ran.left);
        count = rw err (add_assoc refused _ (refusals s more) ∙ ap (λ n. refused + n) (sym (sum_by-cons _ call more)) ∙ rw e at ran.count);
      }

  -- no call is left
  pub ran_all : (i : ℕ) {now : Stores V} {refused : ℕ} → length row ≤ i → Ran (drop i row) now refused → now ≡ outcome o s row start
  unfolding outcome
  ran_all i {now = now} end ran = sym (at_drop_all (λ r. outcome o s r now) row i end) ∙ ran.left
