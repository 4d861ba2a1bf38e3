-- What a call answers that may be refused, and what it leaves. A check is none where nothing is refused, and else the refusal; of checks joined by `option_or` the first that refuses is the answer.
use Rattle.std.specs.List.{find, range_with_len}
use Rattle.std.specs.Prelude.{ℕ, Option, ◌≡◌, Bool, if◌then◌else◌, Some, None, Ok, Err, Result}

-- What a call answers that may be refused: a value of which P holds where the check finds nothing, and else what it finds.
abbrev pub Verdict : {A E : Type 0} → Option E → (A → Type 0) → Result A E → Type 0
Verdict check P (Ok value) = (check ≡ None) × P value
Verdict check P (Err refusal) = check ≡ Some refusal

-- A check that refuses where a condition holds.
abbrev pub refused_where : {E : Type 0} → Bool → E → Option E
refused_where holds refusal = (if holds then Some refusal else None)

-- The least number below n at which the test holds.
abbrev pub first_where : (ℕ → Bool) → ℕ → Option ℕ
first_where test n = find test (range_with_len 0 n)

-- What a call leaves of what it changes: the new, or the old where the check refuses.
abbrev pub unless_refused : {A E : Type 0} → Option E → A → A → A
unless_refused None new old = new
unless_refused (Some refusal) new old = old
