-- What holds of a list of directions whose checks find nothing.
use Rattle.std.specs.Prelude.{◌≡◌, ◌≤◌, not, true, false, List, length, None, Option, Some}
use Rattle.std.specs.Option.{IsSome}
use Rattle.std.proofs.Common.{refl, sym, ◌∙◌}
use Rattle.std.proofs.lemmas.Bool.{not-false}
use Rattle.geometry.specs.Circle.{is_accepted}
use Rattle.geometry.specs.Directions.{DirectionOf}
use Rattle.geometry.specs.declared.direction.Direction.{Direction}
use Rattle.geometry.specs.declared.heading.Heading.{Heading}
use Rattle.scan.specs.DraftChecks.{first_off_circle}
use Rattle.scan.specs.ViewDirections.{heading_or_zero, AllAccepted}
use Rattle.scan.proofs.Firsts.{first_none}

pub all_accepted : (hs : List Heading) → length hs ≤ 1024 → first_off_circle hs ≡ None → AllAccepted hs
all_accepted hs few none = record {
  most = few;
  accepted = λ i l. not-false _ (first_none (λ k. not (is_accepted (heading_or_zero hs k))) (length hs) none i l);
}

-- an accepted heading has a direction
pub has_direction : (h : Heading) (answer : Option Direction) → is_accepted h ≡ true → DirectionOf h answer → IsSome answer
has_direction h None accepted of = absurd (let both : true ≡ false = sym accepted ∙ of in cc)
has_direction h (Some d) accepted of = refl
