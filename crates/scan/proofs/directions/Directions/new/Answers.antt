use Rattle.std.specs.Prelude.{◌≤◌, length}
use Rattle.std.proofs.Common.{sym, ◌∙◌}
use Rattle.scan.proofs.Propers.{count_within}
use Rattle.scan.proofs.AcceptedLists.{all_accepted}
use Rattle.scan.proofs.directions.Directions.new.Goals as goal

pub invariant_of-result : goal.invariant_of-result
invariant_of-result g c =
    let hs = g.H.Headings.headings c.args.headings.now in
    let few : length hs ≤ 1024 = rw (← c.count.ensures) (count_within c.count.result 1 1024 c.in_ok-check_count.ensures.0).1 in
    record { accepted = all_accepted hs few (sym c.first_off_circle.ensures.value ∙ c.in_default.is) }
