use Rattle.std.specs.Prelude.{◌≡◌, ◌<◌, length}
use Rattle.std.proofs.Common.{arith, rules, ap, ◌∙◌, w32, SFits}
use Rattle.std.proofs.lemmas.Int.{to_z-of_z}
use Rattle.scan.specs.DraftChecks.{view_check}
use Rattle.scan.specs.Meanings.{draft_of}
use Rattle.scan.specs.ViewDirections.{direction_count}
use Rattle.planfile.specs.Numbers.{numbers_in}
use Rattle.planfile.proofs.Outcomes.{passed}
use Rattle.planfile.proofs.Views.{views_so_far, view_passes}
use Rattle.planfile.proofs.plan.add_views.Goals as goal

pub unwrap-requires : goal.unwrap-requires
unwrap-requires c =
    let zs = numbers_in c.args.steps.now.bytes.now in
    let i = c.loop-i.i in
    let here : i < length zs = omega (arith, c.len-i-end.ensures) in
    let views = ap (λ scan. length scan.steps) c.loop-i.invariant ∙ views_so_far (draft_of c.args.draft.now) zs i (omega arith) in
    let room : length (draft_of c.loop-i.draft).steps < 1024 = omega (arith, views, c.requires.room, here) in
    let directions : direction_count (length (draft_of c.loop-i.draft).directions) ≡ direction_count (length (draft_of c.args.draft.now).directions) = ap (λ scan. direction_count (length scan.directions)) c.loop-i.invariant in
    let none_wrong = rw (← directions) at c.requires.steps in
    let passes = view_passes zs i (length (draft_of c.loop-i.draft).steps) (direction_count (length (draft_of c.loop-i.draft).directions)) none_wrong here room in
    let fits : SFits w32 c.number.result = search rules in
    let told = simp to_z-of_z at c.add_view.ensures.value in
    let none = ap (view_check (length (draft_of c.loop-i.draft).steps) (direction_count (length (draft_of c.loop-i.draft).directions))) c.number.ensures ∙ passes in
    passed _ _ c.add_view.result none told
