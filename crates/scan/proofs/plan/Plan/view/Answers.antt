use Rattle.std.specs.Prelude.{◌≡◌, ◌<◌, length, slice_index_or}
use Rattle.std.proofs.Common.{ap, ◌∙◌, arith}
use Rattle.std.proofs.lemmas.Grind.{get_or_default_zero}
use Rattle.geometry.specs.Circle.{is_accepted}
use Rattle.geometry.specs.Directions.{slab_axis, main_of, side_of}
use Rattle.scan.specs.ViewDirections.{direction_count, heading_at}
use Rattle.scan.specs.Views.{heading_of, step_of, landing}
use Rattle.scan.specs.Meanings.{plan_of}
use Rattle.scan.specs.Fits.{fitted, heading_accepted, landing_same}
use Rattle.scan.specs.Landings.{lands}
use Rattle.scan.proofs.AcceptedLists.{has_direction}
use Rattle.scan.proofs.plan.Plan.view.Goals as goal
use Rattle.scan.proofs.plan.Plan.view.Goals.{In_ok-step}

-- the step that is looked up is the view's
here : (c : In_ok-step) → c.args.view < length c.args.self.now.layout.steps.items
here c = grind (arith, ap length c.deref.ensures.0)

step_is : (c : In_ok-step) → c.in_ok-step.field-0.now ≡ step_of (plan_of c.args.self.now) c.args.view
step_is c =
    let steps = c.args.self.now.layout.steps.items in
    let step = c.in_ok-step.field-0.now in
    c.in_ok-step.ensures.lookup.1 ∙ ap (λ items. slice_index_or items c.args.view step) c.deref.ensures.0 ∙ get_or_default_zero steps c.args.view step (here c)

known : (c : In_ok-step) → c.in_ok-step.field-0.now < direction_count (length c.args.self.now.layout.directions.items)
known c = rw (step_is c) (c.args.self.now.layout.known c.args.view)

pub heading-heading-requires : goal.heading-heading-requires
heading-heading-requires c = known (goal.at.heading-heading-requires c).In_ok-step

pub unwrap-requires : goal.unwrap-requires
unwrap-requires c =
    let layout = c.args.self.now.layout in
    let accepted = heading_accepted layout.directions.items layout.accepted c.in_ok-step.field-0.now (known (goal.at.unwrap-requires c).In_ok-step) in
    has_direction c.heading-heading.result c.direction.result (ap is_accepted c.heading-heading.ensures ∙ accepted) c.direction.ensures

pub returns : goal.returns
unfolding landing
returns c =
    let scan = plan_of c.args.self.now in
    let found = (goal.at.returns c).In_ok-step in
    let heading : c.heading-heading.result ≡ heading_of scan c.args.view = c.heading-heading.ensures ∙ ap (heading_at scan.directions) (step_is found) in
    let d = rw c.unwrap.ensures at c.direction.ensures in
    let same = landing_same scan (d.1.slabs ∙ ap slab_axis heading) (d.1.main ∙ ap main_of heading) (d.1.side ∙ ap side_of heading) in
    (here found, same, lands scan (fitted c.args.self.now.layout) c.args.view)
