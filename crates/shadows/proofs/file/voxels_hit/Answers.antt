use Rattle.std.proofs.Common.{◌≡◌, sym, ap, ◌∙◌, length}
use Rattle.arrayvec.specs.ArrayVec.{array_vec_len}
use Rattle.arrayvec.proofs.ArrayVecLemmas.{items-with_items}
use Rattle.values.specs.Reaches.{reach_ops, reached}
use Rattle.scan.specs.Meanings.{plan_of}
use Rattle.calls.specs.Stores.{built}
use Rattle.calls.specs.Systems.{voxels}
use Rattle.calls.proofs.Built.{length_built}
use Rattle.sweeps.specs.Systems.{system_of}
use Rattle.sweeps.specs.Tally.{tallied}
use Rattle.std.specs.Prelude.{true}
use Rattle.shadows.specs.EveryView.{backprojected}
use Rattle.shadows.proofs.EveryView.{length_backprojected}
use Rattle.shadows.proofs.file.voxels_hit.Goals as goal

pub backproject-requires-clause-working : goal.backproject-requires-clause-working
backproject-requires-clause-working c = ap length (c.deref.ensures.0 ∙ c.fill.ensures) ∙ length_built c.places.result _ ∙ c.places.ensures.value

pub returns : goal.returns
returns c =
    let s = system_of (plan_of c.args.plan.now) in
    let volume = c.zeros.new.store in
    let swept = c.backproject.new.volume in
    let long : length swept ≡ voxels s = ap length c.backproject.ensures ∙ length_backprojected reach_ops s (reached true) c.deref.result.now in
    let all : array_vec_len volume ≡ voxels s = ap length c.zeros.ensures ∙ length_built c.voxels.result _ ∙ c.voxels.ensures.value in
    let cells = c.deref.ensures.0 ∙ c.fill.ensures ∙ ap (λ n. built n (λ _. reached true)) c.places.ensures.value in
    c.tally.ensures
    ∙ ap tallied (c.deref-2.ensures.0 ∙ items-with_items volume swept (long ∙ sym all) ∙ c.backproject.ensures ∙ ap (backprojected reach_ops s (reached true)) cells)
