use Rattle.std.proofs.Common.{◌≡◌, length, append_assoc, ap, arith, rules}
use Rattle.std.proofs.Output.{has_written_append, has_written_of_eq}
use Rattle.shadows.proofs.Texts.{places_more, places_end}
use Rattle.shadows.proofs.shadow.ShadowDisplay.fmt.Goals as goal

pub loop-place-preserved : goal.loop-place-preserved
loop-place-preserved g c =
    let s = c.args.self.now in
    let more = places_more s c.loop-place.place c.cell-item.result c.deref-cell-items.ensures.0 c.loop-place-test.true c.cell-item.is in
    λ plain.
    let so_far = c.loop-place.invariant plain in
    let line = c.writeln-in-loop-place.ensures.writes so_far.plain (search rules) in
    has_written_of_eq _ _ _ _ _ more (has_written_append _ _ _ _ _ _ so_far (has_written_of_eq _ _ _ _ _ (simp append_assoc) line))

pub returns-clause-writes : goal.returns-clause-writes
returns-clause-writes g c =
    let s = c.args.self.now in
    let all : c.loop-place.place ≡ length s.cells.items = omega (arith, ap length c.deref-cell-items.ensures.0) in
    λ plain ok.
    let so_far = c.loop-place.invariant plain in
    has_written_of_eq _ _ _ _ _ (places_end s _ all) (has_written_append _ _ _ _ _ _ so_far (c.writeln-2.ensures.writes so_far.plain ok))
