use Rattle.std.specs.Prelude.{◌<◌, Some}
use Rattle.std.proofs.Common.{arith, ap, ap₂, ◌∙◌}
use Rattle.scan.specs.Refusals.{place as edge_number}
use Rattle.planfile.specs.Sections.{place_of, section_at, end_of}
use Rattle.planfile.specs.FileChecks.{axis_section}
use Rattle.planfile.proofs.Named.{placed_within, edge_named, edges_refused, placed_is}
use Rattle.planfile.proofs.cursor.Cursor.axis.Goals as goal

pub refused_number-requires : goal.refused_number-requires
refused_number-requires c =
    let bytes = c.args.self.now.bytes.now in
    let p = c.args.self.now.offset in
    let section = c.in_ok-section.ensures.answer in
    let refusal = c.in-Err.refusal in
    let found = edges_refused bytes p _ refusal section.0 section.1.1 c.in-Err.ensures in
    let within : place_of p (edge_number refusal) < end_of bytes p = placed_within bytes p (edge_number refusal) (edge_named (section_at bytes p) refusal found) in
    rw (section.1.0, c.place.ensures) (omega (arith, within, section.1.3))

pub returns-in-Err-clause-answer : goal.returns-in-Err-clause-answer
unfolding axis_section
returns-in-Err-clause-answer c =
    let section = c.in_ok-section.ensures.answer in
    let refusal = c.in-Err.refusal in
    let found = edges_refused c.args.self.now.bytes.now c.args.self.now.offset _ refusal section.0 section.1.1 c.in-Err.ensures in
    let at = c.refused_number.ensures.place ∙ ap₂ place_of section.1.0 c.place.ensures in
    rw (section.0, found, c.into.ensures) (ap Some (placed_is c.refused_number.result refusal (place_of c.args.self.now.offset (edge_number refusal)) c.refused_number.ensures.refusal at))
