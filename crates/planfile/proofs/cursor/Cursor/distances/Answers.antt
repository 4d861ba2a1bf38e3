use Rattle.std.specs.Prelude.{◌≡◌, ◌<◌, Some}
use Rattle.std.specs.Option.{option_map}
use Rattle.std.proofs.Common.{arith, rules, ap, ap₂, ◌∙◌, w32, to_z, of_z, SFits}
use Rattle.std.proofs.lemmas.Int.{to_z-of_z}
use Rattle.scan.specs.AxisChecks.{edge_or_zero}
use Rattle.scan.specs.DraftChecks.{distances_check}
use Rattle.scan.specs.Refusals.{place as edge_number}
use Rattle.planfile.specs.Sections.{place_of, end_of, entry}
use Rattle.planfile.specs.FileChecks.{refused_in, distances_section}
use Rattle.planfile.proofs.SectionFacts.{section_count}
use Rattle.planfile.proofs.SectionChecks.{section_known}
use Rattle.planfile.proofs.Named.{placed_within, distance_named, placed_is}
use Rattle.planfile.proofs.cursor.Cursor.distances.Goals as goal

pub refused_number-requires : goal.refused_number-requires
refused_number-requires c =
    let bytes = c.args.self.now.bytes.now in
    let p = c.args.self.now.offset in
    let section = c.in_ok-section.ensures.answer in
    let refusal = c.in-Err.refusal in
    let long = section_count bytes p in
    let counted = section_known bytes p 2 2 section.0 in
    let named = distance_named (to_z w32 (of_z w32 c.number.result)) (to_z w32 (of_z w32 c.number-2.result)) refusal c.in-Err.ensures in
    let within : place_of p (edge_number refusal) < end_of bytes p = placed_within bytes p (edge_number refusal) (omega arith) in
    rw (section.1.0, c.place.ensures) (omega (arith, within, section.1.3))

pub returns-in-Err-clause-answer : goal.returns-in-Err-clause-answer
unfolding distances_section
returns-in-Err-clause-answer c =
    let bytes = c.args.self.now.bytes.now in
    let p = c.args.self.now.offset in
    let section = c.in_ok-section.ensures.answer in
    let refusal = c.in-Err.refusal in
    let first : SFits w32 c.number.result = search rules in
    let second : SFits w32 c.number-2.result = search rules in
    let told = simp to_z-of_z at c.in-Err.ensures in
    let source : c.number.result ≡ entry bytes p 0 = c.number.ensures ∙ ap (λ es. edge_or_zero es 0) section.1.1 in
    let panel : c.number-2.result ≡ entry bytes p 1 = c.number-2.ensures ∙ ap (λ es. edge_or_zero es 1) section.1.1 in
    let found : distances_check (entry bytes p 0) (entry bytes p 1) ≡ Some refusal = rw (← source, ← panel) told in
    let at = c.refused_number.ensures.place ∙ ap₂ place_of section.1.0 c.place.ensures in
    rw (section.0, found, c.into.ensures) (ap Some (placed_is c.refused_number.result refusal (place_of p (edge_number refusal)) c.refused_number.ensures.refusal at))

pub returns-in-Ok-clause-answer : goal.returns-in-Ok-clause-answer
unfolding distances_section
returns-in-Ok-clause-answer c =
    let bytes = c.args.self.now.bytes.now in
    let p = c.args.self.now.offset in
    let section = c.in_ok-section.ensures.answer in
    let first : SFits w32 c.number.result = search rules in
    let second : SFits w32 c.number-2.result = search rules in
    let told = simp to_z-of_z at c.in-Ok.ensures in
    let source : c.number.result ≡ entry bytes p 0 = c.number.ensures ∙ ap (λ es. edge_or_zero es 0) section.1.1 in
    let panel : c.number-2.result ≡ entry bytes p 1 = c.number-2.ensures ∙ ap (λ es. edge_or_zero es 1) section.1.1 in
    rw (section.0, ← source, ← panel) (ap (option_map (refused_in p)) told.0, told.1)
