use Rattle.std.specs.Prelude.{◌<◌, ◌≤◌, length}
use Rattle.std.proofs.Common.{arith, sym, ap}
use Rattle.planfile.specs.Sections.{place_of, section_at, end_of}
use Rattle.planfile.specs.Numbers.{numbers_in}
use Rattle.planfile.specs.FileChecks.{steps_section}
use Rattle.planfile.proofs.Nones.{none_or, none_map}
use Rattle.planfile.proofs.SectionFacts.{section_count}
use Rattle.planfile.proofs.SectionChecks.{section_known}
use Rattle.planfile.proofs.Named.{placed_within}
use Rattle.planfile.proofs.cursor.Cursor.steps.Goals as goal

pub refused_number-requires : goal.refused_number-requires
refused_number-requires c =
    let bytes = c.args.self.now.bytes.now in
    let p = c.args.self.now.offset in
    let i = c.in-Some.i in
    let section = c.in_ok-section.ensures.answer in
    let found : i < length (section_at bytes p) = omega (arith, ap length section.1.1, c.in-Some.ensures.within) in
    let within : place_of p i < end_of bytes p = placed_within bytes p i found in
    rw section.1.0 (omega (arith, within, section.1.3))

pub returns-in-None-clause-answer : goal.returns-in-None-clause-answer
unfolding steps_section
returns-in-None-clause-answer c =
    let bytes = c.args.self.now.bytes.now in
    let p = c.args.self.now.offset in
    let section = c.in_ok-section.ensures.answer in
    let known = section_known bytes p 0 1024 section.0 in
    let none = sym c.in-None.ensures.value in
    let few : length (numbers_in c.in_ok-section.section.numbers.bytes.now) ≤ 1024 = omega (arith, ap length section.1.1, section_count bytes p, known.1) in
    (none_or section.0 (none_map _ (rw section.1.1 at none)), (section.1.1, none, few, section.1.2))
