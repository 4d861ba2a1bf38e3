use Rattle.std.specs.Prelude.{◌≡◌, ◌<◌, ◌≤◌, ◌*◌, None, length}
use Rattle.std.proofs.Common.{arith, sym, ap}
use Rattle.scan.specs.DraftChecks.{first_off_circle}
use Rattle.scan.proofs.AcceptedLists.{all_accepted}
use Rattle.planfile.specs.Numbers.{numbers_in}
use Rattle.planfile.specs.Sections.{place_of, section_at, end_of}
use Rattle.planfile.specs.Pairs.{headings_in}
use Rattle.planfile.specs.FileChecks.{directions_section}
use Rattle.planfile.proofs.Nones.{none_or, none_map}
use Rattle.planfile.proofs.SectionFacts.{section_count}
use Rattle.planfile.proofs.SectionChecks.{section_known, pairs_known}
use Rattle.planfile.proofs.PairFacts.{headings_many}
use Rattle.planfile.proofs.Named.{placed_within}
use Rattle.planfile.proofs.cursor.Cursor.directions.Goals as goal
use Rattle.planfile.proofs.cursor.Cursor.directions.Goals.{In-Some}

-- the c of a heading that is refused is one of the section's numbers
named : (c : In-Some) → 2 * c.in-Some.direction < length (section_at c.args.self.now.bytes.now c.args.self.now.offset)
named c =
    let section = c.in_ok-section.ensures.answer in
    omega (arith, headings_many (numbers_in c.in_ok-section.section.numbers.bytes.now), ap length section.1.1, c.in-Some.ensures.within)

pub overflow_mul-direction : goal.overflow_mul-direction
overflow_mul-direction c =
    let bytes = c.args.self.now.bytes.now in
    let p = c.args.self.now.offset in
    let known = section_known bytes p 0 2048 (pairs_known bytes p 2048 c.in_ok-section.ensures.answer.0).0 in
    omega (arith, named (goal.at.overflow_mul-direction c).In-Some, section_count bytes p, known.1)

pub refused_number-requires : goal.refused_number-requires
refused_number-requires c =
    let bytes = c.args.self.now.bytes.now in
    let p = c.args.self.now.offset in
    let i = 2 * c.in-Some.direction in
    let section = c.in_ok-section.ensures.answer in
    let within : place_of p i < end_of bytes p = placed_within bytes p i (named (goal.at.refused_number-requires c).In-Some) in
    rw section.1.0 (omega (arith, within, section.1.3))

pub returns-in-None-clause-answer : goal.returns-in-None-clause-answer
unfolding directions_section
returns-in-None-clause-answer c =
    let bytes = c.args.self.now.bytes.now in
    let p = c.args.self.now.offset in
    let section = c.in_ok-section.ensures.answer in
    let headings = headings_in (numbers_in c.in_ok-section.section.numbers.bytes.now) in
    let known = section_known bytes p 0 2048 (pairs_known bytes p 2048 section.0).0 in
    let none : first_off_circle headings ≡ None = sym c.in-None.ensures.value in
    let few : length headings ≤ 1024 = omega (arith, headings_many (numbers_in c.in_ok-section.section.numbers.bytes.now), ap length section.1.1, section_count bytes p, known.1) in
    (none_or section.0 (none_map _ (rw section.1.1 at none)), (section.1.1, all_accepted headings few none))
