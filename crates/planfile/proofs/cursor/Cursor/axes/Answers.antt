use Rattle.std.proofs.Common.{refl, sym, ap, ◌∙◌}
use Rattle.std.specs.Prelude.{length}
use Rattle.planfile.specs.Sections.{section_at, entry, end_of, start}
use Rattle.planfile.specs.FileChecks.{distances_section, axis_section, axes_check}
use Rattle.planfile.proofs.SectionFacts.{section_count}
use Rattle.planfile.proofs.Nones.{none_or}
use Rattle.planfile.proofs.Moves.{At, moves, said}
use Rattle.planfile.proofs.cursor.Cursor.axes.Goals as goal

pub returns-clause-answer : goal.returns-clause-answer
unfolding axes_check start
returns-clause-answer c =
    let bytes = c.args.self.now.bytes.now in
    let at0 : At bytes 0 c.args.self.now = record { bytes_are = refl; offset_is = c.requires } in
    let at1 : At bytes 1 c.distances.new.self = moves at0 c.in_ok-distances.ensures.bytes c.in_ok-distances.ensures.moved in
    let at2 : At bytes 2 c.axis.new.self = moves at1 c.in_ok-x.ensures.bytes c.in_ok-x.ensures.moved in
    let at3 : At bytes 3 c.axis-2.new.self = moves at2 c.in_ok-y.ensures.bytes c.in_ok-y.ensures.moved in
    let at4 : At bytes 4 c.axis-3.new.self = moves at3 c.in_ok-z.ensures.bytes c.in_ok-z.ensures.moved in
    let at5 : At bytes 5 c.axis-4.new.self = moves at4 c.in_ok-column.ensures.bytes c.in_ok-column.ensures.moved in
    let d = c.in_ok-distances.ensures.answer in
    let x = c.in_ok-x.ensures.answer in
    let y = c.in_ok-y.ensures.answer in
    let z = c.in_ok-z.ensures.answer in
    let column = c.in_ok-column.ensures.answer in
    let row = c.in_ok-row.ensures.answer in (
      none_or (sym (said distances_section at0) ∙ d.0)
          (none_or (sym (said axis_section at1) ∙ x.0)
          (none_or (sym (said axis_section at2) ∙ y.0)
          (none_or (sym (said axis_section at3) ∙ z.0)
          (none_or (sym (said axis_section at4) ∙ column.0) (sym (said axis_section at5) ∙ row.0))))),
      record {
        source = d.1.0 ∙ said (λ b p. entry b p 0) at0;
        panel = d.1.1 ∙ said (λ b p. entry b p 1) at0;
        x = x.1.0 ∙ said section_at at1;
        y = y.1.0 ∙ said section_at at2;
        z = z.1.0 ∙ said section_at at3;
        column = column.1.0 ∙ said section_at at4;
        row = row.1.0 ∙ said section_at at5;
        column_start = at4.offset_is;
      },
    )

pub invariant_of-result : goal.invariant_of-result
unfolding end_of
invariant_of-result c =
    let column = c.in_ok-column.ensures.answer in
    let long = ap length column.1.0 ∙ section_count _ _ in
    record { column_within = rw long column.1.1 }
