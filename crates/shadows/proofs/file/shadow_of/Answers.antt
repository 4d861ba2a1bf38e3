use Rattle.std.specs.Prelude.{None, map}
use Rattle.std.proofs.Common.{◌≡◌, ◌-◌, length, ap, ◌∙◌, arith}
use Rattle.std.proofs.lemmas.List.{length-drop}
use Rattle.values.specs.Counts.{count_of}
use Rattle.planfile.specs.Sections.{start, section_at}
use Rattle.planfile.specs.Plans.{values_in}
use Rattle.planfile.proofs.Nones.{none_map}
use Rattle.shadows.specs.declared.refusal.Refusal.TheVariants.{File}
use Rattle.shadows.specs.Shadows.{shadow_check}
use Rattle.shadows.proofs.Front.{nothing_refused, longest, front}
use Rattle.shadows.proofs.file.shadow_of.Goals as goal

pub returns-in_err-plan-clause-front : goal.returns-in_err-plan-clause-front
returns-in_err-plan-clause-front c = front c.args.bytes.now

pub returns-in_err-check_size-clause-front : goal.returns-in_err-check_size-clause-front
returns-in_err-check_size-clause-front c = front c.args.bytes.now

pub returns-in_err-values-clause-front : goal.returns-in_err-values-clause-front
returns-in_err-values-clause-front c = front c.args.bytes.now

pub returns-clause-front : goal.returns-clause-front
returns-clause-front c = front c.args.bytes.now

-- the section of the voxels begins where the plan ends
begins : (c : goal.After-make) → length c.args.bytes.now - length c.in_ok-plan.rest.now ≡ start c.args.bytes.now 8
begins c =
    let bytes = c.args.bytes.now in
    let read = c.in_ok-plan.ensures.answer in
    rw read.1.1 (omega (arith, read.1.2, length-drop (start bytes 8) bytes))

-- nothing of the file is refused
passed : (c : goal.After-make) → shadow_check c.args.bytes.now ≡ None
passed c =
    let read = c.in_ok-plan.ensures.answer in
    nothing_refused c.args.bytes.now _ _ read.0 read.1.0 (begins c) c.in_ok-check_size.ensures.0 (none_map File c.in_ok-values.ensures.0)

-- what was read are the values of the section
values_are : (c : goal.After-make) → map count_of (section_at c.args.bytes.now (length c.args.bytes.now - length c.in_ok-plan.rest.now)) ≡ values_in c.args.bytes.now (start c.args.bytes.now 8)
unfolding values_in
values_are c = ap (λ p. map count_of (section_at c.args.bytes.now p)) (begins c)

pub returns-clause-answer : goal.returns-clause-answer
returns-clause-answer c =
    let values = ap (map count_of) c.in_ok-values.ensures.1.0 ∙ values_are c in
    (passed c, rw (c.in_ok-plan.ensures.answer.1.0, values) at c.make.ensures)

pub returns-clause-longest : goal.returns-clause-longest
returns-clause-longest c = longest c.args.bytes.now (passed c)
