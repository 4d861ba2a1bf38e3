use Rattle.std.specs.Prelude.{◌≡◌, ◌+◌, ◌-◌, ◌*◌, ◌/◌, ◌≤◌, length}
use Rattle.std.proofs.Common.{arith}
use Rattle.planfile.proofs.NumberFacts.{numbers_of_part}
use Rattle.planfile.proofs.NumberChecks.{all_whole, first_broken}
use Rattle.planfile.proofs.cursor.Cursor.numbers.Goals as goal

pub returns-then-whole-n-clause-answer : goal.returns-then-whole-n-clause-answer
returns-then-whole-n-clause-answer c =
    let cursor = c.args.self.now in
    first_broken cursor.bytes.now cursor.offset c.args.n (c.left-whole.result / 4) c.requires (omega (arith, c.left-whole.ensures)) c.if-whole-n.true

pub returns-clause-answer : goal.returns-clause-answer
returns-clause-answer c =
    let cursor = c.args.self.now in
    let bytes = cursor.bytes.now in
    let p = cursor.offset in
    let n = c.args.n in
    let within : p + 4 * n ≤ length bytes = omega (arith, c.left-whole.ensures) in
    let part : p + 4 * n - p ≡ 4 * n = omega arith in
    (all_whole bytes p n within, (rw part (numbers_of_part bytes p n within), within))
