use Rattle.std.proofs.Common.{w32, to_z, of_z}
use Rattle.std.proofs.lemmas.Result.{err_from_is_err_and}
use Rattle.std.proofs.lemmas.Int.{to_z-of_z}
use Rattle.scan.proofs.Propers.{even_proper}
use Rattle.scan.proofs.even.EvenAxis.new.Goals as goal

pub returns-in_err-check_edges : goal.returns-in_err-check_edges
returns-in_err-check_edges c =
    let p = err_from_is_err_and c.from_residual-in_err-check_edges.result c.from_residual-in_err-check_edges.ensures.1 in
    let first = c.ranges.first in
    let pitch = c.ranges.pitch in
    let found = simp to_z-of_z at c.in_err-check_edges.ensures in
    rw (p.1, p.2, c.in_ok-check_count.ensures.0) found

pub invariant_of-result : goal.invariant_of-result
invariant_of-result c =
    let first = to_z w32 (of_z w32 c.args.first) in
    let pitch = to_z w32 (of_z w32 c.args.pitch) in
    let passed = c.in_ok-check_edges.ensures.0 in
    record { proper = even_proper first pitch c.args.cells c.in_ok-check_count.ensures.0 passed }
