use Rattle.scan.proofs.Clearance.{source_clear, columns_nearer}
use Rattle.scan.proofs.accepted.Accepted.new.Goals as goal

pub invariant_of-result : goal.invariant_of-result
invariant_of-result g c =
    let a = c.args in
    let d = a.distances in
    let passed = c.in_ok-check_clearance.ensures.0 in
    let x = g.X.Axis.edges a.x.now in
    let y = g.Y.Axis.edges a.y.now in
    let column = g.C.Axis.edges a.column.now in
    record { clear = source_clear d.source d.panel x y column passed; nearer = columns_nearer d.source d.panel x y column passed }
