use Rattle.std.proofs.Common.{arith}
use Rattle.scan.proofs.Propers.{even_length}
use Rattle.scan.proofs.even.EvenAxisAxis.cells.Goals as goal

pub returns : goal.returns
returns c =
    let a = c.args.self.now.spaced in
    let long = even_length a.first a.pitch a.cells in
    omega arith
