use Rattle.std.proofs.Common.{w32, w64, SFits, rules}
use Rattle.std.proofs.lemmas.Int.{to_z-of_z}
use Rattle.scan.proofs.Propers.{even_edge_of, edge_fits}
use Rattle.scan.proofs.even.EvenAxisAxis.edge.Goals as goal

pub overflow_cast-result : goal.overflow_cast-result
overflow_cast-result c =
    let a = c.args.self.now.spaced in
    let same = even_edge_of a.first a.pitch a.cells c.args.i _ _ c.min.ensures c.edge.ensures in
    let whole : SFits w64 c.edge.result = search rules in
    simp to_z-of_z (edge_fits _ c.args.self.now.proper c.args.i _ same)

pub returns : goal.returns
returns c =
    let a = c.args.self.now.spaced in
    let same = even_edge_of a.first a.pitch a.cells c.args.i _ _ c.min.ensures c.edge.ensures in
    let whole : SFits w64 c.edge.result = search rules in
    let half : SFits w32 c.edge.result = edge_fits _ c.args.self.now.proper c.args.i _ same in
    simp to_z-of_z same
