use Rattle.std.proofs.lemmas.Int.{to_z-of_z}
use Rattle.sweeps.proofs.Runs.{edges_before}
use Rattle.sweeps.proofs.edges.LandedEdges.run_start.Goals as goal

pub returns-clause-passed : goal.returns-clause-passed
returns-clause-passed c =
    let fl = c.ranges.low in
    let bound = c.stepped_up.ensures.bound in
    edges_before c.args.self.at.now c.args.self.rises c.args.low c.stepped_down.result c.stepped_up.result bound.0 bound.1
    (simp to_z-of_z at c.stepped_down.ensures.below) (simp to_z-of_z at c.stepped_up.ensures.passed)
