use Rattle.std.proofs.Common.{◌+◌, pos, ◌<ℤ◌, ◌≤ℤ◌, slice_index_or, rules, tests}
use Rattle.std.proofs.lemmas.Iterator.{first_from_Range}
use Rattle.sweeps.proofs.Runs.{fails_before}
use Rattle.sweeps.proofs.edges.LandedEdges.stepped_up.Goals as goal

pub returns-clause-passed : goal.returns-clause-passed
returns-clause-passed c =
    let es = c.args.self.at.now in
    rw c.unwrap_or.ensures
    (fails_before c.find.result c.args.start _ (λ k. c.args.low <ℤ slice_index_or es (k + 1) (pos 0)) (λ k. slice_index_or es (k + 1) (pos 0) ≤ℤ c.args.low)
    (first_from_Range _ _ _ c.find.result _ _ c.find.ensures.ran (λ x q k. search (rules, tests)) (λ x q k. search (rules, tests))))
