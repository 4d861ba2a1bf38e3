use Rattle.std.proofs.Common.{pos, ◌<ℤ◌, ◌≤ℤ◌, slice_index_or, rules}
use Rattle.std.proofs.lemmas.Iterator.{first_from_Range}
use borrow.Author.Tests.{tests}
use Rattle.sweeps.proofs.Runs.{fails_before}
use Rattle.sweeps.proofs.edges.LandedEdges.run_end.Goals as goal

pub returns-clause-before : goal.returns-clause-before
returns-clause-before c =
    let es = c.args.self.at.now in
    rw c.unwrap_or.ensures
    (fails_before c.find.result c.args.start _ (λ k. c.args.high ≤ℤ slice_index_or es k (pos 0)) (λ k. slice_index_or es k (pos 0) <ℤ c.args.high)
    (first_from_Range _ _ _ c.find.result _ _ c.find.ensures.ran (λ x q k. search (rules, tests)) (λ x q k. search (rules, tests))))
