use Rattle.std.proofs.Common.{ℕ, ◌<◌, ◌+◌, ◌≤◌, length, slice_index_or, pos, ◌<ℤ◌, ◌≤ℤ◌, w64, SFits, rules}
use Rattle.std.proofs.lemmas.Int.{to_z-of_z}
use Rattle.sweeps.proofs.Runs.{covers_run}
use Rattle.sweeps.proofs.strip.Line.over.Goals as goal

pub invariant_of-result : goal.invariant_of-result
invariant_of-result c =
    let es = c.args.self.edges.at.now in
    let over = c.args.over in
    let first = c.run_start-first.result in
    let last = c.if-over.last in
    let fl : SFits w64 over.low = search rules in
    let fh : SFits w64 over.high = search rules in
    let run : first ≤ last = search rules in
    let ends : last < length es = search rules in
    let beyond : over.low <ℤ over.high → last + 1 < length es → over.high ≤ℤ slice_index_or es last (pos 0) = search (rules, to_z-of_z) in
    let before : (i : ℕ) → first ≤ i → i < last → slice_index_or es i (pos 0) <ℤ over.high = search (rules, to_z-of_z) in
    record { covers = covers_run es c.args.self.edges.rises over.low over.high over.ordered first last run ends (simp to_z-of_z at c.run_start-first.ensures.passed) beyond (simp to_z-of_z at c.run_start-first.ensures.met) before }
