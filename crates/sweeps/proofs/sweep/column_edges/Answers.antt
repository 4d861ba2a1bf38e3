use Rattle.std.proofs.Common.{◌<◌, length, arith, rules}
use Rattle.sweeps.proofs.sweep.column_edges.Goals as goal

pub returns : goal.returns
returns g c =
    let size = c.filled.ensures.length in
    (size, λ i h. let below : i < length c.filled.result.now = omega arith in search (rules, c.filled.ensures.edges i below))
