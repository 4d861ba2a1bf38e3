use Rattle.std.proofs.Common.{◌≡◌, ◌+◌, ◌<◌, length, arith, rules}
use Rattle.sweeps.specs.Tables.{Tabled}
use Rattle.sweeps.proofs.block.Block.sweep_slab.Goals as goal

pub sweep_heights-requires-clause-slab : goal.sweep_heights-requires-clause-slab
sweep_heights-requires-clause-slab g c =
    let L = g.L.Landed.landing c.args.self.now.pass.now.view.now in
    let number = c.args.number in
    let e = c.slab_of.ensures in
    let crosses = c.filled-crosses.result.at.now in
    let across : length crosses ≡ L.crosses + 1 = search rules in
    let U : Tabled crosses (L.crosses + 1) (L.U number) = (across, λ i h. let below : i < length crosses = omega arith in search (rules, c.filled-crosses.ensures.edges i below)) in
    let heights = c.filled-heights.result.at.now in
    let up : length heights ≡ L.heights + 1 = search rules in
    let W : Tabled heights (L.heights + 1) (L.W number) = (up, λ i h. let below : i < length heights = omega arith in search (rules, c.filled-heights.ensures.edges i below)) in
    record {
      below = rw e.number c.requires.number;
      start = rw e.number e.start;
      stride = e.stride;
      height_stride = e.height_stride;
      crosses = rw (e.crosses, e.number) U;
      heights = rw (e.heights, e.number) W;
    }
