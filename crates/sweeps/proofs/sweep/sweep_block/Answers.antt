use Rattle.std.proofs.Common.{◌≡◌, ◌+◌, ◌-◌, ◌*◌, length, arith, rules}
use Rattle.sweeps.specs.Passes.{BlockOf}
use Rattle.sweeps.proofs.sweep.sweep_block.Goals as goal

pub invariant_of-block : goal.invariant_of-block
invariant_of-block g c =
    let a = c.args in
    let L = g.L.Landed.landing a.pass.now.view.now in
    let columns = c.column_edges.result.now in
    let rows = c.row_edges.result.now in
    let across : length columns ≡ a.count + 1 = search rules in
    let down : length rows ≡ a.count * (L.rows + 1) = search rules in
    let S = c.column_edges.ensures in
    let T = c.row_edges.ensures in
    let tables : BlockOf L a.first a.count columns rows =
    record { below = c.requires.below; columns_are = (across, λ i h. S.1 i (omega (arith, S.0))); rows_are = (down, λ i h. T.1 i (omega (arith, T.0))) } in
    let same : a.count ≡ length columns - 1 = omega arith in
    record { tables = rw same at tables }

pub returns : goal.returns
returns g c =
    let across : length c.column_edges.result.now ≡ c.args.count + 1 = search rules in
    let same : length c.column_edges.result.now - 1 ≡ c.args.count = omega arith in
    rw same at c.sweep.ensures
