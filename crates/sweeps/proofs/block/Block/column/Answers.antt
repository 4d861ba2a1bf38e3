use Rattle.std.proofs.Common.{◌+◌, ◌*◌, slice_index_or, pos, refl, ap, arith, w64, SFits, rules}
use Rattle.std.specs.List.{between}
use Rattle.std.proofs.lemmas.Int.{to_z-of_z}
use Rattle.sweeps.proofs.Blocks.{tabled_rising, part_tabled, block_column}
use Rattle.sweeps.proofs.block.Block.column.Goals as goal

pub invariant_of-rows : goal.invariant_of-rows
invariant_of-rows g c =
    let b = c.args.self.now in
    let L = g.L.Landed.landing b.pass.now.view.now in
    let sound = g.met.L.Landed.sound b.pass.now.view.now in
    let tabled = part_tabled b.tables c.args.offset c.requires in
    rw c.rows-width.ensures
    (record { some = omega arith; rises = tabled_rising _ L.rows _ tabled (sound.T_rises (b.first + c.args.offset)) })

pub returns-clause-column : goal.returns-clause-column
returns-clause-column g c =
    let b = c.args.self.now in
    let one : SFits w64 (slice_index_or b.columns.now c.args.offset (pos 0)) = search rules in
    let other : SFits w64 (slice_index_or b.columns.now (c.args.offset + 1) (pos 0)) = search rules in
    block_column b.tables c.args.offset c.requires _ refl refl c.columns.ensures (simp to_z-of_z at c.between.ensures.low) (simp to_z-of_z at c.between.ensures.high)
    (ap (λ n. between (c.args.offset * n) (c.args.offset * n + n) b.rows.now) (ap (λ m. m + 1) c.rows-width.ensures))
