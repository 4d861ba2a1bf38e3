use Rattle.sweeps.proofs.Meetings.{column_none}
use Rattle.sweeps.proofs.Levels.{swept_none}
use Rattle.sweeps.proofs.block.sweep_column.Goals as goal

pub returns-else-voxels : goal.returns-else-voxels
returns-else-voxels g c =
    let e = c.over-voxels.ensures in
    swept_none g.met.V.Value.lawful (column_none c.requires.slab c.requires.column c.over-voxels.result (record { line = e.line; over = e.over }) c.if-voxels.false c.args.layer.first c.args.layer.count)
