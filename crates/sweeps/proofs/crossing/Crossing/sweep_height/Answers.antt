use Rattle.std.proofs.Common.{length}
use Rattle.sweeps.proofs.Meetings.{cells_none, meeting_is, meeting_placed}
use Rattle.sweeps.proofs.Levels.{swept_as, swept_none}
use Rattle.sweeps.proofs.crossing.Crossing.sweep_height.Goals as goal

pub exchange-requires : goal.exchange-requires
exchange-requires g c =
    let x = c.args.self.now in
    meeting_placed x.slab_of x.column_of c.requires.height c.voxels_at.ensures c.cells_at-cells.ensures x.pass.now.way (length x.pass.now.from.now) (length c.args.to.now) c.requires.sized

pub returns-then-cells : goal.returns-then-cells
returns-then-cells g c =
    let x = c.args.self.now in
    swept_as g.met.V.Value.lawful (meeting_is x.slab_of x.column_of c.requires.height c.voxels_at.ensures c.cells_at-cells.ensures) c.exchange.ensures

pub returns-else-cells : goal.returns-else-cells
returns-else-cells g c =
    let x = c.args.self.now in
    swept_none g.met.V.Value.lawful (cells_none x.slab_of x.column_of c.requires.height c.cells_at-cells.ensures c.if-cells.false)
