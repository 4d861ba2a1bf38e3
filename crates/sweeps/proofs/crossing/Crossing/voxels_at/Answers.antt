use Rattle.std.proofs.Common.{ap, ◌∙◌, arith}
use Rattle.sweeps.proofs.Meetings.{line_most}
use Rattle.sweeps.proofs.crossing.Crossing.voxels_at.Goals as goal

pub overflow_add-self : goal.overflow_add-self
overflow_add-self g c =
    let x = c.args.self.now in
    let most = line_most (g.met.L.Landed.sound x.pass.now.view.now) x.slab_of c.args.height c.requires in
    record { fits = omega arith }

pub returns : goal.returns
returns g c =
    let meets = c.args.self.now.meets in
    let e = c.moved.ensures in
    record { start = e.start; stride = e.stride ∙ ap (λ line. line.stride) meets.line; edges = e.edges ∙ ap (λ line. line.edges) meets.line; over = e.over ∙ meets.over }
