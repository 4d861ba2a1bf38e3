use Rattle.std.proofs.Common.{ap, ◌∙◌}
use Rattle.sweeps.proofs.crossing.Crossing.cells_at.Goals as goal

pub returns : goal.returns
returns g c =
    let e = c.over.ensures in
    record { line = e.line; low = ap (λ over. over.low) e.over ∙ c.stretch.ensures.low; high = ap (λ over. over.high) e.over ∙ c.stretch.ensures.high }
