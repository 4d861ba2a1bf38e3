use Rattle.std.specs.Prelude.{◌<◌, length}
use Rattle.std.proofs.Common.{arith, sym, ap, ◌∙◌}
use Rattle.scan.specs.Refusals.{place as edge_number}
use Rattle.planfile.specs.Sections.{start}
use Rattle.planfile.specs.FileChecks.{refused_in}
use Rattle.planfile.proofs.Named.{column_named}
use Rattle.planfile.proofs.Cleared.{cleared, refused_clear}
use Rattle.planfile.specs.Numbers.{numbers_in}
use Rattle.planfile.proofs.axes.Axes.accepted.Goals as goal

pub refused_clearance-requires : goal.refused_clearance-requires
refused_clearance-requires c =
    let axes = c.args.self.now in
    let edges = numbers_in axes.column.numbers.bytes.now in
    let some : 0 < length edges = omega (arith, axes.column.proper.least) in
    let named : edge_number c.in-Err.refusal < length edges = column_named axes.distances.source axes.distances.panel (numbers_in axes.x.numbers.bytes.now) (numbers_in axes.y.numbers.bytes.now) edges c.in-Err.refusal some c.in-Err.ensures in
    omega (arith, named, axes.column_within)

pub returns-in-Ok : goal.returns-in-Ok
returns-in-Ok c bytes of =
    let told = rw (of.source, of.panel, of.x, of.y, of.column) at c.in-Ok.ensures in
    (cleared bytes told.0, record { source = told.1.0; panel = told.1.1; x = told.1.2; y = told.1.3; column = told.1.4 })

pub returns-in-Err : goal.returns-in-Err
unfolding start
returns-in-Err c bytes of =
    let told = rw (of.source, of.panel, of.x, of.y, of.column) at c.in-Err.ensures in
    let fault = c.refused_clearance.ensures in
    rw c.into.ensures (refused_clear bytes c.in-Err.refusal _ told (λ edge at panel same. ap (λ p. refused_in p c.in-Err.refusal) (sym of.column_start) ∙ fault.columns edge at panel same) fault.source)
