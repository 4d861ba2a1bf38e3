-- Lemmas, no definitions of the subject: what a draft or a plan holds keeps the limits.
use Rattle.std.specs.Prelude.{◌≡◌, ℕ, ◌<◌, true, List, [], ◌∷◌, length, ℤ}
use Rattle.std.proofs.Common.{arith}
use Rattle.std.proofs.lemmas.Int.{ints}
use Rattle.geometry.specs.Circle.{is_accepted}
use Rattle.geometry.specs.declared.direction.SlabAxis.{SlabAxis}
use Rattle.geometry.specs.declared.heading.Heading.{Heading}
use Rattle.geometry.proofs.Table.{turn_accepted}
use Rattle.scan.specs.declared.layout.Layout.{Layout}
use Rattle.scan.specs.Scans.{Scan}
use Rattle.scan.specs.Limits.{Fitted}
use Rattle.scan.specs.Views.{landing_of}
use Rattle.scan.specs.ViewDirections.{direction_count, heading_at, AllAccepted}
use Rattle.scan.specs.Meanings.{scan_of}

-- every layout keeps the limits
pub fitted : (layout : Layout) → Fitted (scan_of layout)
fitted layout =
    let far = layout.distances.admitted in
    record {
      source_least = omega (arith, ints, far.source_some);
      source_most = omega (arith, ints, far.source_some, far.source_most);
      panel_least = far.panel_least;
      panel_most = omega (arith, ints, far.source_some, far.panel_least, far.panel_most);
      x = layout.x.proper;
      y = layout.y.proper;
      z = layout.z.proper;
      column = layout.column.proper;
      row = layout.row.proper;
      clear = layout.clear;
      nearer = layout.nearer;
      accepted = layout.accepted;
      steps = layout.known;
      views = layout.few;
    }

-- the heading of a step that is one of the directions is accepted
pub heading_accepted : (hs : List Heading) → AllAccepted hs → (q : ℕ) → q < direction_count (length hs) → is_accepted (heading_at hs q) ≡ true
heading_accepted [] all q l = turn_accepted q
heading_accepted (h ∷ hs) all q l = all.accepted q l

-- the same direction lands the same
pub landing_same : (scan : Scan) {along other : SlabAxis} {a b c d : ℤ} → along ≡ other → a ≡ c → b ≡ d → landing_of scan along a b ≡ landing_of scan other c d
landing_same scan p q r = cc
