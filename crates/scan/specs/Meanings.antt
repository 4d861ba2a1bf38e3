-- The scan that a draft or a plan holds.
use Rattle.scan.specs.Scans.{Scan}
use Rattle.scan.specs.declared.layout.Layout.{Layout}
use Rattle.scan.specs.declared.draft.Draft.{Draft}
use Rattle.scan.specs.declared.plan.Plan.{Plan}

-- The scan of a layout, which is what a draft and a plan are made of.
abbrev pub scan_of : Layout → Scan
scan_of layout =
    record {
      source = layout.distances.source;
      panel = layout.distances.panel;
      x = layout.x.edges.items;
      y = layout.y.edges.items;
      z = layout.z.edges.items;
      column = layout.column.edges.items;
      row = layout.row.edges.items;
      directions = layout.directions.items;
      steps = layout.steps.items;
    }

-- The scan of a draft.
abbrev pub draft_of : Draft → Scan
draft_of draft = scan_of draft.layout

-- The scan of a plan.
abbrev pub plan_of : Plan → Scan
plan_of plan = scan_of plan.layout
