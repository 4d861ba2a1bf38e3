-- Where the edges of a view of a scan land, and its weights.
use Rattle.std.specs.Prelude.{ℕ, List, ℤ, ◌+ℤ◌, slice_index}
use Rattle.geometry.specs.Landed.{slab_sum, cross_edge, height_edge, column_edge, row_edge}
use Rattle.geometry.specs.Directions.{slab_axis, main_of, side_of}
use Rattle.geometry.specs.declared.direction.SlabAxis.{SlabAxis}
use Rattle.geometry.specs.declared.heading.Heading.{Heading}
use Rattle.scan.specs.Axes.{cells_of, edge_of, low_of, high_of}
use Rattle.scan.specs.Landing.{Landing, by_slabs, weight}
use Rattle.scan.specs.Scans.{Scan}
use Rattle.scan.specs.ViewDirections.{heading_at}

-- The edges of the slab axis.
abbrev pub slab_edges : Scan → SlabAxis → List ℤ
slab_edges scan along = by_slabs along scan.x scan.y

-- The edges of the cross axis, the other one of x and y.
abbrev pub cross_edges : Scan → SlabAxis → List ℤ
cross_edges scan along = by_slabs along scan.y scan.x

-- Q of slab j: the sum of its two edges, negated where the slabs are the cells of x.
abbrev pub slab_sum_of : Scan → SlabAxis → ℕ → ℤ
slab_sum_of scan along j = slab_sum along (low_of (slab_edges scan along) j) (high_of (slab_edges scan along) j)

-- K of column k: the sum of its two edges, which is twice its middle.
abbrev pub column_sum_of : Scan → ℕ → ℤ
column_sum_of scan k = low_of scan.column k +ℤ high_of scan.column k

-- Where the edges of a scan land from a direction, told by its slab axis, a and b.
abbrev pub landing_of : Scan → SlabAxis → ℤ → ℤ → Landing
landing_of scan along a b =
    record {
      along = along;
      slabs = cells_of (slab_edges scan along);
      crosses = cells_of (cross_edges scan along);
      heights = cells_of scan.z;
      columns = cells_of scan.column;
      rows = cells_of scan.row;
      U = λ j i. cross_edge scan.source a b (slab_sum_of scan along j) (edge_of (cross_edges scan along) i);
      W = λ j l. height_edge scan.source a (slab_sum_of scan along j) (edge_of scan.z l);
      S = λ k. column_edge scan.source scan.panel a b (edge_of scan.column k);
      T = λ k m. row_edge scan.source scan.panel a b (column_sum_of scan k) (edge_of scan.row m);
    }

-- The step of view v; past the last view, 0.
abbrev pub step_of : Scan → ℕ → ℕ
step_of scan v = slice_index scan.steps v

-- The heading of view v: that of its step.
abbrev pub heading_of : Scan → ℕ → Heading
heading_of scan v = heading_at scan.directions (step_of scan v)

-- Where the edges of view v land: from the direction of its heading.
unfoldable pub landing : Scan → ℕ → Landing
landing scan v = landing_of scan (slab_axis (heading_of scan v)) (main_of (heading_of scan v)) (side_of (heading_of scan v))

-- The weight in view v of the voxel at place x and the view's cell at place c.
abbrev pub weight_of : Scan → ℕ → ℕ → ℕ → ℕ
weight_of scan v x c = weight (landing scan v) x c
