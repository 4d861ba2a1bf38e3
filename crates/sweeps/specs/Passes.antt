-- What the loops of a sweep add up, level by level: for readers of the code. The calls' promises do not rest on it.
use Rattle.std.specs.Prelude.{◌≡◌, ℕ, ◌+◌, ◌*◌, ◌/◌, ◌%◌, ◌<◌, ◌≤◌, List, length, ℤ, pos, slice_index_or}
use Rattle.std.specs.Int.{int_min, int_max}
use Rattle.values.specs.Laws.{Ops}
use Rattle.values.specs.Sums.{sum}
use Rattle.scan.specs.Landing.{Landing, by_slabs, nx, ny, voxels, cells, cross_overlap, height_overlap}
use Rattle.scan.specs.Scans.{Scan, panel_cells_of}
use Rattle.scan.specs.Views.{landing}
use Rattle.values.specs.Naturals.{naturals}
use Rattle.sweeps.specs.Strips.{laid, Inside, Gained}
use Rattle.sweeps.specs.Tables.{Tabled}
use Rattle.sweeps.specs.declared.pass.Way.{Way}
use Rattle.sweeps.specs.declared.pass.Way.TheVariants.{Forward, Back}
use Rattle.sweeps.specs.declared.pass.Pass.{Pass}
use Rattle.sweeps.specs.declared.pass.Slab.{Slab}
use Rattle.sweeps.specs.declared.pass.Column.{Column}
use Rattle.sweeps.specs.declared.strip.Strip.{Strip}

-- The weight of a source and a target place, where M is that of a voxel and a cell.
abbrev pub weights : Way → (ℕ → ℕ → ℕ) → ℕ → ℕ → ℕ
weights Forward M q p = M q p
weights Back M q p = M p q

-- The lengths of source and target: forward goes from voxels to cells, back from cells to voxels.
abbrev pub Lengths : Way → Landing → ℕ → ℕ → Type 0
Lengths Forward L from to = (from ≡ voxels L) × (to ≡ cells L)
Lengths Back L from to = (from ≡ cells L) × (to ≡ voxels L)

-- A pass reads a source of its view's length, and so many targets are the other's.
abbrev pub Sized : {V View : Type 0} → Landing → Pass V View → ℕ → Type 0
Sized L pass to = Lengths pass.way L (length pass.from.now) to

-- Each target place has gained what a pass brings it by the weight M of a voxel and a cell.
pub record Swept {V View : Type 0} (o : Ops V) (pass : Pass V View) (M : ℕ → ℕ → ℕ) (old new : List V) : Type 0 where
  pub gained : Gained o pass.factor pass.from.now (weights pass.way M) old new

-- The strips of voxels and of cells lie in the source and the target.
abbrev pub Placed : Way → Strip → Strip → ℕ → ℕ → Type 0
Placed Forward voxelStrip cellStrip from to = Inside voxelStrip from × Inside cellStrip to
Placed Back voxelStrip cellStrip from to = Inside cellStrip from × Inside voxelStrip to

-- The place of the first voxel of slab j.
abbrev pub slab_start : Landing → ℕ → ℕ
slab_start L j = by_slabs L.along j (j * nx L)

-- The places from one voxel of a slab to the next along the cross axis.
abbrev pub slab_stride : Landing → ℕ
slab_stride L = by_slabs L.along (nx L) 1

-- The places from one voxel to the next along z.
abbrev pub height_stride : Landing → ℕ
height_stride L = ny L * nx L

-- How far voxel x overlaps column k, if it stands in slab j at height l; else 0.
abbrev pub voxel_share : Landing → ℕ → ℕ → ℕ → ℕ → ℕ
voxel_share L j k l x = laid (slab_start L j + l * height_stride L) (slab_stride L) (λ i. cross_overlap L j i k) L.crosses x

-- How far cell c overlaps height l of slab j, if it stands in column k; else 0.
abbrev pub cell_share : Landing → ℕ → ℕ → ℕ → ℕ → ℕ
cell_share L j k l c = laid k L.columns (λ m. height_overlap L j l k m) L.rows c

-- What voxel x and cell c have of their weight where slab j, column k and height l meet.
unfoldable pub height_weight : Landing → ℕ → ℕ → ℕ → ℕ → ℕ → ℕ
height_weight L j k l x c = voxel_share L j k l x * cell_share L j k l c

-- The same over n heights from `low` on.
unfoldable pub column_weight : Landing → ℕ → ℕ → ℕ → ℕ → ℕ → ℕ → ℕ
column_weight L j k low n x c = sum naturals n (λ t. height_weight L j k (low + t) x c)

-- The same over `count` columns from the first on.
unfoldable pub layer_weight : Landing → ℕ → ℕ → ℕ → ℕ → ℕ → ℕ → ℕ → ℕ
layer_weight L first count j low n x c = sum naturals count (λ d. column_weight L j (first + d) low n x c)

-- The same over all heights.
abbrev pub slab_weight : Landing → ℕ → ℕ → ℕ → ℕ → ℕ → ℕ
slab_weight L first count j = layer_weight L first count j 0 L.heights

-- The same over all slabs.
unfoldable pub block_weight : Landing → ℕ → ℕ → ℕ → ℕ → ℕ
block_weight L first count x c = sum naturals L.slabs (λ j. slab_weight L first count j x c)

-- The numbers and tables of a slab.
pub record SlabOf (L : Landing) (s : Slab) : Type 0 where
  pub below : s.number < L.slabs
  pub start : s.lowest.start ≡ slab_start L s.number
  pub stride : s.lowest.stride ≡ slab_stride L
  pub height_stride : s.height_stride ≡ height_stride L
  pub crosses : Tabled s.lowest.edges.at.now (L.crosses + 1) (L.U s.number)
  pub heights : Tabled s.heights.at.now (L.heights + 1) (L.W s.number)

-- The numbers and the table of a column, its S stretch with the lower end first.
pub record ColumnOf (L : Landing) (c : Column) : Type 0 where
  pub below : c.number < L.columns
  pub start : c.cells.start ≡ c.number
  pub stride : c.cells.stride ≡ L.columns
  pub low : c.over.low ≡ int_min (L.S c.number) (L.S (c.number + 1))
  pub high : c.over.high ≡ int_max (L.S c.number) (L.S (c.number + 1))
  pub rows : Tabled c.cells.edges.at.now (L.rows + 1) (L.T c.number)

-- The strip is the lowest voxels of a slab, over the stretch of a column.
pub record Meets (s : Slab) (c : Column) (strip : Strip) : Type 0 where
  pub line : strip.line ≡ s.lowest
  pub over : strip.over ≡ c.over

-- The strip is the voxels of a slab at height l, over the stretch of a column.
pub record VoxelLine (s : Slab) (c : Column) (l : ℕ) (strip : Strip) : Type 0 where
  pub start : strip.line.start ≡ s.lowest.start + l * s.height_stride
  pub stride : strip.line.stride ≡ s.lowest.stride
  pub edges : strip.line.edges ≡ s.lowest.edges
  pub over : strip.over ≡ c.over

-- The strip is the cells of a column, over the stretch of height l.
pub record CellLine (s : Slab) (c : Column) (l : ℕ) (strip : Strip) : Type 0 where
  pub line : strip.line ≡ c.cells
  pub low : strip.over.low ≡ slice_index_or s.heights.at.now l (pos 0)
  pub high : strip.over.high ≡ slice_index_or s.heights.at.now (l + 1) (pos 0)

-- The numbers and tables of some columns side by side: `columns` holds their S edges, and `rows` the T edges of one after another.
pub record BlockOf (L : Landing) (first count : ℕ) (columns rows : List ℤ) : Type 0 where
  pub below : first + count ≤ L.columns
  pub columns_are : Tabled columns (count + 1) (λ i. L.S (first + i))
  pub rows_are : Tabled rows (count * (L.rows + 1)) (λ i. L.T (first + i / (L.rows + 1)) (i % (L.rows + 1)))

-- Where the cells of a view stand in a store of so many places, and how the view lands.
pub record CellsOf (scan : Scan) (view store start cells : ℕ) (L : Landing) : Type 0 where
  pub known : view < length scan.steps
  pub within : start + cells ≤ store
  pub start_is : start ≡ view * panel_cells_of scan
  pub cells_are : cells ≡ panel_cells_of scan
  pub lands : L ≡ landing scan view
