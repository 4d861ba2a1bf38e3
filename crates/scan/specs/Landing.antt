-- Where the edges of one view land on the common plane, and the weights that follow: the area in which a voxel and a panel cell overlap there.
use Rattle.std.specs.Prelude.{ℕ, ◌+◌, ◌*◌, ◌/◌, ◌%◌, ◌^◌, ◌<◌, ◌≤◌, ◌⊎◌, ℤ, ◌≤ℤ◌, unsigned_abs}
use Rattle.geometry.specs.Overlap.{overlap}
use Rattle.geometry.specs.declared.direction.SlabAxis.{SlabAxis}
use Rattle.geometry.specs.declared.direction.SlabAxis.TheVariants.{X, Y}

-- One view: its slab axis, its numbers of slabs, of cells of the cross axis and of z, and of panel columns and rows, and where its edges land.
pub record Landing : Type 0 where
  pub along : SlabAxis
  pub slabs : ℕ
  pub crosses : ℕ
  pub heights : ℕ
  pub columns : ℕ
  pub rows : ℕ
  -- U j i: edge i of the cross axis, in slab j
  pub U : ℕ → ℕ → ℤ
  -- W j l: edge l of z, in slab j
  pub W : ℕ → ℕ → ℤ
  -- S k: edge k of the columns
  pub S : ℕ → ℤ
  -- T k m: edge m of the rows, in column k
  pub T : ℕ → ℕ → ℤ

-- The first of two where the slabs are the cells of x, and the second where they are the cells of y.
abbrev pub by_slabs : {A : Type 0} → SlabAxis → A → A → A
by_slabs X a b = a
by_slabs Y a b = b

-- The number of cells of the x axis.
abbrev pub nx : Landing → ℕ
nx L = by_slabs L.along L.slabs L.crosses

-- The number of cells of the y axis.
abbrev pub ny : Landing → ℕ
ny L = by_slabs L.along L.crosses L.slabs

-- The number of voxels: voxel (i, j, l) stands at place (l ny + j) nx + i.
abbrev pub voxels : Landing → ℕ
voxels L = L.heights * ny L * nx L

-- The number of panel cells: the cell of row m and column k stands at place m columns + k of the view.
abbrev pub cells : Landing → ℕ
cells L = L.rows * L.columns

-- The number of the slab of the voxel at place x.
abbrev pub slab_of : Landing → ℕ → ℕ
slab_of L x = by_slabs L.along (x % nx L) (x / nx L % ny L)

-- The number along the cross axis of the voxel at place x.
abbrev pub cross_of : Landing → ℕ → ℕ
cross_of L x = by_slabs L.along (x / nx L % ny L) (x % nx L)

-- The number along z of the voxel at place x.
abbrev pub height_of : Landing → ℕ → ℕ
height_of L x = x / nx L / ny L

-- The cross overlap of the cross cell i of slab j with column k: that of its U stretch and the column's S stretch.
unfoldable pub cross_overlap : Landing → ℕ → ℕ → ℕ → ℕ
cross_overlap L j i k = overlap (L.U j i) (L.U j (i + 1)) (L.S k) (L.S (k + 1))

-- The height overlap of height l of slab j with row m of column k: that of its W stretch and the cell's T stretch.
unfoldable pub height_overlap : Landing → ℕ → ℕ → ℕ → ℕ → ℕ
height_overlap L j l k m = overlap (L.W j l) (L.W j (l + 1)) (L.T k m) (L.T k (m + 1))

-- The weight of the voxel at place x and the cell at place c: the product of their cross overlap and their height overlap.
unfoldable pub weight : Landing → ℕ → ℕ → ℕ
weight L x c =
    cross_overlap L (slab_of L x) (cross_of L x) (c % L.columns)
    * height_overlap L (slab_of L x) (height_of L x) (c % L.columns) (c / L.columns)

-- The limits of every number of cells: 1 to 512.
abbrev pub CellLimits : ℕ → Type 0
CellLimits n = (1 ≤ n) × (n ≤ 512)

-- What holds of every view: along each axis there are 1 to 512 cells, U, W and T never go down, S goes one way, and U and W lie less than 2^25 from 0.
pub record Sound (L : Landing) : Type 0 where
  pub slabs : CellLimits L.slabs
  pub crosses : CellLimits L.crosses
  pub heights : CellLimits L.heights
  pub columns : CellLimits L.columns
  pub rows : CellLimits L.rows
  pub U_rises : (j i : ℕ) → L.U j i ≤ℤ L.U j (i + 1)
  pub W_rises : (j l : ℕ) → L.W j l ≤ℤ L.W j (l + 1)
  pub T_rises : (k m : ℕ) → L.T k m ≤ℤ L.T k (m + 1)
  pub S_one_way : ((k : ℕ) → L.S k ≤ℤ L.S (k + 1)) ⊎ ((k : ℕ) → L.S (k + 1) ≤ℤ L.S k)
  pub U_within : (j i : ℕ) → unsigned_abs (L.U j i) < 2 ^ 25
  pub W_within : (j l : ℕ) → unsigned_abs (L.W j l) < 2 ^ 25
