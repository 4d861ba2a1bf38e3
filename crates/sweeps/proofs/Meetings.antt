-- The line of voxels and the line of cells that meet at one slab, column and height.
use Rattle.std.proofs.Common.{◌≡◌, ℕ, ◌+◌, ◌*◌, ◌^◌, ◌<◌, ◌≤◌, if◌then◌else◌, ◌==◌, length, sym, ap, ◌∙◌, ap₂, ⊎_elim, mul_assoc, add-mul, mul-le-mul, mul-zero, zero-mul, mul-one, arith}
use Rattle.std.proofs.Math.Arith.{digits_lt}
use Rattle.std.proofs.lemmas.Bool.{cases_lt}
use Rattle.geometry.specs.declared.direction.SlabAxis.{SlabAxis}
use Rattle.geometry.specs.declared.direction.SlabAxis.TheVariants.{X, Y}
use Rattle.values.proofs.Sums.{sum_same, sum_none}
use Rattle.scan.specs.Landing.{Landing, Sound, by_slabs, voxels, cells, cross_overlap, height_overlap}
use Rattle.sweeps.specs.Strips.{laid, strip_cells, cell_overlap, strip_share, Inside}
use Rattle.sweeps.specs.Passes.{Lengths, Placed, slab_start, slab_stride, height_stride, voxel_share, cell_share, height_weight, column_weight, SlabOf, ColumnOf, Meets, VoxelLine, CellLine}
use Rattle.sweeps.specs.declared.pass.Way.{Way}
use Rattle.sweeps.specs.declared.pass.Way.TheVariants.{Forward, Back}
use Rattle.sweeps.specs.declared.pass.Slab.{Slab}
use Rattle.sweeps.specs.declared.pass.Column.{Column}
use Rattle.sweeps.specs.declared.strip.Strip.{Strip}
use Rattle.values.proofs.Naturals.{naturals_laws}
use Rattle.sweeps.proofs.Laid.{laid_zero}
use Rattle.geometry.proofs.Overlaps.{overlap_sorted, overlap_sym}

-- Where voxel i of slab j at height l stands: (l ny + j) nx + i, or (l ny + i) nx + j where the slabs are along x.
pub voxel_place : (a : SlabAxis) (s c l j i : ℕ) →
    by_slabs a j (j * by_slabs a s c) + l * (by_slabs a c s * by_slabs a s c) + i * by_slabs a (by_slabs a s c) 1
    ≡ by_slabs a ((l * c + i) * s + j) ((l * s + j) * c + i)
voxel_place X s c l j i = omega (arith, add-mul (l * c) i s, mul_assoc l c s)
voxel_place Y s c l j i = omega (arith, add-mul (l * s) j c, mul_assoc l s c, mul-one i)

-- that place lies in the volume
voxel_below : (a : SlabAxis) (s c h l j i : ℕ) → l < h → j < s → i < c →
    by_slabs a ((l * c + i) * s + j) ((l * s + j) * c + i) < h * by_slabs a c s * by_slabs a s c
voxel_below X s c h l j i lh js ic = digits_lt (digits_lt lh ic) js
voxel_below Y s c h l j i lh js ic = digits_lt (digits_lt lh js) ic

module _ (L : Landing) where
  voxel_inside : (j l i : ℕ) → j < L.slabs → l < L.heights → i < L.crosses → slab_start L j + l * height_stride L + i * slab_stride L < voxels L
  voxel_inside j l i js lh ic =
      rw (voxel_place L.along L.slabs L.crosses l j i) (voxel_below L.along L.slabs L.crosses L.heights l j i lh js ic)

  cell_inside : (k m : ℕ) → k < L.columns → m < L.rows → k + m * L.columns < cells L
  cell_inside k m kc mr = let h = digits_lt mr kc in omega arith

-- a volume has at most 2^27 voxels
volume_most : (a : SlabAxis) (s c h : ℕ) → s ≤ 512 → c ≤ 512 → h ≤ 512 → h * by_slabs a c s * by_slabs a s c ≤ 2 ^ 27
volume_most X s c h ls lc lh = mul-le-mul (mul-le-mul lh lc) ls
volume_most Y s c h ls lc lh = mul-le-mul (mul-le-mul lh ls) lc

-- the lowest voxel of a line has a small place
pub line_most : {L : Landing} {slab : Slab} → Sound L → SlabOf L slab → (l : ℕ) → l < L.heights → slab.lowest.start + l * slab.height_stride < 2 ^ 27
line_most {L = L} {slab = slab} sound sl l lh =
    let some = sound.crosses.0 in
    let h = voxel_inside L slab.number l 0 sl.below lh (omega arith) in
    let m = volume_most L.along L.slabs L.crosses L.heights sound.slabs.1 sound.crosses.1 sound.heights.1 in
    rw (sl.start, sl.height_stride) (omega (arith, zero-mul (slab_stride L)))

-- strips of the volume and of the view's cells lie in the stores of a pass, whichever is read
placed : (way : Way) (L : Landing) (from to : ℕ) (s t : Strip) → Inside s (voxels L) → Inside t (cells L) → Lengths way L from to → Placed way s t from to
placed Forward L from to s t a b z = (rw z.0 a, rw z.1 b)
placed Back L from to s t a b z = (rw z.0 b, rw z.1 a)

-- an empty run: no cell overlaps
share_empty : (s : Strip) → s.last ≤ s.first → (i : ℕ) → i < strip_cells s → cell_overlap s i ≡ 0
share_empty s h i l = ⊎_elim (λ lt. s.covers.before i lt) (λ ge. s.covers.after i (omega arith) l) (cases_lt i s.first)

-- a strip of n cells at the places start, start + stride, .., which overlap its stretch by w
record Stands (s : Strip) (start stride : ℕ) (w : ℕ → ℕ) (n : ℕ) : Type 0 where
  start_is : s.line.start ≡ start
  stride_is : s.line.stride ≡ stride
  cells_are : strip_cells s ≡ n
  overlaps : (i : ℕ) → i < n → cell_overlap s i ≡ w i

module _ {s : Strip} {start stride : ℕ} {w : ℕ → ℕ} {n : ℕ} (st : Stands s start stride w n) where
  -- its shares are the numbers w, laid on its places
  stands_laid : (p : ℕ) → strip_share s p ≡ laid start stride w n p
  unfolding laid
  stands_laid p =
      rw (st.start_is, st.stride_is, st.cells_are) (sum_same naturals_laws n _ _ (λ i l. ap (λ v. if p == start + i * stride then v else 0) (st.overlaps i l)))

  -- it lies in a store that has those places
  stands_inside : (m : ℕ) → ((i : ℕ) → i < n → start + i * stride < m) → Inside s m
  stands_inside m h i l = let c = st.cells_are in rw (st.start_is, st.stride_is) (h i (omega arith))

  -- its run is empty: none of the numbers counts
  stands_none : s.last ≤ s.first → (p : ℕ) → laid start stride w n p ≡ 0
  stands_none h p = sym (stands_laid p) ∙ laid_zero s.line.start s.line.stride (cell_overlap s) (strip_cells s) p (share_empty s h)

-- a voxel or a cell that is not there has no weight
module _ (L : Landing) (j k l x c : ℕ) where
  pub no_voxels : voxel_share L j k l x ≡ 0 → height_weight L j k l x c ≡ 0
  unfolding height_weight
  no_voxels e = ap (λ a. a * cell_share L j k l c) e ∙ zero-mul _

  pub no_cells : cell_share L j k l c ≡ 0 → height_weight L j k l x c ≡ 0
  unfolding height_weight
  no_cells e = ap (λ b. voxel_share L j k l x * b) e ∙ mul-zero _

module _ {L : Landing} {slab : Slab} {column : Column} (sl : SlabOf L slab) (co : ColumnOf L column) where
  -- over the column's stretch, the cross cells of the slab overlap as the definitions say
  cross_is : (s : Strip) → s.line.edges ≡ slab.lowest.edges → s.over ≡ column.over → (i : ℕ) → i < L.crosses → cell_overlap s i ≡ cross_overlap L slab.number i column.number
  unfolding cross_overlap
  cross_is s edges over i l =
      rw (edges, over, sl.crosses.1 i (omega arith), sl.crosses.1 (i + 1) (omega arith), co.low, co.high)
      (overlap_sorted (L.U slab.number i) (L.U slab.number (i + 1)) (L.S column.number) (L.S (column.number + 1)))

  -- the column meets no voxel of the slab
  pub column_none : (s : Strip) → Meets slab column s → s.last ≤ s.first → (low n : ℕ) → (x c : ℕ) → column_weight L slab.number column.number low n x c ≡ 0
  unfolding column_weight
  column_none s v h low n x c =
      let e = ap (λ line. length line.edges.at.now) v.line in
      let size = sl.crosses.0 in
      sum_none naturals_laws n _ (λ t h'.
      no_voxels L slab.number column.number (low + t) x c
      (laid_zero _ _ _ L.crosses x (λ i ic. sym (cross_is s (ap (λ line. line.edges) v.line) v.over i ic) ∙ share_empty s h i (omega arith))))

  module _ {l : ℕ} (lh : l < L.heights) where
    -- over the stretch of a height, so do the rows of the column
    row_is : {s : Strip} → CellLine slab column l s → (m : ℕ) → m < L.rows → cell_overlap s m ≡ height_overlap L slab.number l column.number m
    unfolding height_overlap
    row_is v m mr =
        rw (v.line, v.low, v.high, co.rows.1 m (omega arith), co.rows.1 (m + 1) (omega arith), sl.heights.1 l (omega arith), sl.heights.1 (l + 1) (omega arith))
        (overlap_sym (L.T column.number m) (L.T column.number (m + 1)) (L.W slab.number l) (L.W slab.number (l + 1)))

    -- the line of voxels, and the line of cells
    voxels_stand : {s : Strip} → VoxelLine slab column l s → Stands s (slab_start L slab.number + l * height_stride L) (slab_stride L) (λ i. cross_overlap L slab.number i column.number) L.crosses
    voxels_stand {s = s} v =
        record {
          start_is = rw (v.start, sl.start, sl.height_stride);
          stride_is = rw (v.stride, sl.stride);
          cells_are = rw (v.edges, sl.crosses.0) (omega arith);
          overlaps = cross_is s v.edges v.over;
        }

    cells_stand : {s : Strip} → CellLine slab column l s → Stands s column.number L.columns (λ m. height_overlap L slab.number l column.number m) L.rows
    cells_stand v =
        record {
          start_is = rw (v.line, co.start);
          stride_is = rw (v.line, co.stride);
          cells_are = rw (v.line, co.rows.0) (omega arith);
          overlaps = row_is v;
        }

    -- no cell is reached
    pub cells_none : {s : Strip} → CellLine slab column l s → s.last ≤ s.first → (x c : ℕ) → height_weight L slab.number column.number l x c ≡ 0
    cells_none v h x c = no_cells L slab.number column.number l x c (stands_none (cells_stand v) h c)

    module _ {s t : Strip} (vs : VoxelLine slab column l s) (ct : CellLine slab column l t) where
      -- what a voxel and a cell have of their weight here
      pub meeting_is : (x c : ℕ) → strip_share s x * strip_share t c ≡ height_weight L slab.number column.number l x c
      unfolding height_weight
      meeting_is x c = ap₂ (λ a b. a * b) (stands_laid (voxels_stand vs) x) (stands_laid (cells_stand ct) c)

      -- the two lines lie in the stores of a pass
      pub meeting_placed : (way : Way) (from to : ℕ) → Lengths way L from to → Placed way s t from to
      meeting_placed way from to =
          placed way L from to s t
          (stands_inside (voxels_stand vs) (voxels L) (λ i. voxel_inside L slab.number l i sl.below lh))
          (stands_inside (cells_stand ct) (cells L) (λ m. cell_inside L column.number m co.below))
