-- The weights of all slabs, columns and heights together are the weights of voxels and cells.
use Rattle.std.proofs.Common.{◌≡◌, ℕ, List, length, ◌+◌, ◌*◌, ◌/◌, ◌%◌, ◌<◌, ◌≤◌, ◌≢◌, refl, sym, ap, ◌∙◌, ap₂, mod-lt, arith}
use Rattle.std.proofs.lemmas.Nat.{div_below, div-add-mod'}
use Rattle.std.proofs.Math.Arith.{digits_div, digits_mod}
use Rattle.geometry.specs.declared.direction.SlabAxis.{SlabAxis}
use Rattle.geometry.specs.declared.direction.SlabAxis.TheVariants.{X, Y}
use Rattle.values.specs.Sums.{sum}
use Rattle.values.proofs.Sums.{sum_none, sum_only, sum_swap, sum_split, sum_plus, sum_same}
use Rattle.scan.specs.Landing.{Landing, Sound, by_slabs, nx, ny, voxels, cells, slab_of, cross_of, height_of, cross_overlap, height_overlap, weight}
use Rattle.values.specs.Naturals.{naturals}
use Rattle.values.specs.Laws.{Ops, Laws}
use Rattle.sweeps.specs.declared.pass.Pass.{Pass}
use Rattle.sweeps.specs.Passes.{Sized, Swept, slab_start, slab_stride, height_stride, voxel_share, cell_share, height_weight, column_weight, layer_weight, block_weight}
use Rattle.values.proofs.Naturals.{naturals_laws}
use Rattle.sweeps.proofs.Meetings.{voxel_place, no_voxels, no_cells}
use Rattle.sweeps.proofs.Laid.{laid_only, laid_miss}
use Rattle.sweeps.proofs.Levels.{summed, swept_none, swept_joined, swept_within}

-- what a voxel and a cell have of their weight in column k, over all slabs
abbrev pub whole_column : Landing → ℕ → ℕ → ℕ → ℕ
whole_column L k x c = sum naturals L.slabs (λ j. column_weight L j k 0 L.heights x c)

-- a block after the columns before it
block_more : (L : Landing) (first n x c : ℕ) → summed (whole_column L) first x c + block_weight L first n x c ≡ summed (whole_column L) (first + n) x c
unfolding block_weight layer_weight
block_more L first n x c =
    ap (λ u. summed (whole_column L) first x c + u) (sum_swap naturals_laws L.slabs n (λ j d. column_weight L j (first + d) 0 L.heights x c))
    ∙ sym (sum_split naturals_laws first n (λ k. whole_column L k x c))

-- the heights from the lowest on
from_lowest : (L : Landing) (j k n x c : ℕ) → column_weight L j k 0 n x c ≡ sum naturals n (λ l. height_weight L j k l x c)
unfolding column_weight
from_lowest L j k n x c = sum_same naturals_laws n _ _ (λ t h. let e : 0 + t ≡ t = omega arith in ap (λ l. height_weight L j k l x c) e)

-- a layer above the heights below it
layer_more : (L : Landing) (first count j low n x c : ℕ) → layer_weight L first count j 0 low x c + layer_weight L first count j low n x c ≡ layer_weight L first count j 0 (low + n) x c
unfolding layer_weight column_weight
layer_more L first count j low n x c =
    sym (sum_plus naturals_laws count _ _)
    ∙ sum_same naturals_laws count _ _ (λ d h.
    let M : ℕ → ℕ = λ l. height_weight L j (first + d) l x c in
    ap (λ u. u + sum naturals n (λ t. M (low + t))) (from_lowest L j (first + d) low x c) ∙ sym (sum_split naturals_laws low n M) ∙ sym (from_lowest L j (first + d) (low + n) x c))

-- an axis has cells, whichever it is
some_cells : (a : SlabAxis) (s c : ℕ) → 1 ≤ s → 1 ≤ c → 0 < by_slabs a s c
some_cells X s c s1 c1 = s1
some_cells Y s c s1 c1 = c1

module _ (x a b : ℕ) where
  -- the place of three digits, the last below a and the middle below b
  encoded : (x / a / b * b + x / a % b) * a + x % a ≡ x
  encoded = ap (λ q. q * a + x % a) (div-add-mod' (x / a) b) ∙ div-add-mod' x a

  decoded : (l i j : ℕ) → i < b → j < a → x ≡ (l * b + i) * a + j → (j ≡ x % a) × ((i ≡ x / a % b) × (l ≡ x / a / b))
  decoded l i j ib ja e = rw (e, digits_mod (l * b + i) ja, digits_div (l * b + i) ja, digits_mod l ib, digits_div l ib) (refl, (refl, refl))

-- the same of a voxel's place, whichever axis the slabs are along: s slabs, c cross cells
module _ (s c x : ℕ) where
  abbrev slab : SlabAxis → ℕ
  slab a = by_slabs a (x % by_slabs a s c) (x / by_slabs a s c % by_slabs a c s)

  abbrev cross : SlabAxis → ℕ
  cross a = by_slabs a (x / by_slabs a s c % by_slabs a c s) (x % by_slabs a s c)

  abbrev height : SlabAxis → ℕ
  height a = x / by_slabs a s c / by_slabs a c s

  voxel_encoded : (a : SlabAxis) → x ≡ by_slabs a ((height a * c + cross a) * s + slab a) ((height a * s + slab a) * c + cross a)
  voxel_encoded X = sym (encoded x s c)
  voxel_encoded Y = sym (encoded x c s)

  voxel_decoded : (a : SlabAxis) (l j i : ℕ) → j < s → i < c → x ≡ by_slabs a ((l * c + i) * s + j) ((l * s + j) * c + i) → (j ≡ slab a) × ((i ≡ cross a) × (l ≡ height a))
  voxel_decoded X l j i js ic e = decoded x s c l i j ic js e
  voxel_decoded Y l j i js ic e = let d = decoded x c s l j i js ic e in (d.1.0, (d.0, d.1.1))

  slab_below : (a : SlabAxis) → 1 ≤ s → 1 ≤ c → slab a < s
  slab_below X s1 c1 = mod-lt x s1
  slab_below Y s1 c1 = mod-lt (x / c) s1

  cross_below : (a : SlabAxis) → 1 ≤ s → 1 ≤ c → cross a < c
  cross_below X s1 c1 = mod-lt (x / s) c1
  cross_below Y s1 c1 = mod-lt x c1

module _ (L : Landing) (sound : Sound L) (x c : ℕ) (xv : x < voxels L) (cc : c < cells L) where
  abbrev j' : ℕ
  j' = slab_of L x

  abbrev i' : ℕ
  i' = cross_of L x

  abbrev l' : ℕ
  l' = height_of L x

  abbrev k' : ℕ
  k' = c % L.columns

  abbrev m' : ℕ
  m' = c / L.columns

  height_below : l' < L.heights
  height_below =
      div_below (x / nx L) (ny L) L.heights (some_cells L.along L.crosses L.slabs sound.crosses.0 sound.slabs.0)
      (div_below x (nx L) (L.heights * ny L) (some_cells L.along L.slabs L.crosses sound.slabs.0 sound.crosses.0) xv)

  row_below : m' < L.rows
  row_below = div_below c L.columns L.rows sound.columns.0 cc

  -- a voxel at a line's place is the line's
  of_line : (j l i : ℕ) → j < L.slabs → i < L.crosses → x ≡ slab_start L j + l * height_stride L + i * slab_stride L → (j ≡ j') × ((i ≡ i') × (l ≡ l'))
  of_line j l i js ic e = voxel_decoded L.slabs L.crosses x L.along l j i js ic (e ∙ voxel_place L.along L.slabs L.crosses l j i)

  slab_is_below : j' < L.slabs
  slab_is_below = slab_below L.slabs L.crosses x L.along sound.slabs.0 sound.crosses.0

  -- on its own line it has its overlap
  voxel_here : (k : ℕ) → voxel_share L j' k l' x ≡ cross_overlap L j' i' k
  voxel_here k =
      laid_only (slab_start L j' + l' * height_stride L) (slab_stride L) (λ i. cross_overlap L j' i k) L.crosses i' x
      (cross_below L.slabs L.crosses x L.along sound.slabs.0 sound.crosses.0)
      (voxel_encoded L.slabs L.crosses x L.along ∙ sym (voxel_place L.along L.slabs L.crosses l' j' i'))
      (λ i ic ne e. ne (of_line j' l' i slab_is_below ic e).1.0)

  -- the voxel stands on no other line
  voxel_miss : (j k l : ℕ) → j < L.slabs → (j ≡ j' → l ≡ l' → ⊥) → height_weight L j k l x c ≡ 0
  voxel_miss j k l js other =
      no_voxels L j k l x c
      (laid_miss _ (slab_stride L) (λ i. cross_overlap L j i k) L.crosses x (λ i ic e. let of = of_line j l i js ic e in other of.0 of.1.1))

  -- a cell at a column's place is the column's
  of_column : (k m : ℕ) → k < L.columns → c ≡ k + m * L.columns → (k ≡ k') × (m ≡ m')
  of_column k m kc e =
      let f : c ≡ m * L.columns + k = omega arith in
      rw (f, digits_mod m kc, digits_div m kc) (refl, refl)

  column_below : k' < L.columns
  column_below = mod-lt c sound.columns.0

  -- in its own column it has its overlap
  cell_here : (j l : ℕ) → cell_share L j k' l c ≡ height_overlap L j l k' m'
  cell_here j l =
      laid_only k' L.columns (λ m. height_overlap L j l k' m) L.rows m' c row_below
      (let e = div-add-mod' c L.columns in omega arith)
      (λ m mr ne e. ne (of_column k' m column_below e).1)

  -- the cell stands in no other column
  cell_miss : (j k l : ℕ) → k < L.columns → k ≢ k' → height_weight L j k l x c ≡ 0
  cell_miss j k l kc ne =
      no_cells L j k l x c (laid_miss k L.columns (λ m. height_overlap L j l k m) L.rows c (λ m mr e. ne (of_column k m kc e).0))

  other_slab : (j : ℕ) → j < L.slabs → j ≢ j' → column_weight L j k' 0 L.heights x c ≡ 0
  other_slab j js ne = from_lowest L j k' L.heights x c ∙ sum_none naturals_laws L.heights _ (λ l lh. voxel_miss j k' l js (λ e f. ne e))

  other_column : (k : ℕ) → k < L.columns → k ≢ k' → whole_column L k x c ≡ 0
  other_column k kc ne =
      sum_none naturals_laws L.slabs _ (λ j js. from_lowest L j k L.heights x c ∙ sum_none naturals_laws L.heights _ (λ l lh. cell_miss j k l kc ne))

  -- every voxel and cell have their weight, once
  whole_weight : summed (whole_column L) L.columns x c ≡ weight L x c
  unfolding weight height_weight
  whole_weight =
      sum_only naturals_laws L.columns k' (λ k. whole_column L k x c) column_below other_column
      ∙ sum_only naturals_laws L.slabs j' (λ j. column_weight L j k' 0 L.heights x c) slab_is_below other_slab
      ∙ from_lowest L j' k' L.heights x c
      ∙ sum_only naturals_laws L.heights l' (λ l. height_weight L j' k' l x c) height_below (λ l lh ne. voxel_miss j' k' l slab_is_below (λ e f. ne f))
      ∙ ap₂ (λ a b. a * b) (voxel_here k') (cell_here j' l')

module _ {V View : Type 0} {o : Ops V} (laws : Laws o) {pass : Pass V View} (L : Landing) {old : List V} where
  -- a sweep of no height yet
  pub layer_none : (first count j : ℕ) → Swept o pass (layer_weight L first count j 0 0) old old
  unfolding layer_weight column_weight sum
  layer_none first count j = swept_none laws (λ x c. sum_none naturals_laws count _ (λ d h. refl))

  -- a sweep of the heights below a layer, and one of the layer
  pub layer_swept : (first count j low n : ℕ) {mid new : List V} → length mid ≡ length old → Swept o pass (layer_weight L first count j 0 low) old mid → Swept o pass (layer_weight L first count j low n) mid new → Swept o pass (layer_weight L first count j 0 (low + n)) old new
  layer_swept first count j low n len = swept_joined laws len (layer_more L first count j low n)

  -- a sweep of the columns before a block, and one of the block
  pub block_swept : (first n : ℕ) {mid new : List V} → length mid ≡ length old → Swept o pass (summed (whole_column L) first) old mid → Swept o pass (block_weight L first n) mid new → Swept o pass (summed (whole_column L) (first + n)) old new
  block_swept first n len = swept_joined laws len (block_more L first n)

  -- a sweep of all columns
  pub whole_swept : Sound L → Sized L pass (length old) → {n : ℕ} {new : List V} → n ≡ L.columns → Swept o pass (summed (whole_column L) n) old new → Swept o pass (weight L) old new
  whole_swept sound sized end s = swept_within laws L sized (whole_weight L sound) (rw end at s)
