-- What each of the six calls makes of the store that it changes; forward and back go by one and the same weight.
use Rattle.std.specs.Prelude.{ℕ, ◌+◌, ◌-◌, ◌*◌, if◌then◌else◌, List}
use Rattle.values.specs.Laws.{Ops}
use Rattle.values.specs.Sums.{sum}
use Rattle.calls.specs.Stores.{built, at}
use Rattle.calls.specs.Systems.{System, voxels, places, in_view}
use Rattle.calls.specs.Boxes.{in_box}
use Rattle.calls.specs.declared.voxel_box.VoxelBox.{VoxelBox}

-- A store of cells in which each cell of view v becomes what `change` makes of its place and its value, and the others stay.
abbrev pub in_cells : {V : Type 0} → Ops V → System → ℕ → (ℕ → V → V) → List V → List V
in_cells o s v change store = built (places s) (λ i. if in_view s v i then change i (at o store i) else at o store i)

-- Forward: each working cell of view v gains f times its weighted sum of all voxels, where a voxel counts by the multiple of its value by the weight.
unfoldable pub forward : {V : Type 0} → Ops V → System → ℕ → V → List V → List V → List V
forward o s v f volume working =
    in_cells o s v (λ i cell. o.plus cell (o.times f (sum o (voxels s) (λ x. o.multiple (at o volume x) (s.weight v x (i - v * s.cells)))))) working

-- Back: each voxel gains f times its weighted sum of the working cells of view v, where a cell counts by the multiple of its value by the same weight.
unfoldable pub back : {V : Type 0} → Ops V → System → ℕ → V → List V → List V → List V
back o s v f working volume =
    built (voxels s) (λ x.
    o.plus (at o volume x) (o.times f (sum o s.cells (λ c. o.multiple (at o working (v * s.cells + c)) (s.weight v x c)))))

-- Take, from the measured to the working store, and give, from the working to the measured: each cell of view v gains f times the same cell of the other store.
unfoldable pub transfer : {V : Type 0} → Ops V → System → ℕ → V → List V → List V → List V
transfer o s v f from to = in_cells o s v (λ i cell. o.plus cell (o.times f (at o from i))) to

-- Scale: each working cell of view v becomes f times itself.
unfoldable pub scale : {V : Type 0} → Ops V → System → ℕ → V → List V → List V
scale o s v f working = in_cells o s v (λ i cell. o.times f cell) working

-- Trim: the voxels in the box stay, and the others become zero.
unfoldable pub trim : {V : Type 0} → Ops V → System → VoxelBox → List V → List V
trim o s within volume = built (voxels s) (λ p. if in_box s within p then at o volume p else o.zero)
