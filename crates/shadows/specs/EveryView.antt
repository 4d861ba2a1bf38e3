-- Forward and back in every view, onto zeros.
use Rattle.std.specs.Prelude.{◌+◌, ◌*◌, ◌/◌, ◌%◌, List}
use Rattle.values.specs.Laws.{Ops}
use Rattle.values.specs.Sums.{sum}
use Rattle.calls.specs.Stores.{built, at}
use Rattle.calls.specs.Systems.{System, voxels, places}

-- Forward in every view, onto cells that are zero: each cell is f times its weighted sum of the voxels; place i is cell i % cells of view i / cells.
unfoldable pub projected : {V : Type 0} → Ops V → System → V → List V → List V
projected o s f volume =
    built (places s) (λ i. o.times f (sum o (voxels s) (λ x. o.multiple (at o volume x) (s.weight (i / s.cells) x (i % s.cells)))))

-- Back from every view, onto voxels that are zero: each voxel is the sum, over the views, of f times its weighted sum of the view's cells.
unfoldable pub backprojected : {V : Type 0} → Ops V → System → V → List V → List V
backprojected o s f working =
    built (voxels s) (λ x. sum o s.views (λ v. o.times f (sum o s.cells (λ c. o.multiple (at o working (v * s.cells + c)) (s.weight v x c)))))
