-- When the calls refuse: of checks joined by `option_or` the first that refuses is the answer.
use Rattle.std.specs.Prelude.{ℕ, not, length, Option, ◌==◌}
use Rattle.std.specs.Option.{option_or}
use Rattle.scan.specs.Verdicts.{refused_where}
use Rattle.scan.specs.declared.refusal.Refusal.{Refusal}
use Rattle.scan.specs.declared.refusal.Refusal.TheVariants.{NoView, StoreLength, BoxBounds}
use Rattle.scan.specs.declared.refusal.Store.{Store}
use Rattle.scan.specs.declared.refusal.Store.TheVariants.{Volume, Measured, Working}
use Rattle.scan.specs.declared.scan_axis.ScanAxis.{ScanAxis}
use Rattle.scan.specs.declared.scan_axis.ScanAxis.TheVariants.{X, Y, Z}
use Rattle.calls.specs.Stores.{Stores}
use Rattle.calls.specs.Boxes.{bounds_fit}
use Rattle.calls.specs.Systems.{System, voxels, places, is_view}
use Rattle.calls.specs.declared.call.Call.{Call}
use Rattle.calls.specs.declared.call.Call.TheVariants.{Forward, Back, Take, Give, Scale, Trim}
use Rattle.calls.specs.declared.voxel_box.Bounds.{Bounds}
use Rattle.calls.specs.declared.voxel_box.VoxelBox.{VoxelBox}

-- A number of no view is refused by 22.
abbrev pub view_number_check : System → ℕ → Option Refusal
view_number_check s view = refused_where (not (is_view s view)) (NoView view s.views)

-- A store of another length than the plan's is refused by 23.
abbrev pub store_check : Store → ℕ → ℕ → Option Refusal
store_check store found wanted = refused_where (not (found == wanted)) (StoreLength store found wanted)

-- Bounds that are not in order, or go past the n cells of their axis, are refused by 24.
abbrev pub bounds_check : ScanAxis → Bounds → ℕ → Option Refusal
bounds_check axis b n = refused_where (not (bounds_fit b n)) (BoxBounds axis b.lower b.upper n)

-- A box is refused by its bounds along x, or else y, or else z.
abbrev pub box_check : System → VoxelBox → Option Refusal
box_check s b =
    option_or (bounds_check X b.x s.nx) (option_or (bounds_check Y b.y s.ny) (bounds_check Z b.z s.nz))

-- Forward and back, on a view and stores of such lengths, are refused by the view's number, or else the volume, or else the working store.
unfoldable pub sweep_check : System → ℕ → ℕ → ℕ → Option Refusal
sweep_check s view volume working =
    option_or (view_number_check s view) (option_or (store_check Volume volume (voxels s)) (store_check Working working (places s)))

-- Take and give are refused by the view's number, or else the measured store, or else the working store.
unfoldable pub transfer_check : System → ℕ → ℕ → ℕ → Option Refusal
transfer_check s view measured working =
    option_or (view_number_check s view) (option_or (store_check Measured measured (places s)) (store_check Working working (places s)))

-- Scale is refused by the view's number, or else the working store.
unfoldable pub scale_check : System → ℕ → ℕ → Option Refusal
scale_check s view working = option_or (view_number_check s view) (store_check Working working (places s))

-- Trim is refused by the volume, or else the box.
unfoldable pub trim_check : System → VoxelBox → ℕ → Option Refusal
trim_check s within volume = option_or (store_check Volume volume (voxels s)) (box_check s within)

-- What refuses one call of a row: its own check, as if it were called alone.
abbrev pub call_check : {V : Type 0} → System → Call V → Stores V → Option Refusal
call_check s (Forward view factor) r = sweep_check s view (length r.volume) (length r.working)
call_check s (Back view factor) r = sweep_check s view (length r.volume) (length r.working)
call_check s (Take view factor) r = transfer_check s view (length r.measured) (length r.working)
call_check s (Give view factor) r = transfer_check s view (length r.measured) (length r.working)
call_check s (Scale view factor) r = scale_check s view (length r.working)
call_check s (Trim within) r = trim_check s within (length r.volume)

-- A row is refused by the volume, or else the measured store, or else the working store.
unfoldable pub row_check : System → ℕ → ℕ → ℕ → Option Refusal
row_check s volume measured working =
    option_or (store_check Volume volume (voxels s))
    (option_or (store_check Measured measured (places s)) (store_check Working working (places s)))
