-- From an accepted call on a plan's view to what it asks and leaves.
use Rattle.std.proofs.Common.{◌≡◌, ℕ, ◌+◌, ◌-◌, ◌<◌, List, length, None, ℤ, sym, refl, ◌∙◌, arith}
use borrow.Rule.Slice.PartMut.{put_mid}
use Rattle.geometry.specs.declared.direction.SlabAxis.{SlabAxis}
use Rattle.geometry.specs.declared.direction.SlabAxis.TheVariants.{X, Y}
use Rattle.geometry.specs.Directions.{slab_axis, main_of, side_of}
use Rattle.scan.specs.Landing.{Landing, voxels as landing_voxels, cells, weight}
use Rattle.scan.specs.Scans.{Scan, voxels_of, panel_cells_of}
use Rattle.scan.specs.Views.{heading_of, landing_of, landing}
use Rattle.values.specs.Laws.{Ops, Laws}
use Rattle.calls.specs.Calls.{forward, back, transfer, scale, in_cells}
use Rattle.calls.specs.Stores.{at}
use Rattle.calls.specs.Systems.{System, voxels, places}
use Rattle.calls.specs.declared.voxel_box.VoxelBox.{VoxelBox}
use Rattle.sweeps.specs.Checks.{sweep_check, transfer_check, scale_check, trim_check, row_check}
use Rattle.sweeps.specs.Systems.{system_of}
use Rattle.sweeps.specs.Passes.{weights, CellsOf}
use Rattle.sweeps.specs.Strips.{Gained}
use Rattle.sweeps.specs.declared.pass.Way.TheVariants.{Forward, Back}
use Rattle.sweeps.proofs.Parts.{part, length_part, at_part}
use Rattle.sweeps.proofs.Places.{forward_is, back_is, in_cells_is}

by_axis : (scan : Scan) (along : SlabAxis) (a b : ℤ) → landing_voxels (landing_of scan along a b) ≡ voxels_of scan
by_axis scan X a b = refl
by_axis scan Y a b = refl

-- the volume has the same voxels, whichever axis the slabs are along
view_voxels : (scan : Scan) (view : ℕ) → landing_voxels (landing scan view) ≡ voxels_of scan
unfolding landing
view_voxels scan view = by_axis scan (slab_axis (heading_of scan view)) (main_of (heading_of scan view)) (side_of (heading_of scan view))

view_cells : (scan : Scan) (view : ℕ) → cells (landing scan view) ≡ panel_cells_of scan
unfolding landing
view_cells scan view = refl

-- the stores of an accepted call have the plan's lengths
pub sweep_sized : (s : System) (view volume working : ℕ) → sweep_check s view volume working ≡ None → (volume ≡ voxels s) × (working ≡ places s)
unfolding sweep_check
sweep_sized s view volume working e = (grind arith, grind arith)

pub transfer_sized : (s : System) (view measured working : ℕ) → transfer_check s view measured working ≡ None → (measured ≡ places s) × (working ≡ places s)
unfolding transfer_check
transfer_sized s view measured working e = (grind arith, grind arith)

pub scale_sized : (s : System) (view working : ℕ) → scale_check s view working ≡ None → working ≡ places s
unfolding scale_check
scale_sized s view working e = grind arith

pub trim_sized : (s : System) (within : VoxelBox) (volume : ℕ) → trim_check s within volume ≡ None → volume ≡ voxels s
unfolding trim_check
trim_sized s within volume e = grind arith

pub row_sized : (s : System) (volume measured working : ℕ) → row_check s volume measured working ≡ None → (volume ≡ voxels s) × ((measured ≡ places s) × (working ≡ places s))
unfolding row_check
row_sized s volume measured working e = (grind arith, (grind arith, grind arith))

module _ {scan : Scan} {view store start n : ℕ} {L : Landing} (of : CellsOf scan view store start n L) where
  -- the volume, and the view's part of a store of cells, have the lengths of its landing
  pub volume_sized : {volume : ℕ} → volume ≡ voxels (system_of scan) → volume ≡ landing_voxels L
  volume_sized e = rw of.lands (e ∙ sym (view_voxels scan view))

  pub part_sized : {V : Type 0} (xs : List V) → length xs ≡ store → length (part start n xs) ≡ cells L
  part_sized xs e =
      let within = of.within in
      rw (of.lands, view_cells) (length_part start n xs (omega arith) ∙ of.cells_are)

  module _ {V : Type 0} {o : Ops V} (laws : Laws o) (f : V) (volume working : List V) (volume_is : length volume ≡ voxels (system_of scan)) (working_is : length working ≡ places (system_of scan)) where
    -- what forward leaves in the working store
    pub forward_leaves : (ys : List V) → length ys ≡ length (part start n working) → Gained o f volume (weights Forward (weight L)) (part start n working) ys → put_mid start ((start + n) - start) working ys ≡ forward o (system_of scan) view f volume working
    forward_leaves = rw (of.lands, of.start_is, of.cells_are) (forward_is laws (system_of scan) view of.known f volume working volume_is working_is)

    -- what back leaves in the volume
    pub back_leaves : (new : List V) → length new ≡ length volume → Gained o f (part start n working) (weights Back (weight L)) volume new → new ≡ back o (system_of scan) view f working volume
    back_leaves = rw (of.lands, of.start_is, of.cells_are) (back_is laws (system_of scan) view of.known f volume working volume_is working_is)

  module _ {V : Type 0} (o : Ops V) (f : V) (xs : List V) (xs_are : length xs ≡ store) (sized : store ≡ places (system_of scan)) where
    part_length : length (part start n xs) ≡ n
    part_length = let within = of.within in length_part start n xs (omega arith)

    -- what a change of the view's cells, place by place, leaves in the store
    cells_leave : (change : ℕ → V → V) (ys : List V) → length ys ≡ n → ((p : ℕ) → p < n → at o ys p ≡ change (start + p) (at o xs (start + p))) → put_mid start ((start + n) - start) xs ys ≡ in_cells o (system_of scan) view change xs
    cells_leave change ys = rw (of.start_is, of.cells_are) (in_cells_is o (system_of scan) view of.known xs (xs_are ∙ sized) change ys)

    -- what scale leaves in the working store
    pub scale_leaves : (ys : List V) → length ys ≡ length (part start n xs) → ((p : ℕ) → p < length (part start n xs) → at o ys p ≡ o.times f (at o (part start n xs) p)) → put_mid start ((start + n) - start) xs ys ≡ scale o (system_of scan) view f xs
    unfolding scale
    scale_leaves ys len changed =
        let size = part_length in
        cells_leave (λ i cell. o.times f cell) ys (len ∙ size) (λ p l. rw (at_part start n xs o.zero p l) at (changed p (omega arith)))

    -- what take and give leave in the store that gains from another
    pub transfer_leaves : (from ys : List V) → length ys ≡ length (part start n xs) → ((p : ℕ) → p < length (part start n xs) → at o ys p ≡ o.plus (at o (part start n xs) p) (o.times f (at o (part start n from) p)))
        → put_mid start ((start + n) - start) xs ys ≡ transfer o (system_of scan) view f from xs
    unfolding transfer
    transfer_leaves from ys len changed =
        let size = part_length in
        cells_leave (λ i cell. o.plus cell (o.times f (at o from i))) ys (len ∙ size)
        (λ p l. rw (at_part start n xs o.zero p l, at_part start n from o.zero p l) at (changed p (omega arith)))
