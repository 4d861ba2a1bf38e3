-- Boxes of voxels, by their bounds along x, y and z.
use Rattle.std.specs.Prelude.{ℕ, ◌/◌, ◌%◌, Bool, ◌&&◌, nat_le, nat_lt}
use Rattle.calls.specs.Systems.{System}
use Rattle.calls.specs.declared.voxel_box.Bounds.{Bounds}
use Rattle.calls.specs.declared.voxel_box.VoxelBox.{VoxelBox}

-- Whether a number lies in the bounds: the lower one is included, the upper one is not.
abbrev pub contains : Bounds → ℕ → Bool
contains b n = nat_le b.lower n && nat_lt n b.upper

-- Whether the bounds are in order and fit an axis of n cells: the upper one is no more than n.
abbrev pub bounds_fit : Bounds → ℕ → Bool
bounds_fit b n = nat_le b.lower b.upper && nat_le b.upper n

-- Whether the bounds of a box fit the three axes.
abbrev pub box_fits : System → VoxelBox → Bool
box_fits s b = bounds_fit b.x s.nx && (bounds_fit b.y s.ny && bounds_fit b.z s.nz)

-- Whether voxel (i, j, l) lies in a box.
abbrev pub box_contains : VoxelBox → ℕ → ℕ → ℕ → Bool
box_contains b i j l = contains b.x i && (contains b.y j && contains b.z l)

-- Whether the voxel at place p lies in a box: voxel (i, j, l) is at place (l ny + j) nx + i.
abbrev pub in_box : System → VoxelBox → ℕ → Bool
in_box s b p = box_contains b (p % s.nx) (p / s.nx % s.ny) (p / s.nx / s.ny)
