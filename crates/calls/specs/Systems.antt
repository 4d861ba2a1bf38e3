-- All that the calls know of a plan: its numbers of views, cells and voxels, and its weights, which may be any.
use Rattle.std.specs.Prelude.{ℕ, ◌+◌, ◌*◌, Bool, ◌&&◌, nat_le, nat_lt}

-- The numbers of views, of cells of one view and of voxels along x, y and z, and the weights.
pub record System : Type 0 where
  pub views : ℕ
  pub cells : ℕ
  pub nx : ℕ
  pub ny : ℕ
  pub nz : ℕ
  -- the weight in view v of the voxel at place x and the view's cell c: weight v x c
  pub weight : ℕ → ℕ → ℕ → ℕ

-- The number of places of the volume: voxel (i, j, l) is at place (l ny + j) nx + i.
abbrev pub voxels : System → ℕ
voxels s = s.nz * s.ny * s.nx

-- The number of places of the measured and of the working store: cell c of view v is at place v cells + c.
abbrev pub places : System → ℕ
places s = s.views * s.cells

-- Whether there is a view of that number.
abbrev pub is_view : System → ℕ → Bool
is_view s v = nat_lt v s.views

-- Whether a place of the measured or the working store is a cell of view v.
abbrev pub in_view : System → ℕ → ℕ → Bool
in_view s v i = nat_le (v * s.cells) i && nat_lt i (v * s.cells + s.cells)
