-- The worked plan: small enough to follow by hand, with the figures that the definitions yield for it.
use Rattle.std.specs.Prelude.{◌≡◌, ℕ, List, [], ◌∷◌, map, ℤ, pos, neg_ℤ, Some, None}
use Rattle.std.specs.Option.{option_map}
use Rattle.values.specs.Counts.{counted, count_ops, shown}
use Rattle.values.specs.declared.count.Count.{Count}
use Rattle.scan.specs.Landing.{Landing}
use Rattle.scan.specs.Scans.{Scan}
use Rattle.scan.specs.Views.{landing}
use Rattle.scan.specs.DraftChecks.{draft_check}
use Rattle.scan.specs.Refusals.{number}
use Rattle.scan.specs.declared.refusal.Refusal.TheVariants.{SourceTooNear, ColumnBeyond}
use Rattle.calls.specs.Stores.{dot, Stores, three}
use Rattle.calls.specs.Systems.{System}
use Rattle.calls.specs.Calls.{forward, back}
use Rattle.calls.specs.RowLaws.{inner}
use Rattle.calls.specs.Rows.{outcome, mirrored}
use Rattle.calls.specs.declared.call.Call.{Call}
use Rattle.calls.specs.declared.call.Call.TheVariants.{Forward, Back}
use Rattle.sweeps.specs.Systems.{system_of}

-- The negative of a whole number.
abbrev minus : ℕ → ℤ
minus n = neg_ℤ (pos n)

-- The edges of x and of y: -100, 0, 100.
abbrev pub sides : List ℤ
sides = minus 100 ∷ pos 0 ∷ pos 100 ∷ []

-- The edges of the columns: -200, 0 and a last one.
abbrev pub columns_to : ℤ → List ℤ
columns_to last = minus 200 ∷ pos 0 ∷ last ∷ []

-- The worked plan, with views at some steps of the turn table.
abbrev pub worked : List ℕ → Scan
worked steps =
    record {
      source = pos 1000;
      panel = pos 2000;
      x = sides;
      y = sides;
      z = minus 50 ∷ pos 50 ∷ [];
      column = columns_to (pos 200);
      row = minus 100 ∷ pos 100 ∷ [];
      directions = [];
      steps = steps;
    }

-- Where the edges of the worked plan land at one step.
abbrev pub from : ℕ → Landing
from step = landing (worked (step ∷ [])) 0

-- The worked plan with one view, at a step, as the calls know it.
abbrev pub at_step : ℕ → System
at_step step = system_of (worked (step ∷ []))

-- The Counts of some whole numbers.
abbrev pub counts : List ℕ → List Count
counts ns = map counted ns

-- Four voxels that are all 1.
abbrev pub ones : List Count
ones = counts (1 ∷ 1 ∷ 1 ∷ 1 ∷ [])

-- Four values that are all 0, for voxels or for the cells of two views.
abbrev pub zeros : List Count
zeros = counts (0 ∷ 0 ∷ 0 ∷ 0 ∷ [])

-- The row of forward and then back, at view 0.
abbrev pub there_and_back : List (Call Count)
there_and_back = Forward 0 (counted 1) ∷ Back 0 (counted 1) ∷ []

-- The start of that row: voxels that are all 1, all else 0.
abbrev pub row_start : Stores Count
row_start = three ones (counts (0 ∷ 0 ∷ [])) (counts (0 ∷ 0 ∷ []))

-- The test stores of that row: working cells 1 and 0, all else 0.
abbrev pub row_test : Stores Count
row_test = three zeros (counts (0 ∷ 0 ∷ [])) (counts (1 ∷ 0 ∷ []))

-- The cells of the worked plan at steps 0 and 16, after forward from ones in both views.
abbrev pub worked_cells : List ℤ
worked_cells =
    let s = system_of (worked (0 ∷ 16 ∷ [])) in
    map shown (forward count_ops s 1 (counted 1) ones (forward count_ops s 0 (counted 1) ones zeros))

-- What the definitions yield for the worked plan.
pub record Figures : Type 0 where
  -- step 0, the slab from 0 to 100: U, and W
  pub near_U : map ((from 0).U 1) (0 ∷ 1 ∷ 2 ∷ []) ≡ minus 105 ∷ pos 0 ∷ pos 105 ∷ []
  pub near_W : map ((from 0).W 1) (0 ∷ 1 ∷ []) ≡ minus 53 ∷ pos 53 ∷ []
  -- step 0, the slab from -100 to 0: U, and W
  pub far_U : map ((from 0).U 0) (0 ∷ 1 ∷ 2 ∷ []) ≡ minus 95 ∷ pos 0 ∷ pos 95 ∷ []
  pub far_W : map ((from 0).W 0) (0 ∷ 1 ∷ []) ≡ minus 48 ∷ pos 48 ∷ []
  -- step 0: what back from cells 1, 1 makes of zeros, the inner product of that with ones, and forward's with the cells
  pub back_voxels : map shown (back count_ops (at_step 0) 0 (counted 1) (counts (1 ∷ 1 ∷ [])) zeros) ≡ pos 9120 ∷ pos 9120 ∷ pos 10000 ∷ pos 10000 ∷ []
  pub back_inner : shown (dot count_ops 4 (back count_ops (at_step 0) 0 (counted 1) (counts (1 ∷ 1 ∷ [])) zeros) ones) ≡ pos 38240
  pub forward_inner : shown (dot count_ops 2 (forward count_ops (at_step 0) 0 (counted 1) ones (counts (0 ∷ 0 ∷ []))) (counts (1 ∷ 1 ∷ []))) ≡ pos 38240
  -- step 0: the row forward and back, its outcome with the test stores, and its start with the mirrored row's outcome from them
  pub row_side : shown (inner count_ops (at_step 0) (outcome count_ops (at_step 0) there_and_back row_start) row_test) ≡ pos 19120
  pub mirrored_side : shown (inner count_ops (at_step 0) row_start (outcome count_ops (at_step 0) (mirrored there_and_back) row_test)) ≡ pos 19120
  -- step 8, the slab from 0 to 100: voxel (0, 1), at place 2, and voxel (1, 1), at place 3, on columns 0 and 1
  pub tie_left : map ((at_step 8).weight 0 2) (0 ∷ 1 ∷ []) ≡ 5184 ∷ 5724 ∷ []
  pub tie_right : map ((at_step 8).weight 0 3) (0 ∷ 1 ∷ []) ≡ 0 ∷ 10918 ∷ []
  -- step 32: S goes down, and voxel (0, 0) lands on column 1
  pub turned_S : map (from 32).S (0 ∷ 1 ∷ 2 ∷ []) ≡ pos 100 ∷ pos 0 ∷ minus 100 ∷ []
  pub turned_weight : (at_step 32).weight 0 0 1 ≡ 10000
  -- a source at 200 is refused by 7, and at 201 it is not
  pub too_near : draft_check (pos 200) (pos 2000) sides sides (columns_to (pos 200)) ≡ Some (SourceTooNear (pos 200) (pos 100))
  pub too_near_number : option_map number (draft_check (pos 200) (pos 2000) sides sides (columns_to (pos 200))) ≡ Some 7
  pub near_enough : draft_check (pos 201) (pos 2000) sides sides (columns_to (pos 200)) ≡ None
  -- a last column edge at 2,000 is refused by 8, and at 1,999 it is not
  pub beyond : draft_check (pos 1000) (pos 2000) sides sides (columns_to (pos 2000)) ≡ Some (ColumnBeyond 2 (pos 2000) (pos 2000))
  pub beyond_number : option_map number (draft_check (pos 1000) (pos 2000) sides sides (columns_to (pos 2000))) ≡ Some 8
  pub not_beyond : draft_check (pos 1000) (pos 2000) sides sides (columns_to (pos 1999)) ≡ None
