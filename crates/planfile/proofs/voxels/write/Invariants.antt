use Rattle.std.proofs.Common.{◌≡◌, ℕ, ◌<◌, slice_index_or}
use Rattle.values.specs.Counts.{counted}
use Rattle.scan.specs.AxisChecks.{edge_or_zero}
use Rattle.planfile.specs.Numbers.{numbers_in}
use Rattle.values.specs.Counts.{count_of}
use Rattle.planfile.proofs.voxels.write.Given as goal

-- the voxels before have their values
abbrev pub invariant-loop-i : goal.invariant-loop-i
invariant-loop-i l = (k : ℕ) → k < l.i → slice_index_or l.volume k (counted 0) ≡ count_of (edge_or_zero (numbers_in l.values.bytes.now) k)
