use Rattle.std.proofs.Common.{◌≡◌, take, map}
use Rattle.values.specs.Counts.{count_of}
use Rattle.planfile.specs.Numbers.{numbers_in}
use Rattle.shadows.proofs.file.keep.Given as goal

-- the numbers so far
abbrev pub invariant-loop-i : goal.invariant-loop-i
invariant-loop-i l = l.volume.items ≡ map count_of (take l.i (numbers_in l.values.bytes.now))
