use Rattle.std.proofs.Common.{◌≡◌, ◌<◌, ℤ, nat_abs, sym, subst, rules}
use Rattle.geometry.specs.Floor.{floor_div, Floor}
use Rattle.geometry.proofs.FloorLaws.{floor_is}
use Rattle.geometry.proofs.floor.floor_div.Goals as goal

floored : (n d : ℤ) {r : ℤ} → r ≡ floor_div n d → record { value : r ≡ floor_div n d; floor : 0 < nat_abs d → Floor n d r }
floored n d e = record { value = e; floor = λ p. subst (Floor n d) (sym e) (floor_is n d p) }

pub returns-then-d-gt0 : goal.returns-then-d-gt0
returns-then-d-gt0 c = floored c.args.n c.args.d (search rules)

pub returns-then-d-lt0 : goal.returns-then-d-lt0
returns-then-d-lt0 c = floored c.args.n c.args.d (search rules)
