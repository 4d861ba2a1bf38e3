use Rattle.std.proofs.Common.{rules}
use Rattle.std.proofs.lemmas.Int.{to_z-of_z}
use Rattle.geometry.specs.Landed.{height_edge}
use Rattle.geometry.proofs.landed.Pose.height_edge.Goals as goal

pub returns : goal.returns
unfolding height_edge
returns c = search (rules, to_z-of_z)
