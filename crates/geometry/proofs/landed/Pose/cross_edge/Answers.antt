use Rattle.std.proofs.Common.{rules}
use Rattle.std.proofs.lemmas.Int.{to_z-of_z}
use Rattle.geometry.specs.Landed.{cross_edge}
use Rattle.geometry.proofs.landed.Pose.cross_edge.Goals as goal

pub returns : goal.returns
unfolding cross_edge
returns c = search (rules, to_z-of_z)
