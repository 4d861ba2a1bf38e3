use Rattle.std.proofs.Common.{rules}
use Rattle.std.proofs.lemmas.Int.{to_z-of_z}
use Rattle.geometry.specs.Landed.{column_edge}
use Rattle.geometry.proofs.landed.Pose.column_edge.Goals as goal

pub returns : goal.returns
unfolding column_edge
returns c = search (rules, to_z-of_z)
