use Rattle.std.proofs.Common.{lit≤}
use Rattle.geometry.specs.Landed.{depth}
use Rattle.geometry.proofs.Words.{returned}
use Rattle.geometry.proofs.Dividends.{middle, source, main, depth_made}
use Rattle.geometry.proofs.landed.Pose.depth.Goals as goal

pub overflow_sub-result : goal.overflow_sub-result
overflow_sub-result c = (depth_made (source c.args.self.distances) (main c.args.self.direction) (middle c.args.slab)).fits

pub returns : goal.returns
unfolding depth
returns c = returned (depth_made (source c.args.self.distances) (main c.args.self.direction) (middle c.args.slab)) (lit≤ tt)
