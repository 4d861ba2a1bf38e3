use Rattle.std.proofs.Common.{lit≤}
use Rattle.geometry.proofs.Words.{returned}
use Rattle.geometry.proofs.Dividends.{place, middle, source, main, side, sum_made, cross_made}
use Rattle.geometry.proofs.landed.Pose.cross_dividend.Goals as goal

pub overflow_add-result : goal.overflow_add-result
overflow_add-result c = (sum_made (main c.args.self.direction) (side c.args.self.direction) (middle c.args.slab) (place c.args.e)).fits

pub overflow_mul-result-4 : goal.overflow_mul-result-4
overflow_mul-result-4 c = (cross_made (main c.args.self.direction) (side c.args.self.direction) (source c.args.self.distances) (middle c.args.slab) (place c.args.e)).fits

pub returns : goal.returns
returns c = returned (cross_made (main c.args.self.direction) (side c.args.self.direction) (source c.args.self.distances) (middle c.args.slab) (place c.args.e)) (lit≤ tt)
