use Rattle.std.proofs.Common.{lit≤}
use Rattle.geometry.proofs.Words.{returned}
use Rattle.geometry.proofs.Dividends.{place, source, main, height_made}
use Rattle.geometry.proofs.landed.Pose.height_dividend.Goals as goal

pub overflow_mul-result-3 : goal.overflow_mul-result-3
overflow_mul-result-3 c = (height_made (source c.args.self.distances) (main c.args.self.direction) (place c.args.z)).fits

pub returns : goal.returns
returns c = returned (height_made (source c.args.self.distances) (main c.args.self.direction) (place c.args.z)) (lit≤ tt)
