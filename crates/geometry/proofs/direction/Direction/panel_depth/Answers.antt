use Rattle.std.proofs.Common.{lit<, lit≤}
use Rattle.geometry.specs.Landed.{panel_depth}
use Rattle.geometry.proofs.Words.{arg, returned}
use Rattle.geometry.proofs.Dividends.{main, side, panel_depth_made}
use Rattle.geometry.proofs.direction.Direction.panel_depth.Goals as goal

pub overflow_sub-result : goal.overflow_sub-result
overflow_sub-result c = (panel_depth_made (main c.args.self) (side c.args.self) (arg c.args.panel c.requires.panel (lit< tt)) (arg c.args.k c.requires.edge (lit< tt))).fits

pub returns : goal.returns
unfolding panel_depth
returns c = returned (panel_depth_made (main c.args.self) (side c.args.self) (arg c.args.panel c.requires.panel (lit< tt)) (arg c.args.k c.requires.edge (lit< tt))) (lit≤ tt)
