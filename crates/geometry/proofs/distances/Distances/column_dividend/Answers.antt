use Rattle.std.proofs.Common.{lit≤}
use Rattle.geometry.proofs.Words.{returned}
use Rattle.geometry.proofs.Dividends.{place, source, column_made}
use Rattle.geometry.proofs.distances.Distances.column_dividend.Goals as goal

pub returns : goal.returns
returns c = returned (column_made (source c.args.self) (place c.args.k)) (lit≤ tt)
