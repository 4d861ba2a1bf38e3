use Rattle.scan.specs.Fits.{fitted}
use Rattle.scan.proofs.draft.Draft.seal.Goals as goal

pub returns-clause-fitted : goal.returns-clause-fitted
returns-clause-fitted c = fitted c.args.self.layout
