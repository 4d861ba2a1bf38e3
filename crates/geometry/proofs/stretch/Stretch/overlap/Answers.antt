use Rattle.std.proofs.Common.{◌∙◌, sym, rules}
use Rattle.std.proofs.lemmas.Int.{to_z-of_z}
use Rattle.geometry.proofs.Overlaps.{conserved, overlap_ordered, overlap_between}
use Rattle.geometry.proofs.stretch.Stretch.overlap.Goals as goal

pub returns : goal.returns
returns c = record { value = search (rules, to_z-of_z) ∙ sym (overlap_ordered c.args.self.low c.args.self.high c.args.other.low c.args.other.high c.args.self.ordered c.args.other.ordered); conserved = conserved; either_way = overlap_between }
