use Rattle.std.proofs.Common.{refl}
use Rattle.scan.proofs.accepted.Accepted.draft_with.Goals as goal

pub returns : goal.returns
returns g c =
    rw (c.copy_of.ensures, c.copy_of-2.ensures, c.copy_of-3.ensures, c.copy_of-4.ensures, c.copy_of-5.ensures, c.headings_of.ensures, c.new.ensures) refl
