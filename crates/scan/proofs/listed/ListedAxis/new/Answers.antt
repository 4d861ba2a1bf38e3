use Rattle.scan.proofs.listed.ListedAxis.new.Goals as goal

pub invariant_of-result : goal.invariant_of-result
invariant_of-result c =
    record {
      proper = rw c.in-Ok.ensures.0 c.in_ok-check_listed.ensures.1;
    }
