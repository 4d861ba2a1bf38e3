-- What holds of the distances and edges of a draft whose checks find nothing.
use Rattle.std.specs.Prelude.{◌≡◌, ℕ, Bool, List, length, ℤ, None, nat_le, unsigned_abs}
use Rattle.std.proofs.Common.{sym, arith}
use Rattle.scan.specs.Axes.{edge_of}
use Rattle.scan.specs.DraftChecks.{first_beyond, clearance_check}
use Rattle.scan.specs.Limits.{SourceClear, ColumnsNearer}
use Rattle.scan.proofs.Firsts.{first_none}
use Rattle.scan.specs.Numbered.{edge_at}

pub columns_nearer : (source panel : ℤ) (x y column : List ℤ) → clearance_check source panel x y column ≡ None → ColumnsNearer panel column
columns_nearer source panel x y column passed i l =
    let test : ℕ → Bool = λ k. nat_le (unsigned_abs panel) (unsigned_abs (edge_of column k)) in
    let none : first_beyond (unsigned_abs panel) column ≡ None = grind arith in
    let nearer = first_none test (length column) none i l in
    rw (sym (edge_at column i l)) (grind arith)

pub source_clear : (source panel : ℤ) (x y column : List ℤ) → clearance_check source panel x y column ≡ None → SourceClear source x y
source_clear source panel x y column passed = grind arith
