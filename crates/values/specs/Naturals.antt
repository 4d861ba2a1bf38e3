-- Whole numbers as values, so that the sums of values serve them too.
use Rattle.std.specs.Prelude.{ℕ, ◌+◌, ◌*◌}
use Rattle.values.specs.Laws.{Ops}

-- Whole numbers from 0 on, with their own sum and product; the multiple by n is the product with n.
abbrev pub naturals : Ops ℕ
naturals = record { zero = 0; plus = λ m n. m + n; times = λ m n. m * n; multiple = λ m n. m * n }
