-- Count: a whole number modulo 2^64, shown as signed.
use Rattle.std.specs.Prelude.{ℕ, ◌+◌, ◌*◌, ◌%◌, ◌^◌, List, ℤ}
use Rattle.std.specs.Fmt.{signed_decimal}
use Rattle.std.proofs.Common.{mod-lt, pow_pos, to_z, of_z}
use Rattle.std.specs.Int.{w64}
use Rattle.values.specs.Laws.{Ops}
use Rattle.values.specs.declared.count.Count.{Count}

-- The Count of a whole number: what is left of it modulo 2^64.
abbrev pub counted : ℕ → Count
counted n = record { bits = n % 2 ^ 64; fits = mod-lt n (pow_pos 64) }

-- Sum, product and multiple of Counts are those of whole numbers, modulo 2^64.
abbrev pub count_ops : Ops Count
count_ops = record {
  zero = counted 0;
  plus = λ x y. counted (x.bits + y.bits);
  times = λ x y. counted (x.bits * y.bits);
  multiple = λ x n. counted (x.bits * n);
}

-- The signed number that a Count is shown as: its 64 bits in two's complement.
abbrev pub shown : Count → ℤ
shown x = to_z w64 x.bits

-- What is printed of a Count: its signed number.
abbrev pub count_text : Count → List ℕ
count_text x = signed_decimal (shown x)

-- The 64 bits of a signed number in two's complement.
abbrev pub bits_of : ℤ → ℕ
bits_of z = of_z w64 z

-- The Count of a signed number.
abbrev pub count_of : ℤ → Count
count_of z = counted (bits_of z)
