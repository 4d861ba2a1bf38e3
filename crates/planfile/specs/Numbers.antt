-- Numbers as bytes: four to a number, the low byte first.
use Rattle.std.specs.Prelude.{ℕ, ◌+◌, ◌*◌, ◌/◌, List, map, length, ℤ, slice_index}
use Rattle.std.specs.List.{range_with_len}
use Rattle.std.specs.Int.{w32, cast_signed}

-- The unsigned number whose first byte is at place p; a byte past the last counts as 0.
unfoldable pub count_at : List ℕ → ℕ → ℕ
count_at bytes p =
    slice_index bytes p + 256 * slice_index bytes (p + 1) + 65536 * slice_index bytes (p + 2) + 16777216 * slice_index bytes (p + 3)

-- The number at place p taken as signed, in two's complement.
abbrev pub number_at : List ℕ → ℕ → ℤ
number_at bytes p = cast_signed w32 (count_at bytes p)

-- The n signed numbers that follow one another from place p on.
abbrev pub numbers_from : List ℕ → ℕ → ℕ → List ℤ
numbers_from bytes p n = map (λ i. number_at bytes (p + 4 * i)) (range_with_len 0 n)

-- The signed numbers that bytes hold; a number that is not whole is left out.
abbrev pub numbers_in : List ℕ → List ℤ
numbers_in bytes = numbers_from bytes 0 (length bytes / 4)
