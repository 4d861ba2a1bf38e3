-- A number as four bytes.
use Rattle.std.specs.Prelude.{◌≡◌, ℕ, ◌+◌, ◌^◌, ◌<◌, ◌≤◌, List, ◌++◌, length, ℤ, take, drop, slice_index}
use Rattle.std.specs.Int.RustNames.{FitsSigned}
use Rattle.std.specs.Int.{w32, to_le_bytes, from_le_bytes, cast_unsigned, cast_signed}
use Rattle.std.proofs.Common.{sym, ap, ap₂, ◌∙◌, ⊎_elim, arith}
use Rattle.std.proofs.lemmas.List.{get_or-drop, get_or-take, take-append-drop, drop-drop, length-drop, length-take, drop_at, get_or_past}
use Rattle.std.proofs.lemmas.Bool.{cases_lt}
use Rattle.std.proofs.lemmas.Int.{ints, of_z-to_z, to_z-of_z}
use Rattle.std.proofs.lemmas.Nat.{le_bytes_4, from_le_bytes-to_le_bytes_4}
use Rattle.planfile.specs.Numbers.{count_at, number_at}
use Rattle.planfile.specs.Written.{number_bytes}

-- every element is a byte
abbrev pub AreBytes : List ℕ → Type 0
AreBytes bytes = (i : ℕ) → slice_index bytes i < 256

-- the four bytes from a place on
abbrev pub four : List ℕ → ℕ → List ℕ
four bytes p = take 4 (drop p bytes)

-- each of the four
one_of_four : (bytes : List ℕ) (p i : ℕ) → i < 4 → slice_index (four bytes p) i ≡ slice_index bytes (p + i)
one_of_four bytes p i l = get_or-take 4 (drop p bytes) i 0 l ∙ get_or-drop p bytes i 0

-- the number that stands at a place is that of the four bytes from there on
count_from : (bytes : List ℕ) (p : ℕ) → count_at bytes p ≡ from_le_bytes w32 (four bytes p)
unfolding count_at
count_from bytes p =
    let a = one_of_four bytes p 0 (omega arith) in
    let b = one_of_four bytes p 1 (omega arith) in
    let c = one_of_four bytes p 2 (omega arith) in
    let d = one_of_four bytes p 3 (omega arith) in
    let first : p + 0 ≡ p = omega arith in
    rw (a, b, c, d, first) (omega arith)

-- an unsigned number that stands at a place is read there
pub count_again : (bytes : List ℕ) (p n : ℕ) (rest : List ℕ) → n < 2 ^ 32 → drop p bytes ≡ to_le_bytes w32 n ++ rest → count_at bytes p ≡ n
count_again bytes p n rest l e = count_from bytes p ∙ rw e (from_le_bytes-to_le_bytes_4 n l)

-- what follows four bytes of a list
pub after_four : (bytes : List ℕ) (p : ℕ) (some rest : List ℕ) → length some ≡ 4 → drop p bytes ≡ some ++ rest → drop (p + 4) bytes ≡ rest
after_four bytes p some rest long e = sym (drop-drop 4 p bytes) ∙ ap (λ (xs : List ℕ). drop 4 xs) e ∙ drop_at some rest 4 long

-- four of some bytes are bytes
four_fit : (bytes : List ℕ) (p : ℕ) → AreBytes bytes → AreBytes (four bytes p)
four_fit bytes p fits i =
    ⊎_elim
    (λ lt. rw (one_of_four bytes p i lt) (fits (p + i)))
    (λ ge. rw (get_or_past (four bytes p) i 0 (omega (arith, length-take 4 (drop p bytes)))) (omega arith))
    (cases_lt i 4)

-- the four bytes at a place are those of the number that is read there
pub count_bytes : (bytes : List ℕ) (p : ℕ) → AreBytes bytes → p + 4 ≤ length bytes → drop p bytes ≡ to_le_bytes w32 (count_at bytes p) ++ drop (p + 4) bytes
count_bytes bytes p fits l =
    let long : length (four bytes p) ≡ 4 = omega (arith, length-take 4 (drop p bytes), length-drop p bytes) in
    let same : to_le_bytes w32 (count_at bytes p) ≡ four bytes p = le_bytes_4 (four bytes p) (count_at bytes p) long (four_fit bytes p fits) (count_from bytes p) in
    let split : drop p bytes ≡ four bytes p ++ drop 4 (drop p bytes) = sym (take-append-drop 4 (drop p bytes)) in
    split ∙ ap₂ (λ (xs ys : List ℕ). xs ++ ys) (sym same) (drop-drop 4 p bytes)

-- a number that is read from bytes fits 32 bits
pub count_below : (bytes : List ℕ) (p : ℕ) → AreBytes bytes → count_at bytes p < 2 ^ 32
unfolding count_at
count_below bytes p fits = omega (arith, fits p, fits (p + 1), fits (p + 2), fits (p + 3))

-- a signed number that stands at a place is read there
pub number_again : (bytes : List ℕ) (p : ℕ) (z : ℤ) (rest : List ℕ) → FitsSigned w32 z → drop p bytes ≡ number_bytes z ++ rest → number_at bytes p ≡ z
number_again bytes p z rest fits e =
    let small : cast_unsigned w32 z < 2 ^ 32 = omega (arith, ints) in
    ap (cast_signed w32) (count_again bytes p (cast_unsigned w32 z) rest small e) ∙ to_z-of_z w32 z fits

-- the four bytes at a place are those of the signed number that is read there
pub number_takes : (bytes : List ℕ) (p : ℕ) → AreBytes bytes → p + 4 ≤ length bytes → drop p bytes ≡ number_bytes (number_at bytes p) ++ drop (p + 4) bytes
number_takes bytes p fits l = rw (of_z-to_z w32 (count_at bytes p) (count_below bytes p fits)) (count_bytes bytes p fits l)
