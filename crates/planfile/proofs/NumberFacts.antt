-- The numbers that bytes hold, one by one.
use Rattle.std.specs.Prelude.{◌≡◌, ℕ, ◌+◌, ◌*◌, ◌/◌, ◌<◌, ◌≤◌, List, length, pos, take, drop, slice_index}
use Rattle.std.proofs.Common.{arith, refl, ap, ◌∙◌}
use Rattle.std.proofs.lemmas.List.{get_or-take, get_or-drop, length-take, length-drop}
use Rattle.std.proofs.lemmas.List.FromFn.{length-map-range_with_len, get_or-map-range_with_len, fill_by_all}
use Rattle.scan.specs.AxisChecks.{edge_or_zero}
use Rattle.planfile.specs.Numbers.{count_at, number_at, numbers_from, numbers_in}

-- so many numbers
pub how_many : (bytes : List ℕ) (p n : ℕ) → length (numbers_from bytes p n) ≡ n
how_many bytes p n = length-map-range_with_len (λ i. number_at bytes (p + 4 * i)) 0 n

-- a number by its own number
pub number_from : (bytes : List ℕ) (p n i : ℕ) → i < n → edge_or_zero (numbers_from bytes p n) i ≡ number_at bytes (p + 4 * i)
number_from bytes p n i l = get_or-map-range_with_len (λ k. number_at bytes (p + 4 * k)) 0 n i i (pos 0) l (omega arith)

-- a byte of a part of some bytes
byte_of_part : (bytes : List ℕ) (p m q : ℕ) → q < m → slice_index (take m (drop p bytes)) q ≡ slice_index bytes (p + q)
byte_of_part bytes p m q l = get_or-take m (drop p bytes) q 0 l ∙ get_or-drop p bytes q 0

-- a number of a part of some bytes
number_of_part : (bytes : List ℕ) (p m q : ℕ) → q + 4 ≤ m → number_at (take m (drop p bytes)) q ≡ number_at bytes (p + q)
unfolding count_at
number_of_part bytes p m q l =
    let same = byte_of_part bytes p m in
    let at : (k : ℕ) → p + (q + k) ≡ p + q + k = λ k. omega arith in
    rw (same q (omega arith), same (q + 1) (omega arith), same (q + 2) (omega arith), same (q + 3) (omega arith), at 1, at 2, at 3) refl

-- the numbers of a part of some bytes
pub numbers_of_part : (bytes : List ℕ) (p n : ℕ) → p + 4 * n ≤ length bytes → numbers_in (take (4 * n) (drop p bytes)) ≡ numbers_from bytes p n
numbers_of_part bytes p n l =
    let part = take (4 * n) (drop p bytes) in
    let long : length part ≡ 4 * n = omega (arith, length-take (4 * n) (drop p bytes), length-drop p bytes) in
    let many : length part / 4 ≡ n = omega arith in
    fill_by_all (λ i. number_at bytes (p + 4 * i)) (numbers_in part) n (pos 0) (how_many part 0 (length part / 4) ∙ many)
    (λ i below. let at : p + (0 + 4 * i) ≡ p + 4 * i = omega arith in
    number_from part 0 (length part / 4) i (omega arith) ∙ number_of_part bytes p (4 * n) (0 + 4 * i) (omega arith) ∙ ap (number_at bytes) at)
