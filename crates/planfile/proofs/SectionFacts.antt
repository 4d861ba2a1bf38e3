-- A section of bytes is read as the numbers of which it was written, and its bytes are those of the numbers that are read.
use Rattle.std.specs.Prelude.{◌≡◌, ℕ, zero, suc, ◌+◌, ◌*◌, ◌^◌, ◌<◌, ◌≤◌, List, [], ◌∷◌, ◌++◌, map, length, ℤ, pos, drop, slice_index_or, refl}
use Rattle.std.specs.List.{flat_map, range_with_len}
use Rattle.std.specs.Int.RustNames.{FitsSigned}
use Rattle.std.specs.Int.{w32, to_le_bytes}
use Rattle.std.proofs.Common.{sym, ap, ap₂, ◌∙◌, arith, append_assoc}
use Rattle.std.proofs.lemmas.List.{length-append, length-drop}
use Rattle.std.proofs.lemmas.List.Concat.{flat_map-cons}
use Rattle.planfile.specs.Numbers.{count_at, number_at, numbers_from}
use Rattle.planfile.specs.Sections.{place_of, section_at, end_of}
use Rattle.planfile.specs.Written.{number_bytes, section_bytes}
use Rattle.planfile.proofs.NumberFacts.{how_many}
use Rattle.planfile.proofs.FourBytes.{AreBytes, count_again, after_four, count_bytes, number_again, number_takes}

-- every number fits 32 bits
abbrev pub Small : List ℤ → Type 0
Small zs = (i : ℕ) → FitsSigned w32 (slice_index_or zs i (pos 0))

-- the numbers of a section by their own numbers, n of them from number a on
abbrev numbers_at : List ℕ → ℕ → ℕ → ℕ → List ℤ
numbers_at bytes p a n = map (λ i. number_at bytes (p + 4 * i)) (range_with_len a n)

-- numbers that stand at a place are read there
numbers_again : (zs : List ℤ) (bytes : List ℕ) (p a : ℕ) (rest : List ℕ) → Small zs → drop (p + 4 * a) bytes ≡ flat_map number_bytes zs ++ rest
    → (numbers_at bytes p a (length zs) ≡ zs) × (drop (p + 4 * (a + length zs)) bytes ≡ rest)
numbers_again [] bytes p a rest small e = (refl, let same : p + 4 * (a + 0) ≡ p + 4 * a = omega arith in rw same e)
numbers_again (z ∷ zs) bytes p a rest small e =
    let here : drop (p + 4 * a) bytes ≡ number_bytes z ++ (flat_map number_bytes zs ++ rest) = e ∙ ap (λ (xs : List ℕ). xs ++ rest) (flat_map-cons number_bytes z zs) ∙ append_assoc (number_bytes z) (flat_map number_bytes zs) rest in
    let more : p + 4 * a + 4 ≡ p + 4 * (a + 1) = omega arith in
    let after = after_four bytes (p + 4 * a) (number_bytes z) (flat_map number_bytes zs ++ rest) refl here in
    let rec = numbers_again zs bytes p (a + 1) rest (λ i. small (suc i)) (rw (← more) after) in
    let end : a + suc (length zs) ≡ a + 1 + length zs = omega arith in
    (ap₂ (λ (x : ℤ) (xs : List ℤ). x ∷ xs) (number_again bytes (p + 4 * a) z (flat_map number_bytes zs ++ rest) (small 0) here) rec.0, rw end rec.1)

-- the bytes of numbers that are read are those of the numbers
numbers_take : (n : ℕ) (bytes : List ℕ) (p a : ℕ) → AreBytes bytes → p + 4 * (a + n) ≤ length bytes → drop (p + 4 * a) bytes ≡ flat_map number_bytes (numbers_at bytes p a n) ++ drop (p + 4 * (a + n)) bytes
numbers_take zero bytes p a fits l = let same : p + 4 * (a + 0) ≡ p + 4 * a = omega arith in rw same refl
numbers_take (suc n) bytes p a fits l =
    let here = number_takes bytes (p + 4 * a) fits (omega arith) in
    let more : p + 4 * a + 4 ≡ p + 4 * (a + 1) = omega arith in
    let end : a + suc n ≡ a + 1 + n = omega arith in
    let rec = numbers_take n bytes p (a + 1) fits (omega arith) in
    let z = number_at bytes (p + 4 * a) in
    let zs = numbers_at bytes p (a + 1) n in
    let last = drop (p + 4 * (a + 1 + n)) bytes in
    let joined : number_bytes z ++ (flat_map number_bytes zs ++ last) ≡ flat_map number_bytes (z ∷ zs) ++ last = sym (append_assoc (number_bytes z) (flat_map number_bytes zs) last) in
    rw end (here ∙ ap (λ (xs : List ℕ). number_bytes z ++ xs) (rw more rec) ∙ joined)

-- each number has four bytes
pub numbers_length : (zs : List ℤ) → length (flat_map number_bytes zs) ≡ 4 * length zs
numbers_length [] = omega arith
numbers_length (z ∷ zs) = ap length (flat_map-cons number_bytes z zs) ∙ omega (arith, numbers_length zs, length-append (number_bytes z) (flat_map number_bytes zs))

-- a section has four bytes for its count, and then four for each number
pub section_length : (zs : List ℤ) → length (section_bytes zs) ≡ 4 + 4 * length zs
section_length zs = omega (arith, numbers_length zs, length-append (to_le_bytes w32 (length zs)) (flat_map number_bytes zs))

-- a section that stands at a place: how many numbers it has, which they are, what follows it, and that it is whole
pub record Stands (bytes : List ℕ) (p : ℕ) (zs : List ℤ) (rest : List ℕ) : Type 0 where
  pub count : count_at bytes p ≡ length zs
  pub numbers : section_at bytes p ≡ zs
  pub after : drop (end_of bytes p) bytes ≡ rest
  pub whole : place_of p (length zs) ≤ length bytes

-- a section that stands at a place is read there
pub section_again : (zs : List ℤ) (bytes : List ℕ) (p : ℕ) (rest : List ℕ) → length zs < 2 ^ 32 → Small zs → drop p bytes ≡ section_bytes zs ++ rest → Stands bytes p zs rest
unfolding section_at end_of
section_again zs bytes p rest few small e =
    let here : drop p bytes ≡ to_le_bytes w32 (length zs) ++ (flat_map number_bytes zs ++ rest) = e ∙ append_assoc (to_le_bytes w32 (length zs)) (flat_map number_bytes zs) rest in
    let count = count_again bytes p (length zs) (flat_map number_bytes zs ++ rest) few here in
    let first : p + 4 ≡ p + 4 + 4 * 0 = omega arith in
    let next : drop (p + 4 + 4 * 0) bytes ≡ flat_map number_bytes zs ++ rest = rw (← first) (after_four bytes p (to_le_bytes w32 (length zs)) (flat_map number_bytes zs ++ rest) refl here) in
    let read = numbers_again zs bytes (p + 4) 0 rest small next in
    let end : p + 4 + 4 * length zs ≡ p + 4 + 4 * (0 + length zs) = omega arith in
    let long = ap length e ∙ length-append (section_bytes zs) rest in
    record {
      count = count;
      numbers = rw count read.0;
      after = rw (count, end) read.1;
      whole = omega (arith, long, section_length zs, length-drop p bytes);
    }

-- a section has as many numbers as it says
pub section_count : (bytes : List ℕ) (p : ℕ) → length (section_at bytes p) ≡ count_at bytes p
unfolding section_at
section_count bytes p = how_many bytes (p + 4) (count_at bytes p)

-- the bytes of a section that is whole are those of the numbers that are read
pub section_takes : (bytes : List ℕ) (p : ℕ) → AreBytes bytes → end_of bytes p ≤ length bytes → drop p bytes ≡ section_bytes (section_at bytes p) ++ drop (end_of bytes p) bytes
unfolding section_at end_of
section_takes bytes p fits l =
    let n = count_at bytes p in
    let zs = numbers_from bytes (p + 4) n in
    let count = count_bytes bytes p fits (omega arith) in
    let first : p + 4 + 4 * 0 ≡ p + 4 = omega arith in
    let end : p + 4 + 4 * (0 + n) ≡ p + 4 + 4 * n = omega arith in
    let numbers : drop (p + 4) bytes ≡ flat_map number_bytes zs ++ drop (p + 4 + 4 * n) bytes = rw (first, end) at (numbers_take n bytes (p + 4) 0 fits (omega arith)) in
    let long = how_many bytes (p + 4) n in
    rw long (count ∙ ap (λ (xs : List ℕ). to_le_bytes w32 n ++ xs) numbers ∙ sym (append_assoc (to_le_bytes w32 n) (flat_map number_bytes zs) (drop (p + 4 + 4 * n) bytes)))
