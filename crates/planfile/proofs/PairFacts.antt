-- Numbers two by two, as headings and back.
use Rattle.std.specs.Prelude.{◌≡◌, ℕ, zero, suc, ◌+◌, ◌*◌, ◌/◌, ◌%◌, ◌<◌, ◌≤◌, List, [], ◌∷◌, length, ℤ}
use Rattle.std.proofs.Common.{refl, sym, ap, ap₂, ◌∙◌, arith}
use Rattle.geometry.specs.declared.heading.Heading.{Heading}
use Rattle.scan.specs.AxisChecks.{edge_or_zero}
use Rattle.scan.specs.ViewDirections.{direction_count, heading_or_zero}
use Rattle.planfile.specs.Pairs.{headings_in, numbers_of}

-- half as many headings as numbers
pub headings_many : (zs : List ℤ) → length (headings_in zs) ≡ length zs / 2
headings_many [] = refl
headings_many (c ∷ []) = refl
headings_many (c ∷ s ∷ zs) = omega (arith, headings_many zs)

-- twice as many numbers as headings
pub numbers_many : (hs : List Heading) → length (numbers_of hs) ≡ 2 * length hs
numbers_many [] = refl
numbers_many (h ∷ hs) = omega (arith, numbers_many hs)

-- a heading by its numbers
pub heading_is : (zs : List ℤ) (i : ℕ) → i < length zs / 2 → heading_or_zero (headings_in zs) i ≡ record { c = edge_or_zero zs (2 * i); s = edge_or_zero zs (2 * i + 1) }
heading_is [] i l = absurd (omega arith)
heading_is (c ∷ []) i l = absurd (omega arith)
heading_is (c ∷ s ∷ zs) zero l = refl
heading_is (c ∷ s ∷ zs) (suc i) l =
    let even : 2 * suc i ≡ suc (suc (2 * i)) = omega arith in
    let odd : 2 * suc i + 1 ≡ suc (suc (2 * i + 1)) = omega arith in
    heading_is zs i (omega arith) ∙ ap₂ (λ (k n : ℕ). record { c = edge_or_zero (c ∷ s ∷ zs) k; s = edge_or_zero (c ∷ s ∷ zs) n }) (sym even) (sym odd)

-- there are at most as many directions as a list may have
pub directions_few : (n : ℕ) → n ≤ 1024 → direction_count n ≤ 1024
directions_few zero l = omega arith
directions_few (suc n) l = omega arith

-- headings as numbers, and back
pub headings_back : (hs : List Heading) → headings_in (numbers_of hs) ≡ hs
headings_back [] = refl
headings_back (h ∷ hs) = ap (λ (rest : List Heading). h ∷ rest) (headings_back hs)

-- as many numbers as go two by two, as headings and back
pub numbers_back : (zs : List ℤ) → length zs % 2 ≡ 0 → numbers_of (headings_in zs) ≡ zs
numbers_back [] e = refl
numbers_back (c ∷ []) e = absurd (omega arith)
numbers_back (c ∷ s ∷ zs) e = ap (λ (rest : List ℤ). c ∷ s ∷ rest) (numbers_back zs (omega arith))
