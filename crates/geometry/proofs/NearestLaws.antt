-- Laws of division to the nearest whole number.
use Rattle.std.proofs.Common.{◌≡◌, ℕ, zero, suc, ◌+◌, ◌*◌, ◌/◌, ◌<◌, ◌≤◌, ℤ, pos, negsuc, ◌*ℤ◌, neg_ℤ, nat_abs, ◌≤ℤ◌, ◌<ℤ◌, sym, subst, mul-le-mul_right, mul_comm, mul_assoc, add-mul, one-mul, ⊎_elim, arith}
use lib.IntN.{*ℤ-negsuc}
use borrow.Author.Differences.{ints}
use Rattle.std.proofs.lemmas.Int.{unsigned_abs-mul}
use Rattle.std.proofs.lemmas.Bool.{cases_lt}
use Rattle.std.proofs.lemmas.Nat.{div-add-mod'}
use Rattle.geometry.specs.Nearest.{nearest, Nearest, RoundsToNearest, RoundsOddly}
use Rattle.geometry.proofs.Products.{negℤ-*ℤ, *ℤ-negℤ, times_up, times_down}

-- a / m to the nearest, halves upwards: what the nearest does to the sizes of a dividend and a divisor
abbrev size : ℕ → ℕ → ℕ
size a m = (a + m / 2) / m

-- with r for the size: a - m / 2 < r m <= a + m / 2
size_low : (a d : ℕ) → 2 * (size a (suc d) * suc d) ≤ 2 * a + suc d
size_low a d = omega (arith, div-add-mod' (a + suc d / 2) (suc d))

size_high : (a d : ℕ) → 2 * a + 1 ≤ 2 * (size a (suc d) * suc d) + suc d
size_high a d = omega (arith, div-add-mod' (a + suc d / 2) (suc d))

-- the size rises with the fraction: a / D <= b / E, told by products
size_cross : (a d b e : ℕ) → a * suc e ≤ b * suc d → size a (suc d) ≤ size b (suc e)
size_cross a d b e h =
    let D : ℕ = suc d in
    let E : ℕ = suc e in
    let r : ℕ = size a D in
    let t : ℕ = size b E in
    let low : (2 * (r * D)) * E ≤ (2 * a + D) * E = mul-le-mul_right E (size_low a d) in
    let high : (2 * b + 1) * D ≤ (2 * (t * E) + E) * D = mul-le-mul_right D (size_high b e) in
    ⊎_elim
    (λ (l : t < r).
    let apart : (t + 1) * (D * E) ≤ r * (D * E) = mul-le-mul_right (D * E) (omega arith) in
    absurd (omega (arith, add-mul t 1 (D * E), one-mul (D * E), mul_assoc 2 (r * D) E, mul_assoc r D E, add-mul (2 * a) D E, mul_assoc 2 a E, add-mul (2 * b) 1 D, mul_assoc 2 b D, one-mul D, add-mul (2 * (t * E)) E D, mul_assoc 2 (t * E) D, mul_assoc t E D, mul_comm E D)))
    (λ (l : r ≤ t). l) (cases_lt t r)

-- the size is at most any whole bound of the fraction
size_within : (a d B : ℕ) → a ≤ B * suc d → size a (suc d) ≤ B
size_within a d B h =
    let D : ℕ = suc d in
    let r : ℕ = size a D in
    ⊎_elim
    (λ (l : B < r).
    let apart : (B + 1) * D ≤ r * D = mul-le-mul_right D (omega arith) in
    absurd (omega (arith, size_low a d, add-mul B 1 D, one-mul D)))
    (λ (l : r ≤ B). l) (cases_lt B r)

size_none : (d : ℕ) → size 0 (suc d) ≡ 0
size_none d = omega (arith, size_within 0 d 0 (omega arith))

-- a dividend and its negative give each other's negatives
pub nearest_odd : RoundsOddly
nearest_odd (pos zero) (pos zero) = omega (arith, ints)
nearest_odd (pos zero) (pos (suc d)) = omega (arith, ints, size_none d)
nearest_odd (pos zero) (negsuc d) = omega (arith, ints, size_none d)
nearest_odd (pos (suc a)) (pos d) = omega (arith, ints)
nearest_odd (pos (suc a)) (negsuc d) = omega (arith, ints)
nearest_odd (negsuc a) (pos d) = omega (arith, ints)
nearest_odd (negsuc a) (negsuc d) = omega (arith, ints)

-- a divisor below 0 turns both signs
signs_turned : (n : ℤ) (d : ℕ) → nearest n (negsuc d) ≡ nearest (neg_ℤ n) (pos (suc d))
signs_turned (pos zero) d = omega (arith, ints, size_none d)
signs_turned (pos (suc a)) d = omega (arith, ints)
signs_turned (negsuc a) d = omega (arith, ints)

is_above : (n : ℤ) (d : ℕ) → Nearest n (pos (suc d)) (nearest n (pos (suc d)))
is_above (pos a) d =
    let low = size_low a d in
    let high = size_high a d in
    let product = unsigned_abs-mul (pos (size a (suc d))) (pos (suc d)) in
    record { near = omega (arith, ints); away = λ e. omega (arith, ints) }
is_above (negsuc a) d =
    let low = size_low (suc a) d in
    let high = size_high (suc a) d in
    let product = negℤ-*ℤ (pos (size (suc a) (suc d))) (pos (suc d)) in
    record { near = omega (arith, ints); away = λ e. omega (arith, ints) }

pub nearest_is : RoundsToNearest
nearest_is n (pos zero) p = absurd (omega arith)
nearest_is n (pos (suc d)) p = is_above n d
nearest_is n (negsuc d) p =
    let r = nearest (neg_ℤ n) (pos (suc d)) in
    let above = is_above (neg_ℤ n) d in
    let product = *ℤ-negsuc r d in
    subst (Nearest n (negsuc d)) (sym (signs_turned n d))
    (record { near = omega (arith, ints, above.near); away = λ e. omega (arith, ints, above.away (omega (arith, ints))) })

within_above : (n : ℤ) (d B : ℕ) → nat_abs n ≤ B * suc d → nat_abs (nearest n (pos (suc d))) ≤ B
within_above (pos a) d B h = size_within a d B h
within_above (negsuc a) d B h = omega (arith, ints, size_within (suc a) d B h)

pub nearest_within : (n d : ℤ) (B : ℕ) → nat_abs n ≤ B * nat_abs d → nat_abs (nearest n d) ≤ B
nearest_within (pos a) (pos zero) B h = omega (arith, ints)
nearest_within (negsuc a) (pos zero) B h = omega (arith, ints)
nearest_within n (pos (suc d)) B h = within_above n d B h
nearest_within n (negsuc d) B h = omega (arith, ints, signs_turned n d, within_above (neg_ℤ n) d B (omega (arith, ints)))

-- where n / d <= n' / d', told by products, so are the nearest; first at divisors above 0
cross_above : (n : ℤ) (d : ℕ) (n' : ℤ) (d' : ℕ) → (n *ℤ pos (suc d')) ≤ℤ (n' *ℤ pos (suc d)) → nearest n (pos (suc d)) ≤ℤ nearest n' (pos (suc d'))
cross_above (pos a) d (pos b) d' h = omega (arith, ints, size_cross a d b d' (omega (arith, ints)))
cross_above (pos a) d (negsuc b) d' h = absurd (omega (arith, ints))
cross_above (negsuc a) d (pos b) d' h = omega (arith, ints)
cross_above (negsuc a) d (negsuc b) d' h = omega (arith, ints, size_cross (suc b) d' (suc a) d (omega (arith, ints)))

pub nearest_cross : (n d n' d' : ℤ) → pos 0 <ℤ d → pos 0 <ℤ d' → (n *ℤ d') ≤ℤ (n' *ℤ d) → nearest n d ≤ℤ nearest n' d'
nearest_cross n (pos zero) n' d' p q h = absurd (omega (arith, ints))
nearest_cross n (negsuc d) n' d' p q h = absurd (omega (arith, ints))
nearest_cross n (pos (suc d)) n' (pos zero) p q h = absurd (omega (arith, ints))
nearest_cross n (pos (suc d)) n' (negsuc d') p q h = absurd (omega (arith, ints))
nearest_cross n (pos (suc d)) n' (pos (suc d')) p q h = cross_above n d n' d' h

-- and then at divisors that are both below 0
pub nearest_cross_below : (n d n' d' : ℤ) → d <ℤ pos 0 → d' <ℤ pos 0 → (n *ℤ d') ≤ℤ (n' *ℤ d) → nearest n d ≤ℤ nearest n' d'
nearest_cross_below n (pos d) n' d' p q h = absurd (omega (arith, ints))
nearest_cross_below n (negsuc d) n' (pos d') p q h = absurd (omega (arith, ints))
nearest_cross_below n (negsuc d) n' (negsuc d') p q h =
    let l : (neg_ℤ n *ℤ pos (suc d')) ≤ℤ (neg_ℤ n' *ℤ pos (suc d)) =
    omega (arith, ints, negℤ-*ℤ n (pos (suc d')), negℤ-*ℤ n' (pos (suc d)), *ℤ-negℤ n (pos (suc d')), *ℤ-negℤ n' (pos (suc d))) in
    let t = cross_above (neg_ℤ n) d (neg_ℤ n') d' l in omega (arith, ints, signs_turned n d, signs_turned n' d')

pub nearest_rises : (m n d : ℤ) → pos 0 <ℤ d → m ≤ℤ n → nearest m d ≤ℤ nearest n d
nearest_rises m n d p h = nearest_cross m d n d p p (times_up d m n p h)

pub nearest_falls : (m n d : ℤ) → d <ℤ pos 0 → m ≤ℤ n → nearest n d ≤ℤ nearest m d
nearest_falls m n d p h = nearest_cross_below n d m d p p (times_down d m n p h)
