-- The overlaps with stretches that follow one another add up to the overlap with the whole; and the laws of one overlap.
use Rattle.std.proofs.Common.{◌≡◌, ℕ, zero, suc, ◌-◌, ◌<◌, ◌≤◌, ℤ, pos, negsuc, ◌+ℤ◌, ◌-ℤ◌, nat_abs, ◌≤ℤ◌, ap, ◌∙◌, inl, inr, arith}
use lib.Signed.{≤ℤ_refl}
use borrow.Author.Differences.{ints, up, down}
use Rattle.std.specs.Int.{int_min, int_max}
use Rattle.std.proofs.lemmas.Int.{clamps}
use Rattle.geometry.specs.Overlap.{or_zero, overlap, overlaps, OverlapsAddUp, EitherWay}

or_zero_is : (z : ℤ) → or_zero z ≡ up z - down z
or_zero_is (pos n) = omega arith
or_zero_is (negsuc n) = omega arith

-- the lower of the upper ends less the higher of the lower ends
abbrev shared : ℤ → ℤ → ℤ → ℤ → ℤ
shared a0 a1 b0 b1 = int_min (int_max a0 a1) (int_max b0 b1) -ℤ int_max (int_min a0 a1) (int_min b0 b1)

overlap_is : (a0 a1 b0 b1 : ℤ) → overlap a0 a1 b0 b1 ≡ up (shared a0 a1 b0 b1) - down (shared a0 a1 b0 b1)
overlap_is a0 a1 b0 b1 = or_zero_is (shared a0 a1 b0 b1)

-- z, kept between l and h
abbrev pub clip : ℤ → ℤ → ℤ → ℤ
clip l h z = int_max l (int_min h z)

module _ (u0 u1 : ℤ) where
  kept : ℤ → ℤ
  kept z = clip (int_min u0 u1) (int_max u0 u1) z

  -- of a stretch from x up to y, and of one from x down to y
  rising : (x y : ℤ) → x ≤ℤ y → pos (overlap u0 u1 x y) +ℤ kept x ≡ kept y
  unfolding kept
  rising x y h = omega (arith, ints, clamps, overlap_is u0 u1 x y)

  falling : (x y : ℤ) → y ≤ℤ x → pos (overlap u0 u1 x y) +ℤ kept y ≡ kept x
  unfolding kept
  falling x y h = omega (arith, ints, clamps, overlap_is u0 u1 x y)

  module _ (S : ℕ → ℤ) where
    up_to : (n : ℕ) → ((k : ℕ) → k < n → S k ≤ℤ S (suc k)) → (S 0 ≤ℤ S n) × (pos (overlaps u0 u1 S n) +ℤ kept (S 0) ≡ kept (S n))
    up_to zero h = (≤ℤ_refl (S 0), omega (arith, ints))
    up_to (suc n) h =
        let r = up_to n (λ k l. h k (omega arith)) in
        let s = h n (omega arith) in
        let t = rising (S n) (S (suc n)) s in
        (omega (arith, ints), omega (arith, ints))

    down_to : (n : ℕ) → ((k : ℕ) → k < n → S (suc k) ≤ℤ S k) → (S n ≤ℤ S 0) × (pos (overlaps u0 u1 S n) +ℤ kept (S n) ≡ kept (S 0))
    down_to zero h = (≤ℤ_refl (S 0), omega (arith, ints))
    down_to (suc n) h =
        let r = down_to n (λ k l. h k (omega arith)) in
        let s = h n (omega arith) in
        let t = falling (S n) (S (suc n)) s in
        (omega (arith, ints), omega (arith, ints))

pub conserved : OverlapsAddUp
conserved u0 u1 S n (inl h) = let r = up_to u0 u1 S n h in let t = rising u0 u1 (S 0) (S n) r.0 in omega (arith, ints)
conserved u0 u1 S n (inr h) = let r = down_to u0 u1 S n h in let t = falling u0 u1 (S 0) (S n) r.0 in omega (arith, ints)

max_up : (x y : ℤ) → x ≤ℤ y → (int_max x y ≡ y) × (int_min x y ≡ x)
max_up x y h = (omega (arith, ints, clamps), omega (arith, ints, clamps))

pub overlap_ordered : (x0 x1 lo hi : ℤ) → x0 ≤ℤ x1 → lo ≤ℤ hi → overlap x0 x1 lo hi ≡ or_zero (int_min x1 hi -ℤ int_max x0 lo)
overlap_ordered x0 x1 lo hi p q =
    let m = max_up x0 x1 p in
    let n = max_up lo hi q in
    ap (λ z. or_zero (int_min z (int_max lo hi) -ℤ int_max (int_min x0 x1) (int_min lo hi))) m.0
    ∙ ap (λ z. or_zero (int_min x1 z -ℤ int_max (int_min x0 x1) (int_min lo hi))) n.0
    ∙ ap (λ z. or_zero (int_min x1 hi -ℤ int_max z (int_min lo hi))) m.1
    ∙ ap (λ z. or_zero (int_min x1 hi -ℤ int_max x0 z)) n.1

pub overlap_low : (x0 x1 lo hi : ℤ) → x0 ≤ℤ x1 → lo ≤ℤ hi → x1 ≤ℤ lo → overlap x0 x1 lo hi ≡ 0
overlap_low x0 x1 lo hi p q h = omega (arith, ints, clamps, or_zero_is)

pub overlap_high : (x0 x1 lo hi : ℤ) → x0 ≤ℤ x1 → lo ≤ℤ hi → hi ≤ℤ x0 → overlap x0 x1 lo hi ≡ 0
overlap_high x0 x1 lo hi p q h = omega (arith, ints, clamps, or_zero_is)

-- a stretch with its lower end first is the same stretch
pub overlap_sorted : (a0 a1 b0 b1 : ℤ) → overlap a0 a1 (int_min b0 b1) (int_max b0 b1) ≡ overlap a0 a1 b0 b1
overlap_sorted a0 a1 b0 b1 = omega (arith, ints, clamps, or_zero_is)

pub overlap_sym : (a0 a1 b0 b1 : ℤ) → overlap a0 a1 b0 b1 ≡ overlap b0 b1 a0 a1
overlap_sym a0 a1 b0 b1 = omega (arith, ints, clamps, or_zero_is)

-- stretches with their lower ends first overlap as the same stretches with their ends in either order
pub overlap_between : EitherWay
overlap_between a0 a1 b0 b1 = overlap_sorted (int_min a0 a1) (int_max a0 a1) b0 b1 ∙ overlap_sym (int_min a0 a1) (int_max a0 a1) b0 b1 ∙ overlap_sorted b0 b1 a0 a1 ∙ overlap_sym b0 b1 a0 a1

pub overlap_most : (u0 u1 s0 s1 : ℤ) → overlap u0 u1 s0 s1 ≤ nat_abs (u1 -ℤ u0)
overlap_most u0 u1 s0 s1 = omega (arith, ints, clamps, or_zero_is)
