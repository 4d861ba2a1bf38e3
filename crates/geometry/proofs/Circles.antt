-- An accepted heading is steep along its slab axis.
use Rattle.std.specs.Int.{abs_diff}
use Rattle.std.proofs.Common.{◌≡◌, ℕ, true, if◌then◌else◌, ◌+◌, ◌*◌, ◌^◌, ◌<◌, ◌≤◌, ℤ, pos, negsuc, ◌+ℤ◌, ◌-ℤ◌, ◌*ℤ◌, neg_ℤ, nat_abs, sym, ap, ◌∙◌, subst, ⊎_elim, mul-le-mul, arith}
use Rattle.std.proofs.lemmas.Bool.{cases_lt, leb-true, le-leb, lt-leb}
use borrow.Author.Differences.{ints}
use Rattle.geometry.specs.Circle.{off_circle, is_accepted}
use Rattle.geometry.specs.Directions.{slabs_by, main_part, side_part, slab_axis, main_of, side_of}
use Rattle.geometry.specs.Steep.{Steep}
use Rattle.geometry.specs.declared.direction.SlabAxis.{SlabAxis}
use Rattle.geometry.specs.declared.direction.SlabAxis.TheVariants.{X, Y}
use Rattle.geometry.specs.declared.heading.Heading.{Heading}

-- a square is that of the size
pub square : (x : ℤ) → x *ℤ x ≡ pos (nat_abs x * nat_abs x)
square (pos n) = omega (arith, ints)
square (negsuc n) = omega (arith, ints)

pub square_negated : (x : ℤ) → neg_ℤ x *ℤ neg_ℤ x ≡ x *ℤ x
square_negated x = let size : nat_abs (neg_ℤ x) ≡ nat_abs x = omega (arith, ints) in square (neg_ℤ x) ∙ ap (λ n. pos (n * n)) size ∙ sym (square x)

-- how far a sum of two squares lies from a number
pub gap_is : (n m k : ℕ) → abs_diff (n + m) k ≡ nat_abs (pos n +ℤ pos m -ℤ pos k)
gap_is n m k = omega (arith, ints)

-- a number whose square is no more than 2^28 + 32,768 is no more than R
within_root : (n : ℕ) → n * n ≤ 268468224 → n ≤ 16384
within_root n l =
    ⊎_elim
    (λ (low : n < 16385). omega arith)
    (λ (high : 16385 ≤ n). let nn : 16385 * 16385 ≤ n * n = mul-le-mul high high in absurd (omega (arith, l)))
    (cases_lt n 16385)

-- the greater part of a and b is neither small nor great where a² + b² lies near 2^28
steep_of : (a b : ℤ) → nat_abs (a *ℤ a +ℤ b *ℤ b -ℤ pos (2 ^ 28)) ≤ 32768 → nat_abs b ≤ nat_abs a → Steep a b
steep_of a b round side =
    let n = nat_abs a in
    let m = nat_abs b in
    let sa = square a in
    let sb = square b in
    let mm : m * m ≤ n * n = mul-le-mul side side in
    let both : (n * n + m * m ≤ 268468224) × (268402688 ≤ n * n + m * m) = (omega (arith, ints), omega (arith, ints)) in
    record {
      least = ⊎_elim
          (λ (low : n < 11585).
          let small : n ≤ 11584 = omega arith in
          let nn : n * n ≤ 11584 * 11584 = mul-le-mul small small in absurd (omega (arith, both.1)))
          (λ (high : 11585 ≤ n). high)
          (cases_lt n 11585);
      most = within_root n (omega (arith, both.0));
      side = side;
    }

-- neither of c and s of an accepted heading is greater than R
pub accepted_within : (h : Heading) → is_accepted h ≡ true → (nat_abs h.c ≤ 16384) × (nat_abs h.s ≤ 16384)
unfolding off_circle
accepted_within h accepted =
    let near = leb-true _ 32768 accepted in
    let c = square h.c in
    let s = square h.s in
    let both : nat_abs h.c * nat_abs h.c + nat_abs h.s * nat_abs h.s ≤ 268468224 = omega (arith, ints, near) in
    (within_root (nat_abs h.c) (omega (arith, both)), within_root (nat_abs h.s) (omega (arith, both)))

-- the slab axis, a and b are those of the heading h, and steep
pub record Faces (h : Heading) (along : SlabAxis) (a b : ℤ) : Type 0 where
  pub slabs : along ≡ slab_axis h
  pub main : a ≡ main_of h
  pub side : b ≡ side_of h
  pub steep : Steep a b

module _ (h : Heading) (accepted : is_accepted h ≡ true) where
  near : off_circle h.s h.c ≤ 32768
  near = leb-true _ 32768 accepted

  faces : (along : SlabAxis) → slabs_by h.s h.c ≡ along → Steep (main_part along h.s h.c) (side_part along h.s h.c) → Faces h along (main_part along h.s h.c) (side_part along h.s h.c)
  unfolding slab_axis main_of side_of
  faces along e steep = record {
    slabs = sym e;
    main = ap (λ x. main_part x h.s h.c) (sym e);
    side = ap (λ x. side_part x h.s h.c) (sym e);
    steep = steep;
  }

  pub faces_y : nat_abs h.s ≤ nat_abs h.c → Faces h Y h.c h.s
  unfolding off_circle
  faces_y l = faces Y (ap (λ b. if b then Y else X) (le-leb (nat_abs h.s) (nat_abs h.c) l)) (steep_of h.c h.s near l)

  pub faces_x : nat_abs h.c < nat_abs h.s → Faces h X h.s (neg_ℤ h.c)
  unfolding off_circle
  faces_x l =
      let round : nat_abs (h.s *ℤ h.s +ℤ neg_ℤ h.c *ℤ neg_ℤ h.c -ℤ pos (2 ^ 28)) ≤ 32768 = omega (arith, ints, near, square_negated h.c) in
      faces X (ap (λ b. if b then Y else X) (lt-leb (nat_abs h.s) (nat_abs h.c) l)) (steep_of h.s (neg_ℤ h.c) round (omega (arith, ints)))

  moved : {along : SlabAxis} {a b : ℤ} → Faces h along a b → Steep (main_of h) (side_of h)
  moved {along} {a} f = subst (λ x. Steep x (side_of h)) f.main (subst (Steep a) f.side f.steep)

  -- so a and b of an accepted heading are steep
  pub steep : Steep (main_of h) (side_of h)
  steep = ⊎_elim (λ l. moved (faces_x l)) (λ l. moved (faces_y l)) (cases_lt (nat_abs h.c) (nat_abs h.s))
