-- The laws of products of signed numbers that the logic's library lacks, and how products keep or turn an order.
use Rattle.std.proofs.Common.{◌≡◌, ℕ, suc, ◌*◌, ℤ, pos, negsuc, ◌+ℤ◌, ◌-ℤ◌, ◌*ℤ◌, neg_ℤ, ◌≤ℤ◌, ◌<ℤ◌, ap, ◌∙◌, mul-le-mul_right, arith}
use lib.IntN.{*ℤ_comm, *ℤ-negsuc}
use borrow.Author.Differences.{ints, up, down, same_in, product_is, sum_is_lem, neg_is, le_out, lt_out}

pub *ℤ-assoc : (x y z : ℤ) → (x *ℤ y) *ℤ z ≡ x *ℤ (y *ℤ z)
*ℤ-assoc x y z =
    let p = product_is x y in
    let q = product_is y z in
    let a = ap (λ n. n * up z) p.0 in
    let b = ap (λ n. n * down z) p.0 in
    let c = ap (λ n. n * up z) p.1 in
    let d = ap (λ n. n * down z) p.1 in
    let e = ap (λ n. up x * n) q.0 in
    let f = ap (λ n. down x * n) q.0 in
    let g = ap (λ n. up x * n) q.1 in
    let h = ap (λ n. down x * n) q.1 in
    same_in _ _ (omega (arith, product_is (x *ℤ y) z, product_is x (y *ℤ z)))

pub *ℤ-+ℤ : (x y z : ℤ) → x *ℤ (y +ℤ z) ≡ x *ℤ y +ℤ x *ℤ z
*ℤ-+ℤ x y z =
    let a = ap (λ n. up x * n) (sum_is_lem y z) in
    let b = ap (λ n. down x * n) (sum_is_lem y z) in
    same_in _ _ (omega (arith, product_is x (y +ℤ z), product_is x y, product_is x z, sum_is_lem (x *ℤ y) (x *ℤ z)))

pub *ℤ-negℤ : (x y : ℤ) → x *ℤ neg_ℤ y ≡ neg_ℤ (x *ℤ y)
*ℤ-negℤ x y =
    let e = neg_is y in
    let a = ap (λ n. up x * n) e.0 in
    let b = ap (λ n. down x * n) e.0 in
    let c = ap (λ n. up x * n) e.1 in
    let d = ap (λ n. down x * n) e.1 in
    same_in _ _ (omega (arith, product_is x (neg_ℤ y), product_is x y, neg_is (x *ℤ y)))

pub negℤ-*ℤ : (x y : ℤ) → neg_ℤ x *ℤ y ≡ neg_ℤ (x *ℤ y)
negℤ-*ℤ x y = *ℤ_comm (neg_ℤ x) y ∙ *ℤ-negℤ y x ∙ ap neg_ℤ (*ℤ_comm y x)

pub *ℤ--ℤ : (x y z : ℤ) → x *ℤ (y -ℤ z) ≡ x *ℤ y -ℤ x *ℤ z
*ℤ--ℤ x y z = *ℤ-+ℤ x y (neg_ℤ z) ∙ ap (λ w. x *ℤ y +ℤ w) (*ℤ-negℤ x z)

-- a product with a natural keeps the order
pub times_mono : (x y : ℤ) (k : ℕ) → x ≤ℤ y → (x *ℤ pos k) ≤ℤ (y *ℤ pos k)
times_mono x y k h = omega (arith, ints, mul-le-mul_right k (le_out x y h))

pub times_less : (x y : ℤ) (k : ℕ) → x <ℤ y → (x *ℤ pos (suc k) +ℤ pos (suc k)) ≤ℤ (y *ℤ pos (suc k))
times_less x y k h = omega (arith, ints, mul-le-mul_right (suc k) (lt_out x y h))

-- a factor above 0 keeps an order, and one below 0 turns it
pub times_up : (c x y : ℤ) → pos 0 <ℤ c → x ≤ℤ y → (x *ℤ c) ≤ℤ (y *ℤ c)
times_up (pos n) x y p h = times_mono x y n h
times_up (negsuc n) x y p h = absurd (omega (arith, ints))

pub times_down : (c x y : ℤ) → c <ℤ pos 0 → x ≤ℤ y → (y *ℤ c) ≤ℤ (x *ℤ c)
times_down (pos n) x y p h = absurd (omega (arith, ints))
times_down (negsuc n) x y p h = let t = times_mono x y (suc n) h in omega (arith, ints, *ℤ-negsuc x n, *ℤ-negsuc y n)

pub times_left : (c x y : ℤ) → pos 0 <ℤ c → x ≤ℤ y → (c *ℤ x) ≤ℤ (c *ℤ y)
times_left c x y p h = let t = times_up c x y p h in omega (arith, ints, *ℤ_comm c x, *ℤ_comm c y)
