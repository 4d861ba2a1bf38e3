-- Edges that are each other's negatives land at each other's negatives: heights and rows in every view, and the cross axis and the columns where b is 0.
use Rattle.std.proofs.Common.{◌≡◌, ℤ, pos, ◌+ℤ◌, ◌-ℤ◌, ◌*ℤ◌, neg_ℤ, ap, ◌∙◌, arith}
use borrow.Author.Differences.{ints}
use Rattle.geometry.specs.Nearest.{nearest}
use Rattle.geometry.specs.Landed.{depth, panel_depth, cross_edge, height_edge, column_edge, row_edge}
use Rattle.geometry.proofs.NearestLaws.{nearest_odd}
use Rattle.geometry.proofs.Products.{*ℤ-negℤ, negℤ-*ℤ}

-- over one divisor
opposite : (m n d : ℤ) → m ≡ neg_ℤ n → nearest m d ≡ neg_ℤ (nearest n d)
opposite m n d e = ap (λ x. nearest x d) e ∙ nearest_odd n d

pub heights_opposite : (D a Q z : ℤ) → height_edge D a Q (neg_ℤ z) ≡ neg_ℤ (height_edge D a Q z)
unfolding height_edge
heights_opposite D a Q z = opposite _ _ (depth D a Q) (*ℤ-negℤ (pos 2 *ℤ D *ℤ a) z)

pub rows_opposite : (D F a b K g : ℤ) → row_edge D F a b K (neg_ℤ g) ≡ neg_ℤ (row_edge D F a b K g)
unfolding row_edge
rows_opposite D F a b K g = opposite _ _ (panel_depth (pos 2 *ℤ F) a b K) (*ℤ-negℤ (pos 2 *ℤ D *ℤ a) g)

times_none : (x y : ℤ) → y ≡ pos 0 → x *ℤ y ≡ pos 0
times_none x y e = let z = ap (λ w. x *ℤ w) e in let n = *ℤ-negℤ x (pos 0) in omega (arith, ints)

pub crosses_opposite : (D a b Q : ℤ) → b ≡ pos 0 → (e : ℤ) → cross_edge D a b Q (neg_ℤ e) ≡ neg_ℤ (cross_edge D a b Q e)
unfolding cross_edge
crosses_opposite D a b Q straight e =
    let q = times_none Q b straight in
    let turn = ap (λ z. z *ℤ a) (*ℤ-negℤ (pos 2) e) ∙ negℤ-*ℤ (pos 2 *ℤ e) a in
    let sum : (pos 2 *ℤ neg_ℤ e *ℤ a +ℤ Q *ℤ b) ≡ neg_ℤ (pos 2 *ℤ e *ℤ a +ℤ Q *ℤ b) = omega (arith, ints) in
    opposite _ _ (depth D a Q) (ap (λ z. D *ℤ z) sum ∙ *ℤ-negℤ D (pos 2 *ℤ e *ℤ a +ℤ Q *ℤ b))

pub columns_opposite : (D F a b : ℤ) → b ≡ pos 0 → (k : ℤ) → column_edge D F a b (neg_ℤ k) ≡ neg_ℤ (column_edge D F a b k)
unfolding column_edge panel_depth
columns_opposite D F a b straight k =
    let same : (F *ℤ a -ℤ neg_ℤ k *ℤ b) ≡ (F *ℤ a -ℤ k *ℤ b) = omega (arith, ints, times_none (neg_ℤ k) b straight, times_none k b straight) in
    ap (λ d. nearest (D *ℤ pos 16384 *ℤ neg_ℤ k) d) same ∙ opposite _ _ (F *ℤ a -ℤ k *ℤ b) (*ℤ-negℤ (D *ℤ pos 16384) k)
