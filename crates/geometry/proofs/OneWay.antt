-- The landed edges of the voxels and of the rows never fall, and those of the columns go one way, by the side of a.
use Rattle.std.proofs.Common.{◌≡◌, ℤ, pos, ◌+ℤ◌, ◌-ℤ◌, ◌*ℤ◌, ◌≤ℤ◌, ◌<ℤ◌, sym, ap, ◌∙◌, arith}
use lib.IntN.{*ℤ_comm}
use borrow.Author.Differences.{ints}
use Rattle.std.proofs.lemmas.Int.{by_lt_z}
use Rattle.geometry.specs.Nearest.{nearest}
use Rattle.geometry.specs.Landed.{panel_depth, cross_edge, height_edge, column_edge, row_edge}
use Rattle.geometry.proofs.NearestLaws.{nearest_rises, nearest_falls, nearest_cross, nearest_cross_below}
use Rattle.geometry.proofs.Products.{*ℤ-assoc, *ℤ--ℤ, times_up, times_down, times_left}
use Rattle.geometry.proofs.Size.{times_side}
use Rattle.geometry.proofs.Divisors.{depth_beside, panel_depth_beside}
use Rattle.geometry.specs.Steep.{Steep}
use Rattle.geometry.proofs.Conditions.{Placed, Reached, Beside}

-- m comes before n where a is above 0, and after it where a is below
abbrev Along : ℤ → ℤ → ℤ → Type 0
Along a m n = (pos 0 <ℤ a → m ≤ℤ n) × (a <ℤ pos 0 → n ≤ℤ m)

-- over a divisor on a's side, the nearest rise
nearest_along : (m n d a b : ℤ) → Beside a d → Steep a b → Along a m n → nearest m d ≤ℤ nearest n d
nearest_along m n d a b s t h =
    by_lt_z (pos 0) a
    (λ (u : pos 0 <ℤ a). nearest_rises m n d (s.above u) (h.0 u))
    (λ (v : a ≤ℤ pos 0). let u : a <ℤ pos 0 = omega (arith, ints, t.least) in nearest_falls n m d (s.below u) (h.1 u))

pub cross_rises : (D a b Q : ℤ) → Placed D Q → Steep a b → (e f : ℤ) → e ≤ℤ f → cross_edge D a b Q e ≤ℤ cross_edge D a b Q f
unfolding cross_edge
cross_rises D a b Q p s e f h =
    let x = times_left (pos 2) e f (omega (arith, ints)) h in
    let up : (pos 0 <ℤ a) → (pos 2 *ℤ e *ℤ a +ℤ Q *ℤ b) ≤ℤ (pos 2 *ℤ f *ℤ a +ℤ Q *ℤ b) =
    λ u. let y = times_up a (pos 2 *ℤ e) (pos 2 *ℤ f) u x in omega (arith, ints) in
    let down : (a <ℤ pos 0) → (pos 2 *ℤ f *ℤ a +ℤ Q *ℤ b) ≤ℤ (pos 2 *ℤ e *ℤ a +ℤ Q *ℤ b) =
    λ u. let y = times_down a (pos 2 *ℤ e) (pos 2 *ℤ f) u x in omega (arith, ints) in
    nearest_along _ _ _ a b (depth_beside D a b Q p s) s (λ u. times_left D _ _ p.some (up u), λ u. times_left D _ _ p.some (down u))

-- 2 D a x
scaled : (D a x y : ℤ) → pos 0 <ℤ D → x ≤ℤ y → Along a (pos 2 *ℤ D *ℤ a *ℤ x) (pos 2 *ℤ D *ℤ a *ℤ y)
scaled D a x y p h =
    let c = pos 2 *ℤ D *ℤ a in
    let s = times_side (pos 2 *ℤ D) a (omega (arith, ints)) in (
      λ u. let t = times_up c x y (s.0 u) h in omega (arith, ints, *ℤ_comm c x, *ℤ_comm c y),
      λ u. let t = times_down c x y (s.1 u) h in omega (arith, ints, *ℤ_comm c x, *ℤ_comm c y),
    )

pub height_rises : (D a b Q : ℤ) → Placed D Q → Steep a b → (y z : ℤ) → y ≤ℤ z → height_edge D a Q y ≤ℤ height_edge D a Q z
unfolding height_edge
height_rises D a b Q p s y z h = nearest_along _ _ _ a b (depth_beside D a b Q p s) s (scaled D a y z p.some h)

pub row_rises : (D F a b K : ℤ) → pos 0 <ℤ D → Reached (pos 2 *ℤ F) K → Steep a b → (g h : ℤ) → g ≤ℤ h → row_edge D F a b K g ≤ℤ row_edge D F a b K h
unfolding row_edge
row_rises D F a b K p r s g h l = nearest_along _ _ _ a b (panel_depth_beside (pos 2 *ℤ F) a b K r s) s (scaled D a g h p l)

module _ (D F a b k l : ℤ) (some : pos 0 <ℤ D) (p : Reached F k) (q : Reached F l) (s : Steep a b) (h : k ≤ℤ l) where
  -- k (F a - l b) = k F a - k l b
  opened : (x y : ℤ) → (D *ℤ pos 16384 *ℤ x) *ℤ panel_depth F a b y ≡ (D *ℤ pos 16384) *ℤ (x *ℤ (F *ℤ a) -ℤ x *ℤ (y *ℤ b))
  unfolding panel_depth
  opened x y = *ℤ-assoc (D *ℤ pos 16384) x (F *ℤ a -ℤ y *ℤ b) ∙ ap (λ z. (D *ℤ pos 16384) *ℤ z) (*ℤ--ℤ x (F *ℤ a) (y *ℤ b))

  swapped : (x y : ℤ) → x *ℤ (y *ℤ b) ≡ y *ℤ (x *ℤ b)
  swapped x y = sym (*ℤ-assoc x y b) ∙ ap (λ z. z *ℤ b) (*ℤ_comm x y) ∙ *ℤ-assoc y x b

  scale : pos 0 <ℤ (D *ℤ pos 16384)
  scale = omega (arith, ints)

  -- the quotients of x and y, told by products
  crossed : (x y : ℤ) → (x *ℤ (F *ℤ a)) ≤ℤ (y *ℤ (F *ℤ a)) → ((D *ℤ pos 16384 *ℤ x) *ℤ panel_depth F a b y) ≤ℤ ((D *ℤ pos 16384 *ℤ y) *ℤ panel_depth F a b x)
  crossed x y w =
      let m : (x *ℤ (F *ℤ a) -ℤ x *ℤ (y *ℤ b)) ≤ℤ (y *ℤ (F *ℤ a) -ℤ y *ℤ (x *ℤ b)) = omega (arith, ints, swapped x y) in
      let n = times_left (D *ℤ pos 16384) _ _ scale m in
      omega (arith, ints, opened x y, opened y x)

  pub column_rises : pos 0 <ℤ a → column_edge D F a b k ≤ℤ column_edge D F a b l
  unfolding column_edge
  column_rises u =
      nearest_cross _ _ _ _ ((panel_depth_beside F a b k p s).above u) ((panel_depth_beside F a b l q s).above u)
      (crossed k l (times_up (F *ℤ a) k l ((times_side F a p.some).0 u) h))

  pub column_falls : a <ℤ pos 0 → column_edge D F a b l ≤ℤ column_edge D F a b k
  unfolding column_edge
  column_falls u =
      nearest_cross_below _ _ _ _ ((panel_depth_beside F a b l q s).below u) ((panel_depth_beside F a b k p s).below u)
      (crossed l k (times_down (F *ℤ a) k l ((times_side F a p.some).1 u) h))
