-- The most numbers that a file can have: how great sums are whose parts have a bounded product.
use Rattle.std.specs.Prelude.{◌≡◌, ℕ, ◌+◌, ◌-◌, ◌*◌, ◌≤◌}
use Rattle.std.proofs.Common.{arith, ⊎_elim, mul-le-mul_right}
use Rattle.std.proofs.lemmas.Bool.{cases_lt}

-- a factor that lies above its least leaves no more to the other than the sum of what both limits allow
other_factor : (least above below other : ℕ) → 1 ≤ least → other * (least + above) ≤ least * (least + above + below) → other ≤ least + below
other_factor least above below other some product =
    ⊎_elim
    (λ short. omega arith)
    (λ long. absurd (omega (arith, mul-le-mul_right (least + above) long)))
    (cases_lt other (least + below + 1))

-- where one of two factors lies between two limits, and their product is no more than that of the limits, so is their sum
pair_most : (least most other one : ℕ) → 1 ≤ least → least ≤ one → one ≤ most → other * one ≤ least * most → other + one ≤ least + most
pair_most least most other one some low high product =
    let above : least + (one - least) ≡ one = omega arith in
    let below : least + (one - least) + (most - one) ≡ most = omega arith in
    let rest = other_factor least (one - least) (most - one) other some (rw (below, above) product) in
    omega arith

-- two factors that are not 0 sum to at most one more than their product
factors_most : (a b : ℕ) → 1 ≤ a → 1 ≤ b → a + b ≤ a * b + 1
factors_most a b some any =
    let whole = pair_most 1 (a * b) a b (omega arith) any (omega (arith, mul-le-mul_right b some)) (omega arith) in
    omega arith

-- the cells of three axes, one of which has 8 or more, sum to at most 521: one axis of 512 cells, one of 8 and one of 1 do
long_axis : (a b c : ℕ) → 1 ≤ a → 1 ≤ b → 8 ≤ c → c ≤ 512 → a * b * c ≤ 4096 → a + b + c ≤ 521
long_axis a b c some any low high product = omega (arith, factors_most a b some any, pair_most 8 512 (a * b) c (omega arith) low high product)

-- so do the cells of any three axes
pub axes_most : (x y z : ℕ) → 1 ≤ x → 1 ≤ y → 1 ≤ z → x ≤ 512 → y ≤ 512 → z ≤ 512 → z * y * x ≤ 4096 → x + y + z ≤ 521
axes_most x y z sx sy sz mx my mz product =
    ⊎_elim
    (λ few_x.
    ⊎_elim
    (λ few_y.
    ⊎_elim
    (λ few_z. omega arith)
    (λ long. omega (arith, long_axis x y z sx sy long mz (omega arith)))
    (cases_lt z 8))
    (λ long. omega (arith, long_axis x z y sx sz long my (omega arith)))
    (cases_lt y 8))
    (λ long. omega (arith, long_axis y z x sy sz long mx (omega arith)))
    (cases_lt x 8)

-- the views, rows and columns sum to at most 1,029: 1,024 views of 4 rows and 1 column do
pub views_most : (views rows columns : ℕ) → 1 ≤ rows → 1 ≤ columns → rows ≤ 512 → columns ≤ 512 → views ≤ 1024 → views * (rows * columns) ≤ 4096 → views + rows + columns ≤ 1029
views_most views rows columns some any most_rows most_columns most product =
    ⊎_elim
    (λ few. omega arith)
    (λ many. omega (arith, factors_most rows columns some any, pair_most 4 1024 (rows * columns) views (omega arith) many most (omega arith)))
    (cases_lt views 4)
