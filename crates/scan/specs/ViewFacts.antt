-- What is known of the views of every plan.
use Rattle.std.specs.Prelude.{◌≡◌, ℕ, ◌+◌, ◌^◌, ◌<◌, ◌≤◌, List, ℤ, pos, ◌+ℤ◌, ◌*ℤ◌, neg_ℤ, ◌≤ℤ◌, ◌<ℤ◌, unsigned_abs}
use Rattle.geometry.specs.declared.direction.SlabAxis.{SlabAxis}
use Rattle.geometry.specs.Nearest.{RoundsToNearest, RoundsOddly}
use Rattle.geometry.specs.Landed.{depth, panel_depth}
use Rattle.geometry.specs.Directions.{slab_axis, main_of, side_of}
use Rattle.scan.specs.Axes.{edge_of}
use Rattle.scan.specs.Landing.{Landing, Sound}
use Rattle.scan.specs.Scans.{Scan}
use Rattle.scan.specs.Views.{cross_edges, slab_sum_of, column_sum_of, heading_of, landing, weight_of}

-- The four fractions can be worked out: their divisors are not zero, and their numerators lie from -2^62 to 2^62.
pub record SafeDivisions (scan : Scan) (along : SlabAxis) (a b : ℤ) : Type 0 where
  pub slab_divisor : (j : ℕ) → 0 < unsigned_abs (depth scan.source a (slab_sum_of scan along j))
  pub cross_dividend : (j i : ℕ) → unsigned_abs (scan.source *ℤ (pos 2 *ℤ edge_of (cross_edges scan along) i *ℤ a +ℤ slab_sum_of scan along j *ℤ b)) ≤ 2 ^ 62
  pub height_dividend : (l : ℕ) → unsigned_abs (pos 2 *ℤ scan.source *ℤ a *ℤ edge_of scan.z l) ≤ 2 ^ 62
  pub column_divisor : (k : ℕ) → 0 < unsigned_abs (panel_depth scan.panel a b (edge_of scan.column k))
  pub column_dividend : (k : ℕ) → unsigned_abs (scan.source *ℤ pos 16384 *ℤ edge_of scan.column k) ≤ 2 ^ 62
  pub row_divisor : (k : ℕ) → 0 < unsigned_abs (panel_depth (pos 2 *ℤ scan.panel) a b (column_sum_of scan k))
  pub row_dividend : (m : ℕ) → unsigned_abs (pos 2 *ℤ scan.source *ℤ a *ℤ edge_of scan.row m) ≤ 2 ^ 62

-- Of an axis whose edge i lands at landed i: edges that are each other's negatives land at each other's negatives.
abbrev pub LandsOpposite : List ℤ → (ℕ → ℤ) → Type 0
LandsOpposite es landed = (i k : ℕ) → edge_of es k ≡ neg_ℤ (edge_of es i) → landed k ≡ neg_ℤ (landed i)

-- Mirror-image edges land at mirror-image places: the heights z and -z in a slab and the row edges g and -g in a column always, and where b is 0 the cross edges e and -e in a slab and the column edges k and -k.
pub record MirrorImages (scan : Scan) (b : ℤ) (L : Landing) : Type 0 where
  pub heights : (j : ℕ) → LandsOpposite scan.z (L.W j)
  pub rows : (k : ℕ) → LandsOpposite scan.row (L.T k)
  pub crosses : b ≡ pos 0 → (j : ℕ) → LandsOpposite (cross_edges scan L.along) (L.U j)
  pub columns : b ≡ pos 0 → LandsOpposite scan.column L.S

-- What is known of view v: it is sound; rounding gives the whole number nearest to every fraction, halves away from zero, and is odd; mirror-image edges land at mirror-image places; its divisions are safe; S rises where a is positive and falls where a is negative; and every weight is below 2^52.
pub record ViewFacts (scan : Scan) (v : ℕ) : Type 0 where
  pub sound : Sound (landing scan v)
  pub nearest : RoundsToNearest
  pub odd : RoundsOddly
  pub mirror_images : MirrorImages scan (side_of (heading_of scan v)) (landing scan v)
  pub safe : SafeDivisions scan (slab_axis (heading_of scan v)) (main_of (heading_of scan v)) (side_of (heading_of scan v))
  pub S_rises : pos 0 <ℤ main_of (heading_of scan v) → (k : ℕ) → (landing scan v).S k ≤ℤ (landing scan v).S (k + 1)
  pub S_falls : main_of (heading_of scan v) <ℤ pos 0 → (k : ℕ) → (landing scan v).S (k + 1) ≤ℤ (landing scan v).S k
  pub light : (x c : ℕ) → weight_of scan v x c < 2 ^ 52
