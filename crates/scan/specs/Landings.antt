-- Lemmas, no definitions of the subject: the edges of a scan that keeps the limits land soundly from every direction.
use Rattle.std.specs.Prelude.{◌≡◌, ℕ, zero, suc, ◌+◌, ◌-◌, ◌*◌, ◌/◌, ◌%◌, ◌^◌, ◌<◌, ◌≤◌, min, max, List, [], ◌∷◌, length, ℤ, pos, ◌*ℤ◌, neg_ℤ, ◌≤ℤ◌, ◌<ℤ◌, fold, slice_index_or, unsigned_abs}
use Rattle.std.proofs.Common.{ap, ◌∙◌, inl, inr, arith}
use Rattle.std.proofs.Math.Nat.{mul-le-mul}
use Rattle.std.proofs.lemmas.Int.{ints, by_lt_z, unsigned_abs-mul}
use Rattle.geometry.specs.declared.direction.SlabAxis.{SlabAxis}
use Rattle.geometry.specs.declared.direction.SlabAxis.TheVariants.{X, Y}
use Rattle.geometry.specs.Landed.{slab_sum, cross_edge, height_edge, column_edge, row_edge}
use Rattle.geometry.specs.Directions.{slab_axis, main_of, side_of}
use Rattle.geometry.proofs.Size.{abs_plus, abs_minus}
use Rattle.geometry.proofs.Circles.{steep as steep_heading}
use Rattle.geometry.proofs.Divisors.{depth_beside, panel_depth_beside}
use Rattle.geometry.proofs.OneWay.{cross_rises, height_rises, row_rises, column_rises, column_falls}
use Rattle.geometry.proofs.Within.{cross_dividend, height_dividend, column_dividend, cross_within, height_within}
use Rattle.geometry.proofs.Overlaps.{overlap_most}
use Rattle.scan.specs.Axes.{Proper, cells_of, edge_of, low_of, high_of, cell_of, greatest}
use Rattle.scan.specs.Landing.{Landing, Sound, CellLimits, weight, cross_overlap, height_overlap, slab_of, cross_of, height_of}
use Rattle.scan.specs.Scans.{Scan}
use Rattle.scan.specs.Limits.{Fitted}
use Rattle.scan.specs.Views.{slab_edges, cross_edges, slab_sum_of, column_sum_of, landing_of, landing, step_of, heading_of}
use Rattle.scan.specs.ViewFacts.{SafeDivisions, LandsOpposite, MirrorImages, ViewFacts}
use Rattle.scan.specs.Numbered.{edge_within, edge_rises}
use Rattle.scan.specs.Fits.{heading_accepted}
use Rattle.geometry.proofs.Conditions.{Placed, Reached}
use Rattle.geometry.specs.Steep.{Steep}
use Rattle.geometry.proofs.NearestLaws.{nearest_is, nearest_odd}
use Rattle.geometry.proofs.MirrorImages.{heights_opposite, rows_opposite, crosses_opposite, columns_opposite}

-- no edge lies farther out than the greatest
fold_most : (m : ℕ) (es : List ℤ) → m ≤ fold (λ most e. max most (unsigned_abs e)) m es
fold_most m [] = omega arith
fold_most m (e ∷ es) = omega (arith, fold_most (max m (unsigned_abs e)) es)

fold_bounds : (m : ℕ) (es : List ℤ) (i : ℕ) → i < length es → unsigned_abs (slice_index_or es i (pos 0)) ≤ fold (λ most e. max most (unsigned_abs e)) m es
fold_bounds m [] i l = absurd (omega arith)
fold_bounds m (e ∷ es) zero l = omega (arith, fold_most (max m (unsigned_abs e)) es)
fold_bounds m (e ∷ es) (suc i) l = fold_bounds (max m (unsigned_abs e)) es i (omega arith)

pub edge_most : (es : List ℤ) → Proper es → (i : ℕ) → unsigned_abs (edge_of es i) ≤ greatest es
edge_most es p i = fold_bounds 0 es (min i (length es - 1)) (omega (arith, p.least))

counted : (es : List ℤ) → Proper es → CellLimits (cells_of es)
counted es p = (omega (arith, p.least), omega (arith, p.most))

sum_size : (along : SlabAxis) (low high : ℤ) → unsigned_abs (slab_sum along low high) ≤ unsigned_abs low + unsigned_abs high
sum_size X low high = omega (arith, ints)
sum_size Y low high = omega (arith, ints)

-- a map of edges that takes negatives to negatives
opposite : (es : List ℤ) (land : ℤ → ℤ) → ((e : ℤ) → land (neg_ℤ e) ≡ neg_ℤ (land e)) → LandsOpposite es (λ i. land (edge_of es i))
opposite es land odd i k e = ap land e ∙ odd (edge_of es i)

pub mirror_images : (scan : Scan) (along : SlabAxis) (a b : ℤ) → MirrorImages scan b (landing_of scan along a b)
mirror_images scan along a b =
    let D = scan.source in
    let F = scan.panel in
    record {
      heights = λ j. opposite scan.z (height_edge D a (slab_sum_of scan along j)) (heights_opposite D a (slab_sum_of scan along j));
      rows = λ k. opposite scan.row (row_edge D F a b (column_sum_of scan k)) (rows_opposite D F a b (column_sum_of scan k));
      crosses = λ h j. opposite (cross_edges scan along) (cross_edge D a b (slab_sum_of scan along j)) (crosses_opposite D a b (slab_sum_of scan along j) h);
      columns = λ h. opposite scan.column (column_edge D F a b) (columns_opposite D F a b h);
    }

module _ (scan : Scan) (fitted : Fitted scan) (along : SlabAxis) (a b : ℤ) (steep : Steep a b) where
  slabs_proper : Proper (slab_edges scan along)
  slabs_proper = elim along as (λ s. Proper (slab_edges scan s)) [ X ↦ fitted.x | Y ↦ fitted.y ]

  crosses_proper : Proper (cross_edges scan along)
  crosses_proper = elim along as (λ s. Proper (cross_edges scan s)) [ X ↦ fitted.y | Y ↦ fitted.x ]

  slab_near : (e : ℕ) → 2 * unsigned_abs (edge_of (slab_edges scan along) e) < unsigned_abs scan.source
  slab_near e =
      elim along as (λ s. 2 * unsigned_abs (edge_of (slab_edges scan s) e) < unsigned_abs scan.source)
      [ X ↦ omega (arith, edge_most scan.x fitted.x e, fitted.clear) | Y ↦ omega (arith, edge_most scan.y fitted.y e, fitted.clear) ]

  -- the sum of a slab's edges, whichever its sign
  middle_size : (j : ℕ) → unsigned_abs (slab_sum_of scan along j) ≤ unsigned_abs (low_of (slab_edges scan along) j) + unsigned_abs (high_of (slab_edges scan along) j)
  middle_size j = sum_size along (low_of (slab_edges scan along) j) (high_of (slab_edges scan along) j)

  placed : (j : ℕ) → Placed scan.source (slab_sum_of scan along j)
  placed j =
      record {
        some = omega (arith, ints, fitted.source_least);
        most = omega (arith, ints, fitted.source_least, fitted.source_most);
        near = omega (arith, middle_size j, slab_near (cell_of (slab_edges scan along) j), slab_near (cell_of (slab_edges scan along) j + 1));
      }

  middle_within : (j : ℕ) → unsigned_abs (slab_sum_of scan along j) ≤ 8388608
  middle_within j =
      let es = slab_edges scan along in
      omega (arith, middle_size j, edge_within es slabs_proper (cell_of es j), edge_within es slabs_proper (cell_of es j + 1))

  column_near : (k : ℕ) → unsigned_abs (edge_of scan.column k) < unsigned_abs scan.panel
  column_near k = fitted.nearer (min k (length scan.column - 1)) (omega (arith, fitted.column.least))

  reached : (k : ℕ) → Reached scan.panel (edge_of scan.column k)
  reached k =
      record {
        some = omega (arith, ints, fitted.source_least, fitted.panel_least);
        most = omega (arith, ints, fitted.source_least, fitted.panel_least, fitted.panel_most);
        near = column_near k;
      }

  middle_reached : (k : ℕ) → Reached (pos 2 *ℤ scan.panel) (column_sum_of scan k)
  middle_reached k =
      let r = reached k in
      let low = low_of scan.column k in
      let high = high_of scan.column k in
      let size = unsigned_abs-mul (pos 2) scan.panel in
      record {
        some = omega (arith, ints, r.some);
        most = omega (arith, r.some, fitted.panel_most, fitted.panel_least, fitted.source_least, ints);
        near = omega (arith, abs_plus low high, column_near (cell_of scan.column k), column_near (cell_of scan.column k + 1));
      }

  positive : pos 0 <ℤ scan.source
  positive = (placed 0).some

  pub safe : SafeDivisions scan along a b
  safe =
      let far : unsigned_abs scan.source ≤ 2 ^ 24 = (placed 0).most in
      record {
        slab_divisor = λ j. (depth_beside scan.source a b (slab_sum_of scan along j) (placed j) steep).apart;
        cross_dividend = λ j i.
            cross_dividend scan.source a b (slab_sum_of scan along j) (edge_of (cross_edges scan along) i) far steep (middle_within j) (edge_within _ crosses_proper i);
        height_dividend = λ l. omega (arith, height_dividend scan.source a b (edge_of scan.z l) far steep (edge_within scan.z fitted.z l));
        column_divisor = λ k. (panel_depth_beside scan.panel a b (edge_of scan.column k) (reached k) steep).apart;
        column_dividend = λ k. omega (arith, column_dividend scan.source (edge_of scan.column k) far (edge_within scan.column fitted.column k));
        row_divisor = λ k. (panel_depth_beside (pos 2 *ℤ scan.panel) a b (column_sum_of scan k) (middle_reached k) steep).apart;
        row_dividend = λ m. omega (arith, height_dividend scan.source a b (edge_of scan.row m) far steep (edge_within scan.row fitted.row m));
      }

  pub S_rises : pos 0 <ℤ a → (k : ℕ) → (landing_of scan along a b).S k ≤ℤ (landing_of scan along a b).S (k + 1)
  S_rises u k =
      column_rises scan.source scan.panel a b (edge_of scan.column k) (edge_of scan.column (k + 1)) positive (reached k) (reached (k + 1)) steep
      (edge_rises scan.column fitted.column k) u

  pub S_falls : a <ℤ pos 0 → (k : ℕ) → (landing_of scan along a b).S (k + 1) ≤ℤ (landing_of scan along a b).S k
  S_falls u k =
      column_falls scan.source scan.panel a b (edge_of scan.column k) (edge_of scan.column (k + 1)) positive (reached k) (reached (k + 1)) steep
      (edge_rises scan.column fitted.column k) u

  pub sound : Sound (landing_of scan along a b)
  sound =
      let D = scan.source in
      let Q : ℕ → ℤ = slab_sum_of scan along in
      record {
        slabs = counted _ slabs_proper;
        crosses = counted _ crosses_proper;
        heights = counted scan.z fitted.z;
        columns = counted scan.column fitted.column;
        rows = counted scan.row fitted.row;
        U_rises = λ j i. cross_rises D a b (Q j) (placed j) steep _ _ (edge_rises _ crosses_proper i);
        W_rises = λ j l. height_rises D a b (Q j) (placed j) steep _ _ (edge_rises scan.z fitted.z l);
        T_rises = λ k m.
            row_rises D scan.panel a b (column_sum_of scan k) positive (middle_reached k) steep _ _ (edge_rises scan.row fitted.row m);
        S_one_way = by_lt_z (pos 0) a (λ u. inl (S_rises u)) (λ v. inr (S_falls (omega (arith, ints, steep.least))));
        U_within = λ j i. omega (arith, cross_within D a b (Q j) (placed j) steep (edge_of (cross_edges scan along) i) (edge_within _ crosses_proper i) (middle_within j));
        W_within = λ j l. omega (arith, height_within D a b (Q j) (placed j) steep (edge_of scan.z l) (edge_within scan.z fitted.z l));
      }

-- the overlaps and the weights of a view that lands soundly
module _ (L : Landing) (s : Sound L) where
  cross_light : (j i k : ℕ) → cross_overlap L j i k ≤ 67108863
  unfolding cross_overlap
  cross_light j i k =
      omega (arith, overlap_most (L.U j i) (L.U j (i + 1)) (L.S k) (L.S (k + 1)), abs_minus (L.U j (i + 1)) (L.U j i), s.U_within j i, s.U_within j (i + 1))

  height_light : (j l k m : ℕ) → height_overlap L j l k m ≤ 67108863
  unfolding height_overlap
  height_light j l k m =
      omega (arith, overlap_most (L.W j l) (L.W j (l + 1)) (L.T k m) (L.T k (m + 1)), abs_minus (L.W j (l + 1)) (L.W j l), s.W_within j l, s.W_within j (l + 1))

  pub light : (x c : ℕ) → weight L x c < 2 ^ 52
  unfolding weight
  light x c =
      omega (arith, mul-le-mul (cross_light (slab_of L x) (cross_of L x) (c % L.columns)) (height_light (slab_of L x) (height_of L x) (c % L.columns) (c / L.columns)))

pub lands : (scan : Scan) → Fitted scan → (v : ℕ) → ViewFacts scan v
unfolding landing
lands scan fitted v =
    let h = heading_of scan v in
    let steep = steep_heading h (heading_accepted scan.directions fitted.accepted (step_of scan v) (fitted.steps v)) in
    let s = sound scan fitted (slab_axis h) (main_of h) (side_of h) steep in
    record {
      sound = s;
      nearest = nearest_is;
      odd = nearest_odd;
      mirror_images = mirror_images scan (slab_axis h) (main_of h) (side_of h);
      safe = safe scan fitted (slab_axis h) (main_of h) (side_of h) steep;
      S_rises = S_rises scan fitted (slab_axis h) (main_of h) (side_of h) steep;
      S_falls = S_falls scan fitted (slab_axis h) (main_of h) (side_of h) steep;
      light = light (landing scan v) s;
    }
