-- The mirrored row of calls is the transpose of the row.
use Rattle.std.proofs.Common.{◌≡◌, ℕ, ◌+◌, ◌-◌, ◌*◌, ◌<◌, Bool, true, false, if◌then◌else◌, nat_lt, List, [], ◌∷◌, ◌++◌, refl, sym, ap, ap₂, ◌∙◌, arith}
use Rattle.std.proofs.lemmas.Bool.{ltb-true}
use Rattle.std.proofs.lemmas.Bool.Decides.{nat_tests}
use Rattle.std.proofs.lemmas.Nat.{row_fits}
use Rattle.values.specs.Laws.{Ops, Laws}
use Rattle.values.specs.Sums.{sum}
use Rattle.values.proofs.Sums.{zero_times, plus_times, times_swap, times_multiple, multiple_times, sum_same, sum_plus, times_sum, sum_times, sum_swap, sum_part}
use Rattle.calls.specs.Stores.{built, at, dot, Stores, three}
use Rattle.calls.specs.Systems.{System, voxels, places, in_view}
use Rattle.calls.specs.Boxes.{in_box, box_fits}
use Rattle.calls.specs.Calls.{in_cells, forward, back, transfer, scale, trim}
use Rattle.calls.specs.Rows.{after_call, outcome, mirrored_call, mirrored}
use Rattle.calls.specs.RowLaws.{inner, Matched}
use Rattle.calls.specs.declared.voxel_box.VoxelBox.{VoxelBox}
use Rattle.calls.specs.declared.call.Call.{Call}
use Rattle.calls.specs.declared.call.Call.TheVariants.{Forward, Back, Take, Give, Scale, Trim}
use Rattle.calls.proofs.Built.{at_built}

module _ {V : Type 0} {o : Ops V} (laws : Laws o) where
  -- a factor may stand on either side
  times_moves : (f x y : V) → o.times (o.times f x) y ≡ o.times x (o.times f y)
  times_moves f x y = laws.times_assoc f x y ∙ times_swap laws f x y

  -- zero on either side
  zero_moves : (x y : V) → o.times o.zero y ≡ o.times x o.zero
  zero_moves x y = zero_times laws y ∙ sym (laws.times_zero x)

  -- what may stand on either side, by a test
  if_moves : (b : Bool) {x y u u' v v' : V} → o.times u y ≡ o.times x v → o.times u' y ≡ o.times x v' → o.times (if b then u else u') y ≡ o.times x (if b then v else v')
  if_moves true e e' = e
  if_moves false e e' = e'

  -- a factor and a multiple may stand on either side
  multiple_moves : (f x y : V) (n : ℕ) → o.times (o.multiple x n) (o.times f y) ≡ o.times (o.times f x) (o.multiple y n)
  multiple_moves f x y n =
      multiple_times laws x (o.times f y) n
      ∙ ap (λ u. o.multiple u n) (sym (times_moves f x y))
      ∙ sym (times_multiple laws (o.times f x) y n)

  -- what the third of three terms gains may be gained by the first
  third_first : {x y z x' z' g : V} → z' ≡ o.plus z g → x' ≡ o.plus x g → o.plus x (o.plus y z') ≡ o.plus x' (o.plus y z)
  third_first {x = x} {y = y} {z = z} {g = g} e e' = rw (e, e') (ap (o.plus x) (sym (laws.plus_assoc y z g) ∙ laws.plus_comm _ g) ∙ sym (laws.plus_assoc x g _))

  -- or by the second
  third_second : {x y z y' z' g : V} → z' ≡ o.plus z g → y' ≡ o.plus y g → o.plus x (o.plus y z') ≡ o.plus x (o.plus y' z)
  third_second {x = x} {y = y} {z = z} {g = g} e e' = rw (e, e') (ap (o.plus x) (ap (o.plus y) (laws.plus_comm z g) ∙ sym (laws.plus_assoc y g z)))

  -- inner products are the same in both orders
  dot_comm : (n : ℕ) (xs ys : List V) → dot o n xs ys ≡ dot o n ys xs
  dot_comm n xs ys = sum_same laws n _ _ (λ i l. laws.times_comm (at o xs i) (at o ys i))

  -- the product with a store each place of which has gained
  module _ (n : ℕ) (new old ys : List V) (k : ℕ → V) (h : (i : ℕ) → i < n → at o new i ≡ o.plus (at o old i) (k i)) where
    gain_left : dot o n new ys ≡ o.plus (dot o n old ys) (sum o n (λ i. o.times (k i) (at o ys i)))
    gain_left = sum_same laws n _ _ (λ i l. ap (λ u. o.times u (at o ys i)) (h i l) ∙ plus_times laws _ _ _) ∙ sum_plus laws n _ _

    gain_right : dot o n ys new ≡ o.plus (dot o n ys old) (sum o n (λ i. o.times (at o ys i) (k i)))
    gain_right = sum_same laws n _ _ (λ i l. ap (o.times (at o ys i)) (h i l) ∙ laws.times_plus _ _ _) ∙ sum_plus laws n _ _

  -- a store altered place by place, by what may stand on either side
  dot_moves : (n : ℕ) (h : ℕ → V → V) (xs ys : List V) → ((i : ℕ) (x y : V) → o.times (h i x) y ≡ o.times x (h i y)) → dot o n (built n (λ i. h i (at o xs i))) ys ≡ dot o n xs (built n (λ i. h i (at o ys i)))
  dot_moves n h xs ys moves =
      sum_same laws n _ _ (λ i l.
      ap (λ u. o.times u (at o ys i)) (at_built o n _ i l)
      ∙ moves i (at o xs i) (at o ys i)
      ∙ sym (ap (o.times (at o xs i)) (at_built o n _ i l)))

  -- what a cell gains if it is one of the view's
  gain_if : (b : Bool) (x k : V) → (if b then o.plus x k else x) ≡ o.plus x (if b then k else o.zero)
  gain_if true x k = refl
  gain_if false x k = sym (laws.plus_zero x)

  module _ (s : System) where
    inner_comm : (a b : Stores V) → inner o s a b ≡ inner o s b a
    unfolding inner
    inner_comm a b = ap₂ o.plus (dot_comm (voxels s) _ _) (ap₂ o.plus (dot_comm (places s) _ _) (dot_comm (places s) _ _))

    -- a store in which the cells of view v have gained
    at_cells : (v : ℕ) (k : ℕ → V) (xs : List V) (i : ℕ) → i < places s → at o (in_cells o s v (λ i cell. o.plus cell (k i)) xs) i ≡ o.plus (at o xs i) (if in_view s v i then k i else o.zero)
    at_cells v k xs i l = at_built o (places s) _ i l ∙ gain_if (in_view s v i) (at o xs i) (k i)

    -- a sum over all places to which only the cells of view v add
    sum_cells : (v : ℕ) → v < s.views → (k g : ℕ → V) → sum o (places s) (λ i. o.times (if in_view s v i then k i else o.zero) (g i)) ≡ sum o s.cells (λ c. o.times (k (v * s.cells + c)) (g (v * s.cells + c)))
    sum_cells v known k g =
        sum_part laws (v * s.cells) s.cells (places s) _ (row_fits v s.cells s.views s.cells known (omega arith))
        (λ i l. let e : in_view s v i ≡ false = grind (arith, nat_tests) in rw e (zero_times laws (g i)))
        (λ i l. let e : in_view s v i ≡ false = grind (arith, nat_tests) in rw e (zero_times laws (g i)))
        ∙ sum_same laws s.cells _ _ (λ c l. let e : in_view s v (v * s.cells + c) ≡ true = grind (arith, nat_tests) in rw e)

    -- what cell c of view v gains from the volume a by forward
    abbrev cell_gain : ℕ → V → (ℕ → V) → ℕ → V
    cell_gain v f a c = o.times f (sum o (voxels s) (λ x. o.multiple (a x) (s.weight v x c)))

    -- what voxel x gains from the working store b by back
    abbrev voxel_gain : ℕ → V → (ℕ → V) → ℕ → V
    voxel_gain v f b x = o.times f (sum o s.cells (λ c. o.multiple (b (v * s.cells + c)) (s.weight v x c)))

    -- the gains of the cells against b are those of the voxels against a
    gains_match : (v : ℕ) (f : V) → v < s.views → (a b : ℕ → V) → sum o (places s) (λ i. o.times (if in_view s v i then cell_gain v f a (i - v * s.cells) else o.zero) (b i)) ≡ sum o (voxels s) (λ x. o.times (a x) (voxel_gain v f b x))
    gains_match v f known a b =
        sum_cells v known _ b
        ∙ sum_same laws s.cells _ _ (λ c l.
        let e : v * s.cells + c - v * s.cells ≡ c = omega arith in
        rw e (times_moves f _ _ ∙ sum_times laws _ (voxels s) (λ x. o.multiple (a x) (s.weight v x c))))
        ∙ sum_swap laws s.cells (voxels s) _
        ∙ sum_same laws (voxels s) _ _ (λ x l.
        sum_same laws s.cells _ _ (λ c m. multiple_moves f (a x) _ (s.weight v x c))
        ∙ sym (times_sum laws (o.times f (a x)) s.cells _)
        ∙ times_moves f (a x) _)

    forward_back : (v : ℕ) (f : V) → v < s.views → (a b : Stores V) → inner o s (three a.volume a.measured (forward o s v f a.volume a.working)) b ≡ inner o s a (three (back o s v f b.working b.volume) b.measured b.working)
    unfolding inner forward back
    forward_back v f known a b =
        third_first (gain_left (places s) _ a.working b.working _ (at_cells v _ a.working) ∙ ap (o.plus _) (gains_match v f known (at o a.volume) (at o b.working)))
        (gain_right (voxels s) _ b.volume a.volume _ (at_built o (voxels s) _))

    take_give : (v : ℕ) (f : V) (a b : Stores V) → inner o s (three a.volume a.measured (transfer o s v f a.measured a.working)) b ≡ inner o s a (three b.volume (transfer o s v f b.working b.measured) b.working)
    unfolding inner transfer
    take_give v f a b =
        third_second (gain_left (places s) _ a.working b.working _ (at_cells v _ a.working) ∙ ap (o.plus _) (sum_same laws (places s) _ _ (λ i l. if_moves (in_view s v i) (times_moves f _ _) (zero_moves _ _))))
        (gain_right (places s) _ b.measured a.measured _ (at_cells v _ b.measured))

    scale_scale : (v : ℕ) (f : V) (a b : Stores V) → inner o s (three a.volume a.measured (scale o s v f a.working)) b ≡ inner o s a (three b.volume b.measured (scale o s v f b.working))
    unfolding inner scale
    scale_scale v f a b = ap (o.plus _) (ap (o.plus _) (dot_moves (places s) _ a.working b.working (λ i x y. if_moves (in_view s v i) (times_moves f x y) refl)))

    trim_trim : (within : VoxelBox) (a b : Stores V) → inner o s (three (trim o s within a.volume) a.measured a.working) b ≡ inner o s a (three (trim o s within b.volume) b.measured b.working)
    unfolding inner trim
    trim_trim within a b = ap₂ o.plus (dot_moves (voxels s) _ a.volume b.volume (λ i x y. if_moves (in_box s within i) refl (zero_moves x y))) refl

    -- a call that is refused alters nothing on either side
    or_refused : (b : Bool) (x y x' y' : Stores V) → (b ≡ true → inner o s x' y ≡ inner o s x y') → inner o s (if b then x' else x) y ≡ inner o s x (if b then y' else y)
    or_refused true x y x' y' h = h refl
    or_refused false x y x' y' h = refl

    -- each call and the call mirrored
    step_mirrored : (call : Call V) (a b : Stores V) → inner o s (after_call o s call a) b ≡ inner o s a (after_call o s (mirrored_call call) b)
    step_mirrored (Forward v f) a b = or_refused (nat_lt v s.views) a b _ _ (λ e. forward_back v f (ltb-true v s.views e) a b)
    step_mirrored (Back v f) a b = or_refused (nat_lt v s.views) a b _ _ (λ e. inner_comm _ b ∙ sym (forward_back v f (ltb-true v s.views e) b a) ∙ inner_comm _ a)
    step_mirrored (Take v f) a b = or_refused (nat_lt v s.views) a b _ _ (λ e. take_give v f a b)
    step_mirrored (Give v f) a b = or_refused (nat_lt v s.views) a b _ _ (λ e. inner_comm _ b ∙ sym (take_give v f b a) ∙ inner_comm _ a)
    step_mirrored (Scale v f) a b = or_refused (nat_lt v s.views) a b _ _ (λ e. scale_scale v f a b)
    step_mirrored (Trim within) a b = or_refused (box_fits s within) a b _ _ (λ e. trim_trim within a b)

    -- one row after another
    outcome_append : (first last : List (Call V)) (start : Stores V) → outcome o s (first ++ last) start ≡ outcome o s last (outcome o s first start)
    unfolding outcome
    outcome_append [] last start = refl
    outcome_append (call ∷ first) last start = outcome_append first last (after_call o s call start)

    row_mirrored : (row : List (Call V)) (a b : Stores V) → inner o s (outcome o s row a) b ≡ inner o s a (outcome o s (mirrored row) b)
    unfolding outcome
    row_mirrored [] a b = refl
    row_mirrored (call ∷ row) a b =
        row_mirrored row (after_call o s call a) b
        ∙ step_mirrored call a (outcome o s (mirrored row) b)
        ∙ ap (inner o s a) (sym (outcome_append (mirrored row) (mirrored_call call ∷ []) b))

    -- the mirrored row is the transpose, for stores of any sizes
    pub matched : Matched o s
    matched row start test fits_start fits_test = row_mirrored row start test
