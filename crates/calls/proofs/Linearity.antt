-- A row of calls takes sums to sums and multiples to multiples.
use Rattle.std.proofs.Common.{◌≡◌, ℕ, zero, suc, ◌<◌, Bool, true, false, if◌then◌else◌, List, [], ◌∷◌, refl, sym, ap, ap₂, ◌∙◌, arith}
use Rattle.std.proofs.lemmas.Bool.{ltb-true}
use Rattle.std.proofs.lemmas.Nat.{row_fits}
use Rattle.values.specs.Laws.{Ops, Laws}
use Rattle.values.specs.Sums.{sum}
use Rattle.values.proofs.Sums.{plus_swap, times_swap, multiple_plus, times_multiple}
use Rattle.calls.specs.Stores.{built, at, Stores, three}
use Rattle.calls.specs.Systems.{System, voxels, places}
use Rattle.calls.specs.Boxes.{in_box}
use Rattle.calls.specs.Calls.{forward, back, transfer, scale, trim}
use Rattle.calls.specs.Rows.{accepted, made_by, after_call, outcome}
use Rattle.calls.specs.RowLaws.{added, multiplied, Linear}
use Rattle.calls.specs.declared.call.Call.{Call}
use Rattle.calls.specs.declared.call.Call.TheVariants.{Forward, Back, Take, Give, Scale, Trim}
use Rattle.calls.proofs.Built.{at_built, built_same}

-- a way p of making one value of two with which all operations go, as the sum of the two, or a value times the first
record Joins {V : Type 0} (o : Ops V) (p : V → V → V) : Type 0 where
  zero : o.zero ≡ p o.zero o.zero
  plus : (x y x' y' : V) → o.plus (p x y) (p x' y') ≡ p (o.plus x x') (o.plus y y')
  times : (f x y : V) → o.times f (p x y) ≡ p (o.times f x) (o.times f y)
  multiple : (x y : V) (n : ℕ) → o.multiple (p x y) n ≡ p (o.multiple x n) (o.multiple y n)

-- below, `..both` says of values made of two each that what is made of them is so too
module _ {V : Type 0} {o : Ops V} (s : System) {p : V → V → V} (joins : Joins o p) where
  -- two sets of stores made one, place by place
  abbrev both : Stores V → Stores V → Stores V
  both a b =
      three (built (voxels s) (λ i. p (at o a.volume i) (at o b.volume i)))
      (built (places s) (λ i. p (at o a.measured i) (at o b.measured i)))
      (built (places s) (λ i. p (at o a.working i) (at o b.working i)))

  sum_both : (n : ℕ) {f g h : ℕ → V} → ((i : ℕ) → i < n → f i ≡ p (g i) (h i)) → sum o n f ≡ p (sum o n g) (sum o n h)
  unfolding sum
  sum_both zero e = joins.zero
  sum_both (suc n) e = ap₂ o.plus (sum_both n (λ i l. e i (omega arith))) (e n (omega arith)) ∙ joins.plus _ _ _ _

  plus_both : {x y z x' y' z' : V} → x ≡ p y z → x' ≡ p y' z' → o.plus x x' ≡ p (o.plus y y') (o.plus z z')
  plus_both e e' = ap₂ o.plus e e' ∙ joins.plus _ _ _ _

  times_both : (f : V) {x y z : V} → x ≡ p y z → o.times f x ≡ p (o.times f y) (o.times f z)
  times_both f e = ap (o.times f) e ∙ joins.times f _ _

  multiple_both : (n : ℕ) {x y z : V} → x ≡ p y z → o.multiple x n ≡ p (o.multiple y n) (o.multiple z n)
  multiple_both n e = ap (λ u. o.multiple u n) e ∙ joins.multiple _ _ n

  if_both : (b : Bool) {x y z x' y' z' : V} → x ≡ p y z → x' ≡ p y' z' → (if b then x else x') ≡ p (if b then y else y') (if b then z else z')
  if_both true e e' = e
  if_both false e e' = e'

  -- a store of which each place is made of two is made of two stores
  built_both : (n : ℕ) {f g h : ℕ → V} → ((i : ℕ) → i < n → f i ≡ p (g i) (h i)) → built n f ≡ built n (λ i. p (at o (built n g) i) (at o (built n h) i))
  built_both n {g = g} {h = h} e = built_same o n _ _ (λ i l. e i l ∙ sym (ap₂ p (at_built o n g i l) (at_built o n h i l)))

  module _ (a b : Stores V) where
    abbrev c : Stores V
    c = both a b

    -- what stands in the three stores
    volume_at : (i : ℕ) → i < voxels s → at o c.volume i ≡ p (at o a.volume i) (at o b.volume i)
    volume_at i l = at_built o (voxels s) _ i l

    measured_at : (i : ℕ) → i < places s → at o c.measured i ≡ p (at o a.measured i) (at o b.measured i)
    measured_at i l = at_built o (places s) _ i l

    working_at : (i : ℕ) → i < places s → at o c.working i ≡ p (at o a.working i) (at o b.working i)
    working_at i l = at_built o (places s) _ i l

    -- with these a change is taken apart down to what stands in the stores
    ruleset all_both = (if_both, plus_both, times_both, multiple_both, sum_both, volume_at, measured_at, working_at)

    -- each of the six calls
    call_both : (call : Call V) → accepted s call ≡ true → made_by o s call c ≡ both (made_by o s call a) (made_by o s call b)
    unfolding forward back transfer scale trim
    call_both (Forward v f) e = ap (three c.volume c.measured) (built_both (places s) (λ i l. search all_both depth 8))
    call_both (Back v f) e =
        let within = row_fits v s.cells s.views s.cells (ltb-true v s.views e) (omega arith) in
        ap (λ u. three u c.measured c.working) (built_both (voxels s) (λ i l. search (all_both, arith) depth 8))
    call_both (Take v f) e = ap (three c.volume c.measured) (built_both (places s) (λ i l. search all_both))
    call_both (Give v f) e = ap (λ u. three c.volume u c.working) (built_both (places s) (λ i l. search all_both))
    call_both (Scale v f) e = ap (three c.volume c.measured) (built_both (places s) (λ i l. search all_both))
    call_both (Trim within) e = ap (λ u. three u c.measured c.working) (built_both (voxels s) (λ i l. if_both (in_box s within i) (volume_at i l) joins.zero))

  -- a call that is refused alters nothing
  or_refused : (b : Bool) (g : Stores V → Stores V) → (b ≡ true → (x y : Stores V) → g (both x y) ≡ both (g x) (g y)) → (x y : Stores V) → (if b then g (both x y) else both x y) ≡ both (if b then g x else x) (if b then g y else y)
  or_refused true g h x y = h refl x y
  or_refused false g h x y = refl

  -- a row of calls
  row_both : (row : List (Call V)) (a b : Stores V) → outcome o s row (both a b) ≡ both (outcome o s row a) (outcome o s row b)
  unfolding outcome
  row_both [] a b = refl
  row_both (call ∷ row) a b =
      ap (outcome o s row) (or_refused (accepted s call) (made_by o s call) (λ e x y. call_both x y call e) a b) ∙ row_both row (after_call o s call a) (after_call o s call b)

module _ {V : Type 0} {o : Ops V} (laws : Laws o) (s : System) where
  -- the sum of two
  plus_joins : Joins o o.plus
  plus_joins = record {
    zero = sym (laws.plus_zero o.zero);
    plus = plus_swap laws;
    times = laws.times_plus;
    multiple = multiple_plus laws;
  }

  -- a value times the first
  times_joins : (c : V) → Joins o (λ x y. o.times c x)
  times_joins c = record {
    zero = sym (laws.times_zero c);
    plus = λ x y x' y'. sym (laws.times_plus c x x');
    times = λ f x y. times_swap laws f c x;
    multiple = λ x y n. sym (times_multiple laws c x n);
  }

  pub linear : Linear o s
  unfolding added multiplied
  linear = record {
    sums = λ row a b fits_a fits_b. row_both s plus_joins row a b;
    multiples = λ row c a fits. row_both s (times_joins c) row a a;
  }
