-- Numbers laid on a strip of a store, and the sums over the strip that they stand for.
use Rattle.std.proofs.Common.{◌≡◌, ℕ, ◌+◌, ◌*◌, ◌<◌, ◌≤◌, if◌then◌else◌, ◌==◌, ◌≢◌, List, length, set, sym, refl, ap, ◌∙◌, ap₂, ⊎_elim, arith}
use Rattle.std.proofs.lemmas.List.{get_or-set_same, get_or-set_other}
use Rattle.std.proofs.lemmas.Bool.{eq-eqb, ne_eqb, cond-true, cond-false, cases_eq}
use Rattle.values.specs.Laws.{Ops, Laws}
use Rattle.values.proofs.Sums.{sum_more, sum_same, sum_none, sum_plus, sum_past, sum_only, multiple_add, multiple_none, plus_none}
use Rattle.calls.specs.Stores.{at}
use Rattle.sweeps.specs.Strips.{laid, total, place, cell_overlap, strip_cells, first_share, strip_share}
use Rattle.sweeps.specs.declared.strip.Strip.{Strip}
use Rattle.values.proofs.Naturals.{naturals_laws}

module _ (start stride : ℕ) (w : ℕ → ℕ) where
  -- what place p gets of number n
  abbrev here : ℕ → ℕ → ℕ
  here n p = if p == start + n * stride then w n else 0

  here_hit : (n p : ℕ) → p ≡ start + n * stride → here n p ≡ w n
  here_hit n p e = cond-true _ _ _ (eq-eqb p (start + n * stride) e)

  here_miss : (n p : ℕ) → (p ≡ start + n * stride → ⊥) → here n p ≡ 0
  here_miss n p h = cond-false _ _ _ (ne_eqb p (start + n * stride) h)

  laid_more : (n p : ℕ) → laid start stride w (n + 1) p ≡ laid start stride w n p + here n p
  unfolding laid
  laid_more n p = sum_more naturals_laws n (λ i. here i p)

  -- no number is laid at p
  laid_none : (n p : ℕ) → ((i : ℕ) → i < n → here i p ≡ 0) → laid start stride w n p ≡ 0
  unfolding laid
  laid_none n p h = sum_none naturals_laws n (λ i. here i p) h

  -- p is none of the places
  pub laid_miss : (n p : ℕ) → ((i : ℕ) → i < n → p ≡ start + i * stride → ⊥) → laid start stride w n p ≡ 0
  laid_miss n p h = laid_none n p (λ i l. here_miss i p (h i l))

  zero_here : (i p : ℕ) → w i ≡ 0 → here i p ≡ 0
  zero_here i p e = ⊎_elim (λ q. here_hit i p q ∙ e) (here_miss i p) (cases_eq p (start + i * stride))

  -- the numbers are all 0
  pub laid_zero : (n p : ℕ) → ((i : ℕ) → i < n → w i ≡ 0) → laid start stride w n p ≡ 0
  laid_zero n p h = laid_none n p (λ i l. zero_here i p (h i l))

  -- past n all numbers are 0
  laid_past : (m n p : ℕ) → n ≤ m → ((i : ℕ) → n ≤ i → i < m → w i ≡ 0) → laid start stride w m p ≡ laid start stride w n p
  unfolding laid
  laid_past m n p le h = sum_past naturals_laws m n (λ i. here i p) le (λ i a b. zero_here i p (h i a b))

  -- one number alone is laid at p
  pub laid_only : (n k p : ℕ) → k < n → p ≡ start + k * stride → ((i : ℕ) → i < n → i ≢ k → p ≡ start + i * stride → ⊥) → laid start stride w n p ≡ w k
  unfolding laid
  laid_only n k p lt e h = sum_only naturals_laws n k (λ i. here i p) lt (λ i l ne. here_miss i p (h i l ne)) ∙ here_hit k p e

module _ {V : Type 0} {o : Ops V} (laws : Laws o) (s : Strip) (xs : List V) where
  -- what place p gets of the overlap of the strip's cell n
  abbrev here_share : ℕ → ℕ → ℕ
  here_share n p = here s.line.start s.line.stride (cell_overlap s) n p

  share_more : (n p : ℕ) → first_share s (n + 1) p ≡ first_share s n p + here_share n p
  share_more = laid_more s.line.start s.line.stride (cell_overlap s)

  -- no cell before the run overlaps
  share_none : (p : ℕ) → first_share s s.first p ≡ 0
  share_none p = laid_zero s.line.start s.line.stride (cell_overlap s) s.first p s.covers.before

  -- nor does one after it
  share_all : (n p : ℕ) → n ≡ s.last → strip_share s p ≡ first_share s n p
  share_all n p e = let ends = s.covers.ends in laid_past s.line.start s.line.stride (cell_overlap s) (strip_cells s) n p (omega arith) (λ i a b. s.covers.after i (omega arith) b)

  -- what the first n cells of the strip hold, each taken as often as it overlaps
  abbrev gathered : ℕ → V
  gathered n = total o xs (first_share s n)

  pub gather_none : gathered s.first ≡ o.zero
  gather_none = sum_none laws (length xs) _ (λ q l. multiple_none laws (at o xs q) _ (share_none q))

  -- a cell more
  pub gather_more : (n : ℕ) (all x : V) → place s n < length xs → all ≡ gathered n → x ≡ o.multiple (at o xs (place s n)) (cell_overlap s n) → o.plus all x ≡ gathered (n + 1)
  gather_more n all x lt e f =
      let k = place s n in
      let alone : total o xs (here_share n) ≡ o.multiple (at o xs k) (cell_overlap s n) =
      sum_only laws (length xs) k _ lt (λ q l ne. multiple_none laws (at o xs q) _ (here_miss s.line.start s.line.stride (cell_overlap s) n q ne))
      ∙ ap (o.multiple (at o xs k)) (here_hit s.line.start s.line.stride (cell_overlap s) n k refl) in
      ap₂ o.plus e (f ∙ sym alone)
      ∙ sym (sum_plus laws (length xs) _ _)
      ∙ sum_same laws (length xs) _ _ (λ q l. sym (multiple_add laws (at o xs q) (first_share s n q) (here_share n q)) ∙ ap (o.multiple (at o xs q)) (sym (share_more n q)))

  -- the whole run
  pub gather_all : (n : ℕ) → n ≡ s.last → gathered n ≡ total o xs (strip_share s)
  gather_all n e = sum_same laws (length xs) _ _ (λ q l. ap (o.multiple (at o xs q)) (sym (share_all n q e)))

  -- the first n cells of the strip have gained v, each as often as it overlaps
  abbrev pub Scattered : V → ℕ → List V → Type 0
  Scattered v n ys = (p : ℕ) → p < length xs → at o ys p ≡ o.plus (at o xs p) (o.multiple v (first_share s n p))

  pub scatter_none : (v : V) → Scattered v s.first xs
  scatter_none v p l = sym (plus_none laws (at o xs p) _ (multiple_none laws v _ (share_none p)))

  -- a cell more
  pub scatter_more : (v : V) (n : ℕ) (ys : List V) (y : V) → place s n < length ys → Scattered v n ys → y ≡ o.plus (at o ys (place s n)) (o.multiple v (cell_overlap s n)) → Scattered v (n + 1) (set ys (place s n) y)
  scatter_more v n ys y lt inv e p l =
      let k = place s n in
      let step : at o (set ys k y) p ≡ o.plus (at o ys p) (o.multiple v (here_share n p)) =
      ⊎_elim
      (λ same. rw (here_hit s.line.start s.line.stride (cell_overlap s) n p same, same) (get_or-set_same ys k y o.zero lt ∙ e))
      (λ other. get_or-set_other ys k p y o.zero other
      ∙ sym (plus_none laws (at o ys p) _ (multiple_none laws v _ (here_miss s.line.start s.line.stride (cell_overlap s) n p other))))
      (cases_eq p k) in
      step
      ∙ ap (λ u. o.plus u (o.multiple v (here_share n p))) (inv p l)
      ∙ laws.plus_assoc (at o xs p) (o.multiple v (first_share s n p)) (o.multiple v (here_share n p))
      ∙ ap (o.plus (at o xs p)) (sym (multiple_add laws v (first_share s n p) (here_share n p)) ∙ ap (o.multiple v) (sym (share_more n p)))

  -- the whole run
  pub scatter_all : (v : V) (n : ℕ) (ys : List V) → n ≡ s.last → Scattered v n ys → Scattered v (strip_cells s) ys
  scatter_all v n ys e inv p l = inv p l ∙ ap (λ k. o.plus (at o xs p) (o.multiple v k)) (sym (share_all n p e))
