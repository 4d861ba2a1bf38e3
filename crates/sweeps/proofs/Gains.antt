-- How gains of a store add up.
use Rattle.std.proofs.Common.{◌≡◌, ℕ, ◌+◌, ◌*◌, ◌<◌, List, length, sym, ap, ◌∙◌, arith}
use Rattle.values.specs.Laws.{Ops, Laws}
use Rattle.values.proofs.Sums.{sum_same, sum_none, sum_plus, multiple_add, multiple_multiple, multiple_sum, times_multiple, multiple_none, plus_none}
use Rattle.calls.specs.Stores.{at}
use Rattle.sweeps.specs.Strips.{total, Gained}

module _ {V : Type 0} {o : Ops V} (laws : Laws o) {f : V} {from : List V} where
  -- the same weights at every pair of places
  pub gained_same : {M N : ℕ → ℕ → ℕ} {old new : List V} → ((q p : ℕ) → q < length from → p < length old → M q p ≡ N q p) → Gained o f from M old new → Gained o f from N old new
  gained_same {old = old} h g =
      record { gain = λ p l. g.gain p l ∙ ap (λ u. o.plus (at o old p) (o.times f u)) (sum_same laws (length from) _ _ (λ q k. ap (o.multiple (at o from q)) (h q p k l))) }

  -- no weight at all
  pub gained_none : (M : ℕ → ℕ → ℕ) (old : List V) → ((q p : ℕ) → M q p ≡ 0) → Gained o f from M old old
  gained_none M old h =
      record {
        gain = λ p l.
            sym (plus_none laws (at o old p) _
            (ap (o.times f) (sum_none laws (length from) _ (λ q k. multiple_none laws (at o from q) _ (h q p))) ∙ laws.times_zero f));
      }

  -- one gain after another
  pub gained_more : {M N : ℕ → ℕ → ℕ} {old mid new : List V} → length mid ≡ length old → Gained o f from M old mid → Gained o f from N mid new → Gained o f from (λ q p. M q p + N q p) old new
  gained_more {M = M} {N = N} {old = old} {mid = mid} len a b =
      record {
        gain = λ p l.
            let l' : p < length mid = omega arith in
            b.gain p l'
            ∙ ap (λ u. o.plus u (o.times f (total o from (λ q. N q p)))) (a.gain p l)
            ∙ laws.plus_assoc (at o old p) (o.times f (total o from (λ q. M q p))) (o.times f (total o from (λ q. N q p)))
            ∙ ap (o.plus (at o old p))
            (sym (laws.times_plus f (total o from (λ q. M q p)) (total o from (λ q. N q p)))
            ∙ ap (o.times f) (sym (sum_plus laws (length from) _ _)
            ∙ sum_same laws (length from) _ _ (λ q k. sym (multiple_add laws (at o from q) (M q p) (N q p)))));
      }

-- a multiple of f times a total goes into the total
pub multiple_total : {V : Type 0} {o : Ops V} (laws : Laws o) (f : V) (from : List V) (A : ℕ → ℕ) (b : ℕ) → o.multiple (o.times f (total o from A)) b ≡ o.times f (total o from (λ q. A q * b))
multiple_total {o = o} laws f from A b =
    sym (times_multiple laws f _ b)
    ∙ ap (o.times f) (multiple_sum laws b (length from) _ ∙ sum_same laws (length from) _ _ (λ q k. multiple_multiple laws (at o from q) (A q) b))
