-- Gains summed over the turns of a loop, whichever way the sweep goes.
use Rattle.std.proofs.Common.{◌≡◌, ℕ, ◌+◌, ◌<◌, List, length, sym, refl, arith}
use Rattle.values.specs.Laws.{Ops, Laws}
use Rattle.values.specs.Sums.{sum}
use Rattle.values.proofs.Sums.{sum_more}
use Rattle.values.specs.Naturals.{naturals}
use Rattle.scan.specs.Landing.{Landing, voxels, cells}
use Rattle.sweeps.specs.Passes.{weights, Lengths, Sized, Swept}
use Rattle.sweeps.specs.declared.pass.Pass.{Pass}
use Rattle.sweeps.specs.declared.pass.Way.{Way}
use Rattle.sweeps.specs.declared.pass.Way.TheVariants.{Forward, Back}
use Rattle.values.proofs.Naturals.{naturals_laws}
use Rattle.sweeps.proofs.Gains.{gained_same, gained_none, gained_more}

-- the weights of n turns
abbrev pub summed : (ℕ → ℕ → ℕ → ℕ) → ℕ → ℕ → ℕ → ℕ
summed M n x c = sum naturals n (λ t. M t x c)

-- what holds of a pair of places in both orders holds in the order that a way takes them
each_way : (way : Way) (q p : ℕ) (P : ((ℕ → ℕ → ℕ) → ℕ) → Type 0) → P (λ M. M q p) → P (λ M. M p q) → P (λ M. weights way M q p)
each_way Forward q p P forth back = forth
each_way Back q p P forth back = back

-- weights that are the same of all voxels and cells are so in that order
weights_within : (way : Way) (L : Landing) (from to : ℕ) (M N : ℕ → ℕ → ℕ) → Lengths way L from to → ((x c : ℕ) → x < voxels L → c < cells L → M x c ≡ N x c) → (q p : ℕ) → q < from → p < to → weights way M q p ≡ weights way N q p
weights_within Forward L from to M N z h q p a b = let e = z.0 in let f = z.1 in h q p (omega arith) (omega arith)
weights_within Back L from to M N z h q p a b = let e = z.0 in let f = z.1 in h p q (omega arith) (omega arith)

module _ {V View : Type 0} {o : Ops V} (laws : Laws o) {pass : Pass V View} {old : List V} where
  -- the same weights by another name
  pub swept_as : {N N' : ℕ → ℕ → ℕ} {new : List V} → ((x c : ℕ) → N x c ≡ N' x c) → Swept o pass N old new → Swept o pass N' old new
  swept_as {N = N} {N' = N'} h s =
      record { gained = gained_same laws (λ q p a b. each_way pass.way q p (λ W. W N ≡ W N') (h q p) (h p q)) s.gained }

  -- where all weights are 0 nothing changes
  pub swept_none : {N : ℕ → ℕ → ℕ} → ((x c : ℕ) → N x c ≡ 0) → Swept o pass N old old
  swept_none {N = N} h = record { gained = gained_none laws _ old (λ q p. each_way pass.way q p (λ W. W N ≡ 0) (h q p) (h p q)) }

  -- two sweeps whose weights add up to known ones
  pub swept_joined : {N P Q : ℕ → ℕ → ℕ} {mid new : List V} → length mid ≡ length old → ((x c : ℕ) → N x c + P x c ≡ Q x c) → Swept o pass N old mid → Swept o pass P mid new → Swept o pass Q old new
  swept_joined {N = N} {P = P} {Q = Q} len h a b =
      record {
        gained = gained_same laws (λ q p i k. each_way pass.way q p (λ W. W N + W P ≡ W Q) (h q p) (h p q)) (gained_more laws len a.gained b.gained);
      }

  -- the same weights of all voxels and cells
  pub swept_within : (L : Landing) {N N' : ℕ → ℕ → ℕ} {new : List V} → Sized L pass (length old) → ((x c : ℕ) → x < voxels L → c < cells L → N x c ≡ N' x c) → Swept o pass N old new → Swept o pass N' old new
  swept_within L {N = N} {N' = N'} z h s = record { gained = gained_same laws (weights_within pass.way L (length pass.from.now) (length old) N N' z h) s.gained }

  -- no turn yet
  pub summed_none : (M : ℕ → ℕ → ℕ → ℕ) → Swept o pass (summed M 0) old old
  unfolding sum
  summed_none M = swept_none (λ x c. refl)

  -- one turn more
  pub summed_more : (M : ℕ → ℕ → ℕ → ℕ) (n : ℕ) {mid new : List V} → length mid ≡ length old → Swept o pass (summed M n) old mid → Swept o pass (M n) mid new → Swept o pass (summed M (n + 1)) old new
  summed_more M n len = swept_joined len (λ x c. sym (sum_more naturals_laws n (λ t. M t x c)))
