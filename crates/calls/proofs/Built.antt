-- Stores that are built place by place.
use Rattle.std.proofs.Common.{◌≡◌, ℕ, ◌<◌, length, ◌∙◌, arith}
use Rattle.std.proofs.lemmas.Bool.{cond_both}
use Rattle.std.proofs.lemmas.List.FromFn.{length-map-range_with_len, get_or-map-range_with_len, fill_by_all}
use Rattle.values.specs.Laws.{Ops}
use Rattle.calls.specs.Stores.{built, at, Stores}
use Rattle.calls.specs.Systems.{System}
use Rattle.calls.specs.Calls.{forward, back, transfer, scale, trim}
use Rattle.calls.specs.Rows.{Fits, accepted, made_by, after_call}
use Rattle.calls.specs.declared.call.Call.{Call}
use Rattle.calls.specs.declared.call.Call.TheVariants.{Forward, Back, Take, Give, Scale, Trim}

-- as many places as it was built with
pub length_built : {V : Type 0} (n : ℕ) (f : ℕ → V) → length (built n f) ≡ n
length_built n f = length-map-range_with_len f 0 n

-- what stands at a place
pub at_built : {V : Type 0} (o : Ops V) (n : ℕ) (f : ℕ → V) (i : ℕ) → i < n → at o (built n f) i ≡ f i
at_built o n f i l = get_or-map-range_with_len f 0 n i i o.zero l (omega arith)

-- two built stores with the same values are equal
pub built_same : {V : Type 0} (o : Ops V) (n : ℕ) (f g : ℕ → V) → ((i : ℕ) → i < n → f i ≡ g i) → built n f ≡ built n g
built_same o n f g h = fill_by_all g (built n f) n o.zero (length_built n f) (λ i l. at_built o n f i l ∙ h i l)

module _ {V : Type 0} (o : Ops V) (s : System) where
  -- each of the six calls keeps the sizes of the stores
  call_kept : (call : Call V) (stores : Stores V) → Fits s stores → Fits s (made_by o s call stores)
  unfolding forward back transfer scale trim
  call_kept (Forward view factor) stores h = record { volume = h.volume; measured = h.measured; working = length_built _ _ }
  call_kept (Back view factor) stores h = record { volume = length_built _ _; measured = h.measured; working = h.working }
  call_kept (Take view factor) stores h = record { volume = h.volume; measured = h.measured; working = length_built _ _ }
  call_kept (Give view factor) stores h = record { volume = h.volume; measured = length_built _ _; working = h.working }
  call_kept (Scale view factor) stores h = record { volume = h.volume; measured = h.measured; working = length_built _ _ }
  call_kept (Trim within) stores h = record { volume = length_built _ _; measured = h.measured; working = h.working }

  -- so does a call that may be refused
  pub fits_kept : (call : Call V) (stores : Stores V) → Fits s stores → Fits s (after_call o s call stores)
  fits_kept call stores h = cond_both (accepted s call) _ _ (Fits s) (λ e. call_kept call stores h) (λ e. h)
