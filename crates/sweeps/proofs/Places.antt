-- Stores place by place: what is written to the cells of a view, or to the volume, is what the definitions say.
use Rattle.std.proofs.Common.{◌≡◌, ℕ, ◌+◌, ◌-◌, ◌*◌, ◌<◌, ◌≤◌, List, length, ap, sym, ◌∙◌, arith, rules}
use borrow.Rule.Slice.PartMut.{put_mid}
use Rattle.std.proofs.lemmas.Bool.Decides.{nat_tests}
use Rattle.std.proofs.lemmas.List.{places as elements}
use Rattle.std.proofs.lemmas.List.FromFn.{fill_by_all}
use Rattle.std.proofs.lemmas.Nat.{row_fits}
use Rattle.values.specs.Laws.{Ops, Laws}
use Rattle.values.specs.Sums.{sum}
use Rattle.values.proofs.Sums.{sum_same}
use Rattle.calls.specs.Calls.{in_cells, forward, back}
use Rattle.calls.specs.Stores.{at}
use Rattle.calls.specs.Systems.{System, voxels, places}
use Rattle.sweeps.specs.Strips.{Gained}
use Rattle.sweeps.proofs.Parts.{part, length_part, at_part}

module _ {V : Type 0} (o : Ops V) (s : System) (v : ℕ) (known : v < s.views) where
  abbrev start : ℕ
  start = v * s.cells

  -- the view's cells lie in a store of cells
  view_end : start + s.cells ≤ places s
  view_end = row_fits v s.cells s.views s.cells known (omega arith)

  -- the view's cells
  abbrev cells_of : List V → List V
  cells_of store = part start s.cells store

  module _ (store : List V) (sized : length store ≡ places s) where
    within : start + s.cells ≤ length store
    within = let e = view_end in omega arith

    cell_at : (p : ℕ) → p < s.cells → at o (cells_of store) p ≡ at o store (start + p)
    cell_at p l = at_part start s.cells store o.zero p l

    cells_length : length (cells_of store) ≡ s.cells
    cells_length = length_part start s.cells store within

    -- what is written to the view's cells
    pub in_cells_is : (change : ℕ → V → V) (ys : List V) → length ys ≡ s.cells → ((p : ℕ) → p < s.cells → at o ys p ≡ change (start + p) (at o store (start + p)))
        → put_mid start ((start + s.cells) - start) store ys ≡ in_cells o s v change store
    in_cells_is change ys len changed =
        let e = within in
        fill_by_all _ _ (places s) o.zero (search (rules, elements))
        (λ i l.
        let here = λ (ge : start ≤ i) (lt : i < start + s.cells).
        let c : start + (i - start) ≡ i = omega arith in
        rw c at (changed (i - start) (omega arith)) in
        grind (arith, nat_tests, elements, here))

module _ {V : Type 0} {o : Ops V} (laws : Laws o) (s : System) (v : ℕ) (known : v < s.views) (f : V) (volume working : List V) (volume_is : length volume ≡ voxels s) (working_is : length working ≡ places s) where
  -- what forward makes of cell c of the view
  abbrev gained_cell : ℕ → V → V
  gained_cell c cell = o.plus cell (o.times f (sum o (voxels s) (λ x. o.multiple (at o volume x) (s.weight v x c))))

  -- what forward writes to the view's cells
  pub forward_is : (ys : List V) → length ys ≡ length (cells_of o s v known working) → Gained o f volume (s.weight v) (cells_of o s v known working) ys → put_mid (v * s.cells) ((v * s.cells + s.cells) - v * s.cells) working ys ≡ forward o s v f volume working
  unfolding forward
  forward_is ys len gained =
      let size = cells_length o s v known working working_is in
      in_cells_is o s v known working working_is (λ i cell. gained_cell (i - v * s.cells) cell) ys (len ∙ size)
      (λ p l.
      let c : (v * s.cells + p) - v * s.cells ≡ p = omega arith in
      rw (volume_is, cell_at o s v known working working_is p l) at (gained.gain p (omega arith)) ∙ ap (λ k. gained_cell k (at o working (v * s.cells + p))) (sym c))

  -- what back writes to the volume
  pub back_is : (new : List V) → length new ≡ length volume → Gained o f (cells_of o s v known working) (λ c x. s.weight v x c) volume new → new ≡ back o s v f working volume
  unfolding back
  back_is new len gained =
      let size = cells_length o s v known working working_is in
      fill_by_all _ new (voxels s) o.zero (len ∙ volume_is)
      (λ x l.
      rw size at (gained.gain x (omega arith))
      ∙ ap (λ u. o.plus (at o volume x) (o.times f u)) (sum_same laws s.cells _ _ (λ c k. ap (λ a. o.multiple a (s.weight v x c)) (cell_at o s v known working working_is c k))))
