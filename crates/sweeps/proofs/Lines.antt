-- A volume trimmed line after line along x.
use Rattle.std.proofs.Common.{◌≡◌, ℕ, ◌+◌, ◌-◌, ◌*◌, ◌/◌, ◌%◌, ◌<◌, ◌≤◌, if◌then◌else◌, List, length, nat_lt, false, refl, sym, ◌∙◌, add-mul, one-mul, arith}
use borrow.Rule.Slice.PartMut.{put_mid}
use Rattle.std.proofs.Math.Arith.{digits_div, digits_mod}
use Rattle.std.proofs.lemmas.Bool.Decides.{nat_tests}
use Rattle.std.proofs.lemmas.List.{places as elements}
use Rattle.std.proofs.lemmas.List.FromFn.{fill_by_all}
use Rattle.std.proofs.lemmas.Nat.{row_fits}
use Rattle.values.specs.Laws.{Ops}
use Rattle.calls.specs.Boxes.{box_contains, in_box}
use Rattle.calls.specs.Stores.{at}
use Rattle.calls.specs.Systems.{System, voxels}
use Rattle.calls.specs.Calls.{trim}
use Rattle.calls.specs.declared.voxel_box.VoxelBox.{VoxelBox}
use Rattle.sweeps.proofs.Parts.{part, length_part, at_part}

module _ {V : Type 0} (o : Ops V) where
  -- the places below n hold what they are to hold, the others what they held
  abbrev pub DoneBelow : ℕ → (ℕ → V) → List V → List V → Type 0
  DoneBelow n wanted old new = (p : ℕ) → p < length old → at o new p ≡ (if nat_lt p n then wanted p else at o old p)

  -- one part more
  part_done : (start n : ℕ) (wanted : ℕ → V) (old mid ys : List V) → length mid ≡ length old → start + n ≤ length mid → length ys ≡ n → DoneBelow start wanted old mid
      → ((i : ℕ) → i < n → at o ys i ≡ wanted (start + i)) → DoneBelow (start + n) wanted old (put_mid start ((start + n) - start) mid ys)
  part_done start n wanted old mid ys len within size before here p l =
      let was = before p l in
      let now = λ (ge : start ≤ p) (lt : p < start + n).
      let c : start + (p - start) ≡ p = omega arith in
      rw c at (here (p - start) (omega arith)) in
      grind (arith, nat_tests, elements, now)

module _ {V : Type 0} (o : Ops V) (s : System) (b : VoxelBox) where
  -- what trim makes of place p
  abbrev pub trimmed : List V → ℕ → V
  trimmed old p = (if in_box s b p then at o old p else o.zero)

  -- voxel i of a line
  in_line : (line i : ℕ) → i < s.nx → in_box s b (line * s.nx + i) ≡ box_contains b i (line % s.ny) (line / s.ny)
  in_line line i l = rw (digits_mod line l, digits_div line l) refl

  -- one line more, of nx voxels, and ny of them to a height
  pub line_trimmed : (nx ny line lines : ℕ) (old mid ys : List V) → nx ≡ s.nx → ny ≡ s.ny → length mid ≡ length old → length mid ≡ lines * nx → line < lines → length ys ≡ length (part (line * nx) nx mid) → DoneBelow o (line * nx) (trimmed old) old mid
      → ((i : ℕ) → i < length (part (line * nx) nx mid) → at o ys i ≡ (if box_contains b i (line % ny) (line / ny) then at o (part (line * nx) nx mid) i else o.zero))
      → DoneBelow o ((line + 1) * nx) (trimmed old) old (put_mid (line * nx) ((line * nx + nx) - line * nx) mid ys)
  line_trimmed nx ny line lines old mid ys nx_is ny_is len whole below size before here =
      let start = line * nx in
      let next : (line + 1) * nx ≡ start + nx = omega (arith, add-mul line 1 nx, one-mul nx) in
      let within : start + nx ≤ length mid = omega (arith, row_fits line nx lines nx below (omega arith)) in
      let long = length_part start nx mid within in
      rw next
      (part_done o start nx (trimmed old) old mid ys len within (size ∙ long) before
      (λ i l.
      let p = start + i in
      let was : at o mid p ≡ at o old p = before p (omega arith) ∙ (let e : nat_lt p start ≡ false = grind (arith, nat_tests) in rw e refl) in
      let line_is : in_box s b (line * nx + i) ≡ box_contains b i (line % ny) (line / ny) = rw (nx_is, ny_is) (in_line line i (omega arith)) in
      rw (at_part start nx mid o.zero i l, sym line_is, was) at (here i (omega arith))))

  -- what is trimmed everywhere
  pub trim_is : (old new : List V) → length old ≡ voxels s → length new ≡ length old → ((p : ℕ) → p < length old → at o new p ≡ trimmed old p) → new ≡ trim o s b old
  unfolding trim
  trim_is old new sized len done = fill_by_all _ new (voxels s) o.zero (len ∙ sized) (λ p l. done p (omega arith))
