use Rattle.std.proofs.Common.{◌≡◌, ◌<◌, ◌≤◌, true, ℤ, pos, ◌-ℤ◌, neg_ℤ, nat_abs, sym, ap, ◌∙◌, arith, w64, to_z, of_z, rules}
use Rattle.std.proofs.lemmas.Int.{to_z-of_z}
use borrow.Author.Differences.{ints}
use Rattle.geometry.specs.Circle.{is_accepted}
use Rattle.geometry.specs.declared.direction.SlabAxis.TheVariants.{X, Y}
use Rattle.geometry.proofs.Circles.{Faces, faces_y, faces_x}
use Rattle.geometry.proofs.heading.Heading.direction.Goals as goal
use Rattle.geometry.proofs.heading.Heading.direction.Goals.{Then-unsigned_abs, Else-unsigned_abs}

along_y : (c : Then-unsigned_abs) → (is_accepted c.args.self ≡ true) × Faces c.args.self Y (to_z w64 (of_z w64 c.from-c.result)) (to_z w64 (of_z w64 c.from-s.result))
along_y c =
    let h = c.args.self in
    let main : to_z w64 (of_z w64 c.from-c.result) ≡ h.c = search (rules, to_z-of_z) in
    let side : to_z w64 (of_z w64 c.from-s.result) ≡ h.s = search (rules, to_z-of_z) in
    let accepted : is_accepted h ≡ true = sym c.is_accepted.ensures ∙ c.if-not-is_accepted.false in
    let less : nat_abs h.s ≤ nat_abs h.c = rw (← main, ← side) (omega arith) in
    (accepted, rw (main, side) (faces_y h accepted less))

along_x : (c : Else-unsigned_abs) → (is_accepted c.args.self ≡ true) × Faces c.args.self X (to_z w64 (of_z w64 c.from-s.result)) (to_z w64 (of_z w64 (pos 0 -ℤ to_z w64 (of_z w64 c.from-c.result))))
along_x c =
    let h = c.args.self in
    let main : to_z w64 (of_z w64 c.from-s.result) ≡ h.s = search (rules, to_z-of_z) in
    let cosine : ℤ = to_z w64 (of_z w64 c.from-c.result) in
    let same : cosine ≡ h.c = search (rules, to_z-of_z) in
    let negated : to_z w64 (of_z w64 (pos 0 -ℤ cosine)) ≡ neg_ℤ cosine = omega (arith, ints) in
    let side : to_z w64 (of_z w64 (pos 0 -ℤ cosine)) ≡ neg_ℤ h.c = negated ∙ ap neg_ℤ same in
    let accepted : is_accepted h ≡ true = sym c.is_accepted.ensures ∙ c.if-not-is_accepted.false in
    let less : nat_abs h.c < nat_abs h.s = rw (← main, ← same) (omega arith) in
    (accepted, rw (main, side) (faces_x h accepted less))

pub invariant_of-result : goal.invariant_of-result
invariant_of-result c = record { steep = (along_y (goal.at.invariant_of-result c).Then-unsigned_abs).1.steep }

pub invariant_of-result-else-unsigned_abs : goal.invariant_of-result-else-unsigned_abs
invariant_of-result-else-unsigned_abs c = record { steep = (along_x (goal.at.invariant_of-result-else-unsigned_abs c).Else-unsigned_abs).1.steep }

pub returns-then-unsigned_abs : goal.returns-then-unsigned_abs
returns-then-unsigned_abs c = let d = along_y (goal.at.returns-then-unsigned_abs c).Then-unsigned_abs in (d.0, record { slabs = d.1.slabs; main = d.1.main; side = d.1.side })

pub returns-else-unsigned_abs : goal.returns-else-unsigned_abs
returns-else-unsigned_abs c = let d = along_x (goal.at.returns-else-unsigned_abs c).Else-unsigned_abs in (d.0, record { slabs = d.1.slabs; main = d.1.main; side = d.1.side })
