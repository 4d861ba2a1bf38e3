use Rattle.std.proofs.Common.{◌≡◌, ◌*◌, nat_abs, ◌∙◌, rules}
use Rattle.std.proofs.lemmas.Int.{to_z-of_z}
use Rattle.geometry.specs.Circle.{off_circle}
use Rattle.geometry.proofs.Circles.{square, gap_is}
use Rattle.geometry.proofs.heading.Heading.off_circle.Goals as goal

pub returns : goal.returns
unfolding off_circle
returns c =
    let h = c.args.self in
    let size_c : c.from-c.result ≡ nat_abs h.c = search (rules, to_z-of_z) in
    let size_s : c.from-s.result ≡ nat_abs h.s = search (rules, to_z-of_z) in
    c.abs_diff.ensures ∙ rw (size_c, size_s, square h.c, square h.s) (gap_is (nat_abs h.c * nat_abs h.c) (nat_abs h.s * nat_abs h.s) 268435456)
