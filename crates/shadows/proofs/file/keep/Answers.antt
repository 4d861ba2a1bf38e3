use Rattle.std.specs.Prelude.{◌≡◌, ◌<◌, ◌++◌, ◌∷◌, [], length, map, pos}
use Rattle.std.proofs.Common.{sym, ap, ap₂, ◌∙◌, arith, rules}
use Rattle.std.proofs.lemmas.List.{length-map, length-take, map-append, take_all, take_more}
use Rattle.scan.specs.AxisChecks.{edge_or_zero}
use Rattle.values.specs.Counts.{bits_of, count_of}
use Rattle.values.specs.CountLaws.{same}
use Rattle.planfile.specs.Numbers.{numbers_in}
use Rattle.shadows.proofs.file.keep.Goals as goal

pub push-requires : goal.push-requires
push-requires c =
    let zs = numbers_in c.args.values.now.bytes.now in
    let size = ap length c.loop-i.invariant ∙ length-map _ _ ∙ length-take c.loop-i.i zs in
    omega (arith, c.requires)

pub loop-i-preserved : goal.loop-i-preserved
loop-i-preserved c =
    let zs = numbers_in c.args.values.now.bytes.now in
    let i = c.loop-i.i in
    let here : i < length zs = omega arith in
    let bits : c.from-in-loop-i.result.bits ≡ bits_of (edge_or_zero zs i) = search rules in
    let value : c.from-in-loop-i.result ≡ count_of (edge_or_zero zs i) = same (omega (arith, bits, c.from-in-loop-i.result.fits)) in
    let more = ap (map count_of) (take_more zs i (pos 0) here) ∙ map-append count_of _ _ in
    c.push.ensures.items ∙ ap₂ (λ xs x. xs ++ x ∷ []) c.loop-i.invariant value ∙ sym more

pub returns : goal.returns
returns c =
    let zs = numbers_in c.args.values.now.bytes.now in
    c.loop-i.invariant ∙ ap (map count_of) (take_all c.loop-i.i zs (omega arith))
