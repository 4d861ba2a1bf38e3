use Rattle.std.specs.Prelude.{◌<◌, ◌++◌, ◌∷◌, [], length, pos}
use Rattle.std.proofs.Common.{sym, ap, ap₂, ◌∙◌, arith, rules, w32, SFits}
use Rattle.std.proofs.lemmas.List.{take_all, take_more, length-take}
use Rattle.std.proofs.lemmas.Int.{to_z-of_z}
use Rattle.scan.specs.Numbered.{edge_at}
use Rattle.scan.proofs.listed.edges_of.Goals as goal

pub push-requires : goal.push-requires
push-requires g c =
    let es = g.A.Axis.edges c.args.axis.now in
    let proper = g.met.A.Axis.proper c.args.axis.now in
    let size = ap length c.loop-i.invariant ∙ length-take c.loop-i.i es in
    omega (arith, proper.least, proper.most)

pub loop-i-preserved : goal.loop-i-preserved
loop-i-preserved g c =
    let es = g.A.Axis.edges c.args.axis.now in
    let proper = g.met.A.Axis.proper c.args.axis.now in
    let here : c.loop-i.i < length es = omega (arith, proper.least) in
    let edge = c.edge.ensures ∙ edge_at es c.loop-i.i here in
    let fits : SFits w32 c.edge.result = search rules in
    let pushed = simp to_z-of_z at c.push.ensures.items in
    pushed ∙ ap₂ (λ xs e. xs ++ e ∷ []) c.loop-i.invariant edge ∙ sym (take_more es c.loop-i.i (pos 0) here)

pub returns : goal.returns
returns g c =
    let es = g.A.Axis.edges c.args.axis.now in
    let proper = g.met.A.Axis.proper c.args.axis.now in
    c.loop-i.invariant ∙ take_all c.loop-i.i es (omega (arith, proper.least))
