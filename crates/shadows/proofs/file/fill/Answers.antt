use Rattle.std.specs.Prelude.{length, ◌++◌, ◌∷◌, []}
use Rattle.std.proofs.Common.{ap, ◌∙◌, arith}
use Rattle.calls.proofs.Built.{length_built}
use Rattle.shadows.proofs.Filled.{built_more}
use Rattle.shadows.proofs.file.fill.Goals as goal

pub push-requires : goal.push-requires
push-requires g c =
    let size = ap length c.loop.invariant ∙ length_built c.loop.counter _ in
    omega (arith, c.requires)

pub loop-preserved : goal.loop-preserved
loop-preserved g c = c.push.ensures.items ∙ ap (λ xs. xs ++ c.args.value ∷ []) c.loop.invariant ∙ built_more c.args.value c.loop.counter
