use Rattle.std.proofs.Common.{◌≡◌, List, [], ◌∷◌, ◌++◌, map, reverse, set, refl, sym, ap, ap₂, ◌∙◌}
use Rattle.std.proofs.lemmas.Grind.{reverse_onto}
use Rattle.std.proofs.lemmas.List.{map-append, append-nil, take_all, drop_all}
use Rattle.std.proofs.lemmas.List.Edits.{map_over_more}
use Rattle.calls.specs.Rows.{mirrored_call, mirrored}
use Rattle.calls.specs.declared.call.Call.{Call}
use Rattle.calls.proofs.mirror.mirror.Goals as goal

-- a row reversed and each call mirrored
mirrored_reverse : {V : Type 0} (row : List (Call V)) → map mirrored_call (reverse row) ≡ mirrored row
mirrored_reverse [] = refl
mirrored_reverse (call ∷ row) =
    ap (map mirrored_call) (reverse_onto row call [])
    ∙ map-append mirrored_call (reverse row) (call ∷ [])
    ∙ ap (λ u. u ++ (mirrored_call call ∷ [])) (mirrored_reverse row)

pub loop-call-preserved : goal.loop-call-preserved
loop-call-preserved g c =
    ap (set c.loop-call.row c.loop-call.call-index) (c.mirrored.ensures.value ∙ ap mirrored_call (sym c.call-item.is))
    ∙ map_over_more mirrored_call _ _ _ c.call-item.result c.loop-call-test.true c.loop-call.invariant c.call-item.is

pub returns : goal.returns
returns g c =
    let row = c.reverse.new.self in
    let end = c.loop-call-test.false in
    c.loop-call.invariant
    ∙ ap₂ (λ t d. map mirrored_call t ++ d) (take_all c.loop-call.call-index row end) (drop_all c.loop-call.call-index row end)
    ∙ append-nil (map mirrored_call row)
    ∙ ap (map mirrored_call) c.reverse.ensures.after
    ∙ mirrored_reverse c.args.row.now
