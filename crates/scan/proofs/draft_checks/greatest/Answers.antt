use Rattle.std.specs.Prelude.{ℕ, ◌+◌, max, length, unsigned_abs}
use Rattle.std.specs.List.{range_with_len}
use Rattle.std.specs.Option.{unwrap_or}
use Rattle.std.proofs.Common.{sym, ap, ◌∙◌, arith, rules}
use Rattle.std.proofs.lemmas.Iterator.{YieldsList-from_map, YieldsList-from_range}
use Rattle.std.proofs.lemmas.Iterator.Consumers.{reduce_from_yields_List}
use Rattle.std.proofs.lemmas.List.Folds.{fold-map, max_of_map}
use Rattle.scan.specs.Axes.{edge_of, greatest}
use Rattle.scan.specs.Numbered.{by_number}
use Rattle.scan.proofs.draft_checks.greatest.Goals as goal

pub returns : goal.returns
returns g c =
    let es = g.A.Axis.edges c.args.axis.now in
    let proper = g.met.A.Axis.proper c.args.axis.now in
    let size : ℕ → ℕ = λ i. unsigned_abs (edge_of es i) in
    c.unwrap_or.ensures ∙ ap (λ o. unwrap_or o 0) (reduce_from_yields_List _ c.map.result _ c.max.ensures.ran (YieldsList-from_map _ size (YieldsList-from_range 0 (c.cells.result + 1) (length es) (cc) (omega arith)) c.map.ensures.closure (λ x r q k. search rules))) ∙ max_of_map size (range_with_len 0 (length es))
    ∙ sym (fold-map (λ most e. max most (unsigned_abs e)) (edge_of es) 0 (range_with_len 0 (length es))) ∙ ap greatest (sym (by_number es))
