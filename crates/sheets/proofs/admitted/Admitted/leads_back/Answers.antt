use Rattle.std.proofs.Common.{◌==◌, Some, length, refl, rules, tests, ◌∙◌}
use Rattle.std.proofs.lemmas.Iterator.Search.{any_from_yields_List}
use Rattle.sheets.specs.Given.{given_graph, given_sheet}
use Rattle.sheets.proofs.Successors.{YieldsList-from_successors}
use Rattle.sheets.proofs.WalksBack.{any_met, before_met}
use Rattle.sheets.proofs.admitted.Admitted.leads_back.Goals as goal

pub returns : goal.returns
returns g c =
    let a = c.args.self.now in
    let G = given_graph a in
    let s = given_sheet a in
    any_from_yields_List (λ u. u == a.gateway) c.any.new.self _ c.any.result c.any.ensures.ran
    (YieldsList-from_successors (before_met G s a.gateway) _ _ c.take.result (length a.rows.now) (Some c.args.v) (search rules) (search rules) refl (λ x r q k. search (rules, tests)))
    (λ x b q k. search (rules, tests))
    ∙ any_met G s a.gateway (length a.rows.now) (Some c.args.v)
