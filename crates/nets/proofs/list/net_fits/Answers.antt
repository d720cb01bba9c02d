use Rattle.std.proofs.Common.{◌≡◌, rules, arith}
use Rattle.std.specs.List.{list_all}
use Rattle.std.proofs.lemmas.Iterator.{YieldsList-from_slice}
use Rattle.std.proofs.lemmas.Iterator.Search.{all_from_yields_List}
use Rattle.std.proofs.lemmas.Grind.{common_steps}
use borrow.Author.Tests.{tests}
use Rattle.nets.specs.Model.{line_fits}
use Rattle.nets.proofs.list.net_fits.Goals as goal

pub returns-then-records-le-MAX_LINES : goal.returns-then-records-le-MAX_LINES
returns-then-records-le-MAX_LINES c =
    let n = c.args.stations in
    let records = c.args.records.now in
    let all : c.all.result ≡ list_all (line_fits n) records = all_from_yields_List (line_fits n) _ _ c.all.result c.all.ensures.ran (YieldsList-from_slice records cc) (λ x b q k. search (rules, tests)) in
    grind (arith, common_steps, all)
