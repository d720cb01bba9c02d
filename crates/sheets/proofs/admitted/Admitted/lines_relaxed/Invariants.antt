use Rattle.std.proofs.Common.{◌≡◌, true}
use Rattle.sheets.specs.Given.{given_graph, given_sheet}
use Rattle.sheets.specs.Verdict.{all_below, relaxed}
use Rattle.sheets.proofs.admitted.Admitted.lines_relaxed.Given as goal

abbrev pub invariant-loop-k : goal.invariant-loop-k
invariant-loop-k g l = all_below (λ k. relaxed g.K.CostKind.ops (given_sheet l.self) ((given_graph l.self).line k)) l.k ≡ true
