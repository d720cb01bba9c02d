use Rattle.std.proofs.Common.{sym, ◌∙◌, rules}
use Rattle.sheets.proofs.Tested.{all_none, all_more, all_fails}
use Rattle.sheets.proofs.admitted.Admitted.lines_relaxed.Goals as goal

pub loop-k-init : goal.loop-k-init
loop-k-init g c = all_none _

pub returns-then-not-line_relaxed : goal.returns-then-not-line_relaxed
returns-then-not-line_relaxed g c = sym (all_fails _ _ c.loop-k.k (search rules) (sym c.line_relaxed.ensures ∙ c.if-not-line_relaxed.true))

pub loop-k-preserved : goal.loop-k-preserved
loop-k-preserved g c = all_more _ c.loop-k.k c.loop-k.invariant (sym c.line_relaxed.ensures ∙ c.if-not-line_relaxed.false)
