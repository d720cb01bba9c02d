use Rattle.std.proofs.Common.{rules}
use Rattle.books.specs.Records.{line_bytes}
use Rattle.books.proofs.Writing.{item_room, item_more, items_all, left_none}
use Rattle.books.proofs.writer.Writer.lines.Goals as goal

pub loop-line-init : goal.loop-line-init
loop-line-init g c = search (rules, left_none)

pub line-requires : goal.line-requires
line-requires g c = item_room line_bytes _ _ _ _ c.loop-line.invariant _ _ c.in-Some.ensures.steps

pub loop-line-preserved : goal.loop-line-preserved
loop-line-preserved g c = item_more line_bytes _ _ _ _ c.loop-line.invariant _ _ _ c.in-Some.ensures.steps c.line.ensures

pub returns : goal.returns
returns g c = items_all line_bytes _ _ _ _ c.loop-line.invariant c.in-None.ensures.steps.0
