use Rattle.std.proofs.Common.{rules, arith}
use Rattle.std.proofs.lemmas.List.{drop_more}
use Rattle.books.specs.Number.{encoding}
use Rattle.books.proofs.Writing.{item_steps, item_room}
use Rattle.books.proofs.writer.Writer.numbers.Goals as goal

pub number-requires : goal.number-requires
number-requires c = item_room encoding _ _ _ _ c.loop-n.invariant _ _ (drop_more c.args.numbers.now c.loop-n.n-index 0 (omega arith))

pub loop-n-preserved : goal.loop-n-preserved
loop-n-preserved c = search (rules, item_steps)

pub returns : goal.returns
returns c = search (rules, item_steps)
