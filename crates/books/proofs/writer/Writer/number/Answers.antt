use Rattle.std.proofs.Common.{rules}
use Rattle.books.proofs.NumberWritten.{encoding_last, encoding_more}
use Rattle.books.proofs.Writing.{writing_steps}
use Rattle.books.proofs.writer.Writer.number.Goals as goal

pub byte-requires : goal.byte-requires
byte-requires c = search (rules, writing_steps, encoding_more)

pub loop-left-preserved : goal.loop-left-preserved
loop-left-preserved c = search (rules, writing_steps, encoding_more)

pub byte-requires-2 : goal.byte-requires-2
byte-requires-2 c = search (rules, writing_steps, encoding_last)

pub returns : goal.returns
returns c = search (rules, writing_steps, encoding_last)
