use Rattle.std.proofs.Common.{rules}
use Rattle.books.proofs.BookWritten.{head_first, left_lines}
use Rattle.books.proofs.Writing.{writing_steps}
use Rattle.books.proofs.writer.Writer.book.Goals as goal

pub numbers-requires : goal.numbers-requires
numbers-requires g c = search (rules, writing_steps, head_first)

pub lines-requires : goal.lines-requires
lines-requires g c = search (rules, writing_steps, left_lines)

pub returns : goal.returns
returns g c = search (rules, writing_steps, left_lines)
