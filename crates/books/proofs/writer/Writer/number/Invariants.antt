use Rattle.books.specs.Number.{encoding}
use Rattle.books.proofs.Writing.{Left}
use Rattle.books.proofs.writer.Writer.number.Given as goal

abbrev pub invariant-loop-left : goal.invariant-loop-left
invariant-loop-left l = Left (encoding l.n) (encoding l.left) l.initial.self l.self

abbrev pub decreases-loop-left : goal.decreases-loop-left
decreases-loop-left l = l.left
