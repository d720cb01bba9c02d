use Rattle.books.proofs.RecordsRead.{Fills}
use Rattle.books.proofs.read.fill_records.Given as goal

abbrev pub invariant-loop-k : goal.invariant-loop-k
invariant-loop-k l = Fills l.head.lines l.head.stations l.k l.initial.reader l.reader l.record-items
