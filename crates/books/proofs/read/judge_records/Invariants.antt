use Rattle.books.proofs.RecordsRead.{Judges}
use Rattle.books.proofs.read.judge_records.Given as goal

abbrev pub invariant-loop-k : goal.invariant-loop-k
invariant-loop-k l = Judges l.head.lines l.head.stations l.k l.initial.reader l.reader
