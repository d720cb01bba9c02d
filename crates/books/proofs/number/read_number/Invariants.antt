use Rattle.books.proofs.NumberRead.{Front}
use Rattle.books.proofs.number.read_number.Given as goal

abbrev pub invariant-loop-k : goal.invariant-loop-k
invariant-loop-k l = Front l.bytes l.k l.low l.scale
