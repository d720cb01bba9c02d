use Rattle.std.proofs.Common.{drop}
use Rattle.std.specs.List.{flat_map}
use Rattle.books.specs.Number.{encoding}
use Rattle.books.proofs.Writing.{Left}
use Rattle.books.proofs.writer.Writer.numbers.Given as goal

abbrev pub invariant-loop-n : goal.invariant-loop-n
invariant-loop-n l = Left (flat_map encoding l.numbers) (flat_map encoding (drop l.n-index l.numbers)) l.initial.self l.self
