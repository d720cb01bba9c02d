use Rattle.std.proofs.Common.{drop}
use Rattle.std.specs.List.{flat_map}
use Rattle.books.specs.Records.{line_bytes}
use Rattle.books.proofs.Writing.{Left}
use Rattle.books.proofs.writer.Writer.lines.Given as goal

abbrev pub invariant-loop-line : goal.invariant-loop-line
invariant-loop-line g l =
    Left (flat_map line_bytes (g.N.Net.meant l.net).lines) (flat_map line_bytes (drop l.line-iterator.next (g.N.Net.meant l.line-iterator.net.now).lines))
    l.initial.self l.self
