use Rattle.std.proofs.Common.{drop, rules, arith}
use Rattle.std.proofs.lemmas.Iterator.Consumers.{YieldsList-from_first}
use Rattle.books.specs.Records.{line_bytes}
use Rattle.books.proofs.BookWritten.{lines_most}
use Rattle.books.proofs.Lengths.{lengths_fit, lengths_sum}
use Rattle.books.proofs.write.lines_length.Goals as goal

pub sum-requires-clause-fits : goal.sum-requires-clause-fits
sum-requires-clause-fits g c =
    let m = g.N.Net.meant c.args.net.now in
    lengths_fit _ line_bytes m.lines c.map.ensures.source (YieldsList-from_first _ (λ s. drop s.next (g.N.Net.meant s.net.now).lines) m.lines cc) (λ x r q k. search rules)
    _ (omega (arith, lines_most m (g.N.Net.sound c.args.net.now)))

pub returns : goal.returns
returns g c =
    let m = g.N.Net.meant c.args.net.now in
    lengths_sum _ line_bytes m.lines c.map.ensures.source (YieldsList-from_first _ (λ s. drop s.next (g.N.Net.meant s.net.now).lines) m.lines cc) (λ x r q k. search rules)
    c.sum.result c.sum.ensures.ran
