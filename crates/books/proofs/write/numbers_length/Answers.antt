use Rattle.std.proofs.Common.{rules, arith}
use Rattle.std.proofs.lemmas.Iterator.{YieldsList-from_slice}
use Rattle.books.specs.Number.{encoding}
use Rattle.books.proofs.BookWritten.{length_most}
use Rattle.books.proofs.Lengths.{lengths_fit, lengths_sum}
use Rattle.books.proofs.NumberWritten.{encoding_most}
use Rattle.books.proofs.write.numbers_length.Goals as goal

pub sum-requires-clause-fits : goal.sum-requires-clause-fits
sum-requires-clause-fits c =
    let xs = c.args.numbers.now in
    lengths_fit _ encoding xs c.map.ensures.source (YieldsList-from_slice xs cc) (λ x r q k. search rules)
    _ (omega (arith, length_most encoding 5 encoding_most xs))

pub returns : goal.returns
returns c =
    let xs = c.args.numbers.now in
    lengths_sum _ encoding xs c.map.ensures.source (YieldsList-from_slice xs cc) (λ x r q k. search rules)
    c.sum.result c.sum.ensures.ran
