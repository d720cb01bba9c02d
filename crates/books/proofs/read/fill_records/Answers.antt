use Rattle.std.proofs.Common.{arith, ◌<◌, length-take}
use Rattle.nets.specs.declared.line.Line.{Line}
use Rattle.books.proofs.RecordsRead.{fills_more}
use Rattle.books.proofs.read.fill_records.Goals as goal

pub loop-k-preserved : goal.loop-k-preserved
loop-k-preserved c =
    let h : c.loop-k.k < c.args.head.lines = omega (arith, length-take {A = Line}) in
    fills_more _ _ _ _ c.loop-k.reader _ _ _ c.loop-k.invariant h (omega arith) c.in_ok-record.ensures
