use Rattle.std.proofs.Common.{◌*◌, ◌/◌, ◌%◌, ◌<◌, Some, unwrap_or, sym, ap, ◌∙◌, arith}
use Rattle.nets.specs.Lattice.{directions, direction_of, line_at}
use Rattle.nets.specs.LatticeSound.{length-lattice, neighbour_below}
use Rattle.nets.proofs.SliceGet.{slice_get-counted}
use Rattle.nets.proofs.Lattices.{line_made}
use Rattle.nets.proofs.lattice.lines.LatticeNetNet.line.Goals as goal

pub beside-beside-requires : goal.beside-beside-requires
beside-beside-requires c =
    let n = c.args.self.now in
    let e = length-lattice n.rows n.columns n.fees n.loss in
    omega (arith, c.line_count.ensures)

pub overflow_cast-result : goal.overflow_cast-result
overflow_cast-result c =
    let n = c.args.self.now in
    let e = length-lattice n.rows n.columns n.fees n.loss in
    record { fits = omega (arith, c.line_count.ensures, n.limits.few) }

pub overflow_cast-result-2 : goal.overflow_cast-result-2
overflow_cast-result-2 c =
    let n = c.args.self.now in
    let s = c.args.k / directions in
    let e = length-lattice n.rows n.columns n.fees n.loss in
    let below = neighbour_below n.rows n.columns s c.from-d.result (omega (arith, c.line_count.ensures)) in
    let to = c.unwrap_or.ensures ∙ ap (λ o. unwrap_or o s) c.beside-beside.ensures in
    record { fits = omega (arith, n.limits.few) }

pub returns : goal.returns
returns c =
    let n = c.args.self.now in
    let s = c.args.k / directions in
    let e = length-lattice n.rows n.columns n.fees n.loss in
    let h : c.args.k < directions * (n.rows * n.columns) = omega (arith, c.line_count.ensures) in
    ap Some (line_made n.rows n.columns n.fees n.loss s (direction_of (c.args.k % directions)) c.from-d.result c.beside-beside.result c.unwrap_or.result c.fee.result c.is_some.result c.from-d.ensures c.beside-beside.ensures c.unwrap_or.ensures c.fee.ensures c.is_some.ensures)
    ∙ sym (slice_get-counted (line_at n.rows n.columns n.fees n.loss) (directions * (n.rows * n.columns)) c.args.k h)
