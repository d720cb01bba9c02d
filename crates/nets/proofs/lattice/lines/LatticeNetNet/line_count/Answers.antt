-- The check does not find this alone.
use Rattle.std.proofs.Common.{◌*◌, sym, ap, ◌∙◌}
use Rattle.nets.specs.Lattice.{directions}
use Rattle.nets.specs.LatticeSound.{length-lattice}
use Rattle.nets.proofs.lattice.lines.LatticeNetNet.line_count.Goals as goal

pub returns : goal.returns
returns c =
    let n = c.args.self.now in
    c.lines_from.ensures ∙ ap (λ stations. directions * stations) c.stations.ensures ∙ sym (length-lattice n.rows n.columns n.fees n.loss)
