use Rattle.std.proofs.Common.{◌<◌, Some, sym, ap, ◌∙◌, rules, arith}
use Rattle.std.proofs.lemmas.Option.{slice_get_within}
use Rattle.nets.specs.Model.{max_lines}
use Rattle.nets.proofs.Changes.{slice_get-patched_none, slice_get-patched}
use Rattle.nets.proofs.patched.PatchedNetNet.line.Goals as goal

pub returns-in_err-line : goal.returns-in_err-line
returns-in_err-line g c = rw (slice_get-patched_none c.args.self.now.table.changes _ c.args.k (sym c.in_err-line.ensures)) (search rules)

pub offset_bounds-self-k : goal.offset_bounds-self-k
offset_bounds-self-k g c = record { fits = omega (arith, (g.N.Net.sound c.args.self.now.net).short, slice_get_within _ c.args.k c.in_ok-line.line (sym c.in_ok-line.ensures)) }

pub bounds-self-k : goal.bounds-self-k
bounds-self-k g c = omega (arith, (g.N.Net.sound c.args.self.now.net).short, slice_get_within _ c.args.k c.in_ok-line.line (sym c.in_ok-line.ensures))

pub returns : goal.returns
returns g c =
    let lines = (g.N.Net.meant c.args.self.now.net).lines in
    let e = sym c.in_ok-line.ensures in
    let i : c.args.k < max_lines = omega (arith, (g.N.Net.sound c.args.self.now.net).short, slice_get_within lines c.args.k c.in_ok-line.line e) in
    ap Some c.apply.ensures ∙ sym (slice_get-patched c.args.self.now.table.changes lines c.args.k c.in_ok-line.line (search (rules, i)) e)
