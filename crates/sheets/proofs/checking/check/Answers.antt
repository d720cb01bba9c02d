use Rattle.std.proofs.Common.{rules}
use Rattle.sheets.proofs.Checks.{tells}
use Rattle.sheets.proofs.checking.check.Goals as goal

pub returns-clause-tells : goal.returns-clause-tells
returns-clause-tells g c =
    let m = g.N.Net.meant c.args.net.now in
    tells g.K.CostKind g.met.K.CostKind.lawful m (g.N.Net.sound c.args.net.now) c.args.gateway c.args.rows.now _ (search rules)
