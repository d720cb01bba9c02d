use Rattle.std.proofs.Common.{ap, arith}
use Rattle.nets.specs.Edits.{with_open}
use Rattle.nets.specs.Patches.{patch_line, patched}
use Rattle.nets.proofs.Edits.{open_accepted, open_refused}
use Rattle.nets.proofs.Changes.{in_table, patched_rewritten, only_none}
use Rattle.nets.proofs.patched.PatchedNetEditableNet.set_open.Goals as goal

pub returns-in_err-judge_open-clause-after : goal.returns-in_err-judge_open-clause-after
returns-in_err-judge_open-clause-after g c = let net = c.args.self.now in open_refused (patched net.table.changes (g.N.Net.meant net.net)) c.args.k _ c.args.open c.in_err-judge_open.ensures

pub returns-in_err-judge_open-clause-only : goal.returns-in_err-judge_open-clause-only
returns-in_err-judge_open-clause-only g c = only_none c.args.k c.args.self.now

pub offset_bounds-self-k : goal.offset_bounds-self-k
offset_bounds-self-k g c = let net = c.args.self.now in let h = in_table net.table.changes (g.N.Net.meant net.net) c.args.k (g.N.Net.sound net.net) (open_accepted (patched net.table.changes (g.N.Net.meant net.net)) c.args.k _ c.in_ok-judge_open.ensures) in record { fits = omega (arith, h.0) }

pub bounds-self-k : goal.bounds-self-k
bounds-self-k g c = let net = c.args.self.now in (in_table net.table.changes (g.N.Net.meant net.net) c.args.k (g.N.Net.sound net.net) (open_accepted (patched net.table.changes (g.N.Net.meant net.net)) c.args.k _ c.in_ok-judge_open.ensures)).0

pub returns-clause-after : goal.returns-clause-after
returns-clause-after g c =
    let net = c.args.self.now in
    let h = in_table net.table.changes (g.N.Net.meant net.net) c.args.k (g.N.Net.sound net.net) (open_accepted (patched net.table.changes (g.N.Net.meant net.net)) c.args.k _ c.in_ok-judge_open.ensures) in
    patched_rewritten net.table.changes (g.N.Net.meant net.net) c.args.k c.with_open.result (with_open c.args.open) (omega (arith, h.0)) h.1
    (λ l. ap (λ d. patch_line d l) c.with_open.ensures)
