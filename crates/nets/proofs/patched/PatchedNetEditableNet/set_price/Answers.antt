use Rattle.std.proofs.Common.{get_or, sym, ap, ◌∙◌, arith}
use Rattle.std.proofs.lemmas.Bool.{cond-true}
use Rattle.nets.specs.Edits.{with_price}
use Rattle.nets.specs.Patches.{patch_line, patched}
use Rattle.nets.proofs.Edits.{price_accepted, price_refused}
use Rattle.nets.proofs.Changes.{blank_change, in_table, patched_rewritten, patch_price, only_none}
use Rattle.nets.proofs.patched.PatchedNetEditableNet.set_price.Goals as goal

pub returns-in_err-judge_price-clause-after : goal.returns-in_err-judge_price-clause-after
returns-in_err-judge_price-clause-after g c = let net = c.args.self.now in price_refused (patched net.table.changes (g.N.Net.meant net.net)) c.args.k c.args.fee c.args.loss _ c.in_err-judge_price.ensures

pub returns-in_err-judge_price-clause-only : goal.returns-in_err-judge_price-clause-only
returns-in_err-judge_price-clause-only g c = only_none c.args.k c.args.self.now

pub offset_bounds-self-k : goal.offset_bounds-self-k
offset_bounds-self-k g c = let net = c.args.self.now in let h = in_table net.table.changes (g.N.Net.meant net.net) c.args.k (g.N.Net.sound net.net) (price_accepted (patched net.table.changes (g.N.Net.meant net.net)) c.args.k c.args.fee c.args.loss _ c.in_ok-judge_price.ensures).0 in record { fits = omega (arith, h.0) }

pub bounds-self-k : goal.bounds-self-k
bounds-self-k g c = let net = c.args.self.now in (in_table net.table.changes (g.N.Net.meant net.net) c.args.k (g.N.Net.sound net.net) (price_accepted (patched net.table.changes (g.N.Net.meant net.net)) c.args.k c.args.fee c.args.loss _ c.in_ok-judge_price.ensures).0).0

pub returns-clause-after : goal.returns-clause-after
returns-clause-after g c =
    let net = c.args.self.now in
    let b = price_accepted (patched net.table.changes (g.N.Net.meant net.net)) c.args.k c.args.fee c.args.loss _ c.in_ok-judge_price.ensures in
    let h = in_table net.table.changes (g.N.Net.meant net.net) c.args.k (g.N.Net.sound net.net) b.0 in
    patched_rewritten net.table.changes (g.N.Net.meant net.net) c.args.k c.with_price.result (with_price c.args.fee c.args.loss) (omega (arith, h.0)) h.1
    (λ l. ap (λ d. patch_line d l) c.with_price.ensures ∙ patch_price (get_or net.table.changes c.args.k blank_change) c.args.fee c.args.loss b.1 l)
    ∙ sym (cond-true _ _ _ b.1)
