use Rattle.std.proofs.Common.{sym, ap, ◌∙◌, arith}
use Rattle.std.proofs.lemmas.Bool.{cond-true}
use Rattle.nets.specs.Edits.{with_price}
use Rattle.nets.specs.Listed.{stations_of, listed}
use Rattle.nets.proofs.Edits.{price_accepted, price_refused}
use Rattle.nets.proofs.Records.{in_table, record_rewritten, priced_limits, only_none}
use Rattle.nets.proofs.list.ListNetEditableNet.set_price.Goals as goal

pub returns-in_err-judge_price-clause-after : goal.returns-in_err-judge_price-clause-after
returns-in_err-judge_price-clause-after c = let net = c.args.self.now in price_refused (listed net.count net.records.now) c.args.k c.args.fee c.args.loss _ c.in_err-judge_price.ensures

pub returns-in_err-judge_price-clause-only : goal.returns-in_err-judge_price-clause-only
returns-in_err-judge_price-clause-only c = only_none c.args.k c.args.self.now

pub offset_bounds-self-k : goal.offset_bounds-self-k
offset_bounds-self-k c = let net = c.args.self.now in let h = in_table net.count net.records.now c.args.k (price_accepted (listed net.count net.records.now) c.args.k c.args.fee c.args.loss _ c.in_ok-judge_price.ensures).0 in record { fits = omega (arith, h.1) }

pub bounds-self-k : goal.bounds-self-k
bounds-self-k c = let net = c.args.self.now in (in_table net.count net.records.now c.args.k (price_accepted (listed net.count net.records.now) c.args.k c.args.fee c.args.loss _ c.in_ok-judge_price.ensures).0).0

pub returns-clause-after : goal.returns-clause-after
returns-clause-after c =
    let net = c.args.self.now in
    let h = price_accepted (listed net.count net.records.now) c.args.k c.args.fee c.args.loss _ c.in_ok-judge_price.ensures in
    record_rewritten net.count net.records.now c.args.k c.with_price.result (with_price c.args.fee c.args.loss) h.0
    (c.with_price.ensures ∙ ap (with_price c.args.fee c.args.loss) (rw c.stations-stations.ensures at c.read.ensures)) (priced_limits (stations_of net.count) c.args.fee c.args.loss h.1)
    ∙ sym (cond-true _ _ _ h.1)
