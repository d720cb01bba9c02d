use Rattle.std.proofs.Common.{ap, ◌∙◌, arith}
use Rattle.nets.specs.Edits.{with_open}
use Rattle.nets.specs.Listed.{stations_of, listed}
use Rattle.nets.proofs.Edits.{open_accepted, open_refused}
use Rattle.nets.proofs.Records.{in_table, record_rewritten, opened_limits, only_none}
use Rattle.nets.proofs.list.ListNetEditableNet.set_open.Goals as goal

pub returns-in_err-judge_open-clause-after : goal.returns-in_err-judge_open-clause-after
returns-in_err-judge_open-clause-after c = let net = c.args.self.now in open_refused (listed net.count net.records.now) c.args.k _ c.args.open c.in_err-judge_open.ensures

pub returns-in_err-judge_open-clause-only : goal.returns-in_err-judge_open-clause-only
returns-in_err-judge_open-clause-only c = only_none c.args.k c.args.self.now

pub offset_bounds-self-k : goal.offset_bounds-self-k
offset_bounds-self-k c = let net = c.args.self.now in let h = in_table net.count net.records.now c.args.k (open_accepted (listed net.count net.records.now) c.args.k _ c.in_ok-judge_open.ensures) in record { fits = omega (arith, h.1) }

pub bounds-self-k : goal.bounds-self-k
bounds-self-k c = let net = c.args.self.now in (in_table net.count net.records.now c.args.k (open_accepted (listed net.count net.records.now) c.args.k _ c.in_ok-judge_open.ensures)).0

pub returns-clause-after : goal.returns-clause-after
returns-clause-after c =
    let net = c.args.self.now in
    let h = open_accepted (listed net.count net.records.now) c.args.k _ c.in_ok-judge_open.ensures in
    record_rewritten net.count net.records.now c.args.k c.with_open.result (with_open c.args.open) h
    (c.with_open.ensures ∙ ap (with_open c.args.open) (rw c.stations-stations.ensures at c.read.ensures)) (opened_limits (stations_of net.count) c.args.open)
