use Rattle.std.proofs.Common.{◌≡◌, ◌<◌, ◌≤◌, min, length, get_or, Some, sym, ap, ◌∙◌, rules, arith, length-take}
use Rattle.std.proofs.lemmas.List.{get_or-take}
use Rattle.nets.specs.Model.{max_lines}
use Rattle.nets.specs.Listed.{blank_line, stations_of, seen}
use Rattle.nets.specs.ListedSound.{length-listed}
use Rattle.nets.proofs.Records.{slice_get-listed, slice_get-listed_past}
use Rattle.nets.proofs.list.ListNetNet.line.Goals as goal

pub slice_bounds-get-end-2 : goal.slice_bounds-get-end-2
slice_bounds-get-end-2 c =
    let records = c.args.self.now.records.now in
    omega (arith, length-listed c.args.self.now.count records, length-take c.line_count.result records, c.line_count.ensures)

pub returns-in_err-record : goal.returns-in_err-record
returns-in_err-record c =
    let n = c.args.self.now.count in
    let records = c.args.self.now.records.now in
    let past : min (length records) max_lines ≤ c.args.k = omega (arith, length-listed n records, length-take c.line_count.result records, c.line_count.ensures, c.in_err-record.ensures.lookup.3) in
    rw (slice_get-listed_past n records c.args.k past) (search rules)

pub returns : goal.returns
returns c =
    let n = c.args.self.now.count in
    let records = c.args.self.now.records.now in
    let l = c.in_ok-record.ensures.lookup.3 in
    let h : c.args.k < min (length records) max_lines = omega (arith, length-listed n records, length-take c.line_count.result records, c.line_count.ensures, l.0) in
    let is : c.in_ok-record.record.now ≡ get_or records c.args.k blank_line = l.1 blank_line ∙ get_or-take c.line_count.result records c.args.k blank_line (omega (arith, length-listed n records, c.line_count.ensures)) in
    ap Some (c.read.ensures ∙ ap (λ s. seen s c.in_ok-record.record.now) c.stations.ensures ∙ ap (seen (stations_of n)) is) ∙ sym (slice_get-listed n records c.args.k blank_line h)
