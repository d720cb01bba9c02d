-- A line's record in a book: its five numbers, in the order in which they are read and judged. Assumes nothing.
use Rattle.std.specs.Prelude.{ℕ, zero, suc, ◌+◌, Bool, cond, List, [], ◌∷◌, Ok, Result, ◌==◌, nat_le, nat_lt}
use Rattle.std.specs.List.{flat_map}
use Rattle.nets.specs.declared.line.Line.{Line}
use Rattle.nets.specs.Model.{max_fee, max_loss}
use Rattle.books.specs.declared.fault.RecordError.{RecordError}
use Rattle.books.specs.declared.fault.RecordError.TheVariants.{Number, Station, Limit}
use Rattle.books.specs.declared.fault.RecordFault.{RecordFault}
use Rattle.books.specs.Number.{encoding}
use Rattle.books.specs.Reading.{and_then, inside, field_at}

-- A station is a number below the count of stations.
abbrev pub station_at : (stations : ℕ) → List ℕ → ℕ → Result (ℕ × ℕ) RecordError
station_at stations = field_at Number (λ n. nat_lt n stations) Station

-- Any other field is a number that is at most its limit.
abbrev pub limited_at : (most : ℕ) → List ℕ → ℕ → Result (ℕ × ℕ) RecordError
limited_at most = field_at Number (λ n. nat_le n most) Limit

-- The two stations of a record: from, to.
abbrev pub ends_at : (stations : ℕ) → List ℕ → ℕ → Result ((ℕ × ℕ) × ℕ) RecordError
ends_at stations book p =
    and_then (station_at stations book p) (λ from.
    and_then (station_at stations book from.1) (λ to.
    Ok ((from.0, to.0), to.1)))

-- Whether the line is open: 1 for open or 0 for shut.
abbrev pub open_at : List ℕ → ℕ → Result (Bool × ℕ) RecordError
open_at book p = and_then (limited_at 1 book p) (λ n. Ok (n.0 == 1, n.1))

-- The record at place p: from, to, fee, loss, and 1 for open or 0 for shut.
unfoldable pub fields_at : (stations : ℕ) → List ℕ → ℕ → Result (Line × ℕ) RecordError
fields_at stations book p =
    and_then (ends_at stations book p) (λ ends.
    and_then (limited_at max_fee book ends.1) (λ fee.
    and_then (limited_at max_loss book fee.1) (λ loss.
    and_then (open_at book loss.1) (λ standing.
    Ok (record { from = ends.0.0; to = ends.0.1; fee = fee.0; loss = loss.0; «open» = standing.0 }, standing.1)))))

-- A record's fault, with the line being read.
abbrev pub in_line : ℕ → RecordError → RecordFault
in_line line e = record { line = line; error = e }

-- The same, where a fault tells the line being read.
unfoldable pub record_at : (line stations : ℕ) → List ℕ → ℕ → Result (Line × ℕ) RecordFault
record_at line stations book p = inside (in_line line) (fields_at stations book p)

-- So many records one behind another, of which the first is that of line k.
abbrev pub records_at : (left k stations : ℕ) → List ℕ → ℕ → Result (List Line × ℕ) RecordFault
records_at zero k stations book p = Ok ([], p)
records_at (suc left) k stations book p =
    and_then (record_at k stations book p) (λ first.
    and_then (records_at left (k + 1) stations book first.1) (λ rest.
    Ok (first.0 ∷ rest.0, rest.1)))

-- The five numbers of a line.
abbrev pub line_numbers : Line → List ℕ
line_numbers l = l.from ∷ l.to ∷ l.fee ∷ l.loss ∷ cond l.«open» 1 0 ∷ []

-- The bytes of a line's record.
unfoldable pub line_bytes : Line → List ℕ
line_bytes l = flat_map encoding (line_numbers l)
