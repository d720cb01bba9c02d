-- The line book: what a run of bytes is read as, and the book of a net. Assumes nothing.
use Rattle.std.specs.Prelude.{ℕ, cond, ◌&&◌, List, [], ◌∷◌, ◌++◌, length, drop, Ok, Err, Result, ◌==◌, nat_le, nat_lt}
use Rattle.std.specs.List.{flat_map}
use Rattle.nets.specs.declared.line.Line.{Line}
use Rattle.nets.specs.declared.refusal.Refusal.{Refusal}
use Rattle.nets.specs.declared.refusal.Refusal.TheVariants.{OutputShort}
use Rattle.nets.specs.Model.{Model, max_stations, max_lines}
use Rattle.books.specs.declared.fault.BookFault.{BookFault}
use Rattle.books.specs.declared.fault.BookFault.TheVariants.{HeadNumber, Edition, HeadLimit, TableShort, Record, BytesLeft}
use Rattle.books.specs.declared.head.Head.{Head}
use Rattle.books.specs.Number.{encoding}
use Rattle.books.specs.Reading.{and_then, inside, field_at}
use Rattle.books.specs.Records.{records_at, line_numbers}

-- The edition is 1.
abbrev pub edition_at : List ℕ → ℕ → Result (ℕ × ℕ) BookFault
edition_at = field_at HeadNumber (λ n. n == 1) Edition

-- The stations are within the limits of a net.
abbrev pub stations_at : List ℕ → ℕ → Result (ℕ × ℕ) BookFault
stations_at = field_at HeadNumber (λ n. nat_lt 0 n && nat_le n max_stations) HeadLimit

-- A count of lines is judged by the limits of a net, and then by the room of the table.
abbrev pub lines_at : (room : ℕ) → List ℕ → ℕ → Result (ℕ × ℕ) BookFault
lines_at room book p =
    and_then (field_at HeadNumber (λ n. nat_le n max_lines) HeadLimit book p) (λ lines.
    cond (nat_le lines.0 room) (Ok lines) (Err (TableShort p)))

-- The head: edition, stations, lines.
unfoldable pub head_at : (room : ℕ) → List ℕ → ℕ → Result (Head × ℕ) BookFault
head_at room book p =
    and_then (edition_at book p) (λ edition.
    and_then (stations_at book edition.1) (λ stations.
    and_then (lines_at room book stations.1) (λ lines.
    Ok (record { stations = stations.0; lines = lines.0 }, lines.1))))

-- Nothing may be left behind place p.
abbrev pub end_at : List ℕ → ℕ → Result (Unit {0}) BookFault
end_at book p = cond (nat_lt p (length book)) (Err (BytesLeft p)) (Ok tt)

-- The net of the records that were read, where nothing is left behind them.
abbrev pub closed_at : List ℕ → (stations : ℕ) → List Line × ℕ → Result Model BookFault
closed_at book stations records = and_then (end_at book records.1) (λ _. Ok (record { stations = stations; lines = records.0 }))

-- What follows the head: a record for each line, then nothing.
abbrev pub body_at : List ℕ → Head × ℕ → Result Model BookFault
body_at book head =
    and_then (inside Record (records_at head.0.lines 0 head.0.stations book head.1)) (closed_at book head.0.stations)

-- The net that a run of bytes is read as, into a table with room for so many records.
unfoldable pub reading : (room : ℕ) → List ℕ → Result Model BookFault
reading room book = and_then (head_at room book 0) (body_at book)

-- What a reader of books answers: the counts of the net that was read.
abbrev pub head_of : Result Model BookFault → Result Head BookFault
head_of (Ok m) = Ok (record { stations = m.stations; lines = length m.lines })
head_of (Err e) = Err e

-- The table after a reading: the first records are the net's lines, and the others stay; after a fault all stay.
abbrev pub table_after : Result Model BookFault → List Line → List Line
table_after (Ok m) table = m.lines ++ drop (length m.lines) table
table_after (Err e) table = table

-- The numbers of the head of a net's book: the edition, the stations, the lines.
abbrev pub head_numbers : Model → List ℕ
head_numbers m = 1 ∷ m.stations ∷ length m.lines ∷ []

-- The numbers of the head, then those of each line.
abbrev pub book_numbers : Model → List ℕ
book_numbers m = head_numbers m ++ flat_map line_numbers m.lines

-- The book of a net.
unfoldable pub book_of : Model → List ℕ
book_of m = flat_map encoding (book_numbers m)

-- What the writing of a book answers: its length, or a refusal where the output is shorter.
abbrev pub length_answer : (book out : List ℕ) → Result ℕ Refusal
length_answer book out = cond (nat_le (length book) (length out)) (Ok (length book)) (Err OutputShort)

-- The output after it: the book, and the bytes beyond it as they were; after a refusal all stay.
abbrev pub output_after : (book out : List ℕ) → List ℕ
output_after book out = cond (nat_le (length book) (length out)) (book ++ drop (length book) out) out
