-- The two passes over a book: it is judged to its end, and then the table is filled. Assumes nothing.
use Rattle.std.specs.Prelude.{◌≡◌, ℕ, ◌≤◌, List, length, Ok, Err, Result}
use Rattle.nets.specs.declared.line.Line.{Line}
use Rattle.books.specs.declared.fault.RecordFault.{RecordFault}
use Rattle.books.specs.declared.head.Head.{Head}
use Rattle.books.specs.Book.{reading}
use Rattle.books.specs.Records.{records_at}

-- The records passed over, and none kept.
abbrev pub passed : Result (List Line × ℕ) RecordFault → Result (Unit {0} × ℕ) RecordFault
passed (Ok x) = Ok (tt, x.1)
passed (Err e) = Err e

-- What the judging of a book tells where it is accepted: the net that it is read as, and where that net's records begin.
pub record Judged (room : ℕ) (book : List ℕ) (head : Head) (start : ℕ) : Type 0 where
  pub lines : List Line
  pub count : length lines ≡ head.lines
  pub net : reading room book ≡ Ok (record { stations = head.stations; lines = lines })
  pub end : ℕ
  pub records : records_at head.lines 0 head.stations book start ≡ Ok (lines, end)
  pub fits : head.lines ≤ room
