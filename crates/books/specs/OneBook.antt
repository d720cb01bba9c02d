-- That every net has just one book: the statements. Assumes nothing.
use Rattle.std.specs.Prelude.{◌≡◌, ℕ, ◌<◌, ◌≤◌, List, length, take, Ok}
use Rattle.std.specs.List.{AllByRecursion}
use Rattle.nets.specs.declared.line.Line.{Line}
use Rattle.nets.specs.Listed.{listed}
use Rattle.nets.specs.Model.{Model}
use Rattle.books.specs.declared.head.Head.{Head}
use Rattle.books.specs.Book.{reading, book_of}

-- A run of bytes.
abbrev pub Bytes : List ℕ → Type 0
Bytes = AllByRecursion (λ b. b < 256)

-- A run of bytes reads as a net, into every table that has room for its lines.
abbrev pub ReadsAs : List ℕ → Model → Type 0
ReadsAs bytes m = (room : ℕ) → length m.lines ≤ room → reading room bytes ≡ Ok m

-- A net has a book, which reads back as that net, and no other run of bytes reads as it, into any table.
pub record OneBook (m : Model) : Type 0 where
  pub bytes : Bytes (book_of m)
  pub back : ReadsAs (book_of m) m
  pub only : (bytes : List ℕ) (room : ℕ) → Bytes bytes → reading room bytes ≡ Ok m → bytes ≡ book_of m

-- What a reader of books has after a book was accepted: the list net over the records that were filled is the net that was read,
-- and the book of that net is those same bytes.
pub record Accepted (room : ℕ) (book : List ℕ) (head : Head) (table : List Line) : Type 0 where
  pub net : reading room book ≡ Ok (listed head.stations (take head.lines table))
  pub again : book_of (listed head.stations (take head.lines table)) ≡ book
