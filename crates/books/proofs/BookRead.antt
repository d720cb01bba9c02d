-- The steps of reading a book: where each ends, and what they give together. Assumes nothing.
use Rattle.std.proofs.Common.{◌≡◌, ℕ, zero, suc, ◌+◌, ◌≤◌, leb, List, length, Ok, Err, Result, sym, ap, ◌∙◌, arith}
use Rattle.std.proofs.lemmas.Bool.{leb-true}
use Rattle.nets.specs.declared.line.Line.{Line}
use Rattle.nets.specs.Model.{max_lines}
use Rattle.books.specs.declared.head.Head.{Head}
use Rattle.books.specs.declared.reader.Reader.{Reader}
use Rattle.books.specs.declared.fault.BookFault.TheVariants.{HeadNumber, HeadLimit, TableShort}
use Rattle.books.specs.declared.fault.RecordFault.{RecordFault}
use Rattle.books.specs.Book.{edition_at, stations_at, lines_at, head_at, end_at, reading}
use Rattle.books.specs.Cursor.{Reads, value_of, cursor_after}
use Rattle.books.specs.Faults.{place_of, fault_place}
use Rattle.books.specs.Reading.{field_at}
use Rattle.books.specs.Judging.{Judged, passed}
use Rattle.books.specs.Records.{record_at, records_at}
use Rattle.books.proofs.Readings.{ok_same, ok_is, then_ok, guard_ok}

-- as many records are read as there should be
pub count_read : (left k stations : ℕ) (book : List ℕ) (p : ℕ) (ls : List Line) (q : ℕ) → records_at left k stations book p ≡ Ok (ls, q) → length ls ≡ left
count_read zero k stations book p ls q e = ap (λ x. length x.0) (sym (ok_same e))
count_read (suc left) k stations book p ls q e =
    then_ok (record_at k stations book p) _ (ls, q) e (λ first _ f.
    then_ok (records_at left (k + 1) stations book first.1) _ (ls, q) f (λ rest g h.
    ap (λ x. length x.0) (sym (ok_same h)) ∙ ap suc (count_read left (k + 1) stations book first.1 rest.0 rest.1 g)))

-- what was passed over
pub passed_ok : (r : Result (List Line × ℕ) RecordFault) (u : Unit {0}) (q : ℕ) → Ok u ≡ value_of (passed r) → q ≡ cursor_after fault_place (passed r)
    → (ls : List Line) × (r ≡ Ok (ls, q))
passed_ok (Ok x) u q a b = (x.0, ap (λ (n : ℕ). Ok (x.0, n)) (sym b))
passed_ok (Err e) u q a b = cc

pub passed_err : (r : Result (List Line × ℕ) RecordFault) (e : RecordFault) → Err e ≡ value_of (passed r) → r ≡ Err e
passed_err (Ok x) e a = cc
passed_err (Err d) e a = cc

-- a head's lines have room in the table
lines_room : (room : ℕ) (book : List ℕ) (p : ℕ) (x : ℕ × ℕ) → lines_at room book p ≡ Ok x → x.0 ≤ room
lines_room room book p x e =
    then_ok (field_at HeadNumber (λ n. leb n max_lines) HeadLimit book p) _ x e (λ y _ g.
    let t = guard_ok (leb y.0 room) y x (TableShort p) g in omega (arith, leb-true y.0 room t.0, ap (λ z. z.0) t.1))

head_room : (room : ℕ) (book : List ℕ) (p : ℕ) (h : Head) (q : ℕ) → head_at room book p ≡ Ok (h, q) → h.lines ≤ room
unfolding head_at
head_room room book p h q e =
    then_ok (edition_at book p) _ (h, q) e (λ edition _ f.
    then_ok (stations_at book edition.1) _ (h, q) f (λ stations _ g.
    then_ok (lines_at room book stations.1) _ (h, q) g (λ lines a b.
    omega (arith, lines_room room book stations.1 lines a, ap (λ x. x.0.lines) (ok_same b)))))

-- The reader begins as `first`, and stands as `behind` after the head and as `last` after the records, behind which nothing is left.
pub judged : (room : ℕ) (book : List ℕ) (first behind last : Reader) (h : Head) (u t : Unit {0}) → first.book.now ≡ book → first.at ≡ 0
    → Reads place_of (head_at room) first behind (Ok h) → Reads fault_place (λ b p. passed (records_at h.lines 0 h.stations b p)) behind last (Ok u)
    → Ok t ≡ end_at last.book.now last.at → Judged room book h behind.at
unfolding reading
judged room book first behind last h u t b z r p e =
    let head : head_at room book 0 ≡ Ok (h, behind.at) = ok_is place_of (head_at room book 0) h behind.at (cc (r.value)) (cc (r.cursor)) in
    let same : behind.book.now ≡ book = cc (r.book) in
    let all : last.book.now ≡ book = cc (p.book, same) in
    let ls = passed_ok (records_at h.lines 0 h.stations book behind.at) u last.at (cc (p.value)) (cc (p.cursor)) in
    let end : Ok t ≡ end_at book last.at = cc in
    record {
      lines = ls.0;
      count = count_read h.lines 0 h.stations book behind.at ls.0 last.at ls.1;
      net = cc (head, ls.1, end);
      end = last.at;
      records = ls.1;
      fits = head_room room book 0 h behind.at head;
    }
