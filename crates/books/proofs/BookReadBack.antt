-- The book of a net reads back as that net. Assumes nothing.
use Rattle.std.proofs.Common.{◌≡◌, ℕ, zero, suc, ◌+◌, ◌*◌, ◌/◌, ◌%◌, ◌^◌, ◌<◌, ◌≤◌, Bool, true, false, cond, ◌&&◌, eqb, ltb, leb, List, [], ◌∷◌, ◌++◌, length, take, drop, Ok, sym, refl, ap, ◌∙◌, arith, length-drop}
use Rattle.std.specs.List.{flat_map, AllByRecursion}
use Rattle.std.proofs.ByRecursion.{All-append}
use Rattle.std.proofs.lemmas.List.{drop-drop, drop_at, take_at}
use Rattle.std.proofs.lemmas.Bool.{lt-ltb, le-leb, ltb-true, and_from, cond_both}
use Rattle.std.proofs.lemmas.Bool.Decides.{nat_tests}
use Rattle.nets.specs.declared.line.Line.{Line}
use Rattle.nets.specs.Model.{Model, Sound, LineLimits, max_stations, max_lines, max_fee, max_loss}
use Rattle.books.specs.declared.fault.NumberFault.{NumberFault}
use Rattle.books.specs.declared.fault.BookFault.TheVariants.{HeadNumber, Edition, HeadLimit}
use Rattle.books.specs.declared.fault.RecordError.TheVariants.{Number, Station, Limit}
use Rattle.books.specs.Book.{head_at, end_at, reading, book_numbers, book_of}
use Rattle.books.specs.Number.{number, groups, encoding}
use Rattle.books.specs.OneBook.{Bytes, ReadsAs, OneBook}
use Rattle.books.specs.Reading.{inside, placed, number_at, field_at}
use Rattle.books.specs.Records.{open_at, fields_at, in_line, record_at, records_at, line_numbers}
use Rattle.books.proofs.BookAccepted.{is_book}
use Rattle.books.proofs.NumberTrips.{read_of_written}

-- From place p on the book holds just these numbers.
abbrev HoldsToEnd : List ℕ → ℕ → List ℕ → Type 0
HoldsToEnd book p ns = drop p book ≡ flat_map encoding ns

-- the place behind the number n
abbrev next : ℕ → ℕ → ℕ
next p n = p + length (encoding n)

bit_open : (b : Bool) → eqb (cond b 1 0) 1 ≡ b
bit_open true = refl
bit_open false = refl

bit_most : (b : Bool) → cond b 1 0 ≤ 1
bit_most true = omega arith
bit_most false = omega arith

module _ (book : List ℕ) where
  number_forth : (p n : ℕ) (ns : List ℕ) → HoldsToEnd book p (n ∷ ns) → n < 2 ^ 32 → (number_at book p ≡ Ok (n, next p n)) × HoldsToEnd book (next p n) ns
  number_forth p n ns h s = (
    ap (λ bs. placed p (number bs)) h ∙ ap (placed p) (read_of_written n (flat_map encoding ns) s),
    sym (drop-drop (length (encoding n)) p book) ∙ ap (drop (length (encoding n))) h ∙ drop_at (encoding n) (flat_map encoding ns) (length (encoding n)) refl,
  )

  field_forth : {F : Type 0} (wrap : NumberFault → F) (test : ℕ → Bool) (fault : ℕ → F) (p n : ℕ) (ns : List ℕ)
      → HoldsToEnd book p (n ∷ ns) → n < 2 ^ 32 → test n ≡ true → (field_at wrap test fault book p ≡ Ok (n, next p n)) × HoldsToEnd book (next p n) ns
  field_forth wrap test fault p n ns h s t =
      let f = number_forth p n ns h s in (cc (f.0, t), f.1)

  record_forth : (k stations p : ℕ) (l : Line) (ns : List ℕ) → stations ≤ max_stations → LineLimits stations l → HoldsToEnd book p (line_numbers l ++ ns)
      → (q : ℕ) × (record_at k stations book p ≡ Ok (l, q)) × HoldsToEnd book q ns
  unfolding record_at fields_at
  record_forth k stations p l ns few m h =
      let bit : ℕ = cond l.«open» 1 0 in
      let p1 = next p l.from in
      let p2 = next p1 l.to in
      let p3 = next p2 l.fee in
      let p4 = next p3 l.loss in
      let p5 = next p4 bit in
      let a = field_forth Number (λ n. ltb n stations) Station p l.from (l.to ∷ l.fee ∷ l.loss ∷ bit ∷ ns) h (omega (arith, m.from)) (lt-ltb l.from stations m.from) in
      let b = field_forth Number (λ n. ltb n stations) Station p1 l.to (l.fee ∷ l.loss ∷ bit ∷ ns) a.1 (omega (arith, m.to)) (lt-ltb l.to stations m.to) in
      let c = field_forth Number (λ n. leb n max_fee) Limit p2 l.fee (l.loss ∷ bit ∷ ns) b.1 (omega (arith, m.fee)) (le-leb l.fee max_fee m.fee) in
      let d = field_forth Number (λ n. leb n max_loss) Limit p3 l.loss (bit ∷ ns) c.1 (omega (arith, m.loss)) (le-leb l.loss max_loss m.loss) in
      let e = field_forth Number (λ n. leb n 1) Limit p4 bit ns d.1 (omega (arith, bit_most l.«open»)) (le-leb bit 1 (bit_most l.«open»)) in
      let standing : open_at book p4 ≡ Ok (l.«open», p5) = cc (e.0, bit_open l.«open») in
      let fields : fields_at stations book p ≡ Ok (l, p5) = cc (a.0, b.0, c.0, d.0, standing) in
      (p5, ap (inside (in_line k)) fields, e.1)

  records_forth : (stations : ℕ) (ls : List Line) (k p : ℕ) → stations ≤ max_stations → AllByRecursion (LineLimits stations) ls → HoldsToEnd book p (flat_map line_numbers ls)
      → (q : ℕ) × (records_at (length ls) k stations book p ≡ Ok (ls, q)) × HoldsToEnd book q []
  records_forth stations [] k p few m h = (p, refl, h)
  records_forth stations (l ∷ ls) k p few m h =
      let a = record_forth k stations p l (flat_map line_numbers ls) few m.0 h in
      let b = records_forth stations ls (k + 1) a.0 few m.1 a.2 in (b.0, cc (a.1, b.1), b.2)

  head_forth : (room : ℕ) (m : Model) → Sound m → length m.lines ≤ room → HoldsToEnd book 0 (book_numbers m)
      → (q : ℕ) × (head_at room book 0 ≡ Ok (record { stations = m.stations; lines = length m.lines }, q)) × HoldsToEnd book q (flat_map line_numbers m.lines)
  unfolding head_at
  head_forth room m s fits h =
      let n = length m.lines in
      let p1 = next 0 1 in
      let p2 = next p1 m.stations in
      let p3 = next p2 n in
      let a = field_forth HeadNumber (λ x. eqb x 1) Edition 0 1 (m.stations ∷ n ∷ flat_map line_numbers m.lines) h (omega arith) refl in
      let b = field_forth HeadNumber (λ x. ltb 0 x && leb x max_stations) HeadLimit p1 m.stations (n ∷ flat_map line_numbers m.lines) a.1 (omega (arith, s.few))
      (and_from _ _ (lt-ltb 0 m.stations s.some) (le-leb m.stations max_stations s.few)) in
      let c = field_forth HeadNumber (λ x. leb x max_lines) HeadLimit p2 n (flat_map line_numbers m.lines) b.1 (omega (arith, s.short)) (le-leb n max_lines s.short) in
      (p3, cc (a.0, b.0, c.0, le-leb n room fits), c.1)

  end_forth : (p : ℕ) → drop p book ≡ [] → end_at book p ≡ Ok tt
  end_forth p h =
      let n = length-drop p book in grind (arith, nat_tests)

  reading_forth : (room : ℕ) (m : Model) → Sound m → length m.lines ≤ room → HoldsToEnd book 0 (book_numbers m) → reading room book ≡ Ok m
  unfolding reading
  reading_forth room m s fits h =
      let a = head_forth room m s fits h in
      let b = records_forth m.stations m.lines 0 a.0 s.few s.each a.2 in
      cc (a.1, b.1, end_forth b.0 b.2)

-- what a number of so many groups stays below
abbrev limit : ℕ → ℕ
limit zero = 16
limit (suc m) = 128 * limit m

-- the bytes of a number below 2 ^ 32
groups_bytes : (more n : ℕ) → n < limit more → Bytes (groups more n)
groups_bytes zero n h = (omega arith, tt)
groups_bytes (suc more) n h =
    cond_both (ltb n 128) (n ∷ []) ((128 + n % 128) ∷ groups more (n / 128)) Bytes
    (λ e. (omega (arith, ltb-true n 128 e), tt)) (λ _. (omega arith, groups_bytes more (n / 128) (omega arith)))

encoding_bytes : (n : ℕ) → n < 2 ^ 32 → Bytes (encoding n)
unfolding encoding
encoding_bytes n h = groups_bytes 4 n (omega arith)

joined_bytes : (ns : List ℕ) → AllByRecursion (λ n. n < 2 ^ 32) ns → Bytes (flat_map encoding ns)
joined_bytes [] h = tt
joined_bytes (n ∷ ns) h = All-append (λ b. b < 256) (encoding n) (flat_map encoding ns) (encoding_bytes n h.0) (joined_bytes ns h.1)

line_small : (stations : ℕ) (l : Line) → stations ≤ max_stations → LineLimits stations l → AllByRecursion (λ n. n < 2 ^ 32) (line_numbers l)
line_small stations l few m =
    (omega (arith, m.from), (omega (arith, m.to), (omega (arith, m.fee), (omega (arith, m.loss), (omega (arith, bit_most l.«open»), tt)))))

lines_small : (stations : ℕ) (ls : List Line) → stations ≤ max_stations → AllByRecursion (LineLimits stations) ls → AllByRecursion (λ n. n < 2 ^ 32) (flat_map line_numbers ls)
lines_small stations [] few h = tt
lines_small stations (l ∷ ls) few h =
    All-append (λ n. n < 2 ^ 32) (line_numbers l) (flat_map line_numbers ls) (line_small stations l few h.0) (lines_small stations ls few h.1)

pub book_bytes : (m : Model) → Sound m → Bytes (book_of m)
unfolding book_of
book_bytes m s = joined_bytes (book_numbers m) (omega arith, (omega (arith, s.few), (omega (arith, s.short), lines_small m.stations m.lines s.few s.each)))

pub reads_back : (m : Model) → Sound m → ReadsAs (book_of m) m
unfolding book_of
reads_back m s room fits = reading_forth (book_of m) room m s fits refl

pub one_book : (m : Model) → Sound m → OneBook m
one_book m s = record {
  bytes = book_bytes m s;
  back = reads_back m s;
  only = λ bs room h e. (is_book bs h room m e).1;
}

-- an output that holds the book in front, whose front reads back
pub written_back : (m : Model) → Sound m → (end rest : List ℕ) → end ≡ book_of m ++ rest → ReadsAs (take (length (book_of m)) end) m
written_back m s end rest e room fits =
    ap (λ (l : List ℕ). reading room (take (length (book_of m)) l)) e
    ∙ ap (reading room) (take_at (book_of m) rest (length (book_of m)) refl) ∙ reads_back m s room fits
