-- A run of bytes that is accepted is the book of the net that it means. Assumes nothing.
use Rattle.std.proofs.Common.{◌≡◌, ℕ, zero, suc, ◌+◌, ◌<◌, ◌≤◌, Bool, true, cond, ◌&&◌, eqb, ltb, leb, List, [], ◌∷◌, ◌++◌, length, get_or, Fits, w8, take, drop, Ok, Err, Result, sym, refl, ap, ◌∙◌, append-nil, arith, take-append-drop}
use Rattle.std.specs.List.{flat_map, AllByRecursion}
use Rattle.std.proofs.ByRecursion.{All-drop, All-from_get_or}
use Rattle.std.proofs.lemmas.List.{drop-drop, drop_all, take_at}
use Rattle.std.proofs.lemmas.Bool.{ltb-true, leb-true, eqb-true, and_parts}
use Rattle.std.proofs.lemmas.Grind.{common_steps}
use Rattle.std.proofs.lemmas.Bool.Decides.{nat_tests}
use Rattle.nets.specs.declared.line.Line.{Line}
use Rattle.nets.specs.Listed.{listed}
use Rattle.nets.proofs.Records.{listed_sound}
use Rattle.nets.specs.Model.{Model, Sound, LineLimits, max_stations, max_lines, max_fee, max_loss}
use Rattle.books.specs.declared.number.NumberError.{NumberError}
use Rattle.books.specs.declared.fault.NumberFault.{NumberFault}
use Rattle.books.specs.declared.fault.BookFault.TheVariants.{HeadNumber, Edition, HeadLimit, TableShort, Record}
use Rattle.books.specs.declared.fault.RecordError.TheVariants.{Number, Station, Limit}
use Rattle.books.specs.declared.head.Head.{Head}
use Rattle.books.specs.Book.{edition_at, stations_at, lines_at, head_at, end_at, closed_at, body_at, reading, table_after, book_of}
use Rattle.books.specs.Number.{number, encoding}
use Rattle.books.specs.OneBook.{Bytes, Accepted}
use Rattle.books.specs.Reading.{inside, placed, number_at, field_at}
use Rattle.books.specs.Judging.{Judged}
use Rattle.books.specs.Records.{station_at, limited_at, ends_at, open_at, fields_at, in_line, record_at, records_at, line_numbers}
use Rattle.books.proofs.BookRead.{count_read}
use Rattle.books.proofs.NumberTrips.{written_of_read}
use Rattle.books.proofs.Readings.{ok_same, then_ok, inside_ok, guard_ok}

-- From place p to place q the book holds these numbers.
abbrev Holds : List ℕ → ℕ → List ℕ → ℕ → Type 0
Holds book p ns q = drop p book ≡ flat_map encoding ns ++ drop q book

holds_more : (book : List ℕ) (p q r : ℕ) (ns ms : List ℕ) → Holds book p ns q → Holds book q ms r → Holds book p (ns ++ ms) r
holds_more book p q r ns ms a b =
    grind (arith, common_steps)

bit_is : (s : ℕ) → s ≤ 1 → s ≡ cond (eqb s 1) 1 0
bit_is s h = grind (arith, nat_tests)

-- What was read is what the book holds.
module _ (book : List ℕ) (bytes : Bytes book) where
  number_back : (p n q : ℕ) → number_at book p ≡ Ok (n, q) → Holds book p (n ∷ []) q
  number_back p n q e = parts (number (drop p book)) refl e
    where
      parts : (r : Result (ℕ × ℕ) NumberError) → number (drop p book) ≡ r → placed p r ≡ Ok (n, q) → Holds book p (n ∷ []) q
      parts (Ok x) s t =
          let w = written_of_read (drop p book) x.0 x.1 (All-drop (λ b. b < 256) p book bytes) s in
          let v : x.0 ≡ n = ap (λ y. y.0) (ok_same t) in
          let c : p + x.1 ≡ q = ap (λ y. y.1) (ok_same t) in
          cc (take-append-drop x.1 (drop p book), append-nil (encoding n), drop-drop x.1 p book)
      parts (Err d) s t = cc

  -- a field that was read has passed its test
  field_back : {F : Type 0} (wrap : NumberFault → F) (test : ℕ → Bool) (fault : ℕ → F) (p n q : ℕ)
      → field_at wrap test fault book p ≡ Ok (n, q) → Holds book p (n ∷ []) q × (test n ≡ true)
  field_back wrap test fault p n q e =
      then_ok (inside wrap (number_at book p)) _ (n, q) e (λ x a b.
      let g = guard_ok (test x.0) x (n, q) (fault p) b in (
        number_back p n q (inside_ok wrap (number_at book p) x a ∙ ap Ok g.1),
        ap test (sym (ap (λ y. y.0) g.1)) ∙ g.0,
      ))

  open_back : (p : ℕ) (x : Bool × ℕ) → open_at book p ≡ Ok x → Holds book p (cond x.0 1 0 ∷ []) x.1
  open_back p x e =
      then_ok (limited_at 1 book p) _ x e (λ n f g.
      let a = field_back Number (λ n. leb n 1) Limit p n.0 n.1 f in
      rw (← ok_same g) (a.0 ∙ ap (λ m. flat_map encoding (m ∷ []) ++ drop n.1 book) (bit_is n.0 (leb-true n.0 1 a.1))))

  ends_back : (stations p : ℕ) (x : (ℕ × ℕ) × ℕ) → ends_at stations book p ≡ Ok x
      → Holds book p (x.0.0 ∷ x.0.1 ∷ []) x.1 × (x.0.0 < stations) × (x.0.1 < stations)
  ends_back stations p x e =
      then_ok (station_at stations book p) _ x e (λ from a b.
      then_ok (station_at stations book from.1) _ x b (λ to c d.
      let r = field_back Number (λ n. ltb n stations) Station p from.0 from.1 a in
      let s = field_back Number (λ n. ltb n stations) Station from.1 to.0 to.1 c in
      rw (← ok_same d) (
        holds_more book p from.1 to.1 (from.0 ∷ []) (to.0 ∷ []) r.0 s.0,
        ltb-true from.0 stations r.1,
        ltb-true to.0 stations s.1,
      )))

  fields_back : (stations p : ℕ) (x : Line × ℕ) → fields_at stations book p ≡ Ok x → Holds book p (line_numbers x.0) x.1 × LineLimits stations x.0
  unfolding fields_at
  fields_back stations p x e =
      then_ok (ends_at stations book p) _ x e (λ ends a b.
      then_ok (limited_at max_fee book ends.1) _ x b (λ fee c d.
      then_ok (limited_at max_loss book fee.1) _ x d (λ loss f g.
      then_ok (open_at book loss.1) _ x g (λ standing h i.
      let bit : ℕ = cond standing.0 1 0 in
      let r = ends_back stations p ends a in
      let s = field_back Number (λ n. leb n max_fee) Limit ends.1 fee.0 fee.1 c in
      let t = field_back Number (λ n. leb n max_loss) Limit fee.1 loss.0 loss.1 f in
      rw (← ok_same i) (
        holds_more book p ends.1 standing.1 (ends.0.0 ∷ ends.0.1 ∷ []) (fee.0 ∷ loss.0 ∷ bit ∷ []) r.0
            (holds_more book ends.1 fee.1 standing.1 (fee.0 ∷ []) (loss.0 ∷ bit ∷ []) s.0
            (holds_more book fee.1 loss.1 standing.1 (loss.0 ∷ []) (bit ∷ []) t.0 (open_back loss.1 standing h))),
        record { from = r.1; to = r.2; fee = leb-true fee.0 max_fee s.1; loss = leb-true loss.0 max_loss t.1 },
      )))))

  records_back : (left k stations p : ℕ) (x : List Line × ℕ) → records_at left k stations book p ≡ Ok x
      → Holds book p (flat_map line_numbers x.0) x.1 × AllByRecursion (LineLimits stations) x.0
  unfolding record_at
  records_back zero k stations p x e =
      rw (← ok_same e) (refl, tt)
  records_back (suc left) k stations p x e =
      then_ok (record_at k stations book p) _ x e (λ first f g.
      then_ok (records_at left (k + 1) stations book first.1) _ x g (λ rest r h.
      let a = fields_back stations p first (inside_ok (in_line k) (fields_at stations book p) first f) in
      let b = records_back left (k + 1) stations first.1 rest r in
      rw (← ok_same h) (
        holds_more book p first.1 rest.1 (line_numbers first.0) (flat_map line_numbers rest.0) a.0 b.0,
        (a.1, b.1),
      )))

  head_back : (room p : ℕ) (x : Head × ℕ) → head_at room book p ≡ Ok x
      → Holds book p (1 ∷ x.0.stations ∷ x.0.lines ∷ []) x.1 × (1 ≤ x.0.stations) × (x.0.stations ≤ max_stations) × (x.0.lines ≤ max_lines)
  unfolding head_at
  head_back room p x e =
      then_ok (edition_at book p) _ x e (λ edition a b.
      then_ok (stations_at book edition.1) _ x b (λ stations c d.
      then_ok (lines_at room book stations.1) _ x d (λ lines f g.
      then_ok (field_at HeadNumber (λ n. leb n max_lines) HeadLimit book stations.1) _ lines f (λ count h i.
      let t = guard_ok (leb count.0 room) count lines (TableShort stations.1) i in
      let r = field_back HeadNumber (λ n. eqb n 1) Edition p edition.0 edition.1 a in
      let s = field_back HeadNumber (λ n. ltb 0 n && leb n max_stations) HeadLimit edition.1 stations.0 stations.1 c in
      let l = field_back HeadNumber (λ n. leb n max_lines) HeadLimit stations.1 lines.0 lines.1 (h ∙ ap Ok t.1) in
      let one = eqb-true edition.0 1 r.1 in
      let both = and_parts (ltb 0 stations.0) (leb stations.0 max_stations) s.1 in
      rw (← ok_same g) (
        holds_more book p edition.1 lines.1 (1 ∷ []) (stations.0 ∷ lines.0 ∷ [])
            (r.0 ∙ ap (λ n. flat_map encoding (n ∷ []) ++ drop edition.1 book) one)
            (holds_more book edition.1 stations.1 lines.1 (stations.0 ∷ []) (lines.0 ∷ []) s.0 l.0),
        ltb-true 0 stations.0 both.0,
        leb-true stations.0 max_stations both.1,
        leb-true lines.0 max_lines l.1,
      )))))

  -- the end is at or behind the last byte
  end_back : (p : ℕ) (t : Unit {0}) → end_at book p ≡ Ok t → drop p book ≡ []
  end_back p t e = let h : length book ≤ p = grind (arith, nat_tests) in drop_all p book h

  -- a run of bytes that is accepted means a net within the limits, and is the book of that net
  pub is_book : (room : ℕ) (m : Model) → reading room book ≡ Ok m → Sound m × (book ≡ book_of m)
  unfolding reading book_of
  is_book room m e =
      then_ok (head_at room book 0) (body_at book) m e (λ head a b.
      then_ok (inside Record (records_at head.0.lines 0 head.0.stations book head.1)) (closed_at book head.0.stations) m b (λ records c d.
      then_ok (end_at book records.1) _ m d (λ t f g.
      let rs = inside_ok Record (records_at head.0.lines 0 head.0.stations book head.1) records c in
      let h = head_back room 0 head a in
      let r = records_back head.0.lines 0 head.0.stations head.1 records rs in
      let n : length records.0 ≡ head.0.lines = count_read head.0.lines 0 head.0.stations book head.1 records.0 records.1 rs in
      let all : List ℕ = 1 ∷ head.0.stations ∷ head.0.lines ∷ flat_map line_numbers records.0 in
      rw (← ok_same g) (
        record { some = h.1; few = h.2; short = omega (arith, n, h.3); each = r.1 },
        holds_more book 0 head.1 records.1 (1 ∷ head.0.stations ∷ head.0.lines ∷ []) (flat_map line_numbers records.0) h.0 r.0
            ∙ ap (λ (l : List ℕ). flat_map encoding all ++ l) (end_back records.1 t f) ∙ append-nil (flat_map encoding all)
            ∙ ap (λ k. flat_map encoding (1 ∷ head.0.stations ∷ k ∷ flat_map line_numbers records.0)) (sym n),
      ))))

-- what a table holds that was filled from a book that was judged
pub filled_accepted : (room : ℕ) (book : List ℕ) (head : Head) (start : ℕ) (table after : List Line) → Judged room book head start
    → ((i : ℕ) → Fits w8 (get_or book i 0)) → after ≡ table_after (reading room book) table → Accepted room book head after
filled_accepted room book head start table after j bytes filled =
    let m : Model = record { stations = head.stations; lines = j.lines } in
    let b = is_book book (All-from_get_or (λ b. b < 256) book 0 (λ i _. omega (arith, bytes i))) room m j.net in
    let front : take head.lines after ≡ j.lines =
    ap (take head.lines) (filled ∙ ap (λ r. table_after r table) j.net) ∙ take_at j.lines (drop (length j.lines) table) head.lines j.count in
    let same : listed head.stations (take head.lines after) ≡ m = ap (listed head.stations) front ∙ listed_sound head.stations j.lines b.0 in
    record { net = j.net ∙ ap Ok (sym same); again = ap book_of same ∙ sym b.1 }
