-- How far a loop over records has come, in that the rest of the reading gives the whole of it. Assumes nothing.
use Rattle.std.proofs.Common.{◌≡◌, ℕ, suc, ◌+◌, ◌-◌, ◌<◌, ◌≤◌, List, [], ◌∷◌, ◌++◌, length, get_or, take, drop, set, true, Ok, Err, Result, sym, refl, ap, ◌∙◌, append_assoc, append-nil, arith}
use Rattle.std.specs.Result.{is_ok}
use Rattle.std.proofs.lemmas.List.{drop_more, set_at, take_all, take_more_set}
use Rattle.nets.specs.declared.line.Line.{Line}
use Rattle.books.specs.declared.fault.RecordFault.{RecordFault}
use Rattle.books.specs.declared.reader.Reader.{Reader}
use Rattle.books.specs.Cursor.{Reads, value_of}
use Rattle.books.specs.Faults.{fault_place}
use Rattle.books.specs.Judging.{passed}
use Rattle.books.specs.Reading.{and_then}
use Rattle.books.specs.Records.{record_at, records_at}
use Rattle.books.proofs.BookRead.{passed_err}
use Rattle.books.proofs.Readings.{ok_is, err_is, at_fault, ok_same}

abbrev Read : Type 0
Read = Result (List Line × ℕ) RecordFault

-- records read before those of a reading
abbrev pub behind : List Line → Read → Read
behind done r = and_then r (λ rest. Ok (done ++ rest.0, rest.1))

behind_none : (r : Read) → r ≡ behind [] r
behind_none (Ok x) = refl
behind_none (Err e) = refl

behind_more : (done : List Line) (l : Line) (r : Read) → behind done (behind (l ∷ []) r) ≡ behind (done ++ l ∷ []) r
behind_more done l (Ok x) = cc (append_assoc done (l ∷ []) x.0)
behind_more done l (Err e) = refl

passed_behind : (done : List Line) (r : Read) → passed (behind done r) ≡ passed r
passed_behind done (Ok x) = refl
passed_behind done (Err e) = refl

-- The reader began as `first`, and stands as `now` before record k.
module _ (count stations k : ℕ) (first now : Reader) where
  abbrev pub left : Read
  left = records_at (count - k) k stations first.book.now now.at

  -- a loop that keeps no record
  pub record Judges : Type 0 where
    pub book : now.book ≡ first.book
    pub rest : passed (records_at count 0 stations first.book.now first.at) ≡ passed left

  -- a loop that has filled the first k of the records `table`
  pub record Fills (table : List Line) : Type 0 where
    pub book : now.book ≡ first.book
    pub rest : records_at count 0 stations first.book.now first.at ≡ behind (take k table) left

pub judges_none : (count stations : ℕ) (first : Reader) → Judges count stations 0 first first
judges_none count stations first =
    let e : count - 0 ≡ count = omega arith in record { book = refl; rest = rw e }

pub fills_none : (count stations : ℕ) (first : Reader) (table : List Line) → Fills count stations 0 first first table
fills_none count stations first table =
    let e : count - 0 ≡ count = omega arith in record { book = refl; rest = rw e (behind_none (records_at count 0 stations first.book.now first.at)) }

module _ (count stations k : ℕ) (first before : Reader) (h : k < count) (b : before.book ≡ first.book) where
  next : left count stations k first before
      ≡ and_then (record_at k stations before.book.now before.at) (λ x.
      behind (x.0 ∷ []) (records_at (count - (k + 1)) (k + 1) stations before.book.now x.1))
  next =
      let e : count - k ≡ suc (count - (k + 1)) = omega arith in
      ap (λ m. records_at m k stations first.book.now before.at) e ∙ ap (λ y. records_at (suc (count - (k + 1))) k stations y.now before.at) (sym b)

  next_ok : (after : Reader) (l : Line) → Reads fault_place (record_at k stations) before after (Ok l)
      → left count stations k first before ≡ behind (l ∷ []) (left count stations (k + 1) first after)
  next_ok after l r = cc (next, ok_is fault_place (record_at k stations before.book.now before.at) l after.at r.value r.cursor)

  next_err : (f : RecordFault) → Err f ≡ value_of (record_at k stations before.book.now before.at) → left count stations k first before ≡ Err f
  next_err f v = cc (next, err_is (record_at k stations before.book.now before.at) f v)

-- a record at fault is the fault of the whole reading
pub fault : (count stations k : ℕ) (first before : Reader) (f : RecordFault) → Judges count stations k first before → k < count
    → Err f ≡ value_of (record_at k stations before.book.now before.at) → records_at count 0 stations first.book.now first.at ≡ Err f
fault count stations k first before f j h v =
    let e = j.rest ∙ ap passed (next_err count stations k first before h j.book f v) in
    passed_err (records_at count 0 stations first.book.now first.at) f (ap value_of (sym e))

pub judges_more : (count stations k : ℕ) (first before after : Reader) (r : Result Line RecordFault) → Judges count stations k first before → k < count
    → Reads fault_place (record_at k stations) before after r → is_ok r ≡ true → Judges count stations (k + 1) first after
judges_more count stations k first before after (Err f) j h r e = cc
judges_more count stations k first before after (Ok l) j h r e = record {
  book = r.book ∙ j.book;
  rest = j.rest ∙ ap passed (next_ok count stations k first before h j.book after l r) ∙ passed_behind (l ∷ []) (left count stations (k + 1) first after);
}

pub judges_err : (count stations k : ℕ) (first before after : Reader) (f : RecordFault) → Judges count stations k first before → k < count
    → Reads fault_place (record_at k stations) before after (Err f)
    → Reads fault_place (λ book q. passed (records_at count 0 stations book q)) first after (Err f)
judges_err count stations k first before after f j h r =
    let e = fault count stations k first before f j h r.value in
    let n = at_fault fault_place (record_at k stations before.book.now before.at) f r.value in
    record { value = rw e; cursor = rw e (r.cursor ∙ n); book = r.book ∙ j.book }

pub judges_all : (count stations k : ℕ) (first now : Reader) → Judges count stations k first now → count ≤ k
    → Reads fault_place (λ book q. passed (records_at count 0 stations book q)) first now (Ok tt)
judges_all count stations k first now j h =
    let z : count - k ≡ 0 = omega arith in
    let e = j.rest ∙ ap (λ n. passed (records_at n k stations first.book.now now.at)) z in
    record { value = rw e; cursor = rw e; book = j.book }

pub fills_more : (count stations k : ℕ) (first before after : Reader) (table : List Line) (l : Line)
    → Fills count stations k first before table → k < count → k < length table → Reads fault_place (record_at k stations) before after (Ok l)
    → Fills count stations (k + 1) first after (set table k l)
fills_more count stations k first before after table l f h t r = record {
  book = r.book ∙ f.book;
  rest =
      f.rest ∙ ap (behind (take k table)) (next_ok count stations k first before h f.book after l r)
      ∙ behind_more (take k table) l (left count stations (k + 1) first after)
      ∙ ap (λ ls. behind ls (left count stations (k + 1) first after)) (sym (take_more_set table k l t));
}

-- no fault is left where the reading is accepted
pub fills_ok : (count stations k : ℕ) (first before after : Reader) (table : List Line) (r : Result Line RecordFault) (ls : List Line) (end : ℕ)
    → Fills count stations k first before table → k < count → Reads fault_place (record_at k stations) before after r
    → records_at count 0 stations first.book.now first.at ≡ Ok (ls, end) → is_ok r ≡ true
fills_ok count stations k first before after table (Ok l) ls end p h r e = refl
fills_ok count stations k first before after table (Err f) ls end p h r e =
    let z = next_err count stations k first before h p.book f r.value in cc (p.rest)

pub fills_all : (count stations k : ℕ) (first now : Reader) (table : List Line) (ls : List Line) (end : ℕ) → Fills count stations k first now table
    → count ≤ k → length table ≤ k → records_at count 0 stations first.book.now first.at ≡ Ok (ls, end) → table ≡ ls
fills_all count stations k first now table ls end f h t e =
    let z : count - k ≡ 0 = omega arith in
    let w = f.rest ∙ ap (λ n. behind (take k table) (records_at n k stations first.book.now now.at)) z in
    sym (take_all k table t) ∙ sym (append-nil (take k table)) ∙ ap (λ x. x.0) (ok_same (sym w ∙ e))

-- a table filled by k records gets another
pub fill_more : (done table : List Line) (k : ℕ) (l : Line) → length done ≡ k → k < length table
    → set (done ++ drop k table) k l ≡ (done ++ l ∷ []) ++ drop (k + 1) table
fill_more done table k l n h =
    simp (drop_more table k l h, append_assoc) (set_at done (get_or table k l) (drop (k + 1) table) l k n)

pub ruleset judging_steps = (judges_none, judges_more, judges_err, judges_all)

pub ruleset filling_steps = (fills_none, fills_more, fills_ok, fills_all)
