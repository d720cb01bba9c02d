-- What a method of the reader answers, and where it leaves the cursor. Assumes nothing.
use Rattle.std.specs.Prelude.{◌≡◌, ℕ, cond, List, Ok, Err, Result, MatchResult}
use Rattle.std.specs.Result.{IsErrAnd, is_ok}
use Rattle.books.specs.declared.fault.NumberFault.{NumberFault}
use Rattle.books.specs.declared.reader.Reader.{Reader}
use Rattle.books.specs.Reading.{number_at}

-- The answer of a reading, without the place.
abbrev pub value_of : {A F : Type 0} → Result (A × ℕ) F → Result A F
value_of (Ok x) = Ok x.0
value_of (Err e) = Err e

-- Behind what was read, or at the number at fault.
abbrev pub cursor_after : {A F : Type 0} → (F → ℕ) → Result (A × ℕ) F → ℕ
cursor_after place (Ok x) = x.1
cursor_after place (Err e) = place e

-- The reader answers what the reading gives at the cursor, over the same book.
pub record Reads {A F : Type 0} (place : F → ℕ) (reading : List ℕ → ℕ → Result (A × ℕ) F) (before after : Reader) (r : Result A F)
    : Type 0 where
  pub value : r ≡ value_of (reading before.book.now before.at)
  pub cursor : after.at ≡ cursor_after place (reading before.book.now before.at)
  pub book : after.book ≡ before.book

-- The number at the cursor is judged, and taken where the judging accepts it; otherwise the answer is the fault that the judging
-- gives, or what becomes of the number's own fault, and the cursor stays.
pub record Takes {A F : Type 0} (Becomes : NumberFault → F → Type 0) (JudgesAs : ℕ → Result A F → Type 0) (before after : Reader) (r : Result A F) : Type 0 where
  pub book : after.book ≡ before.book
  pub answer :
      MatchResult (number_at before.book.now before.at)
      (λ x. JudgesAs x.0 r × (after.at ≡ cond (is_ok r) x.1 before.at))
      (λ e. IsErrAnd r (Becomes e) × (after.at ≡ before.at))
