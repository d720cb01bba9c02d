-- The two edits of an editable net: what each answers, and the net after it. Assumes nothing.
use Rattle.std.specs.Prelude.{ℕ, Bool, cond, length, Some, None, Ok, Err, Option, Result, nat_lt, slice_set}
use Rattle.std.specs.List.{slice_get}
use Rattle.nets.specs.declared.line.Line.{Line}
use Rattle.nets.specs.declared.refusal.Refusal.{Refusal}
use Rattle.nets.specs.declared.refusal.Refusal.TheVariants.{NoSuchLine, PriceLimit}
use Rattle.nets.specs.Model.{Model, price_fits}

-- A line with another fee and loss.
abbrev pub with_price : ℕ → ℕ → Line → Line
with_price fee loss l = record { from = l.from; to = l.to; fee = fee; loss = loss; «open» = l.«open» }

-- A line opened or shut.
abbrev pub with_open : Bool → Line → Line
with_open b l = record { from = l.from; to = l.to; fee = l.fee; loss = l.loss; «open» = b }

-- A net in which line k, where there is one, is changed by f, and nothing else.
abbrev pub changed_at : Option Line → Model → ℕ → (Line → Line) → Model
changed_at None m k f = m
changed_at (Some l) m k f = record { stations = m.stations; lines = slice_set m.lines k (f l) }

-- The same, by the line that the net has at k.
abbrev pub changed : Model → ℕ → (Line → Line) → Model
changed m k f = changed_at (slice_get m.lines k) m k f

-- Refused first where there is no line k, then where the fee or the loss is over its limit.
abbrev pub price_answer : Model → (k fee loss : ℕ) → Result (Unit {0}) Refusal
price_answer m k fee loss =
    cond (nat_lt k (length m.lines)) (cond (price_fits fee loss) (Ok tt) (Err PriceLimit)) (Err NoSuchLine)

-- The net after the edit, whether it was accepted or refused.
abbrev pub priced : Model → (k fee loss : ℕ) → Model
priced m k fee loss = cond (price_fits fee loss) (changed m k (with_price fee loss)) m

-- Refused where there is no line k.
abbrev pub open_answer : Model → ℕ → Result (Unit {0}) Refusal
open_answer m k = cond (nat_lt k (length m.lines)) (Ok tt) (Err NoSuchLine)

-- The net after the edit, whether it was accepted or refused.
abbrev pub opened : Model → ℕ → Bool → Model
opened m k b = changed m k (with_open b)
