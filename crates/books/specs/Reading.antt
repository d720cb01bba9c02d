-- Readings: each begins at a place of the book and gives a value with the place after it, or a fault. Assumes nothing.
use Rattle.std.specs.Prelude.{ℕ, ◌+◌, Bool, cond, List, drop, Ok, Err, Result}
use Rattle.books.specs.declared.number.NumberError.{NumberError}
use Rattle.books.specs.declared.fault.NumberFault.{NumberFault}
use Rattle.books.specs.Number.{number}

-- One reading after another; the first fault is the answer.
abbrev pub and_then : {A B F : Type 0} → Result A F → (A → Result B F) → Result B F
and_then (Ok x) f = f x
and_then (Err e) f = Err e

-- A fault kept whole inside one of the layer above.
abbrev pub inside : {A E F : Type 0} → (E → F) → Result A E → Result A F
inside wrap (Ok x) = Ok x
inside wrap (Err e) = Err (wrap e)

-- A number that was read from place p on, with the place after it in the book.
abbrev pub placed : ℕ → Result (ℕ × ℕ) NumberError → Result (ℕ × ℕ) NumberFault
placed p (Ok x) = Ok (x.0, p + x.1)
placed p (Err e) = Err (record { place = p; error = e })

-- The number at place p.
abbrev pub number_at : List ℕ → ℕ → Result (ℕ × ℕ) NumberFault
number_at book p = placed p (number (drop p book))

-- A field: the number at place p, which is judged before the next is read.
abbrev pub field_at : {F : Type 0} → (NumberFault → F) → (ℕ → Bool) → (ℕ → F) → List ℕ → ℕ → Result (ℕ × ℕ) F
field_at wrap test fault book p = and_then (inside wrap (number_at book p)) (λ x. cond (test x.0) (Ok x) (Err (fault p)))
