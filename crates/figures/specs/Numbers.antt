-- Worked numbers: runs of bytes, with what each is read as. Assumes nothing.
use Rattle.std.specs.Prelude.{◌≡◌, ℕ, List, [], ◌∷◌, Ok, Err, Result}
use Rattle.nets.specs.Refusals.{number_of}
use Rattle.books.specs.declared.number.NumberError.{NumberError}
use Rattle.books.specs.Faults.{number_refusal}
use Rattle.books.specs.Number.{number}

-- What a number is read as: its value with the count of its bytes, or the number of a refusal.
pub data Outcome : Type 0 where
  read : (value count : ℕ) → Outcome
  refused : ℕ → Outcome

abbrev pub outcome : Result (ℕ × ℕ) NumberError → Outcome
outcome (Ok x) = read x.0 x.1
outcome (Err e) = refused (number_of (number_refusal e))

pub record NumberFigure : Type 0 where
  pub bytes : List ℕ
  pub gives : Outcome

abbrev pub number_figures : List NumberFigure
number_figures =
    record { bytes = 0xAC ∷ 0x02 ∷ []; gives = read 300 2 }
    ∷ record { bytes = 0x80 ∷ []; gives = refused 1 }
    ∷ record { bytes = 0xFF ∷ 0xFF ∷ 0xFF ∷ 0xFF ∷ 0x10 ∷ []; gives = refused 2 }
    ∷ record { bytes = 0x80 ∷ 0x00 ∷ []; gives = refused 3 }
    ∷ []

abbrev pub NumberGiven : NumberFigure → Type 0
NumberGiven f = outcome (number f.bytes) ≡ f.gives
