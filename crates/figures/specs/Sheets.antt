-- Worked sheets, with what the check answers for each. Assumes nothing.
use Rattle.std.specs.Prelude.{◌≡◌, ℕ, Bool, true, false, List, [], ◌∷◌, Some, None, Ok, Option}
use Rattle.nets.specs.Model.{Model}
use Rattle.costs.specs.Largest.{largest}
use Rattle.costs.specs.contracts.fees.FeesCostKind.TheImpl.{ghosts as fees_kind}
use Rattle.sheets.specs.declared.row.Row.{Row}
use Rattle.sheets.specs.Check.{checked}
use Rattle.figures.specs.FiveLines.{open_line, five_lines}

abbrev row : ℕ → Option ℕ → Row ℕ
row cost via = record { cost = cost; via = via }

pub record CheckFigure : Type 0 where
  pub net : Model
  pub gateway : ℕ
  pub rows : List (Row ℕ)
  pub gives : Bool

-- The five-line example from gateway 0, by fees; station 4 is cut off.
abbrev pub five_rows : List (Row ℕ)
five_rows = row 0 None ∷ row 7 (Some 2) ∷ row 3 (Some 1) ∷ row 9 (Some 3) ∷ row largest None ∷ []

-- Two stations beside the gateway with lines of fee 0 to each other, and no line from the gateway.
abbrev pub ring : Model
ring = record { stations = 3; lines = open_line 1 2 0 0 ∷ open_line 2 1 0 0 ∷ [] }

-- Both cost 7, each by the line from the other. Every via fits, and none leads back.
abbrev pub ring_rows : List (Row ℕ)
ring_rows = row 0 None ∷ row 7 (Some 1) ∷ row 7 (Some 0) ∷ []

abbrev pub check_figures : List CheckFigure
check_figures =
    record { net = five_lines; gateway = 0; rows = five_rows; gives = true }
    ∷ record { net = ring; gateway = 0; rows = ring_rows; gives = false }
    ∷ []

abbrev pub CheckGiven : CheckFigure → Type 0
CheckGiven f = checked fees_kind f.net f.gateway f.rows ≡ Ok f.gives
