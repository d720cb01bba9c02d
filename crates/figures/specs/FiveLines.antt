-- The five-line example: a net, and its book. Assumes nothing.
use Rattle.std.specs.Prelude.{ℕ, true, List, [], ◌∷◌}
use Rattle.nets.specs.declared.line.Line.{Line}
use Rattle.nets.specs.Model.{Model}

-- an open line
abbrev pub open_line : (from to fee loss : ℕ) → Line
open_line from to fee loss = record { from = from; to = to; fee = fee; loss = loss; «open» = true }

abbrev pub five_lines : Model
five_lines = record {
  stations = 5;
  lines = open_line 0 1 10 3 ∷ open_line 0 2 3 9 ∷ open_line 2 1 4 1 ∷ open_line 1 3 2 7 ∷ open_line 2 3 12 2 ∷ [];
}

abbrev pub five_line_book : List ℕ
five_line_book =
    0x01 ∷ 0x05 ∷ 0x05
    ∷ 0x00 ∷ 0x01 ∷ 0x0A ∷ 0x03 ∷ 0x01
    ∷ 0x00 ∷ 0x02 ∷ 0x03 ∷ 0x09 ∷ 0x01
    ∷ 0x02 ∷ 0x01 ∷ 0x04 ∷ 0x01 ∷ 0x01
    ∷ 0x01 ∷ 0x03 ∷ 0x02 ∷ 0x07 ∷ 0x01
    ∷ 0x02 ∷ 0x03 ∷ 0x0C ∷ 0x02 ∷ 0x01 ∷ []
