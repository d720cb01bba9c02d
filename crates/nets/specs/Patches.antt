-- What a table of changes makes of a net. Assumes nothing.
use Rattle.std.specs.Prelude.{◌≡◌, ℕ, Bool, cond, List, [], ◌∷◌, Some, nat_le}
use Rattle.std.specs.Option.{unwrap_or}
use Rattle.nets.specs.declared.line.Line.{Line}
use Rattle.nets.specs.declared.patched.Change.{Change}
use Rattle.nets.specs.Model.{Model, max_fee, max_loss}

-- A line with the change's fee and loss where each is within its limit, and its open where it has one; the rest stays.
abbrev pub patch_line : Change → Line → Line
patch_line c l = record {
  from = l.from;
  to = l.to;
  fee = cond (nat_le c.fee max_fee) c.fee l.fee;
  loss = cond (nat_le c.loss max_loss) c.loss l.loss;
  «open» = unwrap_or c.«open» l.«open»;
}

-- A change that leaves every line as it is.
abbrev pub ChangesNothing : Change → Type 0
ChangesNothing c = (l : Line) → patch_line c l ≡ l

-- A change with another fee and loss.
abbrev pub change_price : (fee loss : ℕ) → Change → Change
change_price fee loss c = record { fee = fee; loss = loss; «open» = c.«open» }

-- A change with a line opened or shut.
abbrev pub change_open : Bool → Change → Change
change_open b c = record { fee = c.fee; loss = c.loss; «open» = Some b }

-- Lines, each with the change of its number; lines past the changes stay.
abbrev pub patch_lines : List Change → List Line → List Line
patch_lines cs [] = []
patch_lines [] (l ∷ ls) = l ∷ ls
patch_lines (c ∷ cs) (l ∷ ls) = patch_line c l ∷ patch_lines cs ls

-- A net with its lines so changed.
abbrev pub patched : List Change → Model → Model
patched cs m = record { stations = m.stations; lines = patch_lines cs m.lines }
