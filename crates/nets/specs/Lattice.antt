-- What a lattice of stations in rows and columns means, and when it is a net. Assumes nothing.
use Rattle.std.specs.Prelude.{ℕ, ◌+◌, ◌-◌, ◌*◌, ◌/◌, ◌%◌, ◌≤◌, Bool, cond, ◌&&◌, map, is_some, Some, None, Option, ◌==◌, nat_le, nat_lt}
use Rattle.std.specs.List.{range_with_len}
use Rattle.std.specs.Option.{unwrap_or}
use Rattle.nets.specs.declared.line.Line.{Line}
use Rattle.nets.specs.declared.refusal.Refusal.{Refusal}
use Rattle.nets.specs.declared.refusal.Refusal.TheVariants.{NetLimit}
use Rattle.nets.specs.declared.lattice.directions.LatticeFees.{LatticeFees}
use Rattle.nets.specs.declared.lattice.directions.Direction.{Direction}
use Rattle.nets.specs.declared.lattice.directions.Direction.TheVariants.{East, South, West, North}
use Rattle.nets.specs.Model.{Model, max_stations, max_fee, max_loss}

-- How many lines begin at each station.
abbrev pub directions : ℕ
directions = 4

-- The direction of line 4s + d, by d.
abbrev pub direction_of : ℕ → Direction
direction_of d = cond (d == 0) East (cond (d == 1) South (cond (d == 2) West North))

-- The fee in a direction.
abbrev pub fee_of : LatticeFees → Direction → ℕ
fee_of fees East = fees.east
fee_of fees South = fees.south
fee_of fees West = fees.west
fee_of fees North = fees.north

-- The station in a row and a column.
abbrev pub station_at : (columns row column : ℕ) → ℕ
station_at columns row column = row * columns + column

-- The station beside the one in a row and a column, where the lattice has one there. South is the next row.
abbrev pub neighbour_at : (rows columns row column : ℕ) → Direction → Option ℕ
neighbour_at rows columns row column East = cond (nat_lt (column + 1) columns) (Some (station_at columns row (column + 1))) None
neighbour_at rows columns row column South = cond (nat_lt (row + 1) rows) (Some (station_at columns (row + 1) column)) None
neighbour_at rows columns row column West = cond (nat_lt 0 column) (Some (station_at columns row (column - 1))) None
neighbour_at rows columns row column North = cond (nat_lt 0 row) (Some (station_at columns (row - 1) column)) None

-- The same of station s, which stands in row s / columns and column s % columns.
abbrev pub neighbour : (rows columns s : ℕ) → Direction → Option ℕ
neighbour rows columns s d = neighbour_at rows columns (s / columns) (s % columns) d

-- The line from a station in a direction: without a neighbour it is shut, and leads to its own station.
abbrev pub lattice_line : (rows columns : ℕ) → LatticeFees → (loss s : ℕ) → Direction → Line
lattice_line rows columns fees loss s d = record {
  from = s;
  to = unwrap_or (neighbour rows columns s d) s;
  fee = fee_of fees d;
  loss = loss;
  «open» = is_some (neighbour rows columns s d);
}

-- Line 4s + d is the line from station s in direction d.
abbrev pub line_at : (rows columns : ℕ) → LatticeFees → (loss k : ℕ) → Line
line_at rows columns fees loss k = lattice_line rows columns fees loss (k / directions) (direction_of (k % directions))

-- The net of all stations and lines.
abbrev pub lattice : (rows columns : ℕ) → LatticeFees → (loss : ℕ) → Model
lattice rows columns fees loss = record {
  stations = rows * columns;
  lines = map (line_at rows columns fees loss) (range_with_len 0 (directions * (rows * columns)));
}

-- The limits of a lattice.
pub record LatticeLimits (rows columns : ℕ) (fees : LatticeFees) (loss : ℕ) : Type 0 where
  pub some : 1 ≤ rows * columns
  pub few : rows * columns ≤ max_stations
  pub east : fees.east ≤ max_fee
  pub south : fees.south ≤ max_fee
  pub west : fees.west ≤ max_fee
  pub north : fees.north ≤ max_fee
  pub lost : loss ≤ max_loss

-- Whether the number of stations is within the limits.
abbrev pub size_fits : (rows columns : ℕ) → Bool
size_fits rows columns = nat_le 1 (rows * columns) && nat_le (rows * columns) max_stations

-- Whether each fee is within its limit.
abbrev pub fees_fit : LatticeFees → Bool
fees_fit fees = nat_le fees.east max_fee && (nat_le fees.south max_fee && (nat_le fees.west max_fee && nat_le fees.north max_fee))

-- `LatticeLimits` as a test.
abbrev pub lattice_fits : (rows columns : ℕ) → LatticeFees → (loss : ℕ) → Bool
lattice_fits rows columns fees loss = size_fits rows columns && (fees_fit fees && nat_le loss max_loss)

-- The refusal of a lattice beyond its limits.
abbrev pub lattice_refusal : (rows columns : ℕ) → LatticeFees → (loss : ℕ) → Option Refusal
lattice_refusal rows columns fees loss = cond (lattice_fits rows columns fees loss) None (Some NetLimit)
