-- What a net means, and the limits that every net keeps. Assumes nothing.
use Rattle.std.specs.Prelude.{ℕ, ◌<◌, ◌≤◌, Bool, ◌&&◌, List, length, nat_le, nat_lt}
use Rattle.std.specs.List.{AllByRecursion}
use Rattle.nets.specs.declared.line.Line.{Line}

-- A count of stations and a list of lines, both numbered from 0: the nodes and the edges of a directed multigraph.
pub record Model : Type 0 where
  pub stations : ℕ
  pub lines : List Line

abbrev pub max_stations : ℕ
max_stations = 512

abbrev pub max_lines : ℕ
max_lines = 2048

-- thousandths of a cent for a gigabyte
abbrev pub max_fee : ℕ
max_fee = 16777215

-- packets lost of a hundred thousand
abbrev pub max_loss : ℕ
max_loss = 65535

-- The limits of a line in a net of so many stations.
pub record LineLimits (stations : ℕ) (l : Line) : Type 0 where
  pub from : l.from < stations
  pub to : l.to < stations
  pub fee : l.fee ≤ max_fee
  pub loss : l.loss ≤ max_loss

-- The limits of a net.
pub record Sound (m : Model) : Type 0 where
  pub some : 1 ≤ m.stations
  pub few : m.stations ≤ max_stations
  pub short : length m.lines ≤ max_lines
  pub each : AllByRecursion (LineLimits m.stations) m.lines

-- A fee and a loss within their limits, as a test.
abbrev pub price_fits : ℕ → ℕ → Bool
price_fits fee loss = nat_le fee max_fee && nat_le loss max_loss

-- `LineLimits` as a test.
abbrev pub line_fits : ℕ → Line → Bool
line_fits stations l = nat_lt l.from stations && (nat_lt l.to stations && price_fits l.fee l.loss)
