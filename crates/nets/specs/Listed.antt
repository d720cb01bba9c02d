-- What a count of stations and a table of records mean, and when they are a net as given. Assumes nothing.
use Rattle.std.specs.Prelude.{ℕ, min, max, Bool, false, cond, ◌&&◌, List, map, length, take, Ok, Err, Result, nat_le}
use Rattle.std.specs.List.{list_all}
use Rattle.nets.specs.declared.line.Line.{Line}
use Rattle.nets.specs.declared.refusal.Refusal.{Refusal}
use Rattle.nets.specs.declared.refusal.Refusal.TheVariants.{NetLimit}
use Rattle.nets.specs.Model.{Model, max_stations, max_lines, line_fits}

-- A count of stations reads as the nearest within the limits.
abbrev pub stations_of : ℕ → ℕ
stations_of n = min (max n 1) max_stations

-- A shut line from station 0 to station 0, of no fee and no loss.
abbrev pub blank_line : Line
blank_line = record { from = 0; to = 0; fee = 0; loss = 0; «open» = false }

-- A record beyond the limits of a line reads as the blank line.
abbrev pub seen : ℕ → Line → Line
seen stations l = cond (line_fits stations l) l blank_line

-- What so many stations and these records mean: records past the limit of lines are not read.
abbrev pub listed : ℕ → List Line → Model
listed n records = record { stations = stations_of n; lines = map (seen (stations_of n)) (take max_lines records) }

-- The stations and the records as they were given, whether within the limits or not.
abbrev pub as_given : ℕ → List Line → Model
as_given n records = record { stations = n; lines = records }

-- Whether each record is within the limits of a line.
abbrev pub all_fit : ℕ → List Line → Bool
all_fit stations = list_all (line_fits stations)

-- Whether the stations and the records as given are within the limits of a net.
abbrev pub net_fits : ℕ → List Line → Bool
net_fits n records = nat_le 1 n && (nat_le n max_stations && (nat_le (length records) max_lines && all_fit n records))

-- What the judging of stations and records answers.
abbrev pub judged : ℕ → List Line → Result (Unit {0}) Refusal
judged n records = cond (net_fits n records) (Ok tt) (Err NetLimit)
