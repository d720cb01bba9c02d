-- That a table of records means a net within the limits. Assumes nothing.
use Rattle.std.specs.Prelude.{◌≡◌, ℕ, ◌≤◌, min, List, [], ◌∷◌, map, length, take}
use Rattle.std.proofs.Common.{arith, length-take}
use Rattle.std.proofs.lemmas.List.{length-map}
use Rattle.std.specs.List.{AllByRecursion}
use Rattle.std.proofs.lemmas.Bool.{cond_both}
use Rattle.nets.specs.declared.line.Line.{Line}
use Rattle.nets.specs.Model.{LineLimits, Sound, max_lines, line_fits}
use Rattle.nets.specs.LimitTests.{limits_from_fits}
use Rattle.nets.specs.Listed.{stations_of, blank_line, seen, listed}

pub length-listed : (n : ℕ) (records : List Line) → length (listed n records).lines ≡ min (length records) max_lines
length-listed n records = simp (length-map, length-take) (omega arith)

seen_limits : (n : ℕ) → 1 ≤ n → (l : Line) → LineLimits n (seen n l)
seen_limits n one l =
    cond_both (line_fits n l) l blank_line (LineLimits n) (limits_from_fits n l)
    (λ e. record { from = omega arith; to = omega arith; fee = omega arith; loss = omega arith })

all_limits : (n : ℕ) → 1 ≤ n → (records : List Line) → AllByRecursion (LineLimits n) (map (seen n) records)
all_limits n one [] = tt
all_limits n one (l ∷ ls) = (seen_limits n one l, all_limits n one ls)

pub sound_listed : (n : ℕ) (records : List Line) → Sound (listed n records)
sound_listed n records = record {
  some = omega arith;
  few = omega arith;
  short = rw (length-listed n records) (omega arith);
  each = all_limits (stations_of n) (omega arith) (take max_lines records);
}
