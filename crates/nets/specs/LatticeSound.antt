-- That a lattice within its limits is a net within the limits. Assumes nothing.
use Rattle.std.specs.Prelude.{◌≡◌, ℕ, zero, suc, ◌+◌, ◌-◌, ◌*◌, ◌/◌, ◌%◌, ◌<◌, ◌≤◌, map, length, Option, nat_lt}
use Rattle.std.proofs.Common.{div-lt_iff_lt-mul, mod-lt, mul-le-mul_right, add-mul, mul-zero, arith}
use Rattle.std.specs.List.{range_with_len, AllByRecursion}
use Rattle.std.specs.Option.{unwrap_or}
use Rattle.std.proofs.lemmas.List.FromFn.{length-map-range_with_len}
use Rattle.std.proofs.lemmas.Bool.{cond_both, ltb-true}
use Rattle.nets.specs.declared.lattice.directions.LatticeFees.{LatticeFees}
use Rattle.nets.specs.declared.lattice.directions.Direction.{Direction}
use Rattle.nets.specs.declared.lattice.directions.Direction.TheVariants.{East, South, West, North}
use Rattle.nets.specs.Model.{LineLimits, Sound, max_fee}
use Rattle.nets.specs.Lattice.{directions, direction_of, fee_of, station_at, neighbour_at, neighbour, line_at, lattice, LatticeLimits}

-- the station in a row and a column is below the number of stations
inside : (rows columns row column : ℕ) → row < rows → column < columns → station_at columns row column < rows * columns
inside rows columns row column r c =
    let m : (row + 1) * columns ≤ rows * columns = mul-le-mul_right columns (omega arith) in
    omega (arith, add-mul row 1 columns)

columns_some : (rows columns : ℕ) → 1 ≤ rows * columns → 0 < columns
columns_some rows zero h = omega (arith, mul-zero rows)
columns_some rows (suc n) h = omega arith

-- a station's row and column are in the lattice
pub place : (rows columns s : ℕ) → s < rows * columns → (s / columns < rows) × (s % columns < columns)
place rows columns s h = let some : 0 < columns = columns_some rows columns (omega arith) in ((div-lt_iff_lt-mul some).1 h, mod-lt s some)

below : (rows columns row column s : ℕ) (d : Direction) → row < rows → column < columns → s < rows * columns → unwrap_or (neighbour_at rows columns row column d) s < rows * columns
below rows columns row column s East r c h =
    let P : Option ℕ → Type 0 = λ o. unwrap_or o s < rows * columns in
    cond_both (nat_lt (column + 1) columns) _ _ P (λ e. inside rows columns row (column + 1) r (ltb-true _ _ e)) (λ _. h)
below rows columns row column s South r c h =
    let P : Option ℕ → Type 0 = λ o. unwrap_or o s < rows * columns in
    cond_both (nat_lt (row + 1) rows) _ _ P (λ e. inside rows columns (row + 1) column (ltb-true _ _ e) c) (λ _. h)
below rows columns row column s West r c h =
    let P : Option ℕ → Type 0 = λ o. unwrap_or o s < rows * columns in
    cond_both (nat_lt 0 column) _ _ P (λ e. inside rows columns row (column - 1) r (omega arith)) (λ _. h)
below rows columns row column s North r c h =
    let P : Option ℕ → Type 0 = λ o. unwrap_or o s < rows * columns in
    cond_both (nat_lt 0 row) _ _ P (λ e. inside rows columns (row - 1) column (omega arith) c) (λ _. h)

pub neighbour_below : (rows columns s : ℕ) (d : Direction) → s < rows * columns → unwrap_or (neighbour rows columns s d) s < rows * columns
neighbour_below rows columns s d h =
    let p = place rows columns s h in below rows columns (s / columns) (s % columns) s d p.0 p.1 h

fee_limit : (rows columns : ℕ) (fees : LatticeFees) (loss : ℕ) (d : Direction) → LatticeLimits rows columns fees loss → fee_of fees d ≤ max_fee
fee_limit rows columns fees loss East ok = ok.east
fee_limit rows columns fees loss South ok = ok.south
fee_limit rows columns fees loss West ok = ok.west
fee_limit rows columns fees loss North ok = ok.north

lines_limits : (rows columns : ℕ) (fees : LatticeFees) (loss a n : ℕ) → LatticeLimits rows columns fees loss → a + n ≤ directions * (rows * columns) → AllByRecursion (LineLimits (rows * columns)) (map (line_at rows columns fees loss) (range_with_len a n))
lines_limits rows columns fees loss a zero ok h = tt
lines_limits rows columns fees loss a (suc n) ok h =
    let from : a / directions < rows * columns = omega arith in (
      record {
        from = from;
        to = neighbour_below rows columns (a / directions) (direction_of (a % directions)) from;
        fee = fee_limit rows columns fees loss (direction_of (a % directions)) ok;
        loss = ok.lost;
      },
      lines_limits rows columns fees loss (a + 1) n ok (omega arith),
    )

pub length-lattice : (rows columns : ℕ) (fees : LatticeFees) (loss : ℕ) → length (lattice rows columns fees loss).lines ≡ directions * (rows * columns)
length-lattice rows columns fees loss = length-map-range_with_len (line_at rows columns fees loss) 0 (directions * (rows * columns))

pub sound_lattice : (rows columns : ℕ) (fees : LatticeFees) (loss : ℕ) → LatticeLimits rows columns fees loss → Sound (lattice rows columns fees loss)
sound_lattice rows columns fees loss ok = record {
  some = ok.some;
  few = ok.few;
  short = rw (length-lattice rows columns fees loss) (omega (arith, ok.few));
  each = lines_limits rows columns fees loss 0 (directions * (rows * columns)) ok (omega arith);
}
