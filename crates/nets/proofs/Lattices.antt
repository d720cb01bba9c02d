-- A lattice's line put together, and that the test of a lattice's limits is right. Assumes nothing.
use Rattle.std.proofs.Common.{◌≡◌, ℕ, ◌*◌, ◌<◌, Bool, true, is_some, Option, unwrap_or, arith}
use Rattle.std.proofs.lemmas.Bool.{and_from, and_parts, le-leb, leb-true}
use Rattle.nets.specs.declared.lattice.directions.LatticeFees.{LatticeFees}
use Rattle.nets.specs.declared.lattice.directions.Direction.{Direction}
use Rattle.nets.specs.Model.{LineLimits, Sound}
use Rattle.nets.specs.Lattice.{directions, fee_of, neighbour, lattice_line, line_at, lattice, lattice_fits}
use Rattle.nets.specs.LatticeSound.{sound_lattice}
use Rattle.nets.proofs.SliceGet.{All-slice_get, slice_get-counted}

-- a line by the answers to the questions that make it
pub line_made : (rows columns : ℕ) (fees : LatticeFees) (loss s : ℕ) (d c : Direction) (beside : Option ℕ) (to fee : ℕ) (b : Bool) → c ≡ d → beside ≡ neighbour rows columns s c → to ≡ unwrap_or beside s → fee ≡ fee_of fees c → b ≡ is_some beside → record { from = s; to = to; fee = fee; loss = loss; «open» = b } ≡ lattice_line rows columns fees loss s d
line_made rows columns fees loss s d c beside to fee b same is to_is fee-is open_is = rw (to_is, fee-is, open_is, is, same)

pub sound_from_fits : (rows columns : ℕ) (fees : LatticeFees) (loss : ℕ) → lattice_fits rows columns fees loss ≡ true → Sound (lattice rows columns fees loss)
sound_from_fits rows columns fees loss e =
    let a = and_parts _ _ e in
    let size = and_parts _ _ a.0 in
    let b = and_parts _ _ a.1 in
    let east = and_parts _ _ b.0 in
    let south = and_parts _ _ east.1 in
    let west = and_parts _ _ south.1 in
    sound_lattice rows columns fees loss (record {
      some = leb-true _ _ size.0;
      few = leb-true _ _ size.1;
      east = leb-true _ _ east.0;
      south = leb-true _ _ south.0;
      west = leb-true _ _ west.0;
      north = leb-true _ _ west.1;
      lost = leb-true _ _ b.1;
    })

-- each direction's line from station 0 is within the limits, and so is its fee
line_from_sound : (rows columns : ℕ) (fees : LatticeFees) (loss d : ℕ) → Sound (lattice rows columns fees loss) → d < directions → LineLimits (rows * columns) (line_at rows columns fees loss d)
line_from_sound rows columns fees loss d s h =
    let inside : d < directions * (rows * columns) = omega (arith, s.some) in
    All-slice_get (LineLimits (rows * columns)) (lattice rows columns fees loss).lines d _ s.each (slice_get-counted (line_at rows columns fees loss) (directions * (rows * columns)) d inside)

pub fits_from_sound : (rows columns : ℕ) (fees : LatticeFees) (loss : ℕ) → Sound (lattice rows columns fees loss) → lattice_fits rows columns fees loss ≡ true
fits_from_sound rows columns fees loss s =
    let line : (d : ℕ) → d < directions → LineLimits (rows * columns) (line_at rows columns fees loss d) = λ d h. line_from_sound rows columns fees loss d s h in
    and_from _ _ (and_from _ _ (le-leb _ _ s.some) (le-leb _ _ s.few))
    (and_from _ _
    (and_from _ _ (le-leb _ _ (line 0 (omega arith)).fee) (and_from _ _ (le-leb _ _ (line 1 (omega arith)).fee) (and_from _ _ (le-leb _ _ (line 2 (omega arith)).fee) (le-leb _ _ (line 3 (omega arith)).fee))))
    (le-leb _ _ (line 0 (omega arith)).loss))
