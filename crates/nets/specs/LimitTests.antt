-- That the tests of the limits of a price and of a line are right. Assumes nothing.
use Rattle.std.specs.Prelude.{◌≡◌, ℕ, ◌≤◌, true}
use Rattle.std.proofs.lemmas.Bool.{and_from, and_parts, lt-ltb, ltb-true, le-leb, leb-true}
use Rattle.nets.specs.declared.line.Line.{Line}
use Rattle.nets.specs.Model.{LineLimits, max_fee, max_loss, price_fits, line_fits}

pub price_from_fits : (fee loss : ℕ) → price_fits fee loss ≡ true → (fee ≤ max_fee) × (loss ≤ max_loss)
price_from_fits fee loss e = let a = and_parts _ _ e in (leb-true _ _ a.0, leb-true _ _ a.1)

pub limits_from_fits : (stations : ℕ) (l : Line) → line_fits stations l ≡ true → LineLimits stations l
limits_from_fits stations l e =
    let a = and_parts _ _ e in
    let b = and_parts _ _ a.1 in
    let price = price_from_fits l.fee l.loss b.1 in
    record { from = ltb-true _ _ a.0; to = ltb-true _ _ b.0; fee = price.0; loss = price.1 }

pub fits_from_limits : (stations : ℕ) (l : Line) → LineLimits stations l → line_fits stations l ≡ true
fits_from_limits stations l h =
    and_from _ _ (lt-ltb _ _ h.from) (and_from _ _ (lt-ltb _ _ h.to) (and_from _ _ (le-leb _ _ h.fee) (le-leb _ _ h.loss)))
