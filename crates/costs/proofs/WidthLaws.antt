-- The laws of levels of one width. Assumes nothing.
use Rattle.std.proofs.Common.{◌≡◌, ℕ, ◌+◌, ◌/◌, ◌<◌, ◌≤◌, ⊎_elim, le_trans, div-mul-le_self, arith}
use Rattle.std.proofs.Math.Nat.{add-div_right}
use Rattle.std.proofs.lemmas.Nat.{le-div}
use Rattle.std.proofs.lemmas.Bool.{leb-true, ltb-true, cases_lt}
use Rattle.costs.specs.Largest.{largest}
use Rattle.costs.specs.Amounts.{fees}
use Rattle.costs.specs.Bands.{BandLaws, width_bands}
use Rattle.costs.specs.AmountLaws.{same_amount}

div_monotone : (a b d : ℕ) → 0 < d → a ≤ b → a / d ≤ b / d
div_monotone a b d some h = le-div (a / d) b d some (le_trans (div-mul-le_self a d) h)

div_raised : (a w d : ℕ) → 0 < d → d < w → a / d < (a + w) / d
div_raised a w d some h = let m = div_monotone (a + d) (a + w) d some (omega arith) in omega (arith, add-div_right a {k = d} some)

pub width_laws : (d : ℕ) → 0 < d → BandLaws fees (width_bands d)
width_laws d some = record {
  monotone = λ a b le _ _. div_monotone a.number b.number d some (leb-true a.number b.number le);
  heavy_raises = λ a w heavy not_None.
      let above = ltb-true d w.number heavy in
      ⊎_elim
      (λ small. let e : (fees.join a w).number ≡ a.number + w.number = omega arith in rw e (div_raised a.number w.number d some above))
      (λ large. absurd (not_None (same_amount _ _ (omega arith))))
      (cases_lt (a.number + w.number) largest);
}
