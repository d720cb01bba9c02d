-- Worked sums of fees, and why losses have no levels of one width. Assumes nothing.
use Rattle.std.specs.Prelude.{◌≡◌, ℕ, ◌+◌, ◌<◌, cond, List, [], ◌∷◌, Some, None, Option}
use Rattle.costs.specs.declared.amount.Amount.{Amount}
use Rattle.costs.specs.Largest.{largest}
use Rattle.costs.specs.Amounts.{amount, fees, losses}
use Rattle.costs.specs.Bands.{BandLaws, width_bands}

-- The number of a fee cost, or nothing where it is none.
abbrev pub number_of : Amount → Option ℕ
number_of a = cond (fees.at_most fees.none a) None (Some a.number)

pub record SumFigure : Type 0 where
  pub left : ℕ
  pub right : ℕ
  pub gives : Option ℕ

abbrev pub sum_figures : List SumFigure
sum_figures =
    record { left = 4294967040; right = 254; gives = Some 4294967294 }
    ∷ record { left = 4294967040; right = 255; gives = None }
    ∷ []

abbrev pub SumGiven : SumFigure → Type 0
SumGiven f = number_of (fees.join (amount f.left) (amount f.right)) ≡ f.gives

-- Levels of one width are no banding of losses. At width 5, 6 is heavy, and 7 joined with 6 is 7, at its own level; and so at every width d
-- above which there is a loss but none.
abbrev pub NoWidthOfLosses : Type 0
NoWidthOfLosses = (d : ℕ) → d + 1 < largest → BandLaws losses (width_bands d) → ⊥
