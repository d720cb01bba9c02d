-- Fees and losses as costs: whole numbers up to the largest. Assumes nothing.
use Rattle.std.specs.Prelude.{ℕ, ◌+◌, ◌≤◌, min, max, nat_le}
use Rattle.std.proofs.Common.{arith}
use Rattle.costs.specs.declared.amount.Amount.{Amount}
use Rattle.costs.specs.Largest.{largest}
use Rattle.costs.specs.Kind.{Costs}

-- The one proof that a number so cut off fits. It stays shut, so that no goal shows it and equal amounts are equal by computation.
pub amount_fits : (n : ℕ) → min n largest ≤ largest
amount_fits n = omega arith

-- The amount of a number, which is the largest from there on.
abbrev pub amount : ℕ → Amount
amount n = record { number = min n largest; fits = amount_fits n }

-- Amounts in the order of their numbers, from 0 as start to the largest as none, with a join, and a cost of a fee and a loss, of their own.
abbrev pub amounts : (Amount → Amount → Amount) → (ℕ → ℕ → Amount) → Costs Amount
amounts join of_price = record {
  start = amount 0;
  none = amount largest;
  at_most = λ a b. nat_le a.number b.number;
  join = join;
  of_price = of_price;
}

-- Fees cost the fee and add; a sum from the largest on is none.
abbrev pub fees : Costs Amount
fees = amounts (λ a b. amount (a.number + b.number)) (λ fee loss. amount fee)

-- Losses cost the loss and join to the greater.
abbrev pub losses : Costs Amount
losses = amounts (λ a b. amount (max a.number b.number)) (λ fee loss. amount loss)
