-- The laws of fees and of losses. Assumes nothing.
use Rattle.std.specs.Prelude.{◌≡◌, ℕ, ◌≤◌, max}
use Rattle.std.proofs.Common.{ap, arith}
use mathlib.Core.HLevel.{is_prop→PathP}
use Rattle.std.proofs.Math.Bridge.{le_prop}
use Rattle.std.proofs.lemmas.Bool.{leb-true, le-leb}
use Rattle.std.proofs.lemmas.Bool.Decides.{nat_tests}
use Rattle.costs.specs.declared.amount.Amount.{Amount}
use Rattle.costs.specs.Largest.{largest}
use Rattle.costs.specs.Kind.{Laws}
use Rattle.costs.specs.Amounts.{amounts, fees, losses}

-- two amounts are the same where their numbers are
pub same_amount : (a b : Amount) → a.number ≡ b.number → a ≡ b
same_amount a b e = λ i. record { number = e i; fits = is_prop→PathP (λ i. e i ≤ largest) (λ i. le_prop) a.fits b.fits i }

-- Of amounts in their order, whatever the join and the price, these laws of the join are left to show.
module _ (join : Amount → Amount → Amount) (price : ℕ → ℕ → Amount) where
  pub amount_laws :
      ((a b c : Amount) → (join (join a b) c).number ≡ (join a (join b c)).number)
      → ((a b : Amount) → (join a b).number ≡ (join b a).number)
      → ((a : Amount) → (join (amounts join price).start a).number ≡ a.number)
      → ((a : Amount) → (join (amounts join price).none a).number ≡ largest)
      → ((a b c : Amount) → a.number ≤ b.number → (join a c).number ≤ (join b c).number)
      → ((a c : Amount) → a.number ≤ (join a c).number)
      → Laws (amounts join price)
  amount_laws assoc comm start_join none_join monotone grows = record {
    total = λ a b. grind (arith, nat_tests);
    antisym = λ a b p q. same_amount a b (omega (arith, leb-true a.number b.number p, leb-true b.number a.number q));
    trans = λ a b c p q. le-leb _ _ (omega (arith, leb-true a.number b.number p, leb-true b.number c.number q));
    assoc = λ a b c. same_amount _ _ (assoc a b c);
    comm = λ a b. same_amount _ _ (comm a b);
    start_join = λ a. same_amount _ _ (start_join a);
    none_join = λ a. same_amount _ _ (none_join a);
    monotone = λ a b c p. le-leb _ _ (monotone a b c (leb-true a.number b.number p));
    grows = λ a c. le-leb _ _ (grows a c);
    none_greatest = λ a. le-leb _ _ (omega arith);
    start_not_none = λ e. let z = ap (λ (x : Amount). x.number) e in omega arith;
  }

pub fee_laws : Laws fees
fee_laws = amount_laws fees.join fees.of_price (λ a b c. omega arith) (λ a b. omega arith) (λ a. omega arith) (λ a. omega arith) (λ a b c h. omega arith) (λ a c. omega arith)

-- the greater of two amounts is not past the largest
greater : (a b : Amount) → (losses.join a b).number ≡ max a.number b.number
greater a b = omega arith

loss_assoc : (a b c : Amount) → (losses.join (losses.join a b) c).number ≡ (losses.join a (losses.join b c)).number
loss_assoc a b c = rw (greater (losses.join a b) c, greater a b, greater a (losses.join b c), greater b c) (omega arith)

pub loss_laws : Laws losses
loss_laws = amount_laws losses.join losses.of_price loss_assoc (λ a b. omega arith) (λ a. omega arith) (λ a. omega arith) (λ a b c h. omega arith) (λ a c. omega arith)
