-- That the definitions give the worked figures. Assumes nothing.
use Rattle.std.proofs.Common.{◌≡◌, ◌+◌, ◌/◌, ◌<◌, refl, ap, arith}
use Rattle.std.proofs.lemmas.Bool.{lt-ltb}
use Rattle.books.specs.Book.{head_at, reading, book_of}
use Rattle.books.specs.Number.{encoding}
use Rattle.books.specs.Records.{fields_at, record_at}
use Rattle.costs.specs.declared.amount.Amount.{Amount}
use Rattle.costs.specs.Amounts.{amount, losses}
use Rattle.sheets.specs.Verdict.{all_below, leads_back}
use Rattle.figures.specs.Costs.{NoWidthOfLosses}
use Rattle.figures.specs.Figures.{Figures, SheetFigures}

-- the level of d + 1 would be below itself
no_width_of_losses : NoWidthOfLosses
no_width_of_losses d few laws =
    let a = amount (d + 1) in
    let same : (losses.join a a).number ≡ a.number = omega arith in
    let raised = laws.heavy_raises a a (lt-ltb d a.number (omega arith)) (λ e. let z = ap (λ (x : Amount). x.number) e in omega arith) in
    let itself : a.number / d < a.number / d = rw same at raised in
    omega arith

pub figures : Figures
unfolding encoding fields_at record_at head_at reading book_of
figures = record { numbers = (refl, (refl, (refl, (refl, tt)))); read = refl; written = refl }

pub sheet_figures : SheetFigures
unfolding all_below leads_back
sheet_figures = record {
  sums = (refl, (refl, tt));
  no_width_of_losses = no_width_of_losses;
  checks = (refl, (refl, tt));
}
