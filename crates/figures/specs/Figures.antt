-- The worked figures, and that the definitions give them: the statement. Assumes nothing.
use Rattle.std.specs.Prelude.{◌≡◌, Ok}
use Rattle.std.specs.List.{AllByRecursion}
use Rattle.books.specs.Book.{reading, book_of}
use Rattle.figures.specs.FiveLines.{five_lines, five_line_book}
use Rattle.figures.specs.Costs.{sum_figures, SumGiven, NoWidthOfLosses}
use Rattle.figures.specs.Sheets.{check_figures, CheckGiven}
use Rattle.figures.specs.Numbers.{number_figures, NumberGiven}

pub record Figures : Type 0 where
  -- each run of bytes in the table is read as it says
  pub numbers : AllByRecursion NumberGiven number_figures
  -- the example's book reads as its net, into a table with room for just its lines, and is that net's book
  pub read : reading 5 five_line_book ≡ Ok five_lines
  pub written : book_of five_lines ≡ five_line_book

-- The worked figures of costs and of sheets.
pub record SheetFigures : Type 0 where
  -- each sum of fees in the table is as it says
  pub sums : AllByRecursion SumGiven sum_figures
  pub no_width_of_losses : NoWidthOfLosses
  -- the check answers for each sheet in the table as it says
  pub checks : AllByRecursion CheckGiven check_figures
