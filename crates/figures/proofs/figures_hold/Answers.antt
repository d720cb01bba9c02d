-- The check does not find this alone.
use Rattle.figures.proofs.Given.{figures, sheet_figures}
use Rattle.figures.proofs.figures_hold.Goals as goal

pub returns : goal.returns
returns c = record { books = figures; sheets = sheet_figures }
