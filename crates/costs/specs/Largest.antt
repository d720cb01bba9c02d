-- The largest number of a fee or a loss as a cost, which means none. Assumes nothing.
use Rattle.std.specs.Prelude.{ℕ}

abbrev pub largest : ℕ
largest = 4294967295
