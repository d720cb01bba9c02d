-- Nets that differ only in the order of their lines. Assumes nothing.
use Rattle.std.specs.Prelude.{◌≡◌}
use Rattle.std.specs.List.Sorted.{IsPermutation}
use Rattle.nets.specs.Model.{Model}

-- As many stations, and the same lines in any order.
pub record SameLines (m n : Model) : Type 0 where
  pub stations : n.stations ≡ m.stations
  pub lines : IsPermutation m.lines n.lines
