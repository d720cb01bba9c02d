-- A net as a cost kind sees it: a directed graph whose edges have one cost each. Assumes nothing.
use Rattle.std.specs.Prelude.{ℕ, length, slice_index_or}
use Rattle.nets.specs.declared.line.Line.{Line}
use Rattle.nets.specs.Model.{Model}
use Rattle.nets.specs.Listed.{blank_line}
use Rattle.costs.specs.Kind.{Costs}
use Rattle.costs.specs.LineCost.{line_cost}

-- A line with its cost: an edge.
pub record Edge (V : Type 0) : Type 0 where
  pub from : ℕ
  pub to : ℕ
  pub cost : V

-- So many stations and so many lines. There is a line k just where k is below the count of lines.
pub record Graph (V : Type 0) : Type 0 where
  pub stations : ℕ
  pub lines : ℕ
  pub line : ℕ → Edge V

-- A line by its ends and what it costs.
abbrev pub edge_of : {V : Type 0} → Costs V → Line → Edge V
edge_of K l = record { from = l.from; to = l.to; cost = line_cost K l }

-- What a net is to a cost kind.
abbrev pub graph_of : {V : Type 0} → Costs V → Model → Graph V
graph_of K m = record {
  stations = m.stations;
  lines = length m.lines;
  line = λ k. edge_of K (slice_index_or m.lines k blank_line);
}
