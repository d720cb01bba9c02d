-- A net and a table of rows as code holds them, by what they mean in a cost kind. Assumes nothing.
use Rattle.std.specs.Prelude.{◌≡◌, ℕ, List, map, length, None, slice_index_or}
use Rattle.nets.specs.Model.{Model}
use Rattle.costs.specs.Kind.{Costs}
use Rattle.costs.specs.declared.kind.CostKind.{Ghosts as Kind}
use Rattle.sheets.specs.declared.row.Row.{Row}
use Rattle.sheets.specs.Graph.{Graph, graph_of}
use Rattle.sheets.specs.Sheet.{Sheet}
use Rattle.sheets.specs.Right.{Right}

-- A row by what its cost means.
abbrev pub read_row : {C V : Type 0} → (C → V) → Row C → Row V
read_row value r = record { cost = value r.cost; via = r.via }

-- What stands past the end of a table.
abbrev pub blank_row : {V : Type 0} → Costs V → Row V
blank_row K = record { cost = K.none; via = None }

module _ {K C V : Type 0} (kind : Kind K C V) where
  -- The graph that a net is in the kind.
  abbrev pub graph : Model → Graph V
  graph m = graph_of kind.ops m

  -- The sheet that a table is in the kind.
  abbrev pub sheet : List (Row C) → Sheet V
  sheet rows v = slice_index_or (map (read_row kind.value) rows) v (blank_row kind.ops)

-- A table is a right sheet for a net and a gateway: it has one row for each station, and they are right.
pub record RightSheet {K C V : Type 0} (kind : Kind K C V) (m : Model) (g : ℕ) (rows : List (Row C)) : Type 0 where
  pub size : length rows ≡ m.stations
  pub right : Right kind.ops (graph kind m) g (sheet kind rows)
