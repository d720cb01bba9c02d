-- What an admitted call on a sheet was given, as the graph and the sheet that its cost kind sees. Assumes nothing.
use Rattle.nets.specs.declared.net.Net.{Ghosts as Net}
use Rattle.costs.specs.declared.kind.CostKind.{Ghosts as Kind}
use Rattle.sheets.specs.declared.admitted.Admitted.{Admitted}
use Rattle.sheets.specs.Graph.{Graph}
use Rattle.sheets.specs.Sheet.{Sheet}
use Rattle.sheets.specs.Tables.{graph, sheet}

module _ {N K C V : Type 0} {net : Net N} {kind : Kind K C V} where
  -- The graph that its net is in the kind.
  abbrev pub given_graph : Admitted N K C V net kind → Graph V
  given_graph a = graph kind (net.meant a.net.now)

  -- The sheet that its table is in the kind.
  abbrev pub given_sheet : Admitted N K C V net kind → Sheet V
  given_sheet a = sheet kind a.rows.now
