-- In the graph of a net each line leads from a station to a station. Assumes nothing.
use Rattle.std.proofs.Common.{ℕ, ◌<◌, length, get_or}
use Rattle.std.proofs.lemmas.Option.{slice_get-get_or}
use Rattle.nets.specs.Model.{Model, LineLimits, Sound}
use Rattle.nets.specs.Listed.{blank_line}
use Rattle.nets.proofs.SliceGet.{All-slice_get}
use Rattle.costs.specs.Kind.{Costs}
use Rattle.sheets.specs.Graph.{Graph, graph_of}

pub record Within {V : Type 0} (G : Graph V) : Type 0 where
  pub from : (k : ℕ) → k < G.lines → (G.line k).from < G.stations
  pub to : (k : ℕ) → k < G.lines → (G.line k).to < G.stations

pub within : {V : Type 0} (K : Costs V) (m : Model) → Sound m → Within (graph_of K m)
within K m sound =
    let limits : (k : ℕ) → k < length m.lines → LineLimits m.stations (get_or m.lines k blank_line) =
    λ k h. All-slice_get (LineLimits m.stations) m.lines k _ sound.each (slice_get-get_or m.lines k blank_line h) in
    record { from = λ k h. (limits k h).from; to = λ k h. (limits k h).to }
