-- What makes a sheet right for a net and a gateway. Assumes nothing.
use Rattle.std.specs.Prelude.{◌≡◌, ℕ, ◌<◌, List, Some, None, ◌≢◌}
use Rattle.costs.specs.Kind.{Costs}
use Rattle.sheets.specs.Graph.{Graph}
use Rattle.sheets.specs.Routes.{LeastCost}
use Rattle.sheets.specs.Sheet.{Sheet, Shows}

-- Line k leads into v, and the cost of its from station joined with the line's cost is the cost of v.
pub record Fits {V : Type 0} (K : Costs V) (G : Graph V) (s : Sheet V) (v k : ℕ) : Type 0 where
  pub counts : k < G.lines
  pub into : (G.line k).to ≡ v
  pub adds_up : K.join (s (G.line k).from).cost (G.line k).cost ≡ (s v).cost

pub record Right {V : Type 0} (K : Costs V) (G : Graph V) (g : ℕ) (s : Sheet V) : Type 0 where
  -- the gateway is a station
  pub station : g < G.stations
  -- each cost is the least over all routes to its station, or none if there is no route
  pub costs : (v : ℕ) → v < G.stations → LeastCost K G g v (s v).cost
  -- the gateway and stations of cost none have no via
  pub gateway : (s g).via ≡ None
  pub cut_off : (v : ℕ) → v < G.stations → (s v).cost ≡ K.none → (s v).via ≡ None
  -- every other station has a via that fits
  pub vias : (v : ℕ) → v < G.stations → (v ≢ g) → ((s v).cost ≢ K.none) → (k : ℕ) × ((s v).via ≡ Some k) × Fits K G s v k
  -- and following vias back from a station with a cost reaches the gateway
  pub shown : (v : ℕ) → v < G.stations → ((s v).cost ≢ K.none) → (ks : List ℕ) × Shows K G g s v ks
