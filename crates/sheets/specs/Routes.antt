-- Routes, and what they cost. Assumes nothing.
use Rattle.std.specs.Prelude.{◌≡◌, ℕ, ◌<◌, ◌⊎◌, List, [], ◌∷◌}
use Rattle.costs.specs.Kind.{Costs, AtMost}
use Rattle.sheets.specs.Graph.{Graph}

-- The lines ks lead from station u to station v: the first starts at u, each other where the one before it ends, and the last ends at v.
-- Stations may repeat. No lines at all lead from a station to itself.
abbrev pub Leads : {V : Type 0} → Graph V → ℕ → List ℕ → ℕ → Type 0
Leads G u [] v = u ≡ v
Leads G u (k ∷ ks) v = (k < G.lines) × ((G.line k).from ≡ u) × Leads G (G.line k).to ks v

-- A cost joined with the costs of the lines ks, one after another.
abbrev pub joined : {V : Type 0} → Costs V → Graph V → V → List ℕ → V
joined K G c [] = c
joined K G c (k ∷ ks) = joined K G (K.join c (G.line k).cost) ks

-- The lines ks cost start joined with their costs.
abbrev pub route_cost : {V : Type 0} → Costs V → Graph V → List ℕ → V
route_cost K G ks = joined K G K.start ks

-- The lines ks are a route from the gateway g to v: they lead there, and at a cost. What costs none counts as no route.
pub record Route {V : Type 0} (K : Costs V) (G : Graph V) (g v : ℕ) (ks : List ℕ) : Type 0 where
  pub leads : Leads G g ks v
  pub some : route_cost K G ks ≡ K.none → ⊥

-- Some route from g to v costs c, and none costs less.
pub record LeastRoute {V : Type 0} (K : Costs V) (G : Graph V) (g v : ℕ) (c : V) : Type 0 where
  pub lines : List ℕ
  pub route : Route K G g v lines
  pub costs : route_cost K G lines ≡ c
  pub least : (ks : List ℕ) → Route K G g v ks → AtMost K c (route_cost K G ks)

-- There is no route from g to v, and c is none.
pub record NoRoute {V : Type 0} (K : Costs V) (G : Graph V) (g v : ℕ) (c : V) : Type 0 where
  pub costs : c ≡ K.none
  pub none : (ks : List ℕ) → Route K G g v ks → ⊥

-- c is the least cost over all routes from g to v, or none if there is no route.
abbrev pub LeastCost : {V : Type 0} → Costs V → Graph V → ℕ → ℕ → V → Type 0
LeastCost K G g v c = LeastRoute K G g v c ⊎ NoRoute K G g v c
