-- Sheets, and the route that a sheet shows for a station. Assumes nothing.
use Rattle.std.specs.Prelude.{◌≡◌, ℕ, ◌<◌, List, [], ◌∷◌, reverse, Some}
use Rattle.costs.specs.Kind.{Costs}
use Rattle.sheets.specs.declared.row.Row.{Row}
use Rattle.sheets.specs.Graph.{Graph}

-- A row for every number: a cost, and where there is one a via. Only the rows of stations count.
abbrev pub Sheet : Type 0 → Type 0
Sheet V = ℕ → Row V

-- Following vias back from v passes the lines ks, in the order in which they are met, and ends at the gateway g.
abbrev pub Back : {V : Type 0} → Graph V → Sheet V → ℕ → ℕ → List ℕ → Type 0
Back G s g v [] = v ≡ g
Back G s g v (k ∷ ks) = ((s v).via ≡ Some k) × (k < G.lines) × Back G s g (G.line k).from ks

-- The lines ks, in the order of travel, are the shown route of v: following vias back from v passes them and reaches the gateway.
-- The gateway's is the empty list, and a station of cost none shows no route.
pub record Shows {V : Type 0} (K : Costs V) (G : Graph V) (g : ℕ) (s : Sheet V) (v : ℕ) (ks : List ℕ) : Type 0 where
  pub some : (s v).cost ≡ K.none → ⊥
  pub back : Back G s g v (reverse ks)
