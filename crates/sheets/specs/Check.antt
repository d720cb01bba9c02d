-- What the check answers, and what its answer tells. Assumes nothing.
use Rattle.std.specs.Prelude.{◌≡◌, ℕ, ◌<◌, Bool, true, cond, List, length, Ok, Err, Result, ◌==◌, nat_lt}
use Rattle.nets.specs.declared.refusal.Refusal.{Refusal}
use Rattle.nets.specs.declared.refusal.Refusal.TheVariants.{NoSuchGateway, TableLength}
use Rattle.nets.specs.Model.{Model}
use Rattle.costs.specs.declared.kind.CostKind.{Ghosts as Kind}
use Rattle.sheets.specs.declared.row.Row.{Row}
use Rattle.sheets.specs.Routes.{Route, route_cost}
use Rattle.sheets.specs.Sheet.{Shows}
use Rattle.sheets.specs.Tables.{graph, sheet, RightSheet}
use Rattle.sheets.specs.SameLines.{SameLines}
use Rattle.sheets.specs.Verdict.{verdict}

-- A call on a sheet is refused first where the gateway is not a station, then where the table has not one row for each station.
abbrev pub admitted : Model → (gateway size : ℕ) → Result (Unit {0}) Refusal
admitted m g size =
    cond (nat_lt g m.stations) (cond (size == m.stations) (Ok tt) (Err TableLength)) (Err NoSuchGateway)

-- The answer of a call, where it is admitted.
abbrev pub answered : {A : Type 0} → Result (Unit {0}) Refusal → A → Result A Refusal
answered (Ok x) a = Ok a
answered (Err e) a = Err e

-- What the check answers: a refusal, or the verdict.
abbrev pub checked : {K C V : Type 0} → Kind K C V → Model → ℕ → List (Row C) → Result Bool Refusal
checked kind m g rows = answered (admitted m g (length rows)) (verdict kind.ops (graph kind m) g (sheet kind rows))

-- What the answer r of the check tells of a table.
pub record Tells {K C V : Type 0} (kind : Kind K C V) (m : Model) (g : ℕ) (rows : List (Row C)) (r : Result Bool Refusal) : Type 0 where
  -- it is yes exactly for a right sheet
  pub sound : r ≡ Ok true → RightSheet kind m g rows
  pub complete : RightSheet kind m g rows → r ≡ Ok true
  -- after a yes, the shown route of each station is a route to it, at the cost that its row has,
  pub shown : r ≡ Ok true
      → (v : ℕ) (ks : List ℕ) → v < m.stations → Shows kind.ops (graph kind m) g (sheet kind rows) v ks
      → Route kind.ops (graph kind m) g v ks × (route_cost kind.ops (graph kind m) ks ≡ (sheet kind rows v).cost)
  -- the sheet is right for no other gateway,
  pub only : r ≡ Ok true → (h : ℕ) → RightSheet kind m h rows → h ≡ g
  -- and it shares every station's cost with every right sheet, from that gateway, of a net with as many stations and the same lines in any order
  pub agrees : r ≡ Ok true
      → (n : Model) → SameLines m n → (others : List (Row C)) → RightSheet kind n g others
      → (v : ℕ) → v < m.stations → (sheet kind rows v).cost ≡ (sheet kind others v).cost
