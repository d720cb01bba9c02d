-- The verdict of the check, worked out from the rows line by line and station by station. That it is yes exactly for a right sheet is a
-- theorem, stated in Check (`Tells`). Assumes nothing.
use Rattle.std.specs.Prelude.{ℕ, zero, suc, Bool, false, cond, not, ◌&&◌, ◌||◌, Some, None, Option, ◌==◌, nat_lt}
use Rattle.std.specs.List.{list_all, range_with_len}
use Rattle.costs.specs.Kind.{Costs}
use Rattle.sheets.specs.Graph.{Edge, Graph}
use Rattle.sheets.specs.Sheet.{Sheet}

-- p holds of every number below n.
unfoldable pub all_below : (ℕ → Bool) → ℕ → Bool
all_below p n = list_all p (range_with_len 0 n)

-- Two costs are the same: each is at most the other.
abbrev pub same_cost : {V : Type 0} → Costs V → V → V → Bool
same_cost K a b = K.at_most a b && K.at_most b a

-- A cost is none: none is at most it.
abbrev pub is_none : {V : Type 0} → Costs V → V → Bool
is_none K a = K.at_most K.none a

-- The request of a line: the cost of its from station joined with its own.
abbrev pub request : {V : Type 0} → Costs V → Sheet V → Edge V → V
request K s e = K.join (s e.from).cost e.cost

-- A line is relaxed: its request is not below the cost of its to station.
abbrev pub relaxed : {V : Type 0} → Costs V → Sheet V → Edge V → Bool
relaxed K s e = K.at_most (s e.to).cost (request K s e)

-- A line is tight into v: it leads there, and its request is v's cost.
abbrev pub tight_into : {V : Type 0} → Costs V → Sheet V → ℕ → Edge V → Bool
tight_into K s v e = e.to == v && same_cost K (request K s e) (s v).cost

-- There is a line k, and it is tight into v.
abbrev pub fits : {V : Type 0} → Costs V → Graph V → Sheet V → ℕ → ℕ → Bool
fits K G s v k = nat_lt k G.lines && tight_into K s v (G.line k)

-- The station from which a via comes, if that is a line.
abbrev pub before : {V : Type 0} → Graph V → Option ℕ → Option ℕ
before G None = None
before G (Some k) = cond (nat_lt k G.lines) (Some (G.line k).from) None

-- p holds of what is there.
abbrev pub holds_of : (ℕ → Bool) → Option ℕ → Bool
holds_of p None = false
holds_of p (Some u) = p u

-- The gateway is among the first n stations that are met from v on, following vias back.
unfoldable pub leads_back : {V : Type 0} → Graph V → Sheet V → ℕ → ℕ → ℕ → Bool
leads_back G s g zero v = false
leads_back G s g (suc n) v = v == g || holds_of (leads_back G s g n) (before G (s v).via)

-- What is asked of v's row, by its via. Without one, the gateway costs start, and every other station none. With one, v is not the gateway,
-- it has a cost, the via fits, and it leads back within as many stations as there are.
abbrev pub row_holds : {V : Type 0} → Costs V → Graph V → ℕ → Sheet V → ℕ → Option ℕ → Bool
row_holds K G g s v None = cond (v == g) (same_cost K (s v).cost K.start) (is_none K (s v).cost)
row_holds K G g s v (Some k) =
    ((not (v == g) && not (is_none K (s v).cost)) && fits K G s v k) && leads_back G s g G.stations v

-- The row of station v holds.
abbrev pub station_holds : {V : Type 0} → Costs V → Graph V → ℕ → Sheet V → ℕ → Bool
station_holds K G g s v = row_holds K G g s v (s v).via

-- Every line is relaxed.
abbrev pub lines_hold : {V : Type 0} → Costs V → Graph V → Sheet V → Bool
lines_hold K G s = all_below (λ k. relaxed K s (G.line k)) G.lines

-- Every station's row holds.
abbrev pub stations_hold : {V : Type 0} → Costs V → Graph V → ℕ → Sheet V → Bool
stations_hold K G g s = all_below (station_holds K G g s) G.stations

-- Every line is relaxed, and every station's row holds.
abbrev pub verdict : {V : Type 0} → Costs V → Graph V → ℕ → Sheet V → Bool
verdict K G g s = lines_hold K G s && stations_hold K G g s
