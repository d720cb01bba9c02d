-- Routes one line longer, and least costs by what leads to a station. Assumes nothing.
use Rattle.std.proofs.Common.{◌≡◌, ℕ, ◌<◌, List, [], ◌∷◌, ◌++◌, sym, refl, ◌∙◌, inl, inr, ⊎_elim}
use Rattle.costs.specs.Kind.{Costs, Laws, AtMost}
use Rattle.costs.proofs.Order
use Rattle.sheets.specs.Graph.{Graph}
use Rattle.sheets.specs.Routes.{Leads, joined, route_cost, Route, LeastCost}

pub leads_snoc : {V : Type 0} (G : Graph V) (u : ℕ) (ks : List ℕ) (v k : ℕ) → Leads G u ks v → k < G.lines → (G.line k).from ≡ v → Leads G u (ks ++ (k ∷ [])) (G.line k).to
leads_snoc G u [] v k r h e = (h, e ∙ sym r, refl)
leads_snoc G u (j ∷ ks) v k r h e = (r.0, r.1, leads_snoc G (G.line j).to ks v k r.2 h e)

pub joined_snoc : {V : Type 0} (K : Costs V) (G : Graph V) (c : V) (ks : List ℕ) (k : ℕ) → joined K G c (ks ++ (k ∷ [])) ≡ K.join (joined K G c ks) (G.line k).cost
joined_snoc K G c [] k = refl
joined_snoc K G c (j ∷ ks) k = joined_snoc K G (K.join c (G.line j).cost) ks k

module _ {V : Type 0} (K : Costs V) (L : Laws K) (G : Graph V) (g v : ℕ) (c : V) where
  -- the least cost is at most that of whatever leads to v, also where that is none
  pub least_of_all : LeastCost K G g v c → (ks : List ℕ) → Leads G g ks v → AtMost K c (route_cost K G ks)
  least_of_all least ks r =
      ⊎_elim
      (λ e. Order.le_eq K L _ _ _ (L.none_greatest c) (sym e))
      (λ some. let route : Route K G g v ks = record { leads = r; some = some } in ⊎_elim (λ h. h.least ks route) (λ h. absurd (h.none ks route)) least)
      (Order.none_or_some K L (route_cost K G ks))

  -- and if it is not none, something leads to v at that cost
  pub reached : LeastCost K G g v c → (c ≡ K.none → ⊥) → (ks : List ℕ) × Leads G g ks v × (route_cost K G ks ≡ c)
  reached least some = ⊎_elim (λ h. (h.lines, h.route.leads, h.costs)) (λ h. absurd (some h.costs)) least

  pub least_from : ((ks : List ℕ) → Leads G g ks v → AtMost K c (route_cost K G ks)) → ((c ≡ K.none → ⊥) → (ks : List ℕ) × Leads G g ks v × (route_cost K G ks ≡ c)) → LeastCost K G g v c
  least_from least reaches =
      ⊎_elim
      (λ e. inr (record { costs = e; none = λ ks r. r.some (Order.none_top K L _ (Order.eq_le K L _ _ _ (sym e) (least ks r.leads))) }))
      (λ some.
      let r = reaches some in
      inl (record {
        lines = r.0;
        route = record { leads = r.1; some = λ e. some (sym r.2 ∙ e) };
        costs = r.2;
        least = λ ks q. least ks q.leads;
      }))
      (Order.none_or_some K L c)
