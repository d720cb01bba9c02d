-- A right sheet is right for one gateway only, shows routes at the costs of its rows, and shares every cost with the right sheets of nets with the same
-- lines. Assumes nothing.
use Rattle.std.proofs.Common.{◌≡◌, ℕ, ◌<◌, List, [], ◌∷◌, reverse, get_or, sym, refl, ap, ◌∙◌, subst, ⊎_elim}
use Rattle.std.proofs.lemmas.List.{reverse-reverse}
use Rattle.std.specs.List.Sorted.{IsPermutation}
use Rattle.std.proofs.ByRecursion.{has_get_or, has_shuffled}
use Rattle.std.proofs.lemmas.List.Sorted.{IsPermutation-sym}
use Rattle.std.proofs.lemmas.Bool.{cases_eq}
use Rattle.nets.specs.Listed.{blank_line}
use Rattle.nets.specs.Model.{Model}
use Rattle.costs.specs.Kind.{Costs, Laws, AtMost}
use Rattle.costs.proofs.Order
use Rattle.sheets.specs.Graph.{Edge, Graph, edge_of, graph_of}
use Rattle.sheets.specs.Routes.{Leads, joined, route_cost, Route}
use Rattle.sheets.specs.Sheet.{Sheet, Shows}
use Rattle.sheets.specs.Right.{Right}
use Rattle.sheets.specs.SameLines.{SameLines}
use Rattle.sheets.proofs.Within.{Within}
use Rattle.sheets.proofs.RouteCosts
use Rattle.sheets.proofs.Consistency.{right_starts, right_is_consistent, back_leads, via_not_gateway}

-- each line of G is some line of H
abbrev Holds : {V : Type 0} → Graph V → Graph V → Type 0
Holds G H = (k : ℕ) → k < G.lines → (j : ℕ) × (j < H.lines) × (H.line j ≡ G.line k)

shuffled_holds : {V : Type 0} (K : Costs V) (m n : Model) → IsPermutation m.lines n.lines → Holds (graph_of K m) (graph_of K n)
shuffled_holds K m n shuffled k h =
    let found = has_shuffled m.lines n.lines (get_or m.lines k blank_line) shuffled (has_get_or m.lines k blank_line h) in
    (found.0, found.1, ap (edge_of K) (found.2 blank_line))

module _ {V : Type 0} (K : Costs V) (L : Laws K) where
  -- what leads to a station in one graph leads there in the other, at the same cost
  carried : (G H : Graph V) → Holds G H → (u v : ℕ) (ks : List ℕ) (c : V) → Leads G u ks v → (js : List ℕ) × Leads H u js v × (joined K H c js ≡ joined K G c ks)
  carried G H holds u v [] c r = ([], r, refl)
  carried G H holds u v (k ∷ ks) c r =
      let j = holds k r.0 in
      let e = j.2 in
      let rest = carried G H holds (G.line k).to v ks (K.join c (G.line k).cost) r.2 in (
        j.0 ∷ rest.0,
        (j.1, ap (λ (x : Edge V). x.from) e ∙ r.1, subst (λ x. Leads H x rest.0 v) (sym (ap (λ (x : Edge V). x.to) e)) rest.1),
        ap (λ (x : Edge V). joined K H (K.join c x.cost) rest.0) e ∙ rest.2,
      )

  no_dearer : (G H : Graph V) → Holds H G → (g : ℕ) (s t : Sheet V) → Right K G g s → Right K H g t → (v : ℕ) → v < G.stations → v < H.stations → AtMost K (s v).cost (t v).cost
  no_dearer G H holds g s t R Q v h i =
      ⊎_elim
      (λ e. Order.le_eq K L _ _ _ (L.none_greatest _) (sym e))
      (λ some.
      let r = RouteCosts.reached K L H g v _ (Q.costs v i) some in
      let q = carried H G holds g v r.0 K.start r.1 in
      Order.le_eq K L _ _ _ (RouteCosts.least_of_all K L G g v _ (R.costs v h) q.0 q.1) (q.2 ∙ r.2))
      (Order.none_or_some K L (t v).cost)

  pub right_sheets_agree : (m n : Model) → SameLines m n → (g : ℕ) (s t : Sheet V) → Right K (graph_of K m) g s → Right K (graph_of K n) g t → (v : ℕ) → v < m.stations → (s v).cost ≡ (t v).cost
  right_sheets_agree m n same g s t R Q v h =
      let G = graph_of K m in
      let H = graph_of K n in
      let i : v < n.stations = subst (λ x. v < x) (sym same.stations) h in
      L.antisym _ _
      (no_dearer G H (shuffled_holds K n m (IsPermutation-sym m.lines n.lines same.lines)) g s t R Q v h i)
      (no_dearer H G (shuffled_holds K m n same.lines) g t s Q R v i h)

  module _ (G : Graph V) (W : Within G) (s : Sheet V) where
    pub one_gateway : (g h : ℕ) → Right K G g s → Right K G h s → h ≡ g
    one_gateway g h R Q =
        ⊎_elim (λ e. e)
        (λ ne.
        let via = R.vias h Q.station ne (λ e. L.start_not_none (sym (right_starts K L G W h s Q) ∙ e)) in
        absurd (via_not_gateway h s Q.gateway h via.0 via.1 refl))
        (cases_eq h g)

    pub shown_routes : (g : ℕ) → Right K G g s → (v : ℕ) (ks : List ℕ) → v < G.stations → Shows K G g s v ks → Route K G g v ks × (route_cost K G ks ≡ (s v).cost)
    shown_routes g R v ks h shows =
        let r = back_leads K L G W g s (right_is_consistent K L G W g s R) (reverse ks) v h shows.some shows.back in
        let leads : Leads G g ks v = subst (λ x. Leads G g x v) (reverse-reverse ks) r.0 in
        let costs : route_cost K G ks ≡ (s v).cost = subst (λ x. route_cost K G x ≡ (s v).cost) (reverse-reverse ks) r.1 in
        (record { leads = leads; some = λ e. shows.some (sym costs ∙ e) }, costs)
