-- A sheet is right exactly if it is consistent: what can be seen of it line by line and by following vias. Assumes nothing.
use Rattle.std.proofs.Common.{◌≡◌, ℕ, ◌<◌, List, [], ◌∷◌, ◌++◌, reverse, Some, None, sym, refl, ap, ◌∙◌, subst, ⊎_elim}
use Rattle.std.proofs.lemmas.List.{reverse-reverse}
use mathlib.Core.List.{reverse-cons}
use Rattle.costs.specs.Kind.{Costs, Laws, AtMost}
use Rattle.costs.proofs.Order
use Rattle.sheets.specs.Graph.{Graph}
use Rattle.sheets.specs.Routes.{Leads, joined, route_cost}
use Rattle.sheets.specs.Sheet.{Sheet, Back}
use Rattle.sheets.specs.Right.{Fits, Right}
use Rattle.sheets.specs.Verdict.{request}
use Rattle.sheets.proofs.Within.{Within}
use Rattle.sheets.proofs.RouteCosts

-- line k's request is not below its to station's cost
abbrev pub Relaxed : {V : Type 0} → Costs V → Graph V → Sheet V → ℕ → Type 0
Relaxed K G s k = AtMost K (s (G.line k).to).cost (request K s (G.line k))

pub record Consistent {V : Type 0} (K : Costs V) (G : Graph V) (g : ℕ) (s : Sheet V) : Type 0 where
  pub station : g < G.stations
  pub starts : (s g).cost ≡ K.start
  pub relaxed : (k : ℕ) → k < G.lines → Relaxed K G s k
  pub gateway : (s g).via ≡ None
  pub cut_off : (v : ℕ) → v < G.stations → (s v).cost ≡ K.none → (s v).via ≡ None
  pub vias : (v : ℕ) → v < G.stations → (v ≡ g → ⊥) → ((s v).cost ≡ K.none → ⊥) → (k : ℕ) × ((s v).via ≡ Some k) × Fits K G s v k
  pub back : (v : ℕ) → v < G.stations → ((s v).cost ≡ K.none → ⊥) → (ks : List ℕ) × Back G s g v ks

-- a station with a via is not the gateway
pub via_not_gateway : {V : Type 0} (g : ℕ) (s : Sheet V) → (s g).via ≡ None → (v k : ℕ) → (s v).via ≡ Some k → v ≡ g → ⊥
via_not_gateway g s no-via v k via e = cc

module _ {V : Type 0} (K : Costs V) (L : Laws K) (G : Graph V) (W : Within G) (g : ℕ) (s : Sheet V) where
  -- along what leads from u, costs rise at most as the lines' costs do
  walk : ((k : ℕ) → k < G.lines → Relaxed K G s k) → (u v : ℕ) (ks : List ℕ) (c : V) → AtMost K (s u).cost c → Leads G u ks v → AtMost K (s v).cost (joined K G c ks)
  walk relaxed u v [] c h r = rw r at h
  walk relaxed u v (k ∷ ks) c h r =
      walk relaxed (G.line k).to v ks (K.join c (G.line k).cost)
      (L.trans _ _ _ (relaxed k r.0) (L.monotone _ _ _ (rw r.1 h)))
      r.2

  -- a via fits
  pub via_fits : Consistent K G g s → (v k : ℕ) → v < G.stations → ((s v).cost ≡ K.none → ⊥) → (s v).via ≡ Some k → Fits K G s v k
  via_fits S v k h some e =
      let found = S.vias v h (via_not_gateway g s S.gateway v k e) some in
      let same : found.0 ≡ k = cc (found.1, e) in
      rw same at found.2

  -- the lines met in following vias back, the other way round, lead to v at the cost that its row has
  pub back_leads : Consistent K G g s → (bs : List ℕ) (v : ℕ) → v < G.stations → ((s v).cost ≡ K.none → ⊥) → Back G s g v bs
      → Leads G g (reverse bs) v × (route_cost K G (reverse bs) ≡ (s v).cost)
  back_leads S [] v h some b = (sym b, sym (ap (λ x. (s x).cost) b ∙ S.starts))
  back_leads S (k ∷ bs) v h some b =
      let fit = via_fits S v k h some b.0 in
      let u = (G.line k).from in
      let before = back_leads S bs u (W.from k b.1) (Order.joined_some K L _ _ (λ e. some (sym fit.adds_up ∙ e))) b.2 in
      let turned = sym (reverse-cons k bs) in (
        subst (λ ks. Leads G g ks v) turned (subst (λ x. Leads G g (reverse bs ++ (k ∷ [])) x) fit.into (RouteCosts.leads_snoc G g (reverse bs) u k before.0 b.1 refl)),
        subst (λ ks. route_cost K G ks ≡ (s v).cost) turned (RouteCosts.joined_snoc K G K.start (reverse bs) k ∙ ap (λ c. K.join c (G.line k).cost) before.1 ∙ fit.adds_up),
      )

  pub consistent_is_right : Consistent K G g s → Right K G g s
  consistent_is_right S = record {
    station = S.station;
    costs = λ v h. RouteCosts.least_from K L G g v (s v).cost
        (λ ks r. walk S.relaxed g v ks K.start (Order.le_of_eq K L _ _ S.starts) r)
        (λ some. let b = S.back v h some in let r = back_leads S b.0 v h some b.1 in (reverse b.0, r.0, r.1));
    gateway = S.gateway;
    cut_off = S.cut_off;
    vias = S.vias;
    shown = λ v h some. let b = S.back v h some in (reverse b.0, record { some = some; back = subst (Back G s g v) (sym (reverse-reverse b.0)) b.1 });
  }

  pub right_starts : Right K G g s → (s g).cost ≡ K.start
  right_starts R = L.antisym _ _ (RouteCosts.least_of_all K L G g g _ (R.costs g R.station) [] refl) (Order.start_least K L (s g).cost)

  pub right_relaxed : Right K G g s → (k : ℕ) → k < G.lines → Relaxed K G s k
  right_relaxed R k h =
      let u = (G.line k).from in
      ⊎_elim
      (λ e. Order.le_eq K L _ _ _ (L.none_greatest _) (sym (ap (λ c. K.join c (G.line k).cost) e ∙ L.none_join (G.line k).cost)))
      (λ some.
      let r = RouteCosts.reached K L G g u _ (R.costs u (W.from k h)) some in
      let q = RouteCosts.least_of_all K L G g (G.line k).to _ (R.costs (G.line k).to (W.to k h)) (r.0 ++ (k ∷ [])) (RouteCosts.leads_snoc G g r.0 u k r.1 h refl) in
      Order.le_eq K L _ _ _ q (RouteCosts.joined_snoc K G K.start r.0 k ∙ ap (λ c. K.join c (G.line k).cost) r.2))
      (Order.none_or_some K L (s u).cost)

  pub right_is_consistent : Right K G g s → Consistent K G g s
  right_is_consistent R = record {
    station = R.station;
    starts = right_starts R;
    relaxed = right_relaxed R;
    gateway = R.gateway;
    cut_off = R.cut_off;
    vias = R.vias;
    back = λ v h some. let b = R.shown v h some in (reverse b.0, b.1.back);
  }
