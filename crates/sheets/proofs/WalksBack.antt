-- Following vias back: what `leads_back` says, and that as many stations as there are suffice. Assumes nothing.
use Rattle.std.proofs.Common.{◌≡◌, ℕ, zero, suc, ◌+◌, ◌<◌, ◌≤◌, Bool, true, false, cond, ◌==◌, eqb, ltb, List, [], ◌∷◌, length, Some, None, Option, refl, ap, ◌∙◌, subst, ⊎_elim, arith}
use Rattle.std.specs.List.{AllByRecursion, IsDistinct, list_any}
use Rattle.std.proofs.lemmas.Bool.{cases_Bool, cases_lt, cond-true, false_from_ne_true, or_left, or_right, or_cases, eqb-true, eq-eqb, ne_eqb, ltb-true, lt-ltb}
use Rattle.std.proofs.lemmas.Map.Steps.{length-le_from_distinct_below}
use Rattle.sheets.specs.Graph.{Graph}
use Rattle.sheets.specs.Sheet.{Sheet, Back}
use Rattle.sheets.specs.Verdict.{before, holds_of, leads_back}
use Rattle.sheets.proofs.Consistency.{via_not_gateway}
use Rattle.sheets.proofs.Counting.{count, count_more}
use Rattle.sheets.proofs.Successors.{first_items}
use Rattle.sheets.proofs.Within.{Within}

module _ {V : Type 0} (G : Graph V) (s : Sheet V) (g : ℕ) where
  -- a via that is a line
  before_is : (o : Option ℕ) (k : ℕ) → o ≡ Some k → k < G.lines → before G o ≡ Some (G.line k).from
  before_is o k e h = ap (before G) e ∙ cond-true _ _ _ (lt-ltb k G.lines h)

  before_says : (p : ℕ → Bool) (o : Option ℕ) → holds_of p (before G o) ≡ true → (k : ℕ) × (o ≡ Some k) × (k < G.lines) × (p (G.line k).from ≡ true)
  before_says p None e = cc
  before_says p (Some k) e = ⊎_elim (λ b. (k, refl, ltb-true k G.lines b, rw b at e)) (λ b. let z : false ≡ true = rw b at e in cc) (cases_Bool (ltb k G.lines))

  -- the station before another is a station
  pub before_within : Within G → (o : Option ℕ) (u : ℕ) → before G o ≡ Some u → u < G.stations
  before_within W o u e =
      let via = before_says (eqb u) o (rw e (eq-eqb u u refl)) in
      rw (eqb-true u (G.line via.0).from via.3) (W.from via.0 via.2)

  -- the station before u, until the gateway is met
  abbrev pub before_met : ℕ → Option ℕ
  before_met u = cond (u == g) None (before G (s u).via)

  -- the gateway is among the first n stations that are met from o on
  pub any_met : (n : ℕ) (o : Option ℕ) → list_any (λ u. u == g) (first_items before_met n o) ≡ holds_of (leads_back G s g n) o
  unfolding leads_back
  any_met zero None = refl
  any_met zero (Some u) = refl
  any_met (suc n) None = refl
  any_met (suc n) (Some u) = ⊎_elim (λ e. rw e refl) (λ e. rw e (any_met n (before G (s u).via))) (cases_Bool (u == g))

  pub back_from_leads : (n v : ℕ) → leads_back G s g n v ≡ true → (ks : List ℕ) × Back G s g v ks × (length ks < n)
  unfolding leads_back
  back_from_leads zero v e = cc
  back_from_leads (suc n) v e =
      ⊎_elim
      (λ q. ([], eqb-true v g q, omega arith))
      (λ q.
      let via = before_says (leads_back G s g n) (s v).via q in
      let rest = back_from_leads n (G.line via.0).from via.3 in
      let short : length rest.0 < n = rest.2 in
      (via.0 ∷ rest.0, (via.1, via.2, rest.1), omega arith))
      (or_cases (eqb v g) _ e)

  pub leads_from_back : (n : ℕ) (ks : List ℕ) (v : ℕ) → Back G s g v ks → length ks < n → leads_back G s g n v ≡ true
  unfolding leads_back
  leads_from_back zero ks v b h = absurd (omega arith)
  leads_from_back (suc n) [] v b h = or_left _ _ (eq-eqb v g b)
  leads_from_back (suc n) (k ∷ ks) v b h =
      or_right (eqb v g) _ (ap (holds_of (leads_back G s g n)) (before_is (s v).via k b.0 b.1) ∙ leads_from_back n ks (G.line k).from b.2 (omega arith))

  module _ (no-via : (s g).via ≡ None) where
    -- the way back from a station has one length,
    same_length : (ks js : List ℕ) (v : ℕ) → Back G s g v ks → Back G s g v js → length ks ≡ length js
    same_length [] [] v b c = refl
    same_length [] (j ∷ js) v b c = absurd (via_not_gateway g s no-via v j c.0 b)
    same_length (k ∷ ks) [] v b c = absurd (via_not_gateway g s no-via v k b.0 c)
    same_length (k ∷ ks) (j ∷ js) v b c =
        let same : j ≡ k = cc (b.0, c.0) in
        let rest = same_length ks js (G.line k).from b.2 (subst (λ i. Back G s g (G.line i).from js) same c.2) in
        omega arith

    -- and the walk goes no shorter way
    not_sooner : (n : ℕ) (ks : List ℕ) (v : ℕ) → Back G s g v ks → n ≤ length ks → leads_back G s g n v ≡ false
    not_sooner n ks v b h =
        false_from_ne_true _ (λ e. let r = back_from_leads n v e in omega (arith, same_length ks r.0 v b r.1, r.2))

  module _ (no-via : (s g).via ≡ None) (W : Within G) where
    -- some station of the walk is m lines from the gateway,
    on_the_way : (m : ℕ) (ks : List ℕ) (v : ℕ) → v < G.stations → Back G s g v ks → m ≤ length ks → (u : ℕ) × (u < G.stations) × ((js : List ℕ) × Back G s g u js × (length js ≡ m))
    on_the_way m [] v h b l = (v, h, ([], b, omega arith))
    on_the_way m (k ∷ ks) v h b l =
        ⊎_elim
        (λ less. on_the_way m ks (G.line k).from (W.from k b.1) b.2 (omega arith))
        (λ all. (v, h, (k ∷ ks, b, omega arith)))
        (cases_lt m (length (k ∷ ks)))

    -- so with each line more, at least one station more leads back
    pub met : (ks : List ℕ) (v : ℕ) → v < G.stations → Back G s g v ks → (m : ℕ) → m ≤ suc (length ks) → m ≤ count (leads_back G s g m) G.stations
    met ks v h b zero l = omega arith
    met ks v h b (suc m) l =
        let u = on_the_way m ks v h b (omega arith) in
        let js = u.2.0 in
        let long : length js ≡ m = u.2.2 in
        let more = count_more (leads_back G s g m) (leads_back G s g (suc m)) G.stations u.0 u.1
        (λ w k e. let r = back_from_leads m w e in let short : length r.0 < m = r.2 in leads_from_back (suc m) r.0 w r.1 (omega arith))
        (not_sooner no-via m js u.0 u.2.1 (omega arith))
        (leads_from_back (suc m) js u.0 u.2.1 (omega arith)) in
        omega (arith, met ks v h b m (omega arith))

    -- The stations that a way back meets differ, since it has one length,
    abbrev stations_met : ℕ → List ℕ → List ℕ
    stations_met v [] = v ∷ []
    stations_met v (k ∷ ks) = v ∷ stations_met (G.line k).from ks

    differ : (us : List ℕ) (u : ℕ) → Back G s g u us → (ks : List ℕ) (v : ℕ) → Back G s g v ks → length ks < length us → eqb u v ≡ false
    differ us u c ks v b h = ne_eqb u v (λ e. let same = same_length no-via us ks v (subst (λ x. Back G s g x us) e c) b in omega arith)

    apart : (us : List ℕ) (u : ℕ) → Back G s g u us → (ks : List ℕ) (v : ℕ) → Back G s g v ks → length ks < length us → AllByRecursion (λ y. eqb u y ≡ false) (stations_met v ks)
    apart us u c [] v b h = (differ us u c [] v b h, tt)
    apart us u c (k ∷ ks) v b h = (differ us u c (k ∷ ks) v b h, apart us u c ks (G.line k).from b.2 (omega arith))

    distinct : (ks : List ℕ) (v : ℕ) → Back G s g v ks → IsDistinct eqb (stations_met v ks)
    unfolding IsDistinct
    distinct [] v b = (tt, tt)
    distinct (k ∷ ks) v b = (apart (k ∷ ks) v b ks (G.line k).from b.2 (omega arith), distinct ks (G.line k).from b.2)

    -- and all are stations of the net
    inside : (ks : List ℕ) (v : ℕ) → v < G.stations → Back G s g v ks → (q : ℕ) → list_any (eqb q) (stations_met v ks) ≡ true → q < G.stations
    inside [] v h b q e = ⊎_elim (λ i. let same = eqb-true q v i in omega arith) (λ z. cc) (or_cases (eqb q v) false e)
    inside (k ∷ ks) v h b q e =
        ⊎_elim
        (λ i. let same = eqb-true q v i in omega arith)
        (λ more. inside ks (G.line k).from (W.from k b.1) b.2 q more)
        (or_cases (eqb q v) _ e)

    length-stations_met : (ks : List ℕ) (v : ℕ) → length (stations_met v ks) ≡ length ks + 1
    length-stations_met [] v = refl
    length-stations_met (k ∷ ks) v = let rest = length-stations_met ks (G.line k).from in omega arith

    -- the way back to the gateway has fewer lines than there are stations
    pub back_short : (ks : List ℕ) (v : ℕ) → v < G.stations → Back G s g v ks → length ks < G.stations
    back_short ks v h b =
        omega (arith, length-stations_met ks v, length-le_from_distinct_below (stations_met v ks) G.stations (distinct ks v b) (inside ks v h b))
