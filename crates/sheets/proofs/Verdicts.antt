-- The verdict is yes exactly for a right sheet. Assumes nothing.
use Rattle.std.proofs.Common.{arith, ◌≡◌, ℕ, ◌<◌, true, eqb, ◌⊎◌, [], Some, None, Option, sym, refl, ap, ◌∙◌, inl, inr, ⊎_elim}
use Rattle.std.proofs.lemmas.Bool.{both_ways, cases_Bool, cases_eq, and_from, and_parts, eqb-true, eqb-false, eq-eqb, ne_eqb, not-true, not_from_false}
use Rattle.std.proofs.lemmas.Bool.Decides.{nat_tests}
use Rattle.std.proofs.lemmas.Option.{none-some}
use Rattle.costs.specs.Kind.{Costs, Laws}
use Rattle.costs.proofs.Order
use Rattle.sheets.specs.Graph.{Graph}
use Rattle.sheets.specs.Sheet.{Sheet}
use Rattle.sheets.specs.Right.{Fits, Right}
use Rattle.sheets.specs.Verdict.{same_cost, relaxed, fits, leads_back, row_holds, station_holds, verdict}
use Rattle.sheets.proofs.Within.{Within}
use Rattle.sheets.proofs.Tested.{all_says, all_from}
use Rattle.sheets.proofs.Consistency
use Rattle.sheets.proofs.Consistency.{Consistent, via_not_gateway}
use Rattle.sheets.proofs.WalksBack.{back_from_leads, leads_from_back, back_short}

module _ {V : Type 0} (K : Costs V) (L : Laws K) where
  same_says : (a b : V) → same_cost K a b ≡ true → a ≡ b
  same_says a b e = L.antisym a b (grind arith) (grind arith)

  same_from : (a b : V) → a ≡ b → same_cost K a b ≡ true
  same_from a b e = and_from _ _ (Order.le_of_eq K L a b e) (Order.le_of_eq K L b a (sym e))

  module _ (G : Graph V) (W : Within G) (g : ℕ) (s : Sheet V) where
    fits_says : (v k : ℕ) → fits K G s v k ≡ true → Fits K G s v k
    fits_says v k e = record { counts = grind (arith, nat_tests); into = grind (arith, nat_tests); adds_up = same_says _ _ (grind (arith, nat_tests)) }

    fits_from : (v k : ℕ) → Fits K G s v k → fits K G s v k ≡ true
    fits_from v k f = let same = same_from _ _ f.adds_up in grind (arith, nat_tests)

    -- what a row that holds says: without a via v is the gateway at start, or costs none;
    without_via : (v : ℕ) → row_holds K G g s v None ≡ true → ((v ≡ g) × ((s v).cost ≡ K.start)) ⊎ ((v ≡ g → ⊥) × ((s v).cost ≡ K.none))
    without_via v e =
        ⊎_elim
        (λ b. inl (eqb-true v g b, same_says _ _ (rw b at e)))
        (λ b. inr (eqb-false v g b, Order.none_top K L _ (rw b at e)))
        (cases_Bool (eqb v g))

    -- with one it is neither, and the via fits and leads back
    pub record ByVia (v k : ℕ) : Type 0 where
      pub not_gateway : v ≡ g → ⊥
      pub some : (s v).cost ≡ K.none → ⊥
      pub fit : Fits K G s v k
      pub back : leads_back G s g G.stations v ≡ true

    with_via : (v k : ℕ) → row_holds K G g s v (Some k) ≡ true → ByVia v k
    with_via v k e =
        let p = and_parts _ _ e in
        let q = and_parts _ _ p.0 in
        let r = and_parts _ _ q.0 in
        record {
          not_gateway = eqb-false v g (not-true _ r.0);
          some = λ n. both_ways _ (not-true _ r.1) (Order.le_of_eq K L _ _ (sym n));
          fit = fits_says v k q.1;
          back = p.1;
        }

    -- what is known of a station whose row holds, by what its via is
    pub data Known (v : ℕ) : Type 0 where
      at_gateway : (s v).via ≡ None → v ≡ g → (s v).cost ≡ K.start → Known v
      cut : (s v).via ≡ None → (v ≡ g → ⊥) → (s v).cost ≡ K.none → Known v
      by_via : (k : ℕ) → (s v).via ≡ Some k → ByVia v k → Known v

    known : (v : ℕ) (o : Option ℕ) → (s v).via ≡ o → row_holds K G g s v o ≡ true → Known v
    known v None q e = ⊎_elim (λ h. at_gateway q h.0 h.1) (λ h. cut q h.0 h.1) (without_via v e)
    known v (Some k) q e = by_via k q (with_via v k e)

    gateway_says : Known g → ((s g).cost ≡ K.start) × ((s g).via ≡ None)
    gateway_says (at_gateway no-via q e) = (e, no-via)
    gateway_says (cut no-via ne e) = absurd (ne refl)
    gateway_says (by_via k q h) = absurd (h.not_gateway refl)

    cut_off_says : (v : ℕ) → Known v → (s v).cost ≡ K.none → (s v).via ≡ None
    cut_off_says v (at_gateway no-via q e) n = no-via
    cut_off_says v (cut no-via ne e) n = no-via
    cut_off_says v (by_via k q h) n = absurd (h.some n)

    via_says : (v : ℕ) → Known v → (v ≡ g → ⊥) → ((s v).cost ≡ K.none → ⊥) → (k : ℕ) × ((s v).via ≡ Some k) × ByVia v k
    via_says v (at_gateway no-via q e) ne some = absurd (ne q)
    via_says v (cut no-via _ e) ne some = absurd (some e)
    via_says v (by_via k q h) ne some = (k, q, h)

    pub yes_right : g < G.stations → verdict K G g s ≡ true → Right K G g s
    yes_right station e =
        let p = and_parts _ _ e in
        let at : (v : ℕ) → v < G.stations → Known v = λ v h. known v (s v).via refl (all_says (station_holds K G g s) G.stations p.1 v h) in
        let start = gateway_says (at g station) in
        Consistency.consistent_is_right K L G W g s (record {
          station = station;
          starts = start.0;
          relaxed = all_says (λ k. relaxed K s (G.line k)) G.lines p.0;
          gateway = start.1;
          cut_off = λ v h. cut_off_says v (at v h);
          vias = λ v h ne some. let k = via_says v (at v h) ne some in (k.0, k.1, k.2.fit);
          back = λ v h some.
              ⊎_elim
              (λ q. ([], q))
              (λ ne. let k = via_says v (at v h) ne some in let b = back_from_leads G s g G.stations v k.2.back in (b.0, b.1))
              (cases_eq v g);
        })

    row_from : Consistent K G g s → (v : ℕ) → v < G.stations → (o : Option ℕ) → (s v).via ≡ o → row_holds K G g s v o ≡ true
    row_from S v h None q =
        ⊎_elim
        (λ e. rw (eq-eqb v g e) (same_from _ _ (ap (λ x. (s x).cost) e ∙ S.starts)))
        (λ ne.
        rw (ne_eqb v g ne)
        (⊎_elim
        (λ e. Order.le_of_eq K L _ _ (sym e))
        (λ some. let via = S.vias v h ne some in absurd (none-some via.0 (sym q ∙ via.1)))
        (Order.none_or_some K L (s v).cost)))
        (cases_eq v g)
    row_from S v h (Some k) q =
        let ne = via_not_gateway g s S.gateway v k q in
        let some : (s v).cost ≡ K.none → ⊥ = λ e. none-some k (sym (S.cut_off v h e) ∙ q) in
        let fit = Consistency.via_fits K L G W g s S v k h some q in
        let b = S.back v h some in
        and_from _ _
        (and_from _ _ (and_from _ _ (not_from_false _ (ne_eqb v g ne)) (not_from_false _ (Order.some_below_none K L _ some))) (fits_from v k fit))
        (leads_from_back G s g G.stations b.0 v b.1 (back_short G s g S.gateway W b.0 v h b.1))

    pub right_yes : Right K G g s → verdict K G g s ≡ true
    right_yes R =
        let S = Consistency.right_is_consistent K L G W g s R in
        and_from _ _
        (all_from (λ k. relaxed K s (G.line k)) G.lines S.relaxed)
        (all_from (station_holds K G g s) G.stations (λ v h. row_from S v h (s v).via refl))
