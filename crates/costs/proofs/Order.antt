-- What the laws give of the order of costs and of none. Assumes nothing.
use Rattle.std.proofs.Common.{◌≡◌, ◌⊎◌, sym, subst, inl, inr, ⊎_elim}
use Rattle.std.proofs.lemmas.Bool.{cases_Bool, both_ways}
use Rattle.costs.specs.Kind.{Costs, Laws, AtMost, Below}

module _ {V : Type 0} (K : Costs V) (L : Laws K) where
  pub le_refl : (a : V) → AtMost K a a
  le_refl a = ⊎_elim (λ e. e) (λ e. e) (L.total a a)

  pub le_of_eq : (a b : V) → a ≡ b → AtMost K a b
  le_of_eq a b e = rw e (le_refl b)

  -- an equation before or after a comparison
  pub le_eq : (a b c : V) → AtMost K a b → b ≡ c → AtMost K a c
  le_eq a b c h e = subst (λ x. AtMost K a x) e h

  pub eq_le : (a b c : V) → a ≡ b → AtMost K b c → AtMost K a c
  eq_le a b c e h = subst (λ x. AtMost K x c) (sym e) h

  pub start_least : (a : V) → AtMost K K.start a
  start_least a = rw (L.start_join a) at (L.grows K.start a)

  -- nothing but none is as much as none
  pub none_top : (a : V) → AtMost K K.none a → a ≡ K.none
  none_top a h = L.antisym a K.none (L.none_greatest a) h

  pub some_below_none : (a : V) → (a ≡ K.none → ⊥) → Below K a K.none
  some_below_none a h = ⊎_elim (λ e. absurd (h (none_top a e))) (λ e. e) (cases_Bool (K.at_most K.none a))

  pub none_or_some : (a : V) → (a ≡ K.none) ⊎ (a ≡ K.none → ⊥)
  none_or_some a = ⊎_elim (λ e. inl (none_top a e)) (λ e. inr (λ q. both_ways _ e (le_of_eq K.none a (sym q)))) (cases_Bool (K.at_most K.none a))

  -- the parts of a cost that is not none are not none
  pub joined_some : (a w : V) → (K.join a w ≡ K.none → ⊥) → a ≡ K.none → ⊥
  joined_some a w h e = h (rw e (L.none_join w))
