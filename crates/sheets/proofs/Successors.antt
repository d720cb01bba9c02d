-- What `successors(o, f).take(n)` yields where the closure f computes a function. Assumes nothing.
use Rattle.std.proofs.Common.{◌≡◌, ℕ, zero, suc, ◌+◌, ◌<◌, List, [], ◌∷◌, length, Some, None, Option, Bor, refl, subst, arith}
use Rattle.std.specs.Fn.{CalledAt}
use Rattle.std.specs.Iterator.Adapters.{take_source, take_count, take_steps, successors_next, successors_callee, successors_steps}
use Rattle.std.specs.declared.iter.Successors.{Successors}
use Rattle.std.specs.declared.iter.Take.{Take}
use denote.Param.Members.{Mut}
use Rattle.std.proofs.lemmas.Iterator.{YieldsList}
use Rattle.std.proofs.lemmas.Iterator.Splits.{YieldsList-from_shown_while}

module _ {X : Type 0} (next : X → Option X) where
  -- the first n items, from o on
  abbrev pub first_items : ℕ → Option X → List X
  first_items zero o = []
  first_items (suc n) None = []
  first_items (suc n) (Some x) = x ∷ first_items n (next x)

  ended : (n : ℕ) (o : Option X) → (0 < n → None ≡ o) → length (first_items n o) ≡ 0
  ended zero o h = refl
  ended (suc n) None h = refl
  ended (suc n) (Some x) h = let e = h (omega arith) in cc

  went_on : (n m : ℕ) (x : X) (o p : Option X) → m + 1 ≡ n → Some x ≡ o → p ≡ next x → first_items n o ≡ x ∷ first_items m p
  went_on zero m x o p k e q = absurd (omega arith)
  went_on (suc n) m x None p k e q = cc
  went_on (suc n) m x (Some y) p k e q =
      let same : x ≡ y = cc in
      let count : n ≡ m = omega arith in
      rw (q, same, count) refl

  module _ {F : Type 0} (g : Mut F (Bor X × Unit {0}) (Option X)) (f : F) where
    abbrev left : Take (Successors X F) → List X
    left s = first_items (take_count s) (successors_next (take_source s))

    pub YieldsList-from_successors : (s : Take (Successors X F)) (n : ℕ) (o : Option X) → take_count s ≡ n → successors_next (take_source s) ≡ o → successors_callee (take_source s) ≡ f
        → ((x : X) (r : Option X) (q : F) → CalledAt g f x r q → (q ≡ f) × (r ≡ next x)) → YieldsList (take_steps (successors_steps g)) (λ x. x) s (first_items n o)
    YieldsList-from_successors s n o count item closure computes =
        rw (← count, ← item)
        (YieldsList-from_shown_while (take_steps (successors_steps g)) (λ x. x) left (λ t. successors_callee (take_source t) ≡ f)
        (λ t u e step. ended (take_count t) (successors_next (take_source t)) (λ h. (step h).0))
        (λ t x u e step.
        let after = successors_next (take_source u) in
        let same = computes x after (successors_callee (take_source u)) (subst (λ q. CalledAt g q x after (successors_callee (take_source u))) e step.0.1) in
        (same.0, went_on (take_count t) (take_count u) x (successors_next (take_source t)) after step.1 step.0.0 same.1))
        s closure)
