-- The lengths of the bytes of some items, summed by `map` and `sum`. Assumes nothing.
use Rattle.std.proofs.Common.{◌≡◌, ℕ, ◌+◌, ◌<◌, List, Option, length, map, refl, sym, ◌∙◌}
use Rattle.std.specs.Bool.{⊤}
use Rattle.std.specs.Fn.{Called}
use Rattle.std.specs.Iterator.{Drains}
use Rattle.std.specs.Iterator.Adapters.{map_source, map_callee}
use Rattle.std.specs.Iterator.Runs.{EachRunFrom}
use Rattle.std.specs.List.{flat_map, fold}
use Rattle.std.specs.declared.iter.Map.{Map}
use denote.Param.Members.{Mut}
use Rattle.std.proofs.lemmas.Iterator.{YieldsList, YieldsList-from_map, maps}
use Rattle.std.proofs.lemmas.Iterator.Consumers.{YieldsList-at, fits_by_from_yields_list, sum_by_from_yields_List}
use Rattle.std.proofs.lemmas.List.Concat.{length-flat_map}

-- the items xs are at the source, and the closure, which stays as it is, answers the length of an item's bytes
module _ {S A X F : Type 0} {steps : S → Option A → S → Type 0} {v : A → X} {s : Map S F} {source : S} (g : Mut F (A × Unit {0}) ℕ) (bytes : X → List ℕ) (xs : List X)
    (same : map_source s ≡ source) (items : YieldsList steps v source xs)
    (closure : (x : A) (r : ℕ) (q : F) → Called g (map_callee s) (x, tt) r q → (q ≡ map_callee s) × (r ≡ length (bytes (v x)))) where
  lengths : YieldsList (maps steps g) (λ r. r) s (map (λ x. length (bytes x)) xs)
  lengths = YieldsList-from_map g (λ x. length (bytes x)) (YieldsList-at same items) refl closure

  pub lengths_fit : (top : ℕ) → length (flat_map bytes xs) < top → EachRunFrom (maps steps g) s (λ p. fold (λ a x. a + x) 0 p.items < top)
  lengths_fit top h = fits_by_from_yields_list (λ x. length (bytes x)) xs s top lengths (rw (← length-flat_map bytes xs) h)

  pub lengths_sum : (r : ℕ) → ((ns : List ℕ) × (⊤ → Drains (maps steps g) s ns) × (r ≡ fold (λ a x. a + x) 0 ns)) → r ≡ length (flat_map bytes xs)
  lengths_sum r ran = sum_by_from_yields_List (λ x. length (bytes x)) xs s r ran lengths ∙ sym (length-flat_map bytes xs)
