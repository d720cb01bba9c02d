-- What stands at place k of a list. Assumes nothing.
use Rattle.std.proofs.Common.{◌≡◌, ℕ, zero, suc, ◌+◌, ◌<◌, ◌≤◌, List, [], ◌∷◌, map, length, drop, Some, None, ap, ◌∙◌, arith}
use Rattle.std.specs.List.{range_with_len, slice_get, AllByRecursion}
use Rattle.std.proofs.lemmas.List.{drop_all, drop_more}
use Rattle.std.proofs.lemmas.List.FromFn.{length-map-range_with_len, get_or-map-range_with_len}
use Rattle.std.proofs.lemmas.Option.{slice_get-get_or, slice_get_within, get_or_from_slice_get}

pub past_from_none : {X : Type 0} (xs : List X) (k : ℕ) → slice_get xs k ≡ None → length xs ≤ k
past_from_none [] k e = omega arith
past_from_none (x ∷ xs) zero e = cc
past_from_none (x ∷ xs) (suc k) e = let h = past_from_none xs k e in omega arith

pub All-slice_get : {X : Type 0} (P : X → Type 0) (xs : List X) (k : ℕ) (x : X) → AllByRecursion P xs → slice_get xs k ≡ Some x → P x
All-slice_get P [] k x a e = cc
All-slice_get P (y ∷ xs) zero x a e = let q : y ≡ x = cc in rw q at a.0
All-slice_get P (y ∷ xs) (suc k) x a e = All-slice_get P xs k x a.1 e

-- what is left from place k on
pub drop_from_some : {X : Type 0} (xs : List X) (k : ℕ) (x : X) → slice_get xs k ≡ Some x → drop k xs ≡ x ∷ drop (k + 1) xs
drop_from_some xs k x e = drop_more xs k x (slice_get_within xs k x e) ∙ ap (λ y. y ∷ drop (k + 1) xs) (get_or_from_slice_get xs k x x e)

pub drop_from_none : {X : Type 0} (xs : List X) (k : ℕ) → slice_get xs k ≡ None → drop k xs ≡ []
drop_from_none xs k e = drop_all k xs (past_from_none xs k e)

-- a list made from a function of the place

pub slice_get-counted : {X : Type 0} (f : ℕ → X) (n k : ℕ) → k < n → slice_get (map f (range_with_len 0 n)) k ≡ Some (f k)
slice_get-counted f n k h =
    slice_get-get_or (map f (range_with_len 0 n)) k (f k) (rw (length-map-range_with_len f 0 n) h) ∙ ap Some (get_or-map-range_with_len f 0 n k k (f k) h (omega arith))

-- a step through a list by places
pub ruleset line_steps = (drop_from_some, drop_from_none, slice_get_within)
