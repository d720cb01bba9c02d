-- What the answer and the cursor of a reading tell of it. Assumes nothing.
use Rattle.std.proofs.Common.{◌≡◌, ℕ, Bool, true, false, cond, Ok, Err, Result, refl}
use Rattle.books.specs.Cursor.{value_of, cursor_after}
use Rattle.books.specs.Reading.{and_then, inside}

module _ {A F : Type 0} (place : F → ℕ) where
  pub ok_is : (r : Result (A × ℕ) F) (v : A) (q : ℕ) → Ok v ≡ value_of r → q ≡ cursor_after place r → r ≡ Ok (v, q)
  ok_is (Ok (y, s)) v q a b = cc
  ok_is (Err e) v q a b = cc

  pub at_fault : (r : Result (A × ℕ) F) (e : F) → Err e ≡ value_of r → cursor_after place r ≡ place e
  at_fault (Ok x) e a = cc
  at_fault (Err d) e a = cc

pub err_is : {A F : Type 0} (r : Result (A × ℕ) F) (e : F) → Err e ≡ value_of r → r ≡ Err e
err_is (Ok x) e a = cc
err_is (Err d) e a = cc

pub ok_same : {A F : Type 0} {x y : A} → ◌≡◌ {A = Result A F} (Ok x) (Ok y) → x ≡ y
ok_same e = cc

-- What was read before a reading that was accepted. The value before is handed on, so that a proof can go on with it.
pub then_ok : {A B F P : Type 0} (r : Result A F) (f : A → Result B F) (y : B) → and_then r f ≡ Ok y → ((x : A) → r ≡ Ok x → f x ≡ Ok y → P) → P
then_ok (Ok x) f y e go = go x refl e
then_ok (Err d) f y e go = cc

pub inside_ok : {A E F : Type 0} (wrap : E → F) (r : Result A E) (x : A) → inside wrap r ≡ Ok x → r ≡ Ok x
inside_ok wrap (Ok y) x e = cc
inside_ok wrap (Err d) x e = cc

pub guard_ok : {A F : Type 0} (b : Bool) (x y : A) (e : F) → cond b (Ok x) (Err e) ≡ Ok y → (b ≡ true) × (x ≡ y)
guard_ok true x y e q = (refl, cc)
guard_ok false x y e q = cc
