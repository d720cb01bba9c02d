-- What the answer of an edit tells of line k, and of the net after it. Assumes nothing.
use Rattle.std.proofs.Common.{◌≡◌, ℕ, ◌<◌, Bool, true, false, ltb, length, set, Some, None, Ok, Err, Result, sym, refl, ap}
use Rattle.std.specs.List.{slice_get}
use Rattle.std.proofs.lemmas.Option.{slice_get_past}
use Rattle.std.proofs.lemmas.Bool.{cond_both, cond-false, ltb-true, ltb-false}
use Rattle.nets.specs.declared.line.Line.{Line}
use Rattle.nets.specs.declared.refusal.Refusal.{Refusal}
use Rattle.nets.specs.Model.{Model, price_fits}
use Rattle.nets.specs.Edits.{with_price, with_open, changed_at, changed, price_answer, priced, open_answer, opened}

changed_none : (m : Model) (k : ℕ) (f : Line → Line) → slice_get m.lines k ≡ None → m ≡ changed m k f
changed_none m k f e = ap (λ o. changed_at o m k f) (sym e)

pub changed_some : (m : Model) (k : ℕ) (f : Line → Line) (l : Line) → slice_get m.lines k ≡ Some l → record { stations = m.stations; lines = set m.lines k (f l) } ≡ changed m k f
changed_some m k f l e = ap (λ o. changed_at o m k f) (sym e)

changed_past : (m : Model) (k : ℕ) (f : Line → Line) → ltb k (length m.lines) ≡ false → m ≡ changed m k f
changed_past m k f b = changed_none m k f (slice_get_past m.lines k (ltb-false k (length m.lines) b))

module _ (m : Model) (k : ℕ) where
  -- an edit that is accepted is of a line that is there,
  pub open_accepted : (u : Unit {0}) → Ok u ≡ open_answer m k → k < length m.lines
  open_accepted u = cond_both (ltb k (length m.lines)) _ _ (λ (r : Result (Unit {0}) Refusal). Ok u ≡ r → k < length m.lines) (λ b _. ltb-true _ _ b) (λ b e. cc)

  -- and one that is refused leaves the net
  pub open_refused : (e : Refusal) (b : Bool) → Err e ≡ open_answer m k → m ≡ opened m k b
  open_refused e b =
      cond_both (ltb k (length m.lines)) _ _ (λ (r : Result (Unit {0}) Refusal). Err e ≡ r → m ≡ opened m k b) (λ _ q. cc) (λ past _. changed_past m k (with_open b) past)

  module _ (fee loss : ℕ) where
    pub price_accepted : (u : Unit {0}) → Ok u ≡ price_answer m k fee loss → (k < length m.lines) × (price_fits fee loss ≡ true)
    price_accepted u =
        let P : Result (Unit {0}) Refusal → Type 0 = λ r. Ok u ≡ r → (k < length m.lines) × (price_fits fee loss ≡ true) in
        cond_both (ltb k (length m.lines)) _ _ P (λ b. cond_both (price_fits fee loss) _ _ P (λ f _. (ltb-true _ _ b, f)) (λ f e. cc)) (λ b e. cc)

    pub price_refused : (e : Refusal) → Err e ≡ price_answer m k fee loss → m ≡ priced m k fee loss
    price_refused e =
        let P : Result (Unit {0}) Refusal → Type 0 = λ r. Err e ≡ r → m ≡ priced m k fee loss in
        cond_both (ltb k (length m.lines)) _ _ P
        (λ b. cond_both (price_fits fee loss) _ _ P (λ f q. cc) (λ f _. sym (cond-false _ _ _ f)))
        (λ past _. cond_both (price_fits fee loss) _ m (λ x. m ≡ x) (λ _. changed_past m k (with_price fee loss) past) (λ _. refl))
