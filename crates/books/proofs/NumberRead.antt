-- The groups of a number one after another, as the loop that reads it goes. Assumes nothing.
use Rattle.std.proofs.Common.{◌≡◌, ℕ, zero, suc, ◌+◌, ◌-◌, ◌*◌, ◌^◌, ◌<◌, ◌≤◌, ◌⊎◌, List, Result, [], ◌∷◌, length, get_or, drop, Ok, Err, sym, length-drop, refl, ◌∙◌, inl, inr, mul-le-mul_right, pow-suc, add-one, arith, lit≤}
use Rattle.std.proofs.lemmas.List.{at_drop_more, at_drop_all}
use Rattle.std.proofs.lemmas.Bool.Decides.{nat_tests}
use Rattle.books.specs.declared.number.NumberError.{NumberError}
use Rattle.books.specs.declared.number.NumberError.TheVariants.{Cut}
use Rattle.books.specs.Number.{number, number_from}

-- k groups of the number are read, they stand for `low`, and the next counts `scale` times
pub record Front (bs : List ℕ) (k low scale : ℕ) : Type 0 where
  pub few : k < 5
  pub power : scale ≡ 128 ^ k
  pub below : low < scale
  pub rest : number bs ≡ number_from k low (drop k bs)

scales : (k : ℕ) → k < 5 → ((k ≡ 4) × (128 ^ k ≡ 268435456)) ⊎ ((k < 4) × (128 ^ k ≤ 2097152))
scales zero h = inr (omega arith, lit≤ tt)
scales (suc zero) h = inr (omega arith, lit≤ tt)
scales (suc (suc zero)) h = inr (omega arith, lit≤ tt)
scales (suc (suc (suc zero))) h = inr (omega arith, lit≤ tt)
scales (suc (suc (suc (suc zero)))) h = inl (refl, refl)
scales (suc (suc (suc (suc (suc k))))) h = absurd (omega arith)

-- the last group
pub last_fits : (k low s b : ℕ) → k < 5 → s ≡ 128 ^ k → low < s → b < 128 → ((k ≡ 4) → b ≤ 15) → low + b * s < 2 ^ 32
last_fits k low s b f e l q small =
    elim (scales k f) [
      | inl w ↦ let m = mul-le-mul_right s (small w.0) in omega (arith, w.1)
      | inr w ↦ let b127 : b ≤ 127 = omega arith in let m = mul-le-mul_right s b127 in omega (arith, w.1)
    ]

-- any group but the last
pub group_fits : (k low s b : ℕ) → k < 5 → s ≡ 128 ^ k → low < s → b < 256 → 128 ≤ b → ((k ≡ 4) → b ≤ 15)
    → (k + 1 < 5) × (low + (b - 128) * s < s * 128) × (s * 128 < 2 ^ 32)
group_fits k low s b f e l t q small =
    elim (scales k f) [
      | inl w ↦ absurd (omega (arith, small w.0))
      | inr w ↦ let b127 : b - 128 ≤ 127 = omega arith in let m = mul-le-mul_right s b127 in (omega (arith, w.0), omega arith, omega (arith, w.1))
    ]

module _ (bs : List ℕ) (k low : ℕ) (rest : number bs ≡ number_from k low (drop k bs)) where
  pub at_short : length bs ≤ k → Err Cut ≡ number bs
  at_short h = sym (rest ∙ at_drop_all (number_from k low) bs k h)

  module _ (h : k < length bs) where
    pub next : number bs ≡ number_from k low (get_or bs k 0 ∷ drop (k + 1) bs)
    next = rest ∙ at_drop_more (number_from k low) bs k 0 h

    pub at_more : ((k ≡ 4) → get_or bs k 0 ≤ 15) → 128 ≤ get_or bs k 0 → number bs ≡ number_from (k + 1) (low + (get_or bs k 0 - 128) * 128 ^ k) (drop (k + 1) bs)
    at_more small q = let e = next in grind (arith, nat_tests)

module _ (bs : List ℕ) (k low s : ℕ) (f : Front bs k low s) (h : k < length bs) (small : (k ≡ 4) → get_or bs k 0 ≤ 15) where
  pub last_byte : get_or bs k 0 < 128 → low + get_or bs k 0 * s < 2 ^ 32
  last_byte q = last_fits k low s (get_or bs k 0) f.few f.power f.below q small

  pub more_byte : 128 ≤ get_or bs k 0 → get_or bs k 0 < 256 → (k + 1 < 5) × (low + (get_or bs k 0 - 128) * s < s * 128) × (s * 128 < 2 ^ 32)
  more_byte q t = group_fits k low s (get_or bs k 0) f.few f.power f.below t q small

  pub front_more : 128 ≤ get_or bs k 0 → get_or bs k 0 < 256 → Front bs (k + 1) (low + (get_or bs k 0 - 128) * s) (s * 128)
  front_more q t = let p = f.power in let g = more_byte q t in record {
    few = g.0;
    power = rw (add-one, pow-suc, p);
    below = g.1;
    rest = rw p (at_more bs k low f.rest h small q);
  }

-- the steps of the loop that reads a number
pub ruleset number_steps = (at_short, next, last_byte, more_byte, front_more)

-- a number that is read lies within its bytes
count_within : (k low v n : ℕ) (bs : List ℕ) → number_from k low bs ≡ Ok (v, n) → n ≤ k + length bs
count_within k low v n [] e = grind arith
count_within k low v n (b ∷ bs) e =
    let more = count_within (k + 1) (low + (b - 128) * 128 ^ k) v n bs in grind (arith, nat_tests)

-- the place behind a number that is read
pub place_fits : (book : List ℕ) (at : ℕ) (r : Result (ℕ × ℕ) NumberError) (x : ℕ × ℕ) → length book < 2 ^ 63 → at < 2 ^ 64
    → r ≡ number (drop at book) → r ≡ Ok x → at + x.1 < 2 ^ 64
place_fits book at r x short low e f =
    let n = count_within 0 0 x.0 x.1 (drop at book) (sym e ∙ f) in omega (arith, length-drop at book)
