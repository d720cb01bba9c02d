-- A test of every number below n: a loop's start and step, one that fails, and what it says. Assumes nothing.
use Rattle.std.proofs.Common.{◌≡◌, ℕ, ◌+◌, ◌<◌, Bool, true, false, get_or, sym, refl, ap, ◌∙◌, ⊎_elim, zero-add, arith}
use Rattle.std.specs.List.{range_with_len}
use Rattle.std.proofs.lemmas.Bool.{cases_lt, false_from_ne_true}
use Rattle.std.proofs.lemmas.List.FromFn.{length-range_with_len, get_or-range_with_len}
use Rattle.std.proofs.lemmas.List.Sums.{AllPass-from_list_all, list_all-from_AllPass}
use Rattle.sheets.specs.Verdict.{all_below}

pub all_says : (p : ℕ → Bool) (n : ℕ) → all_below p n ≡ true → (k : ℕ) → k < n → p k ≡ true
unfolding all_below
all_says p n e k h =
    let at : get_or (range_with_len 0 n) k 0 ≡ k = get_or-range_with_len 0 n k 0 h ∙ zero-add k in
    ap p (sym at) ∙ AllPass-from_list_all p (range_with_len 0 n) e k 0 (rw (length-range_with_len 0 n) h)

pub all_from : (p : ℕ → Bool) (n : ℕ) → ((k : ℕ) → k < n → p k ≡ true) → all_below p n ≡ true
unfolding all_below
all_from p n h =
    list_all-from_AllPass p (range_with_len 0 n) (λ k d l.
    let below : k < n = rw (length-range_with_len 0 n) at l in
    ap p (get_or-range_with_len 0 n k d below ∙ zero-add k) ∙ h k below)

pub all_none : (p : ℕ → Bool) → all_below p 0 ≡ true
unfolding all_below
all_none p = refl

pub all_more : (p : ℕ → Bool) (n : ℕ) → all_below p n ≡ true → p n ≡ true → all_below p (n + 1) ≡ true
all_more p n below here =
    all_from p (n + 1) (λ k l. ⊎_elim (λ before. all_says p n below k before) (λ q. let last : k ≡ n = omega arith in ap p last ∙ here) (cases_lt k n))

pub all_fails : (p : ℕ → Bool) (n k : ℕ) → k < n → p k ≡ false → all_below p n ≡ false
all_fails p n k h e = false_from_ne_true _ (λ all. let holds = all_says p n all k h in cc)
