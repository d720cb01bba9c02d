-- How many numbers below n have a property. Assumes nothing.
use Rattle.std.proofs.Common.{◌≡◌, ℕ, zero, suc, ◌+◌, ◌<◌, ◌≤◌, Bool, true, false, cond, ◌⊎◌, count_by, ◌∙◌, inl, inr, ⊎_elim, add-one, arith}
use Rattle.std.specs.List.{range_with_len}
use Rattle.std.proofs.lemmas.Bool.{cases_lt}
use Rattle.std.proofs.lemmas.List.{map-id}
use Rattle.std.proofs.lemmas.List.FromFn.{length-range_with_len, sum_by-map-range_with_len_more}
use Rattle.std.proofs.lemmas.List.Sums.{count_by-le-length}

abbrev pub count : (ℕ → Bool) → ℕ → ℕ
count p n = count_by p (range_with_len 0 n)

-- the count goes from n to n + 1
one_counted : (b : Bool) (m : ℕ) → m + cond b 1 0 ≡ cond b (suc m) m
one_counted true m = omega arith
one_counted false m = omega arith

pub count_suc : (p : ℕ → Bool) (n : ℕ) → count p (suc n) ≡ cond (p n) (suc (count p n)) (count p n)
count_suc p n =
    let more = sum_by-map-range_with_len_more (λ v. cond (p v) 1 0) (λ v. v) 0 n n (omega arith) in
    rw (map-id, map-id, add-one n) at more ∙ one_counted (p n) (count p n)

pub below_suc : (j n : ℕ) → j < suc n → (j < n) ⊎ (j ≡ n)
below_suc j n h = ⊎_elim (λ l. inl l) (λ l. inr (omega arith)) (cases_lt j n)

pub count_within : (p : ℕ → Bool) (n : ℕ) → count p n ≤ n
count_within p n =
    let h = count_by-le-length p (range_with_len 0 n) in rw (length-range_with_len 0 n) at h

-- one number more, counted by a and by b
step : (a b : Bool) (m n : ℕ) → (a ≡ true → b ≡ true) → m ≤ n → cond a (suc m) m ≤ cond b (suc n) n
step a b m n h l = grind arith

strict_step : (a b : Bool) (m n : ℕ) → (a ≡ true → b ≡ true) → m < n → cond a (suc m) m < cond b (suc n) n
strict_step a b m n h l = grind arith

last_step : (a b : Bool) (m n : ℕ) → a ≡ false → b ≡ true → m ≤ n → cond a (suc m) m < cond b (suc n) n
last_step a b m n e f l = rw (e, f) (omega arith)

-- where q holds wherever p does, it holds no less often
pub count_rises : (p q : ℕ → Bool) (n : ℕ) → ((v : ℕ) → v < n → p v ≡ true → q v ≡ true) → count p n ≤ count q n
count_rises p q zero h = omega arith
count_rises p q (suc n) h =
    rw (count_suc p n, count_suc q n)
    (step (p n) (q n) (count p n) (count q n) (h n (omega arith)) (count_rises p q n (λ v l. h v (omega arith))))

-- and more often where it holds of some u besides
pub count_more : (p q : ℕ → Bool) (n u : ℕ) → u < n → ((v : ℕ) → v < n → p v ≡ true → q v ≡ true) → p u ≡ false → q u ≡ true → count p n < count q n
count_more p q zero u l h lacks has = absurd (omega arith)
count_more p q (suc n) u l h lacks has =
    let less : (v : ℕ) → v < n → p v ≡ true → q v ≡ true = λ v k. h v (omega arith) in
    rw (count_suc p n, count_suc q n)
    (⊎_elim
    (λ below. strict_step (p n) (q n) (count p n) (count q n) (h n (omega arith)) (count_more p q n u below less lacks has))
    (λ last. last_step (p n) (q n) (count p n) (count q n) (rw last at lacks) (rw last at has) (count_rises p q n less))
    (below_suc u n l))
