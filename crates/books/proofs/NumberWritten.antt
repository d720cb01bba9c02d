-- The bytes of a number: how many they are, and the first before the others. Assumes nothing.
use Rattle.std.proofs.Common.{◌≡◌, ℕ, zero, suc, ◌+◌, ◌/◌, ◌%◌, ◌^◌, ◌<◌, ◌≤◌, [], ◌∷◌, length, arith}
use Rattle.std.proofs.lemmas.Bool.Decides.{nat_tests}
use Rattle.books.specs.Number.{groups, encoding}

-- a number takes at most five bytes
groups_most : (m n : ℕ) → length (groups m n) ≤ m + 1
groups_most zero n = omega arith
groups_most (suc m) n = let r = groups_most m (n / 128) in grind (arith, nat_tests)

pub encoding_most : (n : ℕ) → length (encoding n) ≤ 5
unfolding encoding
encoding_most n = groups_most 4 n

-- one group of a short number, and that of a longer one before the others
pub encoding_last : (n : ℕ) → n < 128 → encoding n ≡ n ∷ []
unfolding encoding
encoding_last n h = grind (arith, nat_tests)

fewer : (n : ℕ) → n < 2 ^ 28 → groups 4 n ≡ groups 3 n
fewer n h = grind (arith, nat_tests)

pub encoding_more : (n : ℕ) → n < 2 ^ 32 → 128 ≤ n → encoding n ≡ (n % 128 + 128) ∷ encoding (n / 128)
unfolding encoding
encoding_more n h q = let e = fewer (n / 128) (omega arith) in rw e (grind (arith, nat_tests))
