-- A number that is written and read, and one that is read and written. Assumes nothing.
use Rattle.std.proofs.Common.{◌≡◌, ℕ, ◌^◌, ◌<◌, List, [], ◌∷◌, ◌++◌, length, take, Ok, arith, rules}
use Rattle.std.proofs.lemmas.Bool.Decides.{nat_tests}
use Rattle.books.specs.Number.{number, encoding}
use Rattle.books.specs.OneBook.{Bytes}

pub read_of_written : (n : ℕ) (rest : List ℕ) → n < 2 ^ 32 → number (encoding n ++ rest) ≡ Ok (n, length (encoding n))
unfolding encoding
read_of_written n rest h = search rules

-- by the count of bytes, of which five matter at most
pub written_of_read : (bs : List ℕ) (n k : ℕ) → Bytes bs → number bs ≡ Ok (n, k) → take k bs ≡ encoding n
unfolding encoding
written_of_read [] n k h e = grind (arith, nat_tests)
written_of_read (a ∷ []) n k h e = grind (arith, nat_tests)
written_of_read (a ∷ b ∷ []) n k h e = grind (arith, nat_tests)
written_of_read (a ∷ b ∷ c ∷ []) n k h e = grind (arith, nat_tests)
written_of_read (a ∷ b ∷ c ∷ d ∷ []) n k h e = grind (arith, nat_tests)
written_of_read (a ∷ b ∷ c ∷ d ∷ f ∷ rest) n k h e = grind (arith, nat_tests)
