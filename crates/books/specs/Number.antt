-- A number in bytes: groups of seven bits, lowest first, every byte but the last with its top bit set. How a number is read, and
-- how it is written. Assumes nothing.
use Rattle.std.specs.Prelude.{ℕ, zero, suc, ◌+◌, ◌-◌, ◌*◌, ◌/◌, ◌%◌, ◌^◌, cond, ◌&&◌, List, [], ◌∷◌, Ok, Err, Result, ◌==◌, nat_lt}
use Rattle.books.specs.declared.number.NumberError.{NumberError}
use Rattle.books.specs.declared.number.NumberError.TheVariants.{Cut, TooLarge, Padded}

-- The rest of a number, after k groups that stand for `low`: its value, with the count of all its bytes.
abbrev pub number_from : (k low : ℕ) → List ℕ → Result (ℕ × ℕ) NumberError
number_from k low [] = Err Cut
number_from k low (b ∷ bs) =
    cond (k == 4 && nat_lt 15 b) (Err TooLarge)
    (cond (nat_lt b 128)
    (cond (nat_lt 0 k && b == 0) (Err Padded) (Ok (low + b * 128 ^ k, k + 1)))
    (number_from (k + 1) (low + (b - 128) * 128 ^ k) bs))

-- The number at the front of a list of bytes, with the count of its bytes.
abbrev pub number : List ℕ → Result (ℕ × ℕ) NumberError
number bs = number_from 0 0 bs

-- The groups of n, of which at most `more` follow the first.
abbrev pub groups : (more n : ℕ) → List ℕ
groups zero n = n ∷ []
groups (suc more) n = cond (nat_lt n 128) (n ∷ []) ((128 + n % 128) ∷ groups more (n / 128))

-- The bytes of a number below 2 ^ 32.
unfoldable pub encoding : ℕ → List ℕ
encoding n = groups 4 n
