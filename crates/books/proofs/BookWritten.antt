-- A net's book as its head and its lines' records, and the output that holds it. Assumes nothing.
use Rattle.std.proofs.Common.{◌≡◌, ℕ, ◌+◌, ◌*◌, ◌≤◌, List, [], ◌∷◌, ◌++◌, length, drop, refl, ap, ◌∙◌, zero-add, arith, length-append}
use Rattle.std.proofs.Math.Seq.{paste}
use Rattle.std.specs.List.{flat_map}
use Rattle.std.proofs.lemmas.List.Edits.{paste_all}
use Rattle.nets.specs.declared.line.Line.{Line}
use Rattle.nets.specs.Model.{Model, Sound}
use Rattle.books.specs.Book.{head_numbers, book_of}
use Rattle.books.specs.Number.{encoding}
use Rattle.books.specs.Records.{line_numbers, line_bytes}
use Rattle.books.proofs.BookReadBack.{one_book}
use Rattle.std.proofs.lemmas.List.Concat.{flat_map-append}
use Rattle.books.proofs.NumberWritten.{encoding_most}
use Rattle.books.proofs.Writing.{Left, left_none, left_more}
use Rattle.books.specs.declared.writer.Writer.{Writer}
use Rattle.books.specs.Writing.{HasRoom, Writes}

-- so many items with parts of at most so many bytes
pub length_most : {X : Type 0} (f : X → List ℕ) (most : ℕ) → ((x : X) → length (f x) ≤ most) → (xs : List X) → length (flat_map f xs) ≤ length xs * most
length_most f most h [] = omega arith
length_most f most h (x ∷ xs) =
    let r = length_most f most h xs in omega (arith, length-append (f x) (flat_map f xs), h x)

line_most : (l : Line) → length (line_bytes l) ≤ 25
unfolding line_bytes
line_most l = length_most encoding 5 encoding_most (line_numbers l)

records_joined : (ls : List Line) → flat_map encoding (flat_map line_numbers ls) ≡ flat_map line_bytes ls
unfolding line_bytes
records_joined [] = refl
records_joined (l ∷ ls) =
    flat_map-append encoding (line_numbers l) (flat_map line_numbers ls) ∙ ap (λ (t : List ℕ). flat_map encoding (line_numbers l) ++ t) (records_joined ls)

pub book_parts : (m : Model) → book_of m ≡ flat_map encoding (head_numbers m) ++ flat_map line_bytes m.lines
unfolding book_of
book_parts m =
    flat_map-append encoding (head_numbers m) (flat_map line_numbers m.lines)
    ∙ ap (λ (t : List ℕ). flat_map encoding (head_numbers m) ++ t) (records_joined m.lines)

module _ (m : Model) (s : Sound m) where
  pub head_most : length (flat_map encoding (head_numbers m)) ≤ 15
  head_most = length_most encoding 5 encoding_most (head_numbers m)

  pub lines_most : length (flat_map line_bytes m.lines) ≤ 51200
  lines_most = omega (arith, length_most line_bytes 25 line_most m.lines, s.short)

  pub book_length : length (book_of m) ≡ length (flat_map encoding (head_numbers m)) + length (flat_map line_bytes m.lines)
  book_length = ap length (book_parts m) ∙ length-append (flat_map encoding (head_numbers m)) (flat_map line_bytes m.lines)

pub ruleset length_steps = (head_most, lines_most, book_length, one_book)

-- The head is written first, and then the records are left.
module _ (m : Model) (ns : List ℕ) (e : ns ≡ head_numbers m) where
  pub head_first : book_of m ≡ flat_map encoding ns ++ flat_map line_bytes m.lines
  head_first = rw e (book_parts m)

  pub left_lines : (before now : Writer) → HasRoom (book_of m) before → Writes (flat_map encoding ns) before now
      → Left (book_of m) (flat_map line_bytes m.lines) before now
  left_lines before now r w =
      left_more (book_of m) (book_of m) (flat_map encoding ns) (flat_map line_bytes m.lines) before before now (left_none (book_of m) before r) head_first w

-- what is written from the beginning of an output on
pub front_written : (bytes out : List ℕ) → paste out 0 bytes (length bytes) ≡ bytes ++ drop (length bytes) out
front_written bytes out = paste_all out 0 bytes (length bytes) refl ∙ ap (λ (k : ℕ). bytes ++ drop k out) (zero-add (length bytes))
