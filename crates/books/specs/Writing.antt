-- What a method of the writer needs, and what it writes. Assumes nothing.
use Rattle.std.specs.Prelude.{◌≡◌, ℕ, ◌+◌, ◌≤◌, List, length}
use Rattle.std.proofs.Math.Seq.{paste}
use Rattle.books.specs.declared.writer.Writer.{Writer}

-- There is room for the bytes from the cursor on.
pub record HasRoom (bytes : List ℕ) (before : Writer) : Type 0 where
  pub room : before.at + length bytes ≤ length before.out.now

-- The bytes stand from the cursor on, which is moved behind them; all other bytes stay. It is the same output that is lent.
pub record Writes (bytes : List ℕ) (before after : Writer) : Type 0 where
  pub place : after.at ≡ before.at + length bytes
  pub output : after.out.now ≡ paste before.out.now before.at bytes (length bytes)
  pub lender : after.out.ghost_name ≡ before.out.ghost_name
