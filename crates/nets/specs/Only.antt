-- What an edit of line k leaves of a net's own tables: all but what the table has at k. Assumes nothing.
use Rattle.std.specs.Prelude.{◌≡◌, ℕ, slice_set}
use Rattle.nets.specs.declared.line.Line.{Line}
use Rattle.nets.specs.declared.list.ListNet.{ListNet}
use Rattle.nets.specs.declared.patched.Change.{Change}
use Rattle.nets.specs.declared.patched.PatchedNet.{PatchedNet}

-- Of a list net: the count of stations, which table was lent, and every record of it but record k.
pub record OnlyRecord (k : ℕ) (before after : ListNet) : Type 0 where
  pub count : after.count ≡ before.count
  pub lender : after.records.ghost_name ≡ before.records.ghost_name
  pub value : Line
  pub records : after.records.now ≡ slice_set before.records.now k value

-- Of a patched net: the net beneath, and every change but that of line k.
pub record OnlyChange {N : Type 0} (k : ℕ) (before after : PatchedNet N) : Type 0 where
  pub net : after.net ≡ before.net
  pub value : Change
  pub changes : after.table.changes ≡ slice_set before.table.changes k value
