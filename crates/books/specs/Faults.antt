-- What each fault of a book is refused as, where it lies, and in which layer it arises. Assumes nothing.
use Rattle.std.specs.Prelude.{ℕ}
use Rattle.nets.specs.declared.refusal.Refusal.{Refusal}
use Rattle.nets.specs.declared.refusal.Refusal.TheVariants as refusal
use Rattle.books.specs.declared.number.NumberError.{NumberError}
use Rattle.books.specs.declared.number.NumberError.TheVariants.{Cut, TooLarge, Padded}
use Rattle.books.specs.declared.fault.RecordError.{RecordError}
use Rattle.books.specs.declared.fault.RecordError.TheVariants.{Number, Station, Limit}
use Rattle.books.specs.declared.fault.RecordFault.{RecordFault}
use Rattle.books.specs.declared.fault.BookFault.{BookFault}
use Rattle.books.specs.declared.fault.BookFault.TheVariants.{HeadNumber, Edition, HeadLimit, TableShort, Record, BytesLeft}
use Rattle.books.specs.declared.fault.Layer.{Layer}
use Rattle.books.specs.declared.fault.Layer.TheVariants as layer

-- A number's fault: the refusals 1 to 3.
abbrev pub number_refusal : NumberError → Refusal
number_refusal Cut = refusal.NumberCut
number_refusal TooLarge = refusal.NumberTooLarge
number_refusal Padded = refusal.NumberPadded

-- A record's fault: that of a number in it, or 7 or 8.
abbrev pub record_refusal : RecordError → Refusal
record_refusal (Number e) = number_refusal e.error
record_refusal (Station p) = refusal.RecordStation
record_refusal (Limit p) = refusal.RecordLimit

-- The place where the number at fault in a record begins.
abbrev pub record_place : RecordError → ℕ
record_place (Number e) = e.place
record_place (Station p) = p
record_place (Limit p) = p

-- The same of a fault that tells its line.
abbrev pub fault_place : RecordFault → ℕ
fault_place f = record_place f.error

-- The layer in which the fault of a record arises.
abbrev pub record_layer : RecordError → Layer
record_layer (Number e) = layer.Number
record_layer (Station p) = layer.Record
record_layer (Limit p) = layer.Record

-- A book's fault: that of a number in its head, that of a record, or 4, 5, 6 or 9.
abbrev pub refusal_of : BookFault → Refusal
refusal_of (HeadNumber e) = number_refusal e.error
refusal_of (Edition p) = refusal.Edition
refusal_of (HeadLimit p) = refusal.HeadLimit
refusal_of (TableShort p) = refusal.TableShort
refusal_of (Record e) = record_refusal e.error
refusal_of (BytesLeft p) = refusal.BytesLeft

-- The place where the number at fault begins: for a short table that of the lines' number, for bytes left over the first of them.
abbrev pub place_of : BookFault → ℕ
place_of (HeadNumber e) = e.place
place_of (Edition p) = p
place_of (HeadLimit p) = p
place_of (TableShort p) = p
place_of (Record e) = fault_place e
place_of (BytesLeft p) = p

-- The layer in which the fault arises, however deep it lies: a number's fault in a record is a number's.
abbrev pub layer_of : BookFault → Layer
layer_of (HeadNumber e) = layer.Number
layer_of (Edition p) = layer.Book
layer_of (HeadLimit p) = layer.Book
layer_of (TableShort p) = layer.Book
layer_of (Record e) = record_layer e.error
layer_of (BytesLeft p) = layer.Book
