-- The number of each refusal, once for the whole library. Assumes nothing.
use Rattle.std.specs.Prelude.{ℕ}
use Rattle.nets.specs.declared.refusal.Refusal.{Refusal}
use Rattle.nets.specs.declared.refusal.Refusal.TheVariants.{NumberCut, NumberTooLarge, NumberPadded, Edition, HeadLimit, TableShort, RecordStation, RecordLimit, BytesLeft, NoSuchGateway, TableLength, NoSuchLine, PriceLimit, SheetNotRight, WidthZero, NetLimit, OutputShort}

abbrev pub number_of : Refusal → ℕ
-- a number in a book: the bytes end before it does; its fifth byte is above 15; it has several bytes and the last is 0
number_of NumberCut = 1
number_of NumberTooLarge = 2
number_of NumberPadded = 3
-- a book's head: the edition is not 1; stations or lines beyond the limits; the table is shorter than the lines
number_of Edition = 4
number_of HeadLimit = 5
number_of TableShort = 6
-- a book's records: a station not below the count; a fee, a loss or an open beyond its limit
number_of RecordStation = 7
number_of RecordLimit = 8
-- a book's end: bytes are left over
number_of BytesLeft = 9
-- a call on a sheet: the gateway is no station; rows or work entries are not one for each station
number_of NoSuchGateway = 10
number_of TableLength = 11
-- a call on a sheet, or an edit: there is no such line; the fee or the loss is over its limit
number_of NoSuchLine = 12
number_of PriceLimit = 13
-- a reprice, a shut or an open: the check says no
number_of SheetNotRight = 14
-- a making, or the judging before it: the width is 0; stations, lines, fees or losses beyond the limits
number_of WidthZero = 15
number_of NetLimit = 16
-- the writing of a book: the output is shorter than the book
number_of OutputShort = 17
