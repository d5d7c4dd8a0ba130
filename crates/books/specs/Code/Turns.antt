-- A book message on one slot, and on the table by itself, as the code goes about it. Assumes nothing.
use Rattle.std.specs.Prelude.{ℕ, Bool, true, false, cond, List, eqb}
use Rattle.std.proofs.Math.Option.{Option, some}
use Rattle.slots.specs.Layout.{Landed, landed}
use Rattle.slots.specs.Code.Turns.{ready, start_of}
use Rattle.slots.specs.declared.Slot.{Slot}
use Rattle.slots.specs.declared.Slot.TheVariants.{Held, Free, Full}
use Rattle.ladder.specs.Code.Arrays.{empty_rows, empty_counts}
use Rattle.ladder.specs.Code.Loading.{rows_in, counts_in}
use Rattle.ladder.specs.declared.Row.{Row}
use Rattle.ladder.specs.declared.Entry.{Entry}
use Rattle.ladder.specs.Walk.{Book, empty_book, dropped_by}
use Rattle.books.specs.Table.{books, block, book_answer, books_after}

-- the rows and the counts that a slot's book starts from: a free slot's starts empty
abbrev pub start_rows : Bool → List ℕ → List (List Row)
start_rows own w = cond own (rows_in w) empty_rows

abbrev pub start_counts : Bool → List ℕ → List ℕ
start_counts own w = cond own (counts_in w) empty_counts

-- what a message with no entries makes of a book
abbrev pub empties : Book → Option Book
empties b = some empty_book

-- a book message on a table by itself: its answer, and every word afterwards. Only with 0 is anything written
abbrev pub book_turn : ℕ → List ℕ → List ℕ → Landed
book_turn time m t = landed (book_answer time m t) (cond (eqb (book_answer time m t) 0) (books_after time m t) t)

-- how many rows the entries of a message drop: in a slot's words, and in the slot where a code's book is or would be
unfoldable pub slot_drops : Bool → ℕ → List Entry → List ℕ → ℕ
slot_drops own time es w = cond (ready books own w) (dropped_by time es (start_of books own w)) 0

unfoldable pub place_drops : Slot → ℕ → List Entry → List ℕ → ℕ
place_drops (Held k) time es t = slot_drops true time es (block k t)
place_drops (Free k) time es t = slot_drops false time es (block k t)
place_drops Full time es t = 0
