-- A book message on the lent table of books (document 01, "The book table", "Entries, against a side of n rows"). Assumes nothing.
use Rattle.std.specs.Prelude.{ℕ, Bool, cond, ◌&&◌, List, [], ◌∷◌, eqb}
use Rattle.std.proofs.Math.Option.{Option}
use Rattle.ground.specs.Choice.{first}
use Rattle.slots.specs.Slots.{max_slots}
use Rattle.slots.specs.Layout as table
use Rattle.slots.specs.Layout.{Layout, Step, stepped}
use Rattle.slots.specs.declared.Slot.{Slot}
use Rattle.wire.specs.Codes.{security_code}
use Rattle.ladder.specs.Message.{has_entries}
use Rattle.ladder.specs.Walk.{Book, empty_book, book_after, message_drops}
use Rattle.ladder.specs.Words.{book_width, book_of, words_of, sound}

-- "One book is 64 words; slots are whole blocks of 64, at most 4,096": what holds of any table of slots is said in slots/specs/Layout
abbrev pub books : Layout Book
books = record { width = book_width; most = max_slots; sound = sound; read = book_of; words = words_of; empty = empty_book }

-- where a code's book is, or would be
abbrev pub place_in : ℕ → List ℕ → Slot
place_in c t = table.place_in books c t

-- the words of slot k
abbrev pub block : ℕ → List ℕ → List ℕ
block k t = table.block books k t

-- 18: "that code's book not sound"
abbrev pub unsound_at : Slot → List ℕ → Bool
unsound_at p t = table.unsound_at books p t

-- 17: "code has no book and no slot is free"
abbrev pub none_free : Slot → Bool
none_free p = table.none_free p

-- a code's book as it stands, empty where the code has none (a free slot's other words may be anything)
abbrev pub book_at : Slot → List ℕ → Book
book_at p t = table.value_at books p t

-- the book of a code in a table
abbrev pub book_in : ℕ → List ℕ → Book
book_in c t = book_at (place_in c t) t

-- what a message that comes at a time asks of the table: "NoEntries 0 .. takes no slot", and by document 02, request 1, "it still takes no slot"
abbrev pub step_of : ℕ → List ℕ → Step Book
step_of time m = record { code = security_code m; takes = has_entries m; makes = book_after time m }

-- the code's book after it
abbrev pub book_step : ℕ → List ℕ → List ℕ → Option Book
book_step time m t = book_after time m (book_in (security_code m) t)

-- 16: "an entry does not fit"
abbrev pub misfit : Option Book → Bool
misfit r = table.misfit r

-- Document 01: "with NoEntries 0, answers 18, 17 and 16 aren't given". Document 02, request 1: "Answer 18 now applies to it where the book exists
-- and is not sound", it "can't be 17", and nothing of it can fail to fit
unfoldable pub unsound : List ℕ → List ℕ → Bool
unsound m t = unsound_at (place_in (security_code m) t) t

unfoldable pub no_slot : List ℕ → List ℕ → Bool
no_slot m t = has_entries m && none_free (place_in (security_code m) t)

unfoldable pub misfits : ℕ → List ℕ → List ℕ → Bool
misfits time m t = misfit (book_step time m t)

-- what a book message is answered on a table by itself: 18, 17, 16 or 0, in that order
unfoldable pub book_answer : ℕ → List ℕ → List ℕ → ℕ
book_answer time m t =
    first
    ((unsound m t, 18)
    ∷ (no_slot m t, 17)
    ∷ (misfits time m t, 16)
    ∷ [])
    0

-- the table after a message that is taken: the code's book "and the whole block is written" to its slot. (Document 01: "NoEntries 0 is taken, changes
-- no book and takes no slot". Document 02, request 1: it empties the code's book, and a code without one still takes no slot.)
unfoldable pub books_after : ℕ → List ℕ → List ℕ → List ℕ
books_after time m t = stepped books (step_of time m) t

-- document 02, request 6: how many rows a message drops that is taken, ..
abbrev pub drops_in : ℕ → List ℕ → List ℕ → ℕ
drops_in time m t = message_drops time m (book_in (security_code m) t)

-- .. "and 0 for a refused message"
unfoldable pub rows_dropped : ℕ → List ℕ → List ℕ → ℕ
rows_dropped time m t = cond (eqb (book_answer time m t) 0) (drops_in time m t) 0
