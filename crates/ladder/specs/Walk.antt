-- A book, and what the entries of a message make of it (document 01, "Entries, against a side of n rows"). Assumes nothing.
use Rattle.std.specs.Prelude.{ℕ, ◌+◌, cond, List, [], ◌∷◌, eqb}
use Rattle.std.proofs.Math.Option.{Option, none, some, map, bind}
use Rattle.ground.specs.Choice.{pick}
use Rattle.ladder.specs.Message.{bid_side, offer_side, clear, has_entries, entries}
use Rattle.slots.specs.Layout.{misfit, or_as_it_was}
use Rattle.ladder.specs.Sides.{fell_from, was_dropped, on_side}
use Rattle.ladder.specs.declared.Way.TheVariants.{Bid, Offer}
use Rattle.ladder.specs.declared.Row.{Row}
use Rattle.ladder.specs.declared.Entry.{Entry}

pub record Book : Type 0 where
  pub bids : List Row
  pub offers : List Row

abbrev pub empty_book : Book
empty_book = record { bids = []; offers = [] }

abbrev pub with_bids : Book → List Row → Book
with_bids b s = record { bids = s; offers = b.offers }

abbrev pub with_offers : Book → List Row → Book
with_offers b s = record { bids = b.bids; offers = s }

-- the book after one entry that comes at a time, and none where it does not fit. "Clear: both sides empty; side, level and price not looked at".
-- (No row keeps the time yet: request 9 of document 02 will.)
unfoldable pub on_book : ℕ → Entry → Book → Option Book
on_book time e b =
    cond (eqb e.action clear) (some empty_book)
    (pick e.side
    ((bid_side, map (with_bids b) (on_side Bid e b.bids))
    ∷ (offer_side, map (with_offers b) (on_side Offer e b.offers))
    ∷ [])
    none)

-- "Each entry meets the book as the entries before it left it. The walk stops at the first entry that does not fit, and then nothing .. is applied"
unfoldable pub walk : ℕ → List Entry → Book → Option Book
walk time [] b = some b
walk time (e ∷ es) b = bind (on_book time e b) (walk time es)

-- document 02, request 6: the row that one entry drops from a book; a clear drops none
unfoldable pub fell_off : Entry → Book → Option Row
fell_off e b =
    cond (eqb e.action clear) none
    (pick e.side
    ((bid_side, fell_from e b.bids)
    ∷ (offer_side, fell_from e b.offers)
    ∷ [])
    none)

-- how many rows entries drop, each meeting the book as the entries before it left it
unfoldable pub dropped : ℕ → List Entry → Book → ℕ
dropped time [] b = 0
dropped time (e ∷ es) b = cond (was_dropped (fell_off e b)) 1 0 + dropped time es (or_as_it_was (on_book time e b) b)

-- what a walk says: "how many were dropped .. and 0 for a refused message"
abbrev pub dropped_by : ℕ → List Entry → Book → ℕ
dropped_by time es b = cond (misfit (walk time es b)) 0 (dropped time es b)

-- a book after a message that comes at a time. (Document 01: a message with NoEntries 0 "changes no book". Document 02, request 1: "From now on ..
-- it empties both sides of that code's book".)
abbrev pub book_after : ℕ → List ℕ → Book → Option Book
book_after time m b = cond (has_entries m) (walk time (entries m) b) (some empty_book)

-- how many rows a message drops, all of whose entries fit: "Applying a message says how many were dropped, equal to the number its entries dropped". One
-- with NoEntries 0 empties a book and drops none
abbrev pub message_drops : ℕ → List ℕ → Book → ℕ
message_drops time m b = cond (has_entries m) (dropped time (entries m) b) 0
