-- A book message, type 53, and its entries (document 01, "One unit"). Assumes nothing.
use Rattle.std.specs.Prelude.{ℕ, zero, suc, ◌+◌, ◌*◌, Bool, ◌&&◌, ◌||◌, List, [], ◌∷◌, length, drop, ltb, leb, eqb}
use Rattle.ground.specs.Choice.{one_of, all}
use Rattle.wire.specs.Number.{field, biased}
use Rattle.wire.specs.Codes.{security_code, listed_code}
use Rattle.ladder.specs.declared.Entry.{Entry}

-- "SecurityCode at 4 (4 bytes), filler 3, NoEntries at 11 (1 byte)" (the code: wire/specs/Codes)
abbrev pub no_entries : List ℕ → ℕ
no_entries m = field 11 1 m

abbrev pub has_entries : List ℕ → Bool
has_entries m = ltb 0 (no_entries m)

-- where the entries begin, and how long one is
abbrev pub entries_at : ℕ
entries_at = 12

abbrev pub entry_size : ℕ
entry_size = 24

-- an entry of the numbers that were sent
abbrev pub entry_of : ℕ → ℕ → ℕ → ℕ → ℕ → ℕ → Entry
entry_of quantity raw orders side level action =
    record { row = record { price = biased raw; quantity = quantity; orders = orders }; side = side; level = level; action = action }

-- "AggregateQuantity (8), Price (signed, 4), NumberOfOrders (4), Side (2), PriceLevel (1), UpdateAction (1), filler 4"
abbrev pub entry_at : ℕ → List ℕ → Entry
entry_at at s = entry_of (field at 8 s) (field (at + 8) 4 s) (field (at + 12) 4 s) (field (at + 16) 2 s) (field (at + 18) 1 s) (field (at + 19) 1 s)

-- n entries from `at` on, in 24-byte steps
unfoldable pub entries_from : ℕ → ℕ → List ℕ → List Entry
entries_from zero at s = []
entries_from (suc n) at s = entry_at at s ∷ entries_from n (at + entry_size) s

-- "The entries are judged on the part of the message that begins at byte 12"
abbrev pub entries : List ℕ → List Entry
entries m = entries_from (no_entries m) 0 (drop entries_at m)

-- "Type 53 is 12 + 24 x NoEntries, and below 12 is a wrong size"
unfoldable pub book_sized : List ℕ → Bool
book_sized m = leb entries_at (length m) && eqb (length m) (entries_at + entry_size * no_entries m)

-- "Side (2: 0 bid, 1 offer)"
abbrev pub bid_side : ℕ
bid_side = 0

abbrev pub offer_side : ℕ
offer_side = 1

unfoldable pub listed_side : ℕ → Bool
listed_side n = one_of n (bid_side ∷ offer_side ∷ [])

-- "UpdateAction (1: 0 new, 1 change, 2 delete, 74 clear)"
abbrev pub new : ℕ
new = 0

abbrev pub change : ℕ
change = 1

abbrev pub delete : ℕ
delete = 2

abbrev pub clear : ℕ
clear = 74

-- "PriceLevel p is the rank, 1 to 10"; a side has at most ten rows
abbrev pub depth : ℕ
depth = 10

unfoldable pub listed_rank : ℕ → Bool
listed_rank p = leb 1 p && leb p depth

-- side, level and action listed; of a clear, side and level are not looked at
unfoldable pub listed_entry : Entry → Bool
listed_entry e = eqb e.action clear || (one_of e.action (new ∷ change ∷ delete ∷ []) && listed_side e.side && listed_rank e.level)

-- "All fields of all entries are judged": answer 15 is given where this fails
unfoldable pub listed_book : List ℕ → Bool
listed_book m = listed_code (security_code m) && all listed_entry (entries m)
