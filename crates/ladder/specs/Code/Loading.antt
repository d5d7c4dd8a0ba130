-- The sides read from a book's words by value, the counts that tell whether one is sound, and a book's words after a walk (document 01, "The book table"). Assumes nothing.
use Rattle.std.specs.Prelude.{ℕ, zero, suc, Bool, cond, ◌&&◌, List, [], ◌∷◌, get_or, leb, ltb}
use Rattle.std.proofs.Math.Option.{Option, none, some}
use Rattle.std.specs.Int.Bits.{bit_or}
use Rattle.wire.specs.Number.{word32}
use Rattle.slots.specs.Layout.{Landed, landed}
use Rattle.ladder.specs.Message.{depth}
use Rattle.ladder.specs.Sides.{better, no_row}
use Rattle.ladder.specs.Walk.{Book}
use Rattle.ladder.specs.Words.{bid_count, offer_count, bids_at, offers_at, rows_from, words_of, zero_row}
use Rattle.ladder.specs.declared.Way.{Way}
use Rattle.ladder.specs.declared.Way.TheVariants.{Bid, Offer}
use Rattle.ladder.specs.declared.Row.{Row}

-- the two sides' ten rows, and their counts
abbrev pub rows_in : List ℕ → List (List Row)
rows_in w = rows_from bids_at w ∷ rows_from offers_at w ∷ []

abbrev pub counts_in : List ℕ → List ℕ
counts_in w = bid_count w ∷ offer_count w ∷ []

-- where a side's count and its ten rows are in a book's words, and its count
abbrev pub count_at : Way → ℕ
count_at Bid = 1
count_at Offer = 2

abbrev pub rows_at : Way → ℕ
rows_at Bid = bids_at
rows_at Offer = offers_at

abbrev pub count_in : Way → List ℕ → ℕ
count_in way w = get_or w (count_at way) 0

-- how many rows, from the first on, are each better than the next
unfoldable pub in_order : Way → List Row → ℕ
in_order w [] = 0
in_order w (x ∷ []) = 1
in_order w (x ∷ (y ∷ s)) = cond (better w x.price y.price) (suc (in_order w (y ∷ s))) 1

-- of the first i rows: how many there are down to the last that is not zero, and the OR of their price and orders words
unfoldable pub used_of : ℕ → List Row → ℕ
used_of zero s = 0
used_of (suc i) s = cond (zero_row (get_or s i no_row)) (used_of i s) (suc i)

unfoldable pub lows_of : ℕ → List Row → ℕ
lows_of zero s = 0
lows_of (suc i) s = bit_or (lows_of i s) (bit_or (get_or s i no_row).price (get_or s i no_row).orders)

-- ten rows of which at most n are used, their price and orders words below 4,294,967,296
unfoldable pub sound_words : ℕ → List Row → Bool
sound_words n s = leb (used_of depth s) n && ltb (lows_of depth s) word32

-- a book's words after a walk: 16 and as they were, or 0 and all of them written
abbrev pub settled : ℕ → Option Book → List ℕ → Landed
settled c none w = landed 16 w
settled c (some b) w = landed 0 (words_of c b)
