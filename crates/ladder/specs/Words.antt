-- The 64 words of a book, and which of them are sound (document 01, "The book table"). Assumes nothing.
use Rattle.std.specs.Prelude.{ℕ, ◌+◌, ◌*◌, ◌≤◌, ◌≡◌, Bool, true, ◌&&◌, List, [], ◌∷◌, ◌++◌, map, length, take, drop, get_or, replicate, ltb, leb, eqb}
use Rattle.ground.specs.Choice.{all}
use Rattle.wire.specs.Number.{word32}
use Rattle.slots.specs.Slots.{blocks, flat}
use Rattle.ladder.specs.Message.{depth}
use Rattle.ladder.specs.Sides.{better, no_row}
use Rattle.ladder.specs.declared.Way.{Way}
use Rattle.ladder.specs.declared.Way.TheVariants.{Bid, Offer}
use Rattle.ladder.specs.Walk.{Book}
use Rattle.ladder.specs.declared.Row.{Row}

-- "A row is three words: price + 2,147,483,648, quantity, orders"; a side is ten rows
abbrev pub row_width : ℕ
row_width = 3

abbrev pub side_width : ℕ
side_width = row_width * depth

-- "One book is 64 words": word 0 the code, 1 the bid rows, 2 the offer rows, 3 zero, 4 to 33 the bids, 34 to 63 the offers
abbrev pub bid_count : List ℕ → ℕ
bid_count w = get_or w 1 0

abbrev pub offer_count : List ℕ → ℕ
offer_count w = get_or w 2 0

abbrev pub spare_word : List ℕ → ℕ
spare_word w = get_or w 3 0

abbrev pub bids_at : ℕ
bids_at = 4

abbrev pub offers_at : ℕ
offers_at = bids_at + side_width

abbrev pub book_width : ℕ
book_width = offers_at + side_width

abbrev pub row_of : List ℕ → Row
row_of w = record { price = get_or w 0 0; quantity = get_or w 1 0; orders = get_or w 2 0 }

abbrev pub row_words : Row → List ℕ
row_words r = r.price ∷ r.quantity ∷ r.orders ∷ []

-- the ten rows from a word on
unfoldable pub rows_from : ℕ → List ℕ → List Row
rows_from at w = map row_of (blocks row_width depth (drop at w))

-- the book in a block of words: of each side as many rows as its count says
abbrev pub book_of : List ℕ → Book
book_of w = record { bids = take (bid_count w) (rows_from bids_at w); offers = take (offer_count w) (rows_from offers_at w) }

-- ten rows: those of a side, and zero rows behind them ("Rows beyond the count are zero")
unfoldable pub no_rows : List Row
no_rows = replicate depth no_row

abbrev pub pad : List Row → List Row
pad s = take depth (s ++ no_rows)

unfoldable pub side_words : List Row → List ℕ
side_words s = flat (map row_words (pad s))

-- the whole block of a code's book
unfoldable pub words_of : ℕ → Book → List ℕ
words_of c b = c ∷ length b.bids ∷ length b.offers ∷ 0 ∷ (side_words b.bids ++ side_words b.offers)

-- "bids strictly fall and offers strictly rise": each row is better than the next
unfoldable pub best_first : Way → List Row → Bool
best_first w [] = true
best_first w (x ∷ []) = true
best_first w (x ∷ (y ∷ s)) = better w x.price y.price && best_first w (y ∷ s)

-- "price and orders words are below 4,294,967,296"
unfoldable pub bounded : Row → Bool
bounded r = ltb r.price word32 && ltb r.orders word32

unfoldable pub zero_row : Row → Bool
zero_row r = eqb r.price 0 && eqb r.quantity 0 && eqb r.orders 0

-- ten rows of which n are used
unfoldable pub sound_side : Way → ℕ → List Row → Bool
sound_side w n rows = leb n depth && all zero_row (drop n rows) && all bounded (take n rows) && best_first w (take n rows)

-- "A book is sound if both counts are at most 10, word 3 and unused rows are zero, price and orders words are below 4,294,967,296, bids strictly fall and offers strictly rise"
unfoldable pub sound : List ℕ → Bool
sound w = eqb (spare_word w) 0 && sound_side Bid (bid_count w) (rows_from bids_at w) && sound_side Offer (offer_count w) (rows_from offers_at w)

-- a side by value: at most ten rows, price and orders words below 4,294,967,296, each row better than the next
pub record SoundRows (w : Way) (s : List Row) : Type 0 where
  pub few : length s ≤ depth
  pub words : all bounded s ≡ true
  pub best : best_first w s ≡ true

-- a book by value
pub record SoundBook (b : Book) : Type 0 where
  pub bids : SoundRows Bid b.bids
  pub offers : SoundRows Offer b.offers
