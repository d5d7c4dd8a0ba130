-- Reading a row, or a side's rows, out of one slot's words. Assumes nothing.
use Rattle.std.specs.Prelude.{ℕ, ◌+◌, ◌-◌, ◌*◌, cond, List, drop, replicate, ltb, eqb, Result, Ok, Err}
use Rattle.ladder.specs.Message.{depth, bid_side}
use Rattle.ladder.specs.Words.{bid_count, offer_count, bids_at, offers_at, row_width, row_of, sound}
use Rattle.ground.specs.declared.Refusal.{Refusal}
use Rattle.ground.specs.Refusals.{refusal_no}
use Rattle.ladder.specs.declared.Way.{Way}
use Rattle.ladder.specs.declared.Way.TheVariants.{Bid, Offer}
use Rattle.books.specs.Reading.{RowRead, SideRead, row_refused, row_shown, reads_from, level_of, side_by}
use Rattle.books.specs.declared.Level.{Level}
use Rattle.books.specs.declared.Side.{Side}

-- a side's number, as it is sent
abbrev pub side_no : Way → ℕ
side_no Bid = 0
side_no Offer = 1

-- a row out of a slot's words: of a side of n rows from a word on, and of a book
unfoldable pub row_of_side : ℕ → ℕ → ℕ → List ℕ → RowRead
row_of_side base n rank w = cond (ltb n rank) (row_refused 4) (row_shown (row_of (drop (base + row_width * (rank - 1)) w)))

unfoldable pub row_of_book : ℕ → ℕ → List ℕ → RowRead
row_of_book side rank w =
    cond (sound w)
    (cond (eqb side bid_side) (row_of_side bids_at (bid_count w) rank w) (row_of_side offers_at (offer_count w) rank w))
    (row_refused 18)

-- what a side gives with any answer but 0
abbrev pub side_refused : ℕ → SideRead
side_refused n = record { answer = n; count = 0; rows = replicate depth (level_of (row_refused n)) }

-- what the code says of a row and of a side, with the answer's number: 0 and what was read, or why it was refused and zeros
abbrev pub row_read : Result Level Refusal → RowRead
row_read (Ok l) = record { answer = 0; price = l.price; quantity = l.quantity; orders = l.orders }
row_read (Err e) = row_refused (refusal_no e)

abbrev pub side_read : Result Side Refusal → SideRead
side_read (Ok s) = record { answer = 0; count = s.count; rows = s.rows }
side_read (Err e) = side_refused (refusal_no e)

-- a side's rows out of a slot's words: of a side of n rows from a word on, and of a book
abbrev pub reads_of_side : ℕ → ℕ → List ℕ → List RowRead
reads_of_side base n w = reads_from (λ rank. row_of_side base n rank w) depth 1

unfoldable pub side_of_words : ℕ → ℕ → List ℕ → SideRead
side_of_words base n w = side_by 0 (reads_of_side base n w)

unfoldable pub side_of_book : ℕ → List ℕ → SideRead
side_of_book side w =
    cond (sound w)
    (cond (eqb side bid_side) (side_of_words bids_at (bid_count w) w) (side_of_words offers_at (offer_count w) w))
    (side_refused 18)
