-- Reading a row by code, side and rank (document 01, "Reading a row"), and a side's rows at once. It writes nothing. Assumes nothing.
use Rattle.std.specs.Prelude.{ℕ, ℤ, zero, suc, ◌+◌, Bool, true, false, cond, not, ◌&&◌, List, [], ◌∷◌, map, length, pos, ltb, eqb}
use Rattle.std.proofs.Math.IntN.{sub_ℕ}
use Rattle.ground.specs.Choice.{first}
use Rattle.wire.specs.Number.{bias}
use Rattle.slots.specs.declared.Slot.{Slot}
use Rattle.slots.specs.declared.Slot.TheVariants.{Held, Free, Full}
use Rattle.wire.specs.Codes.{listed_code}
use Rattle.ladder.specs.Message.{depth, bid_side, listed_side, listed_rank}
use Rattle.ladder.specs.Sides.{row_at}
use Rattle.ladder.specs.Walk.{Book}
use Rattle.ladder.specs.declared.Row.{Row}
use Rattle.books.specs.Table.{place_in, unsound_at, book_at}
use Rattle.books.specs.declared.Level.{Level}

-- what reading a row gives: the answer, and with answer 0 the row, its price signed as sent
pub record RowRead : Type 0 where
  pub answer : ℕ
  pub price : ℤ
  pub quantity : ℕ
  pub orders : ℕ

-- what reading a side gives: the answer, and with answer 0 how many rows there are, and the rows, best first
pub record SideRead : Type 0 where
  pub answer : ℕ
  pub count : ℕ
  pub rows : List Level

-- no slot has the code
unfoldable pub no_book : Slot → Bool
no_book (Held k) = false
no_book (Free k) = true
no_book Full = true

abbrev pub side_of : ℕ → Book → List Row
side_of n b = cond (eqb n bid_side) b.bids b.offers

-- the side that is asked for, of the code's book
abbrev pub side_in : ℕ → ℕ → List ℕ → List Row
side_in c side t = side_of side (book_at (place_in c t) t)

-- "15 (bad code, side or rank), 4 (no book), 18, 4 (no such row), else 0"
unfoldable pub read_answer : ℕ → ℕ → ℕ → List ℕ → ℕ
read_answer c side rank t =
    first
    ((not (listed_code c && listed_side side && listed_rank rank), 15)
    ∷ (no_book (place_in c t), 4)
    ∷ (unsound_at (place_in c t) t, 18)
    ∷ (ltb (length (side_in c side t)) rank, 4)
    ∷ [])
    0

-- "with any other answer price, quantity and orders are 0"
abbrev pub row_refused : ℕ → RowRead
row_refused n = record { answer = n; price = pos 0; quantity = 0; orders = 0 }

-- "the row, its price signed as sent": the price word less 2,147,483,648
abbrev pub row_shown : Row → RowRead
row_shown r = record { answer = 0; price = sub_ℕ r.price bias; quantity = r.quantity; orders = r.orders }

unfoldable pub read_row : ℕ → ℕ → ℕ → List ℕ → RowRead
read_row c side rank t =
    cond (eqb (read_answer c side rank t) 0) (row_shown (row_at (side_in c side t) rank)) (row_refused (read_answer c side rank t))

-- all rows of a side at once, a call of our own: 15 (bad code or side), 4 (no book), 18, else 0
unfoldable pub side_answer : ℕ → ℕ → List ℕ → ℕ
side_answer c side t =
    first
    ((not (listed_code c && listed_side side), 15)
    ∷ (no_book (place_in c t), 4)
    ∷ (unsound_at (place_in c t) t, 18)
    ∷ [])
    0

-- single reads at so many ranks, from one on
unfoldable pub reads_from : (ℕ → RowRead) → ℕ → ℕ → List RowRead
reads_from f zero rank = []
reads_from f (suc n) rank = f rank ∷ reads_from f n (rank + 1)

-- how many of them are answered 0
unfoldable pub row_count : List RowRead → ℕ
row_count [] = 0
row_count (r ∷ rs) = cond (eqb r.answer 0) 1 0 + row_count rs

abbrev pub level_of : RowRead → Level
level_of r = record { price = r.price; quantity = r.quantity; orders = r.orders }

-- an answer with what single reads give: how many rows there are, and the rows
unfoldable pub side_by : ℕ → List RowRead → SideRead
side_by answer rs = record { answer = answer; count = row_count rs; rows = map level_of rs }

-- a side is what single reads give at the ranks from 1 to 10
unfoldable pub read_side : ℕ → ℕ → List ℕ → SideRead
read_side c side t = side_by (side_answer c side t) (reads_from (λ rank. read_row c side rank t) depth 1)
