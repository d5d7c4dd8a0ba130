-- The program's run over one stream (document 01, example 10). Assumes nothing.
use Rattle.std.specs.Prelude.{ℕ, zero, suc, ◌+◌, cond, List, [], ◌∷◌, ◌++◌, length, take, drop, replicate, ℤ, eqb}
use Rattle.std.proofs.Math.IntN.{sub_ℕ}
use Rattle.wire.specs.Number.{bias}
use Rattle.slots.specs.Slots.{code_of}
use Rattle.slots.specs.Layout.{slots_in}
use Rattle.ladder.specs.Message.{bid_side, offer_side}
use Rattle.ladder.specs.Words.{book_of}
use Rattle.books.specs.Table.{books}
use Rattle.ladder.specs.declared.Row.{Row}
use Rattle.feed.specs.Feeds.{new_feed}
use Rattle.feed.specs.Events.{State, Arrive, Connect}
use Rattle.feed.specs.Steps.{accepted, Outcome, outcome, step}
use Rattle.feed.specs.declared.Link.TheVariants.{Fresh}

-- "a unit too long for the program's buffer of 65,536 bytes ends the run as 3": no call sees more than the buffer
abbrev pub buffer_size : ℕ
buffer_size = 65536

-- where a run stands: the last answer, the units accepted, the feed and its table
pub record Stand : Type 0 where
  pub answer : ℕ
  pub units : ℕ
  pub state : State

-- calls at time 0, each at the bytes that the one before left, until one is not accepted ("that last call is made even with no bytes left");
-- `calls` bounds how many, and as a unit has at least 20 bytes, one more than there are bytes is never all used up
unfoldable pub follow : ℕ → List ℕ → Stand → Stand
follow zero s x = x
follow (suc calls) s x =
    let o : Outcome = outcome x.state (Arrive (take buffer_size s) 0) in
    let after : Stand = record { answer = o.given.answer; units = x.units; state = record { feed = o.given.feed; tables = o.tables } } in
    let rest : Stand = follow calls (drop o.given.used s) (record { answer = after.answer; units = x.units + 1; state = after.state }) in
    cond (accepted o.given.answer) rest after

-- "128 slots" of 64 words; and as many strips of 12 (DECISIONS 60)
abbrev pub table_words : ℕ
table_words = 8192

abbrev pub strip_words : ℕ
strip_words = 1536

-- "fresh connect, time 0, limit 1,000, 128 slots"
abbrev pub connection : State
connection = step (record { feed = new_feed 1000; tables = record { books = replicate table_words 0; strips = replicate strip_words 0 } }) (Connect Fresh 0)

abbrev pub program_run : List ℕ → Stand
program_run s = follow (length s + 1) s (record { answer = 0; units = 0; state = connection })

-- a line: code, side, rank, price in thousandths, quantity, orders
pub record Line : Type 0 where
  pub code : ℕ
  pub side : ℕ
  pub rank : ℕ
  pub price : ℤ
  pub quantity : ℕ
  pub orders : ℕ

unfoldable pub side_lines : ℕ → ℕ → ℕ → List Row → List Line
side_lines code side rank [] = []
side_lines code side rank (r ∷ s) =
    record { code = code; side = side; rank = rank; price = sub_ℕ r.price bias; quantity = r.quantity; orders = r.orders }
    ∷ side_lines code side (rank + 1) s

-- "prints the rows in slot order, bids before offers"
unfoldable pub lines : List (List ℕ) → List Line
lines [] = []
lines (b ∷ bs) =
    cond (eqb (code_of b) 0) []
    (side_lines (code_of b) bid_side 1 (book_of b).bids ++ side_lines (code_of b) offer_side 1 (book_of b).offers)
    ++ lines bs

-- all that the program prints: the rows, then "the last answer and the units accepted"
pub record Printed : Type 0 where
  pub rows : List Line
  pub answer : ℕ
  pub units : ℕ

abbrev pub printed : List ℕ → Printed
printed s = record {
  rows = lines (slots_in books (program_run s).state.tables.books);
  answer = (program_run s).answer;
  units = (program_run s).units;
}
