-- Sides as the code has them, ten rows each by value and their counts beside them, and what it makes of them for an entry. Assumes nothing.
use Rattle.std.specs.Prelude.{ℕ, ◌+◌, ◌-◌, ◌≤◌, min, ◌≡◌, Bool, false, cond, ◌&&◌, ◌||◌, List, [], ◌∷◌, ◌++◌, length, take, get_or, set, ltb, leb, eqb}
use Rattle.std.specs.Prelude.{Result, Ok, Err, is_some, unwrap_or}
use Rattle.ground.specs.Choice.{pick}
use Rattle.ground.specs.declared.Refusal.{Refusal}
use Rattle.slots.specs.Layout.{or_as_it_was}
use Rattle.ladder.specs.Message.{new, change, delete, depth, bid_side}
use Rattle.ladder.specs.Sides.{better, no_row, new_rows, delete_rows, rows_after, fell_from, was_dropped}
use Rattle.ladder.specs.Walk.{Book}
use Rattle.ladder.specs.Words.{no_rows, pad}
use Rattle.ladder.specs.declared.Way.{Way}
use Rattle.ladder.specs.declared.Way.TheVariants.{Bid, Offer}
use Rattle.ladder.specs.declared.Row.{Row}
use Rattle.ladder.specs.declared.Entry.{Entry}
use Rattle.ladder.specs.declared.Applied as told

-- ten rows, of which n are used
pub record Side : Type 0 where
  pub n : ℕ
  pub rows : List Row

-- the rows of a side
abbrev pub live : Side → List Row
live s = take s.n s.rows

-- "Rows beyond the count are zero"
pub record Padded (s : Side) : Type 0 where
  pub few : s.n ≤ depth
  pub zeros : s.rows ≡ pad (live s)

-- side k of the two, 0 the bids and 1 the offers, and the book of both
abbrev pub side_at : ℕ → List (List Row) → List ℕ → Side
side_at k rows counts = record { n = get_or counts k 0; rows = get_or rows k [] }

abbrev pub as_book : List (List Row) → List ℕ → Book
as_book rows counts = record { bids = live (side_at 0 rows counts); offers = live (side_at 1 rows counts) }

-- both are padded
pub record Sides (rows : List (List Row)) (counts : List ℕ) : Type 0 where
  pub bids : Padded (side_at 0 rows counts)
  pub offers : Padded (side_at 1 rows counts)

-- the sides of an empty book
abbrev pub empty_rows : List (List Row)
empty_rows = no_rows ∷ no_rows ∷ []

abbrev pub empty_counts : List ℕ
empty_counts = 0 ∷ 0 ∷ []

-- the side of an entry
abbrev pub way_of : ℕ → Way
way_of side = cond (eqb side bid_side) Bid Offer

-- an entry at rank p of a side of n rows, by the prices of the row above and of the row that stands there
unfoldable pub fits_at : Way → ℕ → ℕ → ℕ → ℕ → ℕ → ℕ → Bool
fits_at w action n p above old price =
    pick action
    ((new, leb p (n + 1) && (leb p 1 || better w above price) && (ltb n p || better w price old))
    ∷ (change, leb p n && eqb price old)
    ∷ (delete, leb p n)
    ∷ [])
    false

-- ten rows and a count after an entry that is new, a change, or else a delete
unfoldable pub ten_after : Entry → List Row → List Row
ten_after e rows =
    pick e.action
    ((new, new_rows e.level e.row rows)
    ∷ (change, set rows (e.level - 1) e.row)
    ∷ [])
    (delete_rows e.level rows ++ (no_row ∷ []))

unfoldable pub count_after : ℕ → ℕ → ℕ
count_after action n = pick action ((new, min depth (n + 1)) ∷ (change, n) ∷ []) (n - 1)

-- whether such an entry drops the tenth row of a side of n rows
unfoldable pub drops_tenth : ℕ → ℕ → Bool
drops_tenth action n = eqb action new && leb depth n

-- all that the application of an entry that fits says of a side's rows: ten rows and a count after it, whether a row was dropped, and the row ("zeros if
-- none was dropped")
pub record Applied : Type 0 where
  pub rows : List Row
  pub count : ℕ
  pub dropped : Bool
  pub last : Row

abbrev pub applied_to : Entry → List Row → Applied
applied_to e s = record {
  rows = pad (rows_after e s);
  count = length (rows_after e s);
  dropped = was_dropped (fell_from e s);
  last = or_as_it_was (fell_from e s) no_row;
}

-- the same, of the row that may have been dropped
abbrev pub applied_by : told.Applied → Applied
applied_by a = record { rows = a.rows; count = a.count; dropped = is_some a.last; last = unwrap_or a.last no_row }

-- how many rows a walk says that were dropped: none where it is refused
abbrev pub dropped_of : Result ℕ Refusal → ℕ
dropped_of (Ok n) = n
dropped_of (Err e) = 0
