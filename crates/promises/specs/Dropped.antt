-- Rows that fall off (document 02, request 6): which row an entry drops, how many a message drops, and what every call says of it. Each statement is
-- proved in proofs/Dropped, under its name with a small letter. Assumes nothing.
use Rattle.std.specs.Prelude.{ℕ, ◌+◌, ◌≤◌, ◌≡◌, Bool, true, cond, ◌&&◌, List, [], ◌∷◌, ◌++◌, length, eqb}
use Rattle.std.proofs.Math.Option.{Option, none, some}
use Rattle.ground.specs.Choice.{pick}
use Rattle.wire.specs.Codes.{security_code}
use Rattle.slots.specs.Layout.{or_as_it_was}
use Rattle.ladder.specs.Message.{bid_side, offer_side, new, clear, depth, has_entries, entries}
use Rattle.ladder.specs.Sides.{row_at, moved_down, new_rows, pushed_out, fits, fell_from}
use Rattle.ladder.specs.Walk.{Book, on_book, walk, fell_off, dropped}
use Rattle.ladder.specs.Words.{bounded, SoundRows}
use Rattle.ladder.specs.declared.Way.{Way}
use Rattle.ladder.specs.declared.Row.{Row}
use Rattle.ladder.specs.declared.Entry.{Entry}
use Rattle.books.specs.Table.{book_in}
use Rattle.feed.specs.Messages.{kind}
use Rattle.feed.specs.Events.{State, Event, time_of, News, Linked, More, Heartbeat, TooLong, Message, news}
use Rattle.feed.specs.Steps.{outcome}
use Rattle.feed.specs.declared.Kind.{Kind}
use Rattle.feed.specs.declared.Kind.TheVariants.{Session, Market}
use Rattle.feed.specs.declared.Datum.TheVariants.{Book as Books, Strip, Other}
use Rattle.lines.specs.Scraps.{Hearing}
use Rattle.promises.specs.Runs.{answer_of}
use Rattle.promises.specs.Scraps.{Lined, lined_in, scrapped, one_piece, Enough}

-- THE ROW. "Rows from p move down; a row pushed to 11 is dropped": of a side of at most ten rows, those that stay and the one that is dropped are the rows
-- that moved down, in their order, and none besides is lost
abbrev pub as_rows : Option Row → List Row
as_rows none = []
as_rows (some r) = r ∷ []

abbrev pub NoRowLost : Type 0
NoRowLost = (p : ℕ) (r : Row) (s : List Row) → length s ≤ depth → new_rows p r s ++ as_rows (pushed_out p r s) ≡ moved_down p r s

-- it is the old tenth row where a new level meets ten rows, at whatever rank, and none with fewer rows, of a change and of a delete
abbrev pub OldTenth : Type 0
OldTenth =
    (w : Way) (e : Entry) (s : List Row) → length s ≤ depth → fits w e s ≡ true
    → fell_from e s ≡ cond (eqb e.action new && eqb (length s) depth) (some (row_at s depth)) none

-- nor of a clear
abbrev pub ClearDropsNone : Type 0
ClearDropsNone = (e : Entry) (b : Book) → e.action ≡ clear → fell_off e b ≡ none

-- of a sound side it has a price word that a price was sent for, and can be shown signed as every row that is read
abbrev pub CanBeShown : Type 0
CanBeShown = (w : Way) (e : Entry) (s : List Row) (r : Row) → SoundRows w s → fits w e s ≡ true → fell_from e s ≡ some r → bounded r ≡ true

-- THE NUMBER, "equal to the number its entries dropped by the rules in 01": how many of the entries are a new level that meets ten rows, each entry meeting
-- the book as those before it left it
unfoldable pub side_for : Entry → Book → List Row
side_for e b = pick e.side ((bid_side, b.bids) ∷ (offer_side, b.offers) ∷ []) []

unfoldable pub meets_ten : Entry → Book → Bool
meets_ten e b = eqb e.action new && eqb (length (side_for e b)) depth

unfoldable pub tens_met : ℕ → List Entry → Book → ℕ
tens_met time [] b = 0
tens_met time (e ∷ es) b = cond (meets_ten e b) 1 0 + tens_met time es (or_as_it_was (on_book time e b) b)

-- of entries that all fit a book of at most ten rows a side
abbrev pub CountsTens : Type 0
CountsTens =
    (time : ℕ) (es : List Entry) (b b' : Book) → (length b.bids ≤ depth) × (length b.offers ≤ depth) → walk time es b ≡ some b'
    → dropped time es b ≡ tens_met time es b

-- OF EVERY CALL: connects, arrivals of bytes, messages already cut and what is too long, in any state. A book message that is answered 0 tells that number,
-- and 0 with no entries; all else tells 0: strips, messages of the session, heartbeats, Seen, Passed, More, every refusal, connects
unfoldable pub tens_of : Kind → ℕ → List ℕ → State → ℕ
tens_of (Session k) time m s = 0
tens_of (Market Books) time m s = cond (has_entries m) (tens_met time (entries m) (book_in (security_code m) s.tables.books)) 0
tens_of (Market Strip) time m s = 0
tens_of (Market Other) time m s = 0

unfoldable pub tens_brought : ℕ → News → State → ℕ
tens_brought time (Linked link) s = 0
tens_brought time More s = 0
tens_brought time Heartbeat s = 0
tens_brought time TooLong s = 0
tens_brought time (Message seq internal m) s = tens_of (kind m) time m s

abbrev pub NumberTold : Type 0
NumberTold = (s : State) (e : Event) → (outcome s e).given.dropped ≡ cond (eqb (answer_of s e) 0) (tens_brought (time_of e) (news e) s) 0

-- SUMS. What a frame tells is the sum over its single calls (FrameTells), and what a scrap tells the sum over its units (ScrapTells), whatever ends them;
-- and cutting a byte run into any scraps does not change the sum over them
unfoldable pub dropped_by_all : Lined → List ℕ → List (List ℕ) → ℕ → ℕ → ℕ
dropped_by_all x hold [] allowed time = 0
dropped_by_all x hold (s ∷ ss) allowed time =
    let y : Hearing = scrapped x hold s allowed time in
    y.heard.dropped + dropped_by_all (lined_in y) y.hold ss allowed time

abbrev pub AnyScrapsDrop : Type 0
AnyScrapsDrop =
    (x : Lined) (hold s : List ℕ) (ss : List (List ℕ)) (allowed time : ℕ) → Enough x hold (one_piece (s ∷ ss)) allowed
    → dropped_by_all x hold (s ∷ ss) allowed time ≡ dropped_by_all x hold (one_piece (s ∷ ss) ∷ []) allowed time
