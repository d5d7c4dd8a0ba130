-- Runs of calls, and what their events and answers tell: the customer's demand 3. The history never looks at a feed. Assumes nothing.
use Rattle.std.specs.Prelude.{ℕ, ◌+◌, Bool, true, false, cond, not, ◌&&◌, List, [], ◌∷◌, ◌++◌, replicate, leb, eqb}
use Rattle.ground.specs.Choice.{one_of}
use Rattle.slots.specs.Layout.{value_after}
use Rattle.ladder.specs.Walk.{Book}
use Rattle.books.specs.Table.{step_of}
use Rattle.strips.specs.Table as strip
use Rattle.strips.specs.declared.Strip.{Strip}
use Rattle.feed.specs.Messages.{kind, status_of, logon_status}
use Rattle.feed.specs.Feeds.{new_given, badge_no, badge_of}
use Rattle.feed.specs.Events.{Tables, State, Event, News, Linked, More, Heartbeat, TooLong, Message, news, time_of}
use Rattle.feed.specs.Steps.{is_fresh, tables_after, accepted, outcome}
use Rattle.feed.specs.declared.Kind.{Kind}
use Rattle.feed.specs.declared.Kind.TheVariants.{Session, Market}
use Rattle.feed.specs.declared.Session.TheVariants.{SendKey, Logon, Logout, Refresh, Complete, Request}
use Rattle.feed.specs.declared.Datum.{Datum}
use Rattle.feed.specs.declared.Datum.TheVariants as datum
use Rattle.feed.specs.Messages.{Status}
use Rattle.feed.specs.Messages.{Opens, Refills, Stays, Closes, Unlisted}
use Rattle.feed.specs.declared.Link.{Link}
use Rattle.promises.specs.Refusals.{ending}

-- how many words of each table are lent
pub record Sizes : Type 0 where
  pub books : ℕ
  pub strips : ℕ

-- "Start with a new feed and a zeroed table": a new feed of any limit asked for, and zero words of both tables ("demand 3 speaks of both")
abbrev pub zeroed : Sizes → Tables
zeroed n = record { books = replicate n.books 0; strips = replicate n.strips 0 }

abbrev pub start : ℕ → Sizes → State
start limit n = record { feed = (new_given limit).feed; tables = zeroed n }

-- "lend that same table at every call, and hand in each time the feed last handed back"
unfoldable pub after : State → Event → State
after s e = record { feed = (outcome s e).given.feed; tables = (outcome s e).tables }

unfoldable pub run : State → List Event → State
run s [] = s
run s (e ∷ es) = run (after s e) es

-- the number that an event is answered
abbrev pub answer_of : State → Event → ℕ
answer_of s e = (outcome s e).given.answer

-- the events with the numbers they were answered
unfoldable pub trace : State → List Event → List (Event × ℕ)
trace s [] = []
trace s (e ∷ es) = (e, answer_of s e) ∷ trace (after s e) es

-- a message taken at a time, for the books or for the strips
pub data Deed : Type 0 where
  Took : (datum : Datum) (time : ℕ) (message : List ℕ) → Deed

-- what the events and their numbers tell
pub record History : Type 0 where
  -- the last accepted connect has led to an accepted logon
  pub up : Bool
  -- that logon called for a refresh, which is not complete
  pub owed : Bool
  -- an accepted logout, or an arrival answered 12 to 18 or 22, has come since that connect
  pub over : Bool
  -- the time of the last connect or arrival accepted with 0, 1 or 2
  pub heard : ℕ
  -- the last accepted connect was fresh
  pub fresh : Bool
  -- the book messages and strip messages taken since the last clearing
  pub deeds : List Deed

abbrev pub no_history : History
no_history = record { up = false; owed = false; over = false; heard = 0; fresh = true; deeds = [] }

abbrev pub note_connect : Link → ℕ → History → History
note_connect link time h = record { up = false; owed = false; over = false; heard = time; fresh = is_fresh link; deeds = h.deeds }

abbrev pub note_heard : ℕ → History → History
note_heard time h = record { up = h.up; owed = h.owed; over = h.over; heard = time; fresh = h.fresh; deeds = h.deeds }

abbrev pub note_over : History → History
note_over h = record { up = h.up; owed = h.owed; over = true; heard = h.heard; fresh = h.fresh; deeds = h.deeds }

-- an accepted logon, with a refresh or not, after a clearing or not
abbrev pub note_logon : Bool → Bool → History → History
note_logon refresh clearing h = record { up = true; owed = refresh; over = h.over; heard = h.heard; fresh = h.fresh; deeds = cond clearing [] h.deeds }

abbrev pub note_complete : History → History
note_complete h = record { up = h.up; owed = false; over = h.over; heard = h.heard; fresh = h.fresh; deeds = h.deeds }

abbrev pub note_deed : Deed → History → History
note_deed d h = record { up = h.up; owed = h.owed; over = h.over; heard = h.heard; fresh = h.fresh; deeds = h.deeds ++ (d ∷ []) }

-- "only 0, 2 and 101 are an accepted logon"; 101 clears, and 0 and 2 after a fresh connect
unfoldable pub note_status : Status → History → History
note_status Opens h = note_logon false h.fresh h
note_status Refills h = note_logon true true h
note_status Stays h = h
note_status Closes h = h
note_status Unlisted h = h

-- a message answered 0
unfoldable pub note_taken : Kind → ℕ → List ℕ → History → History
note_taken (Session SendKey) time m h = h
note_taken (Session Logon) time m h = note_status (status_of (logon_status m)) h
note_taken (Session Logout) time m h = note_over h
note_taken (Session Refresh) time m h = h
note_taken (Session Complete) time m h = note_complete h
note_taken (Session Request) time m h = h
note_taken (Market datum.Book) time m h = note_deed (Took datum.Book time m) h
note_taken (Market datum.Strip) time m h = note_deed (Took datum.Strip time m) h
note_taken (Market datum.Other) time m h = h

unfoldable pub note_news : News → ℕ → History → History
note_news (Linked link) time h = note_connect link time h
note_news More time h = h
note_news Heartbeat time h = note_heard time h
note_news TooLong time h = h
note_news (Message seq internal m) time h = note_heard time (note_taken (kind m) time m h)

-- the history after one event more, answered n: 12 to 18 or 22; 0; 1 or 2; anything else
unfoldable pub note : History → Event → ℕ → History
note h e n =
    cond (one_of n ending) (note_over h)
    (cond (eqb n 0) (note_news (news e) (time_of e) h)
    (cond (accepted n) (note_heard (time_of e) h)
    h))

unfoldable pub recall : History → List (Event × ℕ) → History
recall h [] = h
recall h (p ∷ ps) = recall (note h p.0 p.1) ps

-- the history of a run
abbrev pub history : State → List Event → History
history s es = recall no_history (trace s es)

-- a run from a new feed and zeroed tables: where it ends, and what its events and answers tell
abbrev pub end_of : ℕ → Sizes → List Event → State
end_of limit n es = run (start limit n) es

abbrev pub tale : ℕ → Sizes → List Event → History
tale limit n es = history (start limit n) es

-- whether the badge is green at a time
abbrev pub is_green : State → ℕ → Bool
is_green s time = eqb (badge_no (badge_of s.feed time)) 1

-- "green exactly when the last accepted connect has led to an accepted logon, with its refresh complete if one was called for, no accepted logout
-- and no arrival answered 12 to 18 has come since, and the time asked about lies from zero to the silence limit after the last connect or arrival accepted"
-- (document 02, request 5: or 22)
unfoldable pub green : History → ℕ → ℕ → Bool
green h limit time = h.up && not h.owed && not h.over && leb h.heard time && leb time (h.heard + limit)

-- "replaying from empty, in order, the book messages taken since the last clearing", and the strip messages
unfoldable pub perform : Deed → Tables → Tables
perform (Took d time m) x = tables_after d time m x

unfoldable pub replay : List Deed → Tables → Tables
replay [] x = x
replay (d ∷ ds) x = replay ds (perform d x)

-- the same for one code, by the messages for that code alone and with no table: its book, and its strip
unfoldable pub perform_on : ℕ → Deed → Book → Book
perform_on c (Took datum.Book time m) b = value_after c (step_of time m) b
perform_on c (Took datum.Strip time m) b = b
perform_on c (Took datum.Other time m) b = b

unfoldable pub replay_on : ℕ → List Deed → Book → Book
replay_on c [] b = b
replay_on c (d ∷ ds) b = replay_on c ds (perform_on c d b)

unfoldable pub perform_strip : ℕ → Deed → Strip → Strip
perform_strip c (Took datum.Book time m) s = s
perform_strip c (Took datum.Strip time m) s = value_after c (strip.step_of m) s
perform_strip c (Took datum.Other time m) s = s

unfoldable pub replay_strip : ℕ → List Deed → Strip → Strip
replay_strip c [] s = s
replay_strip c (d ∷ ds) s = replay_strip c ds (perform_strip c d s)
