-- What becomes of the feed and the tables (document 01, "The feed", "Answer numbers": the column "Feed afterwards"). Assumes nothing.
use Rattle.std.specs.Prelude.{ℕ, ◌+◌, Bool, true, false, cond, ◌&&◌, List, leb}
use Rattle.books.specs.Table.{books_after, drops_in}
use Rattle.strips.specs.Table.{strips_after}
use Rattle.feed.specs.Messages.{kind, market, Status, Opens, Refills, Stays, Closes, Unlisted, status_of, logon_status, last_internal}
use Rattle.feed.specs.Feeds.{is, in_phase, next_is, internal_is, heard_at, whole_is, fresh_is}
use Rattle.feed.specs.Events.{Tables, cleared_tables, State, Event, time_of, News, Linked, More, Heartbeat, TooLong, Message, news, offered}
use Rattle.feed.specs.Answers.{Answer, Keep, Lose, Spoil, Skip, Take, number, reply}
use Rattle.feed.specs.declared.Phase.TheVariants.{WaitKey, WaitLogon, Refreshing, Live, Lost, Closed}
use Rattle.feed.specs.declared.Kind.{Kind}
use Rattle.feed.specs.declared.Kind.TheVariants.{Session, Market}
use Rattle.feed.specs.declared.Session as session
use Rattle.feed.specs.declared.Session.TheVariants.{SendKey, Logon, Logout, Refresh, Complete, Request}
use Rattle.feed.specs.declared.Datum.{Datum}
use Rattle.feed.specs.declared.Datum.TheVariants.{Book, Strip, Other}
use Rattle.feed.specs.declared.Link.{Link}
use Rattle.feed.specs.declared.Link.TheVariants.{Fresh, Resuming}
use Rattle.feed.specs.declared.Feed.{Feed}
use Rattle.feed.specs.declared.Given.{Given}

-- the feed of a state changed, its tables as they are
abbrev pub on_feed : (Feed → Feed) → State → State
on_feed g s = record { feed = g s.feed; tables = s.tables }

-- clearing: "zeroes all slots", and "sets the last internal number to 0 and whole to no"
abbrev pub cleared : State → State
cleared s = record { feed = internal_is 0 (whole_is false s.feed); tables = cleared_tables s.tables }

-- "Entering Live sets whole"
abbrev pub enter_live : Feed → Feed
enter_live f = in_phase Live (whole_is true f)

abbrev pub is_fresh : Link → Bool
is_fresh Fresh = true
is_fresh Resuming = false

-- a connect "sets WaitKey, next SeqNum 1, last heard now"; the feed keeps "whether the last accepted connect was fresh"
abbrev pub connected : Link → ℕ → Feed → Feed
connected link time f = in_phase WaitKey (next_is 1 (heard_at time (fresh_is (is_fresh link) f)))

-- "0 or 2: Live, and after a fresh connect the table is cleared first. 101: cleared, Refreshing. 1, 3, 8: stays. 5, 6, 100, 104, 105: Closed"
-- (a status not listed is answered 15 and never taken)
unfoldable pub logged_on : Status → State → State
logged_on Opens s = on_feed enter_live (cond s.feed.fresh (cleared s) s)
logged_on Refills s = on_feed (in_phase Refreshing) (cleared s)
logged_on Stays s = s
logged_on Closes s = on_feed (in_phase Closed) s
logged_on Unlisted s = s

-- whether a logon clears the tables, by its status and "whether the last accepted connect was fresh"; and any session's message
unfoldable pub clears_on : Status → Bool → Bool
clears_on Opens fresh = fresh
clears_on Refills fresh = true
clears_on Stays fresh = false
clears_on Closes fresh = false
clears_on Unlisted fresh = false

unfoldable pub clears : session.Session → List ℕ → Bool → Bool
clears SendKey m fresh = false
clears Logon m fresh = clears_on (status_of (logon_status m)) fresh
clears Logout m fresh = false
clears Refresh m fresh = false
clears Complete m fresh = false
clears Request m fresh = false

-- the tables after a market message that is taken or passed over at a time: a book message leaves every word of the strips, a strip message every
-- word of the books
unfoldable pub tables_after : Datum → ℕ → List ℕ → Tables → Tables
tables_after Book time m x = record { books = books_after time m x.books; strips = x.strips }
tables_after Strip time m x = record { books = x.books; strips = strips_after m x.strips }
tables_after Other time m x = x

-- what a message does, but for its numbers and the time: 1105 "to WaitLogon"; 1102; 1103 "to Closed"; 1202 "stays";
-- 203 "goes to Live and its number at 4 becomes the last internal number"; a market message (1101 and 1201 are answered 14 and never taken)
unfoldable pub does : Kind → ℕ → List ℕ → State → State
does (Session SendKey) time m s = on_feed (in_phase WaitLogon) s
does (Session Logon) time m s = logged_on (status_of (logon_status m)) s
does (Session Logout) time m s = on_feed (in_phase Closed) s
does (Session Refresh) time m s = s
does (Session Complete) time m s = on_feed (λ f. enter_live (internal_is (last_internal m) f)) s
does (Session Request) time m s = s
does (Market d) time m s = record { feed = s.feed; tables = tables_after d time m s.tables }

-- the next SeqNum advances, and the message is heard
abbrev pub advanced : ℕ → Feed → Feed
advanced time f = heard_at time (next_is (f.next + 1) f)

-- "for a market message in Live that isn't Seen the last internal number"
unfoldable pub counted : Kind → ℕ → Feed → Feed
counted k internal f = cond (market k && is f.phase Live) (internal_is internal f) f

-- what is taken: a connect; a heartbeat, which "advances no number"; a message (More is answered 3 and what is too long 22, and neither is ever taken)
unfoldable pub taken : ℕ → News → State → State
taken time (Linked link) s = on_feed (connected link time) s
taken time More s = s
taken time Heartbeat s = on_feed (heard_at time) s
taken time TooLong s = s
taken time (Message seq internal m) s = on_feed (λ f. advanced time (counted (kind m) internal f)) (does (kind m) time m s)

-- "Feed afterwards". "Lost changes nothing else, but for whole"
unfoldable pub act : Answer → ℕ → News → State → State
act (Keep n) time x s = s
act (Lose n) time x s = on_feed (in_phase Lost) s
act (Spoil n) time x s = on_feed (λ f. in_phase Lost (whole_is false f)) s
act (Skip n) time x s = on_feed (advanced time) s
act (Take n) time x s = taken time x s

-- decide, then act
abbrev pub step : State → Event → State
step s e = act (reply s e) (time_of e) (news e) s

-- "Bytes used are the header plus MsgSize after answers 0, 1 and 2 .. and 0 after every other answer"
abbrev pub accepted : ℕ → Bool
accepted n = leb n 2

unfoldable pub used_of : ℕ → Event → ℕ
used_of n e = cond (accepted n) (offered e) 0

-- document 02, request 6: how many rows are dropped by what is taken: a book message says how many, and nothing else drops any
unfoldable pub drops : Kind → ℕ → List ℕ → Tables → ℕ
drops (Session s) time m x = 0
drops (Market Book) time m x = drops_in time m x.books
drops (Market Strip) time m x = 0
drops (Market Other) time m x = 0

unfoldable pub news_drops : ℕ → News → Tables → ℕ
news_drops time (Linked link) x = 0
news_drops time More x = 0
news_drops time Heartbeat x = 0
news_drops time TooLong x = 0
news_drops time (Message seq internal m) x = drops (kind m) time m x

-- "and 0 for a refused message", and for one that was Seen
unfoldable pub dropped_on : Answer → ℕ → News → Tables → ℕ
dropped_on (Keep n) time x t = 0
dropped_on (Lose n) time x t = 0
dropped_on (Spoil n) time x t = 0
dropped_on (Skip n) time x t = 0
dropped_on (Take n) time x t = news_drops time x t

-- all that a call hands back, and every word of what was lent
pub record Outcome : Type 0 where
  pub given : Given
  pub tables : Tables

-- the tables that are lent: the words of the books, and of the strips
abbrev pub lent : List ℕ → List ℕ → Tables
lent books strips = record { books = books; strips = strips }

-- a feed with tables, and what a call hands back with the tables after it
abbrev pub state_of : Feed → Tables → State
state_of f x = record { feed = f; tables = x }

abbrev pub out_of : Given → Tables → Outcome
out_of g x = record { given = g; tables = x }

-- what an answer to a call comes to
unfoldable pub handed : Answer → State → Event → Outcome
handed a s e = record {
  given = record {
    answer = number a;
    used = used_of (number a) e;
    feed = (act a (time_of e) (news e) s).feed;
    dropped = dropped_on a (time_of e) (news e) s.tables;
  };
  tables = (act a (time_of e) (news e) s).tables;
}

unfoldable pub outcome : State → Event → Outcome
outcome s e = handed (reply s e) s e
