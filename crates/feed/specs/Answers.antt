-- The answers, in the order they are tried (document 01, "Answer numbers, in the order they are tried"). Assumes nothing.
use Rattle.std.specs.Prelude.{ℕ, Bool, true, false, not, ◌&&◌, ◌||◌, List, [], ◌∷◌, ◌++◌, ltb, leb, eqb}
use Rattle.ground.specs.Choice.{first}
use Rattle.books.specs.Table.{unsound, no_slot, misfits}
use Rattle.strips.specs.Table as strip
use Rattle.feed.specs.Messages.{kind, on_market, market, tabled, wrong_size, listed}
use Rattle.feed.specs.Feeds.{is, deaf}
use Rattle.feed.specs.Events.{Tables, State, Event, time_of, News, Linked, More, Heartbeat, TooLong, Message, news, on_message}
use Rattle.feed.specs.declared.Phase.{Phase}
use Rattle.feed.specs.declared.Phase.TheVariants.{WaitKey, WaitLogon, Refreshing, Live}
use Rattle.feed.specs.declared.Kind.{Kind}
use Rattle.feed.specs.declared.Kind.TheVariants.{Session, Market}
use Rattle.feed.specs.declared.Session.TheVariants.{SendKey, Logon, Logout, Refresh, Complete, Request}
use Rattle.feed.specs.declared.Datum.TheVariants.{Book, Strip, Other}
use Rattle.feed.specs.declared.Feed.{Feed}
use Rattle.feed.specs.declared.Link.TheVariants.{Fresh, Resuming}

-- an answer, by what document 01's table says of the feed afterwards: unchanged; Lost; Lost and not whole; the number advances, heard; as told of
-- what is taken, heard
pub data Answer : Type 0 where
  Keep Lose Spoil Skip Take : (n : ℕ) → Answer

-- the number of an answer
unfoldable pub number : Answer → ℕ
number (Keep n) = n
number (Lose n) = n
number (Spoil n) = n
number (Skip n) = n
number (Take n) = n

-- "arrival in .."
unfoldable pub arrives : News → Bool
arrives (Linked link) = false
arrives More = true
arrives Heartbeat = true
arrives TooLong = true
arrives (Message seq internal m) = true

-- "Resuming needs whole and a last internal number of at least 1"
unfoldable pub lacks_need : Feed → News → Bool
lacks_need f (Linked Fresh) = false
lacks_need f (Linked Resuming) = not (f.whole && leb 1 f.internal)
lacks_need f More = false
lacks_need f Heartbeat = false
lacks_need f TooLong = false
lacks_need f (Message seq internal m) = false

unfoldable pub is_more : News → Bool
is_more (Linked link) = false
is_more More = true
is_more Heartbeat = false
is_more TooLong = false
is_more (Message seq internal m) = false

unfoldable pub is_too_long : News → Bool
is_too_long (Linked link) = false
is_too_long More = false
is_too_long Heartbeat = false
is_too_long TooLong = true
is_too_long (Message seq internal m) = false

-- "After SeqNum 4,294,967,295 the next never comes"
abbrev pub last_seq_num : ℕ
last_seq_num = 4294967295

unfoldable pub is_next : Feed → ℕ → Bool
is_next f seq = eqb seq f.next && leb seq last_seq_num

-- WaitKey: "only 1105". WaitLogon: "only 1102". Refreshing: 1202, 203, market messages with internal number 0.
-- Live: market messages, "internal number at least 1". "Allowed besides in each phase from WaitKey to Live": 1103
unfoldable pub allowed : Kind → Phase → ℕ → Bool
allowed (Session SendKey) p internal = is p WaitKey
allowed (Session Logon) p internal = is p WaitLogon
allowed (Session Refresh) p internal = is p Refreshing
allowed (Session Complete) p internal = is p Refreshing
allowed (Market d) p internal = (is p Refreshing && eqb internal 0) || (is p Live && leb 1 internal)
allowed (Session Logout) p internal = not (deaf p)
allowed (Session Request) p internal = false

-- "One not above the last is Seen"
unfoldable pub seen : Feed → Kind → ℕ → Bool
seen f k internal = is f.phase Live && market k && leb internal f.internal

-- 18, 17 and 16, each asked of the table that a message goes to: a book message's of the books, a strip message's of the strips, which never give 16
unfoldable pub unsound_for : Kind → List ℕ → Tables → Bool
unsound_for (Session s) m x = false
unsound_for (Market Book) m x = unsound m x.books
unsound_for (Market Strip) m x = strip.unsound m x.strips
unsound_for (Market Other) m x = false

unfoldable pub no_slot_for : Kind → List ℕ → Tables → Bool
no_slot_for (Session s) m x = false
no_slot_for (Market Book) m x = no_slot m x.books
no_slot_for (Market Strip) m x = strip.no_slot m x.strips
no_slot_for (Market Other) m x = false

unfoldable pub misfits_for : Kind → ℕ → List ℕ → Tables → Bool
misfits_for (Session s) time m x = false
misfits_for (Market Book) time m x = misfits time m x.books
misfits_for (Market Strip) time m x = false
misfits_for (Market Other) time m x = false

-- a market message other than 53, and by document 02, request 2, other than the strip's: "such a message is now Taken"
unfoldable pub passed : Kind → Bool
passed k = on_market (λ d. not (tabled d)) k

-- the table of document 01 from its second row on (its first, 19, is new_given's), with 22 of document 02, request 5, "after 11 and before 12": what a
-- feed decides by itself ..
unfoldable pub line_tests : Feed → ℕ → News → List (Bool × Answer)
line_tests f time n =
    (ltb time f.heard, Keep 10)
    ∷ (arrives n && deaf f.phase, Keep 11)
    ∷ (lacks_need f n, Keep 20)
    ∷ (is_too_long n, Lose 22)
    ∷ (is_more n, Keep 3)
    ∷ (on_message (λ seq internal m. wrong_size m) n, Lose 12)
    ∷ (on_message (λ seq internal m. not (is_next f seq)) n, Lose 13)
    ∷ (on_message (λ seq internal m. not (allowed (kind m) f.phase internal)) n, Lose 14)
    ∷ (on_message (λ seq internal m. seen f (kind m) internal) n, Skip 1)
    ∷ (on_message (λ seq internal m. not (listed (kind m) m)) n, Spoil 15)
    ∷ []

-- .. and what needs tables
unfoldable pub table_tests : Tables → ℕ → News → List (Bool × Answer)
table_tests x time n =
    (on_message (λ seq internal m. unsound_for (kind m) m x) n, Spoil 18)
    ∷ (on_message (λ seq internal m. no_slot_for (kind m) m x) n, Spoil 17)
    ∷ (on_message (λ seq internal m. misfits_for (kind m) time m x) n, Spoil 16)
    ∷ (on_message (λ seq internal m. passed (kind m)) n, Take 2)
    ∷ []

unfoldable pub tests : Feed → Tables → ℕ → News → List (Bool × Answer)
tests f x time n = line_tests f time n ++ table_tests x time n

-- the answer of the first test that passes, and Taken where none does
abbrev pub answer_to : Feed → Tables → ℕ → News → Answer
answer_to f x time n = first (tests f x time n) (Take 0)

abbrev pub reply : State → Event → Answer
reply s e = answer_to s.feed s.tables (time_of e) (news e)
