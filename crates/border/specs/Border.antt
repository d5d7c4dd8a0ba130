-- Runs of the C calls, in plain numbers: each is a run as the demands have it. Each statement is proved in proofs/Border, under its name with a
-- small letter. Assumes nothing.
use Rattle.std.specs.Prelude.{ℕ, ◌≡◌, Bool, true, cond, List, [], ◌∷◌, length, T, eqb}
use Rattle.ground.specs.Choice.{one_of}
use Rattle.feed.specs.Feeds.{new_given, plain_badge}
use Rattle.feed.specs.Events.{Tables, Event, time_of, news}
use Rattle.feed.specs.Steps.{state_of}
use Rattle.feed.specs.declared.Feed.{Feed}
use Rattle.promises.specs.Runs.{Sizes, zeroed, start, run, trace, History, no_history, recall, green, replay}
use Rattle.promises.specs.Refusals.{answers_to}
use Rattle.promises.specs.Ledger.{Ledger, no_ledger, keep, up_to}
use Rattle.promises.specs.Dropped.{tens_brought}
use Rattle.screen.specs.Plain.{feed_of, plain_feed, plain_given}
use Rattle.screen.specs.Calls.{Call, event_of, hands_back}
use Rattle.screen.specs.declared.MmdhFeed.{MmdhFeed}

-- what a screen keeps: the numbers last handed back, and its tables
pub record Held : Type 0 where
  pub feed : MmdhFeed
  pub tables : Tables

-- mmdh_new, and zeroed tables
abbrev pub plain_start : ℕ → Sizes → Held
plain_start limit n = record { feed = (plain_given (new_given limit)).feed; tables = zeroed n }

unfoldable pub plain_after : Held → Call → Held
plain_after x c = record { feed = (hands_back x.feed x.tables c).given.feed; tables = (hands_back x.feed x.tables c).tables }

unfoldable pub plain_run : Held → List Call → Held
plain_run x [] = x
plain_run x (c ∷ cs) = plain_run (plain_after x c) cs

-- the calls with the answers that they handed back
unfoldable pub plain_trace : Held → List Call → List (Event × ℕ)
plain_trace x [] = []
plain_trace x (c ∷ cs) = (event_of c, (hands_back x.feed x.tables c).given.answer) ∷ plain_trace (plain_after x c) cs

unfoldable pub events_of : List Call → List Event
events_of [] = []
events_of (c ∷ cs) = event_of c ∷ events_of cs

-- a feed comes back from its numbers
abbrev pub ComesBack : Type 0
ComesBack = (f : Feed) → feed_of (plain_feed f) ≡ f

-- a run of C calls from mmdh_new and zeroed tables is a run: number by number, word by word and answer by answer
abbrev pub IsRun : Type 0
IsRun =
    (limit : ℕ) (n : Sizes) (cs : List Call)
    → ((plain_run (plain_start limit n) cs).feed ≡ plain_feed (run (start limit n) (events_of cs)).feed)
    × ((plain_run (plain_start limit n) cs).tables ≡ (run (start limit n) (events_of cs)).tables)
    × (plain_trace (plain_start limit n) cs ≡ trace (start limit n) (events_of cs))

-- DEMAND 1 of the C calls: any seven numbers, any words, any bytes, any clock reading gets one of the numbered answers
abbrev pub PlainListed : Type 0
PlainListed = (f : MmdhFeed) (x : Tables) (c : Call) → T (one_of (hands_back f x c).given.answer (answers_to (event_of c)))

-- document 02, request 6: the rows that a call says were dropped are those of a book message that it answers 0, by the rules alone, and 0 of all else
abbrev pub PlainNumberTold : Type 0
PlainNumberTold =
    (f : MmdhFeed) (x : Tables) (c : Call)
    → (hands_back f x c).given.dropped
    ≡ cond (eqb (hands_back f x c).given.answer 0) (tens_brought (time_of (event_of c)) (news (event_of c)) (state_of (feed_of f) x)) 0

-- what the calls and the answers that they handed back tell
abbrev pub plain_tale : ℕ → Sizes → List Call → History
plain_tale limit n cs = recall no_history (plain_trace (plain_start limit n) cs)

abbrev pub plain_ledger : ℕ → Sizes → List Call → Ledger
plain_ledger limit n cs = keep no_history no_ledger (plain_trace (plain_start limit n) cs)

-- whether mmdh_badge says green, of what a screen keeps
abbrev pub says_green : Held → ℕ → Bool
says_green x time = eqb (plain_badge x.feed.phase x.feed.heard x.feed.limit time) 1

-- DEMAND 2 of them: while mmdh_badge says green, every counted message that came since the connect has been met, in its order, none left out
abbrev pub PlainNoneLeftOut : Type 0
PlainNoneLeftOut =
    (limit : ℕ) (n : Sizes) (cs : List Call) (time : ℕ)
    → says_green (plain_run (plain_start limit n) cs) time ≡ true
    → ((plain_ledger limit n cs).came ≡ (plain_ledger limit n cs).met)
    × ((plain_ledger limit n cs).met ≡ up_to (length (plain_ledger limit n cs).met))

-- DEMAND 3 of them: both tables are the replay, and mmdh_badge is green exactly when what the calls and their answers tell says so
abbrev pub PlainReplayed : Type 0
PlainReplayed = (limit : ℕ) (n : Sizes) (cs : List Call) → (plain_run (plain_start limit n) cs).tables ≡ replay (plain_tale limit n cs).deeds (zeroed n)

abbrev pub PlainGreen : Type 0
PlainGreen =
    (limit : ℕ) (n : Sizes) (cs : List Call) (time : ℕ)
    → says_green (plain_run (plain_start limit n) cs) time
    ≡ green (plain_tale limit n cs) (plain_start limit n).feed.limit time
