-- Each phase with each kind of message (document 01, "The feed"). Assumes nothing.
use Rattle.std.specs.Prelude.{ℕ, true, false, List, [], ◌∷◌, ◌++◌, replicate}
use Prim.Native.String.{String}
use Rattle.feed.specs.declared.Phase.{Phase}
use Rattle.feed.specs.declared.Phase.TheVariants.{Idle, WaitKey, WaitLogon, Refreshing, Live, Lost, Closed}
use Rattle.feed.specs.declared.Feed.{Feed}
use Rattle.promises.specs.Checks.{Check}
use Rattle.promises.specs.Build.{unit, heartbeat, message, send_key, logon, logout, refresh, complete, feed, arrives}
use Rattle.promises.specs.Answering.{one_call, fed, lost, heard, held, both, fits}

-- the units that come, with SeqNum 5 and at the time 20 (the session's with an internal number, which nobody looks at), to a feed of next SeqNum 5, last internal number 7 and last heard 10
unfoldable pub units : List (String × List ℕ)
units =
    ("heartbeat", heartbeat)
    ∷ ("1105", unit 5 8 send_key)
    ∷ ("1102 status 0", unit 5 8 (logon 0))
    ∷ ("1102 status 101", unit 5 8 (logon 101))
    ∷ ("1202", unit 5 8 (refresh 0))
    ∷ ("203", unit 5 8 (complete 9))
    ∷ ("53, internal number 0", unit 5 0 fits)
    ∷ ("53, internal number above the last", unit 5 8 fits)
    ∷ ("53, internal number not above the last", unit 5 7 fits)
    ∷ ("another market message, internal number 0", unit 5 0 (message 60 []))
    ∷ ("another market message, internal number above the last", unit 5 8 (message 60 []))
    ∷ ("another market message, internal number not above the last", unit 5 7 (message 60 []))
    ∷ ("1103", unit 5 8 (logout 6))
    ∷ ("1101", unit 5 8 (message 1101 []))
    ∷ ("1201", unit 5 8 (message 1201 []))
    ∷ []

-- what one of them must give: the answer, the feed and the table
pub record Met : Type 0 where
  pub answer : ℕ
  pub feed : Feed
  pub words : List ℕ

-- a refusal that leaves the feed; 14; and a message that is accepted
unfoldable pub left : Phase → Met
left p = record { answer = 11; feed = fed p; words = held }

unfoldable pub barred : Met
barred = record { answer = 14; feed = lost; words = held }

unfoldable pub met : ℕ → Feed → Met
met answer f = record { answer = answer; feed = f; words = held }

-- a heartbeat advances no number
unfoldable pub beats : Phase → Met
beats p = met 0 (feed p 5 7 20 true true)

unfoldable pub paired : Phase → List (String × List ℕ) → List Met → List Check
paired p [] [] = []
paired p [] (m ∷ ms) = record { name = "a Met too many"; holds = false } ∷ []
paired p (u ∷ us) [] = record { name = "a Met too few"; holds = false } ∷ []
paired p (u ∷ us) (m ∷ ms) = one_call u.0 (fed p) held (arrives u.1 20 m.answer) m.feed m.words ∷ paired p us ms

unfoldable pub in_idle : List Check
in_idle = paired Idle units (replicate 15 (left Idle))

unfoldable pub in_wait_key : List Check
in_wait_key =
    paired WaitKey units
    (beats WaitKey
    ∷ met 0 (heard WaitLogon 7)
    ∷ (replicate 10 barred ++ (met 0 (heard Closed 7) ∷ barred ∷ barred ∷ [])))

unfoldable pub in_wait_logon : List Check
in_wait_logon =
    paired WaitLogon units
    (beats WaitLogon
    ∷ barred
    ∷ record { answer = 0; feed = heard Live 0; words = replicate 64 0 }
    ∷ record { answer = 0; feed = feed Refreshing 6 0 20 false true; words = replicate 64 0 }
    ∷ (replicate 8 barred ++ (met 0 (heard Closed 7) ∷ barred ∷ barred ∷ [])))

unfoldable pub in_refreshing : List Check
in_refreshing =
    paired Refreshing units
    (beats Refreshing
    ∷ barred
    ∷ barred
    ∷ barred
    ∷ met 0 (heard Refreshing 7)
    ∷ met 0 (heard Live 9)
    ∷ record { answer = 0; feed = heard Refreshing 7; words = both }
    ∷ barred
    ∷ barred
    ∷ met 2 (heard Refreshing 7)
    ∷ barred
    ∷ barred
    ∷ met 0 (heard Closed 7)
    ∷ barred
    ∷ barred
    ∷ [])

unfoldable pub in_live : List Check
in_live =
    paired Live units
    (beats Live
    ∷ barred
    ∷ barred
    ∷ barred
    ∷ barred
    ∷ barred
    ∷ barred
    ∷ record { answer = 0; feed = heard Live 8; words = both }
    ∷ met 1 (heard Live 7)
    ∷ barred
    ∷ met 2 (heard Live 8)
    ∷ met 1 (heard Live 7)
    ∷ met 0 (heard Closed 7)
    ∷ barred
    ∷ barred
    ∷ [])

unfoldable pub in_lost : List Check
in_lost = paired Lost units (replicate 15 (left Lost))

unfoldable pub in_closed : List Check
in_closed = paired Closed units (replicate 15 (left Closed))

-- "Entering Live sets whole": from a feed that was not whole
unfoldable pub whole : List Check
whole =
    one_call "203 sets whole" (feed Refreshing 5 0 10 false true) held (arrives (unit 5 0 (complete 9)) 20 0) (heard Live 9) held
    ∷ one_call "203 with number 0" (feed Refreshing 5 0 10 false true) held (arrives (unit 5 0 (complete 0)) 20 0) (heard Live 0) held
    ∷ one_call "a resumed logon sets whole" (feed WaitLogon 5 7 10 false false) held (arrives (unit 5 0 (logon 0)) 20 0) (feed Live 6 7 20 true false) held
    ∷ one_call "a market message does not" (feed Refreshing 5 0 10 false true) held (arrives (unit 5 0 fits) 20 0) (feed Refreshing 6 0 20 false true) both
    ∷ one_call "nor a heartbeat" (feed Refreshing 5 0 10 false true) held (arrives heartbeat 20 0) (feed Refreshing 5 0 20 false true) held
    ∷ []
