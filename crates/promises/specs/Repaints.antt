-- A case for each sentence of request 3, "A whole frame's units at once" (document 02): single frames, and runs with frames in them. Assumes nothing.
use Rattle.std.specs.Prelude.{ℕ, ◌+◌, Bool, true, false, ◌&&◌, List, [], ◌∷◌, ◌++◌, length, take, drop, replicate, set, eqb}
use Prim.Native.String.{String}
use Rattle.std.specs.Bool.{beq}
use Rattle.ground.specs.Choice.{same}
use Rattle.feed.specs.Events.{Event, Connect, Arrive}
use Rattle.feed.specs.Frames.{Framed, framed}
use Rattle.feed.specs.declared.Phase.TheVariants.{Idle, WaitKey, WaitLogon, Refreshing, Live, Lost, Closed}
use Rattle.feed.specs.declared.Feed.{Feed}
use Rattle.feed.specs.declared.Link.TheVariants.{Fresh}
use Rattle.promises.specs.Checks.{Check, same_feed}
use Rattle.promises.specs.Build.{unit, heartbeat, message, send_key, logon, logout, refresh, complete, entry, book_message, joined as together, feed, both}
use Rattle.promises.specs.Answering.{fed, held, fits, misfits, unlisted, both as two_bids}
use Rattle.promises.specs.Strips.{nominal, strip, word, free}
use Rattle.promises.specs.Runs.{start, is_green, history}
use Rattle.promises.specs.Frames.{state_in, rest_of, joined, singles, Act, One, AtOnce, end_acts, written_acts}
use Rattle.promises.specs.Mornings.{words_of_one}

-- what a frame must hand back: the last answer, the units accepted, the bytes used, the feed, and no row dropped (those that drop some are in specs/Fallen);
-- and every word of both tables
pub record Told : Type 0 where
  pub answer : ℕ
  pub accepted : ℕ
  pub used : ℕ
  pub feed : Feed
  pub words : List ℕ
  pub strips : List ℕ

unfoldable pub tells : Framed → Told → Bool
tells o t =
    eqb o.frame.answer t.answer && eqb o.frame.accepted t.accepted && eqb o.frame.used t.used
    && same_feed o.frame.feed t.feed && eqb o.frame.dropped 0 && same o.tables.books t.words && same o.tables.strips t.strips

-- a feed of next SeqNum 5, last internal number 7, last heard 10, with a bid of 700 and no strip, is handed bytes, a number allowed and a time
unfoldable pub frame : String → Feed → List ℕ → ℕ → ℕ → Told → Check
frame name f bytes allowed time t = record { name = name; holds = tells (framed (both f held free) bytes allowed time) t }

-- nothing was accepted, and all is as it was
unfoldable pub nothing : ℕ → Feed → Told
nothing answer f = record { answer = answer; accepted = 0; used = 0; feed = f; words = held; strips = free }

-- five units of 56, 32, 20, 56 and 24 bytes: a book message, a strip message, a heartbeat, a book message that is Seen, one that goes to no table
unfoldable pub five : List (List ℕ)
five = unit 5 8 fits ∷ unit 6 9 (nominal 700 9730) ∷ heartbeat ∷ unit 7 9 misfits ∷ unit 8 10 (message 60 []) ∷ []

unfoldable pub mixed : List ℕ
mixed = together five

-- the feed after the first units of them, and both tables after the first, and after the second
unfoldable pub live : ℕ → ℕ → Feed
live next internal = feed Live next internal 20 true true

unfoldable pub one_in : ℕ → Told
one_in answer = record { answer = answer; accepted = 1; used = 56; feed = live 6 8; words = two_bids; strips = free }

unfoldable pub listed : List ℕ
listed = strip 700 1 (word 9730 ∷ [])

unfoldable pub all_in : ℕ → ℕ → ℕ → Feed → Told
all_in answer accepted used f = record { answer = answer; accepted = accepted; used = used; feed = f; words = two_bids; strips = listed }

-- "at most as many units as the caller allows"; "how many it accepted, the bytes used and the last answer": that of the last unit where the allowed
-- number is reached, also where no byte is left behind it, and 3 where more are allowed than there are
unfoldable pub numbers : List Check
numbers =
    frame "0 allowed" (fed Live) mixed 0 20 (nothing 0 (fed Live))
    ∷ frame "1: a book message" (fed Live) mixed 1 20 (one_in 0)
    ∷ frame "2: and a strip message" (fed Live) mixed 2 20 (all_in 0 2 88 (live 7 9))
    ∷ frame "3: and a heartbeat, a unit like others" (fed Live) mixed 3 20 (all_in 0 3 108 (live 7 9))
    ∷ frame "4, one fewer than there are: Seen last" (fed Live) mixed 4 20 (all_in 1 4 164 (live 8 9))
    ∷ frame "5, as many as there are: Passed last, not 3" (fed Live) mixed 5 20 (all_in 2 5 188 (live 9 10))
    ∷ frame "6, one more: 3, which uses nothing and is not counted" (fed Live) mixed 6 20 (all_in 3 5 188 (live 9 10))
    ∷ frame "100, many more" (fed Live) mixed 100 20 (all_in 3 5 188 (live 9 10))
    ∷ frame "a torn last unit: 3" (fed Live) (take 187 mixed) 9 20 (all_in 3 4 164 (live 8 9))
    ∷ frame "a torn last unit that is not reached: as if it were whole" (fed Live) (take 187 mixed) 4 20 (all_in 1 4 164 (live 8 9))
    ∷ frame "a torn header" (fed Live) (take 183 mixed) 9 20 (all_in 3 4 164 (live 8 9))
    ∷ frame "a torn first unit" (fed Live) (take 55 mixed) 9 20 (nothing 3 (fed Live))
    ∷ frame "no bytes" (fed Live) [] 9 20 (nothing 3 (fed Live))
    ∷ frame "heartbeats only, 2 of 3" (fed Live) (heartbeat ++ heartbeat ++ heartbeat) 2 20
    (record { answer = 0; accepted = 2; used = 40; feed = feed Live 5 7 20 true true; words = held; strips = free })
    ∷ frame "heartbeats only, more than there are" (fed Live) (heartbeat ++ heartbeat ++ heartbeat) 9 20
    (record { answer = 3; accepted = 3; used = 60; feed = feed Live 5 7 20 true true; words = held; strips = free })
    ∷ []

-- "Allowing 0 answers 0 and changes nothing, whatever the clock and phase", and whatever the bytes
unfoldable pub none : List Check
none =
    frame "0 in Idle" (fed Idle) mixed 0 20 (nothing 0 (fed Idle))
    ∷ frame "0 in WaitKey" (fed WaitKey) mixed 0 20 (nothing 0 (fed WaitKey))
    ∷ frame "0 in WaitLogon" (fed WaitLogon) mixed 0 20 (nothing 0 (fed WaitLogon))
    ∷ frame "0 in Refreshing" (fed Refreshing) mixed 0 20 (nothing 0 (fed Refreshing))
    ∷ frame "0 in Live" (fed Live) mixed 0 20 (nothing 0 (fed Live))
    ∷ frame "0 in Lost" (fed Lost) mixed 0 20 (nothing 0 (fed Lost))
    ∷ frame "0 in Closed" (fed Closed) mixed 0 20 (nothing 0 (fed Closed))
    ∷ frame "0 before the last heard time" (fed Live) mixed 0 9 (nothing 0 (fed Live))
    ∷ frame "0 before it, in Lost" (fed Lost) mixed 0 9 (nothing 0 (fed Lost))
    ∷ frame "0 and no bytes" (fed Live) [] 0 20 (nothing 0 (fed Live))
    ∷ frame "0 and a unit that would be refused" (fed Live) (unit 9 8 fits) 0 20 (nothing 0 (fed Live))
    ∷ []

-- the first unit is taken, the second is not, and a third would fit: "at the first refusal" it ends, and what stands before it stays
unfoldable pub second : List ℕ → List ℕ
second u = unit 5 8 fits ++ u ++ heartbeat

unfoldable pub lost_at : ℕ → Bool → Told
lost_at answer whole = record { answer = answer; accepted = 1; used = 56; feed = feed Lost 6 8 20 whole true; words = two_bids; strips = free }

unfoldable pub refusals : List Check
refusals =
    frame "10 before the first" (fed Live) mixed 5 9 (nothing 10 (fed Live))
    ∷ frame "10 with no bytes" (fed Live) [] 5 9 (nothing 10 (fed Live))
    ∷ frame "11 in Idle" (fed Idle) mixed 5 20 (nothing 11 (fed Idle))
    ∷ frame "11 in Lost, with no bytes" (fed Lost) [] 5 20 (nothing 11 (fed Lost))
    ∷ frame "11 in Closed" (fed Closed) mixed 1 20 (nothing 11 (fed Closed))
    ∷ frame "11 behind a logout, which is accepted" (fed Live) (unit 5 8 (logout 6) ++ unit 6 8 fits) 5 20
    (record { answer = 11; accepted = 1; used = 28; feed = feed Closed 6 7 20 true true; words = held; strips = free })
    ∷ frame "a logout last of those allowed: no 11" (fed Live) (unit 5 8 (logout 6) ++ unit 6 8 fits) 1 20
    (record { answer = 0; accepted = 1; used = 28; feed = feed Closed 6 7 20 true true; words = held; strips = free })
    ∷ frame "12" (fed Live) (second (unit 6 9 (message 40 []))) 5 20 (lost_at 12 true)
    ∷ frame "13: one lost in the middle" (fed Live) (second (unit 7 9 (message 60 []))) 5 20 (lost_at 13 true)
    ∷ frame "13: the same unit twice" (fed Live) (second (unit 5 8 fits)) 5 20 (lost_at 13 true)
    ∷ frame "14" (fed Live) (second (unit 6 9 send_key)) 5 20 (lost_at 14 true)
    ∷ frame "15" (fed Live) (second (unit 6 9 unlisted)) 5 20 (lost_at 15 false)
    ∷ frame "16" (fed Live) (second (unit 6 9 misfits)) 5 20 (lost_at 16 false)
    ∷ frame "17: no slot for another strip" (fed Live) (second (unit 6 9 (nominal 700 9730) ++ unit 7 10 (nominal 701 9730))) 5 20
    (record { answer = 17; accepted = 2; used = 88; feed = feed Lost 7 9 20 false true; words = two_bids; strips = listed })
    ∷ record {
      name = "18: a strip that is not sound";
      holds =
          tells (framed (both (fed Live) held (set listed 3 5)) (second (unit 6 9 (nominal 700 1))) 5 20)
          (record { answer = 18; accepted = 1; used = 56; feed = feed Lost 6 8 20 false true; words = two_bids; strips = set listed 3 5 });
    }
    ∷ frame "a refusal that is not reached" (fed Live) (second (unit 6 9 misfits)) 1 20 (one_in 0)
    ∷ frame "a refusal first" (fed Live) (unit 5 8 misfits ++ heartbeat) 5 20 (nothing 16 (feed Lost 5 7 10 false true))
    ∷ frame "SeqNum 4,294,967,295, and the next never comes" (feed Live 4294967295 7 10 true true) (unit 4294967295 8 fits ++ unit 0 9 (message 60 [])) 5 20
    (record { answer = 13; accepted = 1; used = 56; feed = feed Lost 4294967296 8 20 true true; words = two_bids; strips = free })
    ∷ []

-- each unit meets the phase, the numbers and the tables as the ones before left them: a logon that clears, a refresh
unfoldable pub session : List ℕ
session = unit 1 0 send_key ++ unit 2 0 (logon 0) ++ unit 3 1 (book_message 700 (entry 0 1 0 9730 4000 2 ∷ [])) ++ heartbeat

unfoldable pub phases : List Check
phases =
    frame "key, logon and a book in one" (feed WaitKey 1 7 10 true true) session 3 20
    (record { answer = 0; accepted = 3; used = 24 + 28 + 56; feed = feed Live 4 1 20 true true; words = held; strips = free })
    ∷ frame "up to the logon" (feed WaitKey 1 7 10 true true) session 2 20
    (record { answer = 0; accepted = 2; used = 24 + 28; feed = feed Live 3 0 20 true true; words = replicate 64 0; strips = free })
    ∷ frame "a refresh in one" (feed WaitLogon 2 7 10 true true)
    (unit 2 0 (logon 101) ++ unit 3 0 (refresh 0) ++ unit 4 0 (nominal 700 9730) ++ unit 5 0 (complete 9) ++ unit 6 9 (nominal 700 1)) 9 20
    (record { answer = 3; accepted = 5; used = 28 + 28 + 32 + 28 + 32; feed = feed Live 7 9 20 true true; words = replicate 64 0; strips = listed })
    ∷ []

-- a frame of a, then one of b on the rest, and one of a + b
unfoldable pub splits : String → ℕ → ℕ → Check
splits name a b =
    let x : Framed = framed (both (fed Live) held free) mixed a 20 in
    let y : Framed = joined b x (framed (state_in x) (rest_of mixed x) b 20) in
    record {
      name = name;
      holds =
          tells (framed (both (fed Live) held free) mixed (a + b) 20)
          (record { answer = y.frame.answer; accepted = y.frame.accepted; used = y.frame.used; feed = y.frame.feed; words = y.tables.books; strips = y.tables.strips });
    }

unfoldable pub halves : List Check
halves =
    splits "2 and 2" 2 2
    ∷ splits "2 and 3, all there are" 2 3
    ∷ splits "2 and 9" 2 9
    ∷ splits "0 and 4" 0 4
    ∷ splits "4 and 0: the answer is Seen, though a frame of 0 answers 0" 4 0
    ∷ splits "5 and 1: More" 5 1
    ∷ []

-- a frame written out: its single arrivals, each at the bytes that the one before left, with the one that ends it
unfoldable pub same_events : List Event → List (List ℕ × ℕ) → Bool
same_events [] [] = true
same_events [] (b ∷ bs) = false
same_events (e ∷ es) [] = false
same_events (Arrive bytes time ∷ es) (b ∷ bs) = same bytes b.0 && eqb time b.1 && same_events es bs
same_events (Event.Connect link time ∷ es) (b ∷ bs) = false
same_events (Event.Cut seq internal m time ∷ es) (b ∷ bs) = false
same_events (Event.Overrun time ∷ es) (b ∷ bs) = false

unfoldable pub writes : String → List ℕ → ℕ → List (List ℕ × ℕ) → Check
writes name bytes allowed told = record { name = name; holds = same_events (singles allowed bytes 20 (both (fed Live) held free)) told }

unfoldable pub scripts : List Check
scripts =
    writes "0 allowed is no arrival" mixed 0 []
    ∷ writes "2 are two arrivals" mixed 2 ((mixed, 20) ∷ (drop 56 mixed, 20) ∷ [])
    ∷ writes "6 are six: the last is answered 3" mixed 6
    ((mixed, 20) ∷ (drop 56 mixed, 20) ∷ (drop 88 mixed, 20) ∷ (drop 108 mixed, 20) ∷ (drop 164 mixed, 20) ∷ ([], 20) ∷ [])
    ∷ writes "up to the refusal and no further" (second (unit 6 9 misfits)) 5 ((second (unit 6 9 misfits), 20) ∷ (unit 6 9 misfits ++ heartbeat, 20) ∷ [])
    ∷ []

-- runs with frames: a connect at 5,000, and the key, the logon and a book at 5,500 in one frame of three; then more
unfoldable pub opening : List Act
opening = One (Connect Fresh 5000) ∷ AtOnce session 3 5500 ∷ []

unfoldable pub after : String → List Act → ℕ → Bool → ℕ → ℕ → Check
after name acts time green heard events = record {
  name = name;
  holds =
      beq (is_green (end_acts 1000 words_of_one (opening ++ acts)) time) green
      && eqb (history (start 1000 words_of_one) (written_acts 1000 words_of_one (opening ++ acts))).heard heard
      && eqb (length (written_acts 1000 words_of_one (opening ++ acts))) events;
}

unfoldable pub mornings : List Check
mornings =
    after "green from the frame's time on" [] 5500 true 5500 4
    ∷ after "and for the limit" [] 6500 true 5500 4
    ∷ after "and no longer" [] 6501 false 5500 4
    ∷ after "a frame of 0 is not heard" (AtOnce heartbeat 0 6000 ∷ []) 6501 false 5500 4
    ∷ after "a heartbeat in a frame is" (AtOnce heartbeat 1 6000 ∷ []) 6501 true 6000 5
    ∷ after "no bytes are not heard" (AtOnce [] 9 6000 ∷ []) 6501 false 5500 5
    ∷ after "a gap in a frame: dark at once" (AtOnce (unit 4 2 (message 60 []) ++ unit 6 3 (message 60 [])) 9 6000 ∷ []) 6000 false 6000 6
    ∷ after "and whatever comes" (AtOnce (unit 4 2 (message 60 []) ++ unit 6 3 (message 60 [])) 9 6000 ∷ AtOnce (unit 5 3 (message 60 [])) 9 6001 ∷ []) 6001 false 6000 7
    ∷ after "a gap that is not reached" (AtOnce (unit 4 2 (message 60 []) ++ unit 6 3 (message 60 [])) 1 6000 ∷ []) 6000 true 6000 5
    ∷ []
