-- Every trap of "Traps we have seen", examples 9 and 10, and the badge, over whole runs (document 01). Assumes nothing.
use Rattle.std.specs.Prelude.{ℕ, ◌*◌, Bool, true, false, ◌&&◌, List, [], ◌∷◌, ◌++◌, length, take, replicate, pos, negsuc, eqb}
use Prim.Native.String.{String}
use Rattle.feed.specs.Feeds.{plain_badge}
use Rattle.feed.specs.Events.{Connect, Arrive}
use Rattle.feed.specs.Program.{Line, Printed, program_run, printed}
use Rattle.feed.specs.declared.Phase.TheVariants.{WaitLogon, Refreshing, Live, Lost, Closed}
use Rattle.feed.specs.declared.Link.TheVariants.{Fresh, Resuming}
use Rattle.promises.specs.Checks.{Check, same_number}
use Rattle.promises.specs.Build.{unit, heartbeat, message, send_key, logon, logout, refresh, complete, entry, book_message, feed, start, arrives, gets, ends, case, logs_on}
use Rattle.promises.specs.Desk.{example1, words1}

unfoldable pub traps : List Check
traps =
    case "applying entries as they come, then finding one that does not fit" (start 64)
    (logs_on 0 0 ++ (arrives (unit 3 1 example1) 0 0 ∷ arrives (unit 4 2 (book_message 700 (entry 0 1 2 0 0 0 ∷ entry 0 1 2 0 0 0 ∷ []))) 0 16 ∷ []))
    (ends (feed Lost 4 1 0 false true) words1 ((0, 0) ∷ []))
    ∷ case "applying entries as they come, then finding one that is not listed" (start 64)
    (logs_on 0 0 ++ (arrives (unit 3 1 example1) 0 0 ∷ arrives (unit 4 2 (book_message 700 (entry 0 1 2 0 0 0 ∷ entry 0 0 0 0 0 0 ∷ []))) 0 15 ∷ []))
    (ends (feed Lost 4 1 0 false true) words1 ((0, 0) ∷ []))
    ∷ case "clearing on a resumed logon with status 0" (start 64)
    (logs_on 0 0 ++ (arrives (unit 3 1 example1) 0 0 ∷ gets (Connect Resuming 9) 0 ∷ arrives (unit 1 0 send_key) 9 0 ∷ arrives (unit 2 0 (logon 0)) 9 0 ∷ []))
    (ends (feed Live 3 1 9 true false) words1 ((9, 1) ∷ (1009, 1) ∷ (1010, 0) ∷ []))
    ∷ case "and what Restart brings again is Seen" (start 64)
    (logs_on 0 0
    ++ (arrives (unit 3 1 example1) 0 0 ∷ gets (Connect Resuming 9) 0 ∷ arrives (unit 1 0 send_key) 9 0 ∷ arrives (unit 2 0 (logon 2)) 9 0
    ∷ arrives (unit 3 1 example1) 9 1 ∷ []))
    (ends (feed Live 4 1 9 true false) words1 ((9, 1) ∷ []))
    ∷ case "a fresh logon clears, and not its connect" (start 64)
    (logs_on 0 0 ++ (arrives (unit 3 1 example1) 0 0 ∷ gets (Connect Fresh 9) 0 ∷ arrives (unit 1 0 send_key) 9 0 ∷ []))
    (ends (feed WaitLogon 2 1 9 true true) words1 ((9, 2) ∷ []))
    ∷ case "a fresh logon clears" (start 64)
    (logs_on 0 0 ++ (arrives (unit 3 1 example1) 0 0 ∷ gets (Connect Fresh 9) 0 ∷ arrives (unit 1 0 send_key) 9 0 ∷ arrives (unit 2 0 (logon 0)) 9 0 ∷ []))
    (ends (feed Live 3 0 9 true true) (replicate 64 0) ((9, 1) ∷ []))
    ∷ case "counting heartbeats in SeqNum" (start 64)
    (gets (Connect Fresh 0) 0 ∷ arrives heartbeat 1 0 ∷ arrives (unit 1 0 send_key) 2 0 ∷ arrives heartbeat 3 0 ∷ arrives (unit 2 0 (logon 0)) 4 0
    ∷ arrives heartbeat 5 0 ∷ arrives heartbeat 6 0 ∷ arrives (unit 3 1 example1) 7 0 ∷ [])
    (ends (feed Live 4 1 7 true true) words1 ((7, 1) ∷ (1007, 1) ∷ (1008, 0) ∷ (6, 0) ∷ []))
    ∷ case "judging the second entry against the book before the first" (start 64)
    (logs_on 0 0 ++ (arrives (unit 3 1 (book_message 700 (entry 0 1 0 9740 1 1 ∷ entry 0 2 0 9730 1 1 ∷ entry 0 1 2 0 0 0 ∷ entry 0 1 1 9730 4000 2 ∷ []))) 0 0 ∷ []))
    (ends (feed Live 4 1 0 true true) words1 ((0, 1) ∷ []))
    ∷ case "green straight after status 101" (start 64) (logs_on 101 0) (ends (feed Refreshing 3 0 0 false true) (replicate 64 0) ((0, 2) ∷ (1000, 2) ∷ (1001, 0) ∷ []))
    ∷ case "green with 203 and not before" (start 64)
    (logs_on 101 0 ++ (arrives (unit 3 0 (refresh 0)) 0 0 ∷ arrives (unit 4 0 example1) 0 0 ∷ []))
    (ends (feed Refreshing 5 0 0 false true) words1 ((0, 2) ∷ []))
    ∷ case "green with 203" (start 64)
    (logs_on 101 0 ++ (arrives (unit 3 0 (refresh 0)) 0 0 ∷ arrives (unit 4 0 example1) 0 0 ∷ arrives (unit 5 0 (complete 9)) 0 0 ∷ []))
    (ends (feed Live 6 9 0 true true) words1 ((0, 1) ∷ []))
    ∷ []

-- example 9, and the morning of the incident
unfoldable pub mornings : List Check
mornings =
    case "9: a refresh broken off, then resuming" (start 64) (logs_on 101 0 ++ (gets (Connect Resuming 1) 20 ∷ []))
    (ends (feed Refreshing 3 0 0 false true) (replicate 64 0) ((0, 2) ∷ []))
    ∷ case "9: after a live day too" (start 64)
    (logs_on 0 0 ++ (arrives (unit 3 1 example1) 0 0 ∷ gets (Connect Resuming 1) 0 ∷ arrives (unit 1 0 send_key) 1 0 ∷ arrives (unit 2 0 (logon 101)) 1 0 ∷ gets (Connect Resuming 2) 20 ∷ []))
    (ends (feed Refreshing 3 0 1 false false) (replicate 64 0) ((1, 2) ∷ []))
    ∷ case "a message is lost, and what comes next is not painted" (start 64)
    (logs_on 0 0 ++ (arrives (unit 3 1 example1) 0 0 ∷ arrives (unit 5 3 (book_message 700 (entry 0 1 2 0 0 0 ∷ []))) 0 13 ∷ arrives (unit 6 4 example1) 0 11 ∷ arrives heartbeat 0 11 ∷ []))
    (ends (feed Lost 4 1 0 true true) words1 ((0, 0) ∷ (2400000, 0) ∷ []))
    ∷ case "the line goes quiet" (start 64) (logs_on 0 0 ++ (arrives (unit 3 1 example1) 0 0 ∷ []))
    (ends (feed Live 4 1 0 true true) words1 ((1000, 1) ∷ (1001, 0) ∷ (2400000, 0) ∷ []))
    ∷ case "a torn unit is not heard" (start 64) (logs_on 0 0 ++ (gets (Arrive (take 40 (unit 3 1 example1)) 900) 3 ∷ []))
    (ends (feed Live 3 0 0 true true) (replicate 64 0) ((1000, 1) ∷ (1001, 0) ∷ []))
    ∷ case "a logout is not green" (start 64) (logs_on 0 0 ++ (arrives (unit 3 0 (logout 103)) 0 0 ∷ []))
    (ends (feed Closed 4 0 0 true true) (replicate 64 0) ((0, 0) ∷ []))
    ∷ []

unfoldable pub same_lines : List Line → List Line → Bool
same_lines [] [] = true
same_lines [] (y ∷ ys) = false
same_lines (x ∷ xs) [] = false
same_lines (x ∷ xs) (y ∷ ys) =
    eqb x.code y.code && eqb x.side y.side && eqb x.rank y.rank && same_number x.price y.price
    && eqb x.quantity y.quantity && eqb x.orders y.orders && same_lines xs ys

-- a stream, and the rows, the answer and the units that the program prints
unfoldable pub prints : String → List ℕ → List Line → ℕ → ℕ → Check
prints name s rows answer units =
    let p : Printed = printed s in
    record { name = name; holds = same_lines p.rows rows && eqb p.answer answer && eqb p.units units }

-- example 10's three units
unfoldable pub example10 : List ℕ
example10 = unit 1 0 send_key ++ unit 2 0 (logon 0) ++ unit 3 1 example1

unfoldable pub line10 : Line
line10 = record { code = 700; side = 0; rank = 1; price = pos 9730; quantity = 4000; orders = 2 }

unfoldable pub programs : List Check
programs =
    prints "10: 1105, 1102 status 0, example 1" example10 (line10 ∷ []) 3 3
    ∷ prints "no bytes" [] [] 3 0
    ∷ prints "a refusal ends it" (example10 ++ unit 5 2 example1 ++ unit 4 2 example1) (line10 ∷ []) 13 3
    ∷ []

-- a logout's end is 11, with bytes left or not; heartbeats count; offers come after bids, in slot order
unfoldable pub programs2 : List Check
programs2 =
    prints "a logout ends in 11" (unit 1 0 send_key ++ unit 2 0 (logout 6)) [] 11 2
    ∷ prints "two books, a heartbeat, an offer, an emptied book"
    (unit 1 0 send_key ++ heartbeat ++ unit 2 0 (logon 0) ++ unit 3 1 (book_message 5 (entry 1 1 0 4294967295 2 3 ∷ entry 0 1 0 8 9 10 ∷ []))
    ++ unit 4 2 (book_message 6 (entry 0 0 74 0 0 0 ∷ [])) ++ unit 5 3 example1)
    (record { code = 5; side = 0; rank = 1; price = pos 8; quantity = 9; orders = 10 }
    ∷ record { code = 5; side = 1; rank = 1; price = negsuc 0; quantity = 2; orders = 3 }
    ∷ line10
    ∷ [])
    3 6
    ∷ []

-- "a unit too long for the program's buffer of 65,536 bytes ends the run as 3": a key with n bytes behind its type; and "128 slots"
unfoldable pub long_key : ℕ → List ℕ
long_key n = unit 1 0 (message 1105 (replicate n 65))

unfoldable pub rooms : List Check
rooms =
    record { name = "a unit of 65,536 bytes is accepted"; holds = eqb (program_run (long_key 65512)).units 1 }
    ∷ record { name = "a unit of 65,537 bytes is not"; holds = eqb (program_run (long_key 65513)).units 0 }
    ∷ record { name = "128 slots of 64 words"; holds = eqb (length (program_run example10).state.tables.books) (128 * 64) }
    ∷ []

-- the C call: phase number, last heard, limit, time; and the badge's number
unfoldable pub asked : String → ℕ → ℕ → ℕ → ℕ → ℕ → Check
asked name phase heard limit time told = record { name = name; holds = eqb (plain_badge phase heard limit time) told }

unfoldable pub badges : List Check
badges =
    asked "Idle" 0 5000 1000 5000 0
    ∷ asked "WaitKey" 1 5000 1000 5000 2
    ∷ asked "WaitLogon" 2 5000 1000 5000 2
    ∷ asked "Refreshing" 3 5000 1000 5000 2
    ∷ asked "Live" 4 5000 1000 5000 1
    ∷ asked "Lost" 5 5000 1000 5000 0
    ∷ asked "Closed" 6 5000 1000 5000 0
    ∷ asked "phase 7" 7 5000 1000 5000 0
    ∷ asked "phase 18,446,744,073,709,551,615" 18446744073709551615 5000 1000 5000 0
    ∷ asked "before" 4 5000 1000 4999 0
    ∷ asked "at the limit" 4 5000 1000 6000 1
    ∷ asked "after the limit" 4 5000 1000 6001 0
    ∷ asked "filling at the limit" 3 5000 1000 6000 2
    ∷ asked "filling after the limit" 3 5000 1000 6001 0
    ∷ asked "limit 0" 4 5000 0 5000 0
    ∷ asked "limit 1" 4 5000 1 5001 1
    ∷ asked "limit 600,000" 4 5000 600000 605000 1
    ∷ asked "limit 600,001" 4 5000 600001 5000 0
    ∷ asked "the end of time" 4 18446744073709551615 1000 18446744073709551615 1
    ∷ asked "before the end of time" 4 18446744073709551615 1000 18446744073709551614 0
    ∷ asked "the limit beyond the end of time" 4 18446744073709551000 1000 18446744073709551615 1
    ∷ []
