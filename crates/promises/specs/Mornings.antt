-- Conversations that the exchange's rules allow, from bytes, and some that they do not; what ledgers and histories come of runs. Assumes nothing.
use Rattle.std.specs.Prelude.{ℕ, ◌+◌, ◌-◌, Bool, true, false, not, ◌&&◌, List, [], ◌∷◌, ◌++◌, take, replicate, eqb}
use Prim.Native.String.{String}
use Rattle.std.specs.Bool.{beq}
use Rattle.ground.specs.Choice.{all, same}
use Rattle.ladder.specs.Walk.{empty_book}
use Rattle.ladder.specs.Words.{words_of}
use Rattle.strips.specs.Words as strip
use Rattle.strips.specs.Words.{empty_strip}
use Rattle.feed.specs.Events.{State, Event, Connect, Arrive, Cut}
use Rattle.feed.specs.declared.Link.{Link}
use Rattle.feed.specs.declared.Link.TheVariants.{Fresh, Resuming}
use Rattle.promises.specs.Checks.{Check}
use Rattle.promises.specs.Build.{unit, heartbeat, message, send_key, logon, logout, refresh, complete, entry, book_message, row, block}
use Rattle.promises.specs.Strips.{nominal, imbalance, closing, strip as strip_of}
use Rattle.promises.specs.Runs.{Sizes, zeroed, start, History, end_of, tale, is_green, green, replay, replay_on, replay_strip}
use Rattle.promises.specs.Ledger.{Ledger, ledger}
use Rattle.promises.specs.Demands.{hands_bytes}
use Rattle.promises.specs.GoodMorning.{Stage, Fills, Open, on, begins, talk, fairly}

-- two bids for a code, best first; one more at rank 1; a new tenth that does not fit
unfoldable pub two_bids : ℕ → List ℕ
two_bids code = book_message code (entry 0 1 0 9730 4000 2 ∷ entry 0 2 0 9720 100 1 ∷ [])

unfoldable pub better : ℕ → List ℕ
better code = book_message code (entry 0 1 0 9740 100 1 ∷ [])

unfoldable pub tenth : ℕ → List ℕ
tenth code = book_message code (entry 0 10 0 1 100 1 ∷ [])

-- the key and a logon's status, at 5,000 and 6,000
unfoldable pub logs_on : ℕ → List Event
logs_on status = Arrive (unit 1 0 send_key) 5000 ∷ Arrive (unit 2 0 (logon status)) 6000 ∷ []

-- a day without a refresh: books, another message, a repeated one, a heartbeat after the full limit of silence, a message already cut
unfoldable pub day : List Event
day =
    logs_on 0
    ++ (Arrive (unit 3 7 (two_bids 700)) 6000 ∷ Arrive heartbeat 7000 ∷ Arrive (unit 4 8 (message 60 [])) 7001 ∷ Arrive (unit 5 7 (tenth 700)) 7001
    ∷ Cut 6 12 (better 700) 7500 ∷ [])

-- a day with one: 101, 1202, a book, 203 with the number 9, then the day
unfoldable pub refilled : List Event
refilled =
    logs_on 101
    ++ (Arrive (unit 3 0 (refresh 0)) 6000 ∷ Arrive (unit 4 0 (two_bids 700)) 6000 ∷ Arrive (unit 5 0 (complete 9)) 6500 ∷ Arrive (unit 6 10 (better 700)) 6500 ∷ [])

-- two bids for 700, whose book is then emptied (document 02, request 1); the same for 701, which has none; and one event more
unfoldable pub empties : Event → List Event
empties e =
    Arrive (unit 3 7 (two_bids 700)) 6000 ∷ Arrive (unit 4 8 (book_message 700 [])) 6000 ∷ Arrive (unit 5 9 (book_message 701 [])) 6000 ∷ e ∷ []

-- two strip messages for a code, around one for its book; one code more
unfoldable pub strips : List Event
strips =
    Arrive (unit 3 7 (nominal 700 9730)) 6000 ∷ Arrive (unit 4 8 (two_bids 700)) 6000 ∷ Arrive (unit 5 9 (imbalance 700 66 300)) 6000 ∷ []

unfoldable pub two_strips : List Event
two_strips = strips ++ (Arrive (unit 6 10 (closing 701 100)) 6000 ∷ [])

-- one slot of each table, and the words of one and of two
unfoldable pub one_slot : Sizes
one_slot = record { books = 1; strips = 1 }

unfoldable pub words_of_one : Sizes
words_of_one = record { books = 64; strips = 12 }

unfoldable pub words_of_two : Sizes
words_of_two = record { books = 128; strips = 24 }

-- allowed with a limit of 1,000 and one slot of each table after a connect at 5,000, all of it bytes, and where it ends
unfoldable pub allows : String → List Event → Stage → Check
allows name es g = record { name = name; holds = fairly 1000 one_slot (begins 5000) es && all hands_bytes es && on (talk (begins 5000) es).stage g }

unfoldable pub forbids : String → List Event → Check
forbids name es = record { name = name; holds = not (fairly 1000 one_slot (begins 5000) es) }

unfoldable pub talks : List Check
talks =
    allows "a day" day Open
    ∷ allows "logon 2" (logs_on 2) Open
    ∷ allows "a day with a refresh" refilled Open
    ∷ allows "a refresh that goes on" (logs_on 101) Fills
    ∷ allows "a book that is emptied and fills again, and a code that has none" (logs_on 0 ++ empties (Arrive (unit 6 10 (two_bids 700)) 6000)) Open
    ∷ forbids "a change of a row that was emptied" (logs_on 0 ++ empties (Arrive (unit 6 10 (book_message 700 (entry 0 1 1 9730 1 1 ∷ []))) 6000))
    ∷ allows "strips of a code, before and after its book" (logs_on 0 ++ strips) Open
    ∷ allows "a strip in a refresh" (logs_on 101 ++ (Arrive (unit 3 0 (nominal 700 9730)) 6000 ∷ [])) Fills
    ∷ forbids "more codes than strips" (logs_on 0 ++ two_strips)
    ∷ forbids "a strip of the wrong size" (logs_on 0 ++ (Arrive (unit 3 7 (message 40 [])) 6000 ∷ []))
    ∷ forbids "a direction that is not listed" (logs_on 0 ++ (Arrive (unit 3 7 (imbalance 700 0 1)) 6000 ∷ []))
    ∷ forbids "a strip of code 0" (logs_on 0 ++ (Arrive (unit 3 7 (nominal 0 1)) 6000 ∷ []))
    ∷ forbids "logon 1" (logs_on 1)
    ∷ forbids "logon 5" (logs_on 5)
    ∷ forbids "a number left out" (logs_on 0 ++ (Arrive (unit 4 7 (two_bids 700)) 6000 ∷ []))
    ∷ forbids "silent beyond the limit" (logs_on 0 ++ (Arrive heartbeat 7001 ∷ []))
    ∷ forbids "a clock that runs back" (logs_on 0 ++ (Arrive heartbeat 5999 ∷ []))
    ∷ forbids "an entry that does not fit" (logs_on 0 ++ (Arrive (unit 3 7 (tenth 700)) 6000 ∷ []))
    ∷ forbids "more codes than slots" (logs_on 0 ++ (Arrive (unit 3 7 (two_bids 700)) 6000 ∷ Arrive (unit 4 8 (two_bids 701)) 6000 ∷ []))
    ∷ forbids "code 0" (logs_on 0 ++ (Arrive (unit 3 7 (two_bids 0)) 6000 ∷ []))
    ∷ forbids "no internal number in the day" (logs_on 0 ++ (Arrive (unit 3 0 (two_bids 700)) 6000 ∷ []))
    ∷ forbids "a market message before the logon" (Arrive (unit 1 0 (two_bids 700)) 5000 ∷ [])
    ∷ forbids "a logout" (logs_on 0 ++ (Arrive (unit 3 0 (logout 6)) 6000 ∷ []))
    ∷ forbids "half a unit" (logs_on 0 ++ (Arrive [] 6000 ∷ []))
    ∷ []

-- a run with a limit of 1,000 and one slot: its ledger
unfoldable pub keeps : String → List Event → List ℕ → List ℕ → ℕ → List ℕ → Bool → Check
keeps name es came met base numbers whole =
    let l : Ledger = ledger (start 1000 words_of_one) es in
    record {
      name = name;
      holds = same l.came came && same l.met met && eqb l.base base && same l.numbers numbers && beq l.whole whole;
    }

-- the day, after a fresh connect; then a resumed connection
unfoldable pub resumed : List Event
resumed =
    (Connect Fresh 5000 ∷ day)
    ++ (Connect Resuming 8000 ∷ Arrive (unit 1 0 send_key) 8000 ∷ Arrive (unit 2 0 (logon 0)) 8000 ∷ Arrive (unit 3 12 (better 700)) 8000
    ∷ Arrive (unit 4 13 (message 60 [])) 8000 ∷ [])

unfoldable pub ledgers : List Check
ledgers =
    keeps "nothing" [] [] [] 0 [] false
    ∷ keeps "the day" (Connect Fresh 5000 ∷ day) (1 ∷ 2 ∷ 3 ∷ 4 ∷ 5 ∷ 6 ∷ []) (1 ∷ 2 ∷ 3 ∷ 4 ∷ 5 ∷ 6 ∷ []) 0 (7 ∷ 8 ∷ 12 ∷ []) true
    ∷ keeps "the day with a refresh" (Connect Fresh 5000 ∷ refilled) (1 ∷ 2 ∷ 3 ∷ 4 ∷ 5 ∷ 6 ∷ []) (1 ∷ 2 ∷ 3 ∷ 4 ∷ 5 ∷ 6 ∷ []) 9 (10 ∷ []) true
    ∷ keeps "resumed" resumed (1 ∷ 2 ∷ 3 ∷ 4 ∷ []) (1 ∷ 2 ∷ 3 ∷ 4 ∷ []) 0 (7 ∷ 8 ∷ 12 ∷ 13 ∷ []) true
    ∷ keeps "a number left out" ((Connect Fresh 5000 ∷ logs_on 0) ++ (Arrive (unit 4 7 (two_bids 700)) 6000 ∷ [])) (1 ∷ 2 ∷ 4 ∷ []) (1 ∷ 2 ∷ []) 0 [] true
    ∷ keeps "an entry that does not fit" ((Connect Fresh 5000 ∷ logs_on 0) ++ (Arrive (unit 3 7 (tenth 700)) 6000 ∷ [])) (1 ∷ 2 ∷ 3 ∷ []) (1 ∷ 2 ∷ []) 0 [] false
    ∷ keeps "too early" ((Connect Fresh 5000 ∷ logs_on 0) ++ (Arrive (unit 3 7 (two_bids 700)) 5999 ∷ [])) (1 ∷ 2 ∷ []) (1 ∷ 2 ∷ []) 0 [] true
    ∷ []

-- what a run with a limit of 1,000 and two slots comes to, by its history: when it is green and when not, its last accepted connect fresh or not, and
-- the words that the replay of its book messages gives; all as the run itself has it
unfoldable pub same_times : State → History → List (ℕ × Bool) → Bool
same_times s h [] = true
same_times s h (p ∷ ps) = beq (green h 1000 p.0) p.1 && beq (is_green s p.0) p.1 && same_times s h ps

-- a code's strip by the replay of its messages alone, and both strips as the run has them and as the replay gives them
unfoldable pub of_strip : String → List Event → ℕ → List ℕ → Check
of_strip name es c words = record { name = name; holds = same (strip.words_of c (replay_strip c (tale 1000 words_of_two es).deeds empty_strip)) words }

unfoldable pub strips_are : String → List Event → List ℕ → Check
strips_are name es words = record {
  name = name;
  holds = same (replay (tale 1000 words_of_two es).deeds (zeroed words_of_two)).strips words && same (end_of 1000 words_of_two es).tables.strips words;
}

unfoldable pub recounts : String → List Event → List (ℕ × Bool) → Bool → List ℕ → Check
recounts name es times fresh words =
    let h : History = tale 1000 words_of_two es in
    let s : State = end_of 1000 words_of_two es in
    record {
      name = name;
      holds = same_times s h times && beq h.fresh fresh && same (replay h.deeds (zeroed words_of_two)).books words && same s.tables.books words;
    }

-- green from a time to the limit after it, and not before nor after; never
unfoldable pub green_from : ℕ → List (ℕ × Bool)
green_from t = (t - 1, false) ∷ (t, true) ∷ (t + 1000, true) ∷ (t + 1001, false) ∷ []

unfoldable pub dark : ℕ → List (ℕ × Bool)
dark t = (t, false) ∷ (t + 1000, false) ∷ []

-- a code's book after `two_bids` and `better`; after `better` alone; a free slot
unfoldable pub three_bids : ℕ → List ℕ
three_bids code = block code (row 9740 100 1 ∷ row 9730 4000 2 ∷ row 9720 100 1 ∷ []) []

unfoldable pub one_bid : ℕ → List ℕ
one_bid code = block code (row 9740 100 1 ∷ []) []

unfoldable pub free_slot : List ℕ
free_slot = replicate 64 0

-- a connect at 5,000, the key, a logon at 6,000, and more
unfoldable pub logon_then : ℕ → List Event → List Event
logon_then status es = (Connect Fresh 5000 ∷ logs_on status) ++ es

-- the key and a logon with 0, after a connect at 8,000
unfoldable pub connects_again : Link → List Event
connects_again link = Connect link 8000 ∷ Arrive (unit 1 0 send_key) 8000 ∷ Arrive (unit 2 0 (logon 0)) 8000 ∷ []

-- the book of a code, by the replay of its messages alone
unfoldable pub of_code : String → List Event → ℕ → List ℕ → Check
of_code name es c words = record { name = name; holds = same (words_of c (replay_on c (tale 1000 words_of_two es).deeds empty_book)) words }

unfoldable pub two_codes : List Event
two_codes = logon_then 0 (Arrive (unit 3 7 (two_bids 701)) 6000 ∷ Arrive (unit 4 8 (better 700)) 6000 ∷ Arrive (unit 5 9 (better 701)) 6000 ∷ [])

-- the first code's book emptied after that, and a code's that has none
unfoldable pub one_emptied : List Event
one_emptied = two_codes ++ (Arrive (unit 6 10 (book_message 701 [])) 6100 ∷ Arrive (unit 7 11 (book_message 702 [])) 6100 ∷ [])

unfoldable pub tales : List Check
tales =
    recounts "nothing" [] (dark 0) true (free_slot ++ free_slot)
    ∷ recounts "a connect" (Connect Fresh 5000 ∷ []) (dark 5000) true (free_slot ++ free_slot)
    ∷ recounts "a logon with 0" (logon_then 0 []) (green_from 6000) true (free_slot ++ free_slot)
    ∷ recounts "a logon with 1" (logon_then 1 []) (dark 6000) true (free_slot ++ free_slot)
    ∷ recounts "a logon with 5" (logon_then 5 []) (dark 6000) true (free_slot ++ free_slot)
    ∷ recounts "a logon with 101" (logon_then 101 []) (dark 6000) true (free_slot ++ free_slot)
    ∷ recounts "the day" (Connect Fresh 5000 ∷ day) (green_from 7500) true (three_bids 700 ++ free_slot)
    ∷ recounts "the day up to its heartbeat" (Connect Fresh 5000 ∷ take 4 day) (green_from 7000) true (block 700 (row 9730 4000 2 ∷ row 9720 100 1 ∷ []) [] ++ free_slot)
    ∷ recounts "the day with a refresh" (Connect Fresh 5000 ∷ refilled) (green_from 6500) true (three_bids 700 ++ free_slot)
    ∷ recounts "a message passed over is heard" (logon_then 0 (Arrive (unit 3 7 (message 60 [])) 6100 ∷ [])) (green_from 6100) true (free_slot ++ free_slot)
    ∷ recounts "one that was seen too, and is not applied again" (logon_then 0 (Arrive (unit 3 7 (better 700)) 6000 ∷ Arrive (unit 4 7 (tenth 700)) 6100 ∷ []))
    (green_from 6100) true (one_bid 700 ++ free_slot)
    ∷ recounts "two codes" two_codes (green_from 6000) true (three_bids 701 ++ one_bid 700)
    ∷ of_code "the first code by its messages alone" two_codes 701 (three_bids 701)
    ∷ of_code "the second" two_codes 700 (one_bid 700)
    ∷ recounts "an emptied book, and a code that has none" one_emptied (green_from 6100) true (block 701 [] [] ++ one_bid 700)
    ∷ of_code "the emptied book by its messages alone" one_emptied 701 (block 701 [] [])
    ∷ of_code "the other" one_emptied 700 (one_bid 700)
    ∷ []

-- of strips
unfoldable pub striped : List Check
striped =
    recounts "strips beside a book" (logon_then 0 two_strips) (green_from 6000) true (block 700 (row 9730 4000 2 ∷ row 9720 100 1 ∷ []) [] ++ free_slot)
    ∷ strips_are "two strips" (logon_then 0 two_strips) (strip_of 700 193 (2147493378 ∷ 0 ∷ 0 ∷ 0 ∷ 0 ∷ 0 ∷ 66 ∷ 300 ∷ []) ++ strip_of 701 256 (0 ∷ 0 ∷ 0 ∷ 0 ∷ 0 ∷ 0 ∷ 0 ∷ 0 ∷ 2147483748 ∷ []))
    ∷ of_strip "the first code's strip by its messages alone" (logon_then 0 two_strips) 700 (strip_of 700 193 (2147493378 ∷ 0 ∷ 0 ∷ 0 ∷ 0 ∷ 0 ∷ 66 ∷ 300 ∷ []))
    ∷ of_strip "the second's" (logon_then 0 two_strips) 701 (strip_of 701 256 (0 ∷ 0 ∷ 0 ∷ 0 ∷ 0 ∷ 0 ∷ 0 ∷ 0 ∷ 2147483748 ∷ []))
    ∷ strips_are "a fresh connection clears them" ((logon_then 0 two_strips) ++ connects_again Fresh) (replicate 24 0)
    ∷ strips_are "a resumed one does not" ((logon_then 0 strips) ++ connects_again Resuming) (strip_of 700 193 (2147493378 ∷ 0 ∷ 0 ∷ 0 ∷ 0 ∷ 0 ∷ 66 ∷ 300 ∷ []) ++ replicate 12 0)
    ∷ recounts "one strip too many is 17" (logon_then 0 (two_strips ++ (Arrive (unit 7 11 (nominal 702 1)) 6000 ∷ []))) (dark 6000) true
    (block 700 (row 9730 4000 2 ∷ row 9720 100 1 ∷ []) [] ++ free_slot)
    ∷ []

-- what ends it, and what begins anew
unfoldable pub endings : List Check
endings =
    recounts "a number left out" (logon_then 0 (Arrive (unit 4 7 (better 700)) 6100 ∷ [])) (dark 6000) true (free_slot ++ free_slot)
    ∷ recounts "an entry that does not fit" (logon_then 0 (Arrive (unit 3 7 (better 700)) 6000 ∷ Arrive (unit 4 8 (tenth 700)) 6100 ∷ [])) (dark 6000) true
    (one_bid 700 ++ free_slot)
    ∷ recounts "a logout" (logon_then 0 (Arrive (unit 3 0 (logout 6)) 6100 ∷ [])) (dark 6100) true (free_slot ++ free_slot)
    ∷ recounts "a logout, and what comes after it" (logon_then 0 (Arrive (unit 3 0 (logout 6)) 6100 ∷ Arrive heartbeat 6200 ∷ [])) (dark 6100) true (free_slot ++ free_slot)
    ∷ recounts "half a unit and a clock that runs back" (logon_then 0 (Arrive [] 6100 ∷ Arrive heartbeat 5999 ∷ [])) (green_from 6000) true (free_slot ++ free_slot)
    ∷ recounts "a connect after the day" (Connect Fresh 5000 ∷ (day ++ (Connect Resuming 8000 ∷ []))) (dark 8000) false (three_bids 700 ++ free_slot)
    ∷ recounts "resumed" (Connect Fresh 5000 ∷ (day ++ connects_again Resuming)) (green_from 8000) false (three_bids 700 ++ free_slot)
    ∷ recounts "a fresh connection" (Connect Fresh 5000 ∷ (day ++ connects_again Fresh)) (green_from 8000) true (free_slot ++ free_slot)
    ∷ recounts "a refresh after the day" (Connect Fresh 5000 ∷ (day ++ (Connect Resuming 8000 ∷ Arrive (unit 1 0 send_key) 8000 ∷ Arrive (unit 2 0 (logon 101)) 8000 ∷ [])))
    (dark 8000) false (free_slot ++ free_slot)
    ∷ recounts "resuming without its need" (logon_then 0 (Connect Resuming 6100 ∷ [])) (green_from 6000) true (free_slot ++ free_slot)
    ∷ []
