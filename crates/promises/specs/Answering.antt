-- A case for each row of document 01's table of answers, and for two rows at once where both could be given. Assumes nothing.
use Rattle.std.specs.Prelude.{ℕ, true, false, List, [], ◌∷◌, ◌++◌, take}
use Prim.Native.String.{String}
use Rattle.feed.specs.Feeds.{new_given}
use Rattle.feed.specs.Events.{Connect, Cut}
use Rattle.feed.specs.declared.Phase.{Phase}
use Rattle.feed.specs.declared.Phase.TheVariants.{Idle, WaitKey, WaitLogon, Refreshing, Live, Lost, Closed}
use Rattle.feed.specs.declared.Feed.{Feed}
use Rattle.feed.specs.declared.Link.TheVariants.{Fresh, Resuming}
use Rattle.promises.specs.Checks.{Check, Call, same_given}
use Rattle.promises.specs.Build.{unit, message, send_key, logon, logout, entry, book_message, row, block, feed, state, arrives, gets, ends, case}

-- one call on a feed and a table
unfoldable pub one_call : String → Feed → List ℕ → Call → Feed → List ℕ → Check
one_call name f words c f' words' = case name (state f words) (c ∷ []) (ends f' words' [])

-- a feed of limit 1,000 that has next SeqNum 5, last internal number 7, last heard 10
unfoldable pub fed : Phase → Feed
fed p = feed p 5 7 10 true true

-- the same after answers 12 to 14, after 15 to 18, and after a message that is heard at 20
unfoldable pub lost : Feed
lost = feed Lost 5 7 10 true true

unfoldable pub spoilt : Feed
spoilt = feed Lost 5 7 10 false true

unfoldable pub heard : Phase → ℕ → Feed
heard p internal = feed p 6 internal 20 true true

-- a table of one book, with a bid; the same with a wrong count, and full with another code
unfoldable pub held : List ℕ
held = block 700 (row 9730 4000 2 ∷ []) []

unfoldable pub broken : List ℕ
broken = block 700 (row 9730 4000 2 ∷ row 9740 1 1 ∷ []) []

unfoldable pub taken : List ℕ
taken = block 701 [] []

-- messages for code 700: one that fits, one that does not, one with a level that is not listed
unfoldable pub fits : List ℕ
fits = book_message 700 (entry 0 2 0 9720 100 1 ∷ [])

unfoldable pub misfits : List ℕ
misfits = book_message 700 (entry 0 2 0 9740 100 1 ∷ [])

unfoldable pub unlisted : List ℕ
unlisted = book_message 700 (entry 0 11 0 9720 100 1 ∷ [])

unfoldable pub both : List ℕ
both = block 700 (row 9730 4000 2 ∷ row 9720 100 1 ∷ []) []

-- a new feed with a limit
unfoldable pub opens : String → ℕ → ℕ → ℕ → Check
opens name limit answer kept = record {
  name = name;
  holds = same_given (new_given limit) (record {
    answer = answer;
    used = 0;
    feed = record { phase = Idle; next = 1; internal = 0; heard = 0; limit = kept; whole = false; fresh = true };
    dropped = 0;
  });
}

unfoldable pub new_feeds : List Check
new_feeds =
    opens "limit 0" 0 19 1000
    ∷ opens "limit 1" 1 0 1
    ∷ opens "limit 1,000" 1000 0 1000
    ∷ opens "limit 600,000" 600000 0 600000
    ∷ opens "limit 600,001" 600001 19 1000
    ∷ opens "limit 18,446,744,073,709,551,615" 18446744073709551615 19 1000
    ∷ []

unfoldable pub connects : List Check
connects =
    one_call "10: time before last heard" (fed Live) held (gets (Connect Fresh 9) 10) (fed Live) held
    ∷ one_call "10 before 20" (feed Live 5 7 10 false true) held (gets (Connect Resuming 9) 10) (feed Live 5 7 10 false true) held
    ∷ one_call "20: not whole" (feed Lost 5 7 10 false true) held (gets (Connect Resuming 10) 20) (feed Lost 5 7 10 false true) held
    ∷ one_call "20: no internal number" (feed Live 5 0 10 true false) held (gets (Connect Resuming 10) 20) (feed Live 5 0 10 true false) held
    ∷ one_call "0: fresh, not whole" (feed Lost 5 0 10 false false) held (gets (Connect Fresh 10) 0) (feed WaitKey 1 0 10 false true) held
    ∷ one_call "0: fresh keeps whole and number" (fed Live) held (gets (Connect Fresh 11) 0) (feed WaitKey 1 7 11 true true) held
    ∷ one_call "0: resuming" (fed Lost) held (gets (Connect Resuming 10) 0) (feed WaitKey 1 7 10 true false) held
    ∷ one_call "0: resuming with internal number 1" (feed Closed 5 1 10 true true) held (gets (Connect Resuming 99) 0) (feed WaitKey 1 1 99 true false) held
    ∷ one_call "0: from Idle" (feed Idle 1 0 0 false true) held (gets (Connect Fresh 0) 0) (feed WaitKey 1 0 0 false true) held
    ∷ one_call "0: from WaitKey" (fed WaitKey) held (gets (Connect Fresh 20) 0) (feed WaitKey 1 7 20 true true) held
    ∷ one_call "0: from WaitLogon" (fed WaitLogon) held (gets (Connect Resuming 20) 0) (feed WaitKey 1 7 20 true false) held
    ∷ one_call "0: from Refreshing" (fed Refreshing) held (gets (Connect Fresh 20) 0) (feed WaitKey 1 7 20 true true) held
    ∷ []

unfoldable pub answers : List Check
answers =
    one_call "10: time before last heard" (fed Live) held (arrives (unit 5 8 fits) 9 10) (fed Live) held
    ∷ one_call "11: in Idle" (fed Idle) held (arrives (unit 5 8 fits) 20 11) (fed Idle) held
    ∷ one_call "11: in Lost" (fed Lost) held (arrives (unit 5 8 fits) 20 11) (fed Lost) held
    ∷ one_call "11: in Closed" (fed Closed) held (arrives (unit 5 8 fits) 20 11) (fed Closed) held
    ∷ one_call "3: no bytes" (fed Live) held (arrives [] 20 3) (fed Live) held
    ∷ one_call "12: size" (fed Live) held (arrives (unit 5 8 (message 1103 (6 ∷ 0 ∷ 0 ∷ []))) 20 12) lost held
    ∷ one_call "13: a gap" (fed Live) held (arrives (unit 6 8 fits) 20 13) lost held
    ∷ one_call "13: a number again" (fed Live) held (arrives (unit 4 8 fits) 20 13) lost held
    ∷ one_call "14: type" (fed Live) held (arrives (unit 5 8 send_key) 20 14) lost held
    ∷ one_call "14: internal number" (fed Live) held (arrives (unit 5 0 fits) 20 14) lost held
    ∷ one_call "1: Seen" (fed Live) held (arrives (unit 5 7 fits) 20 1) (heard Live 7) held
    ∷ one_call "15: status" (fed Live) held (arrives (unit 5 8 (logout 7)) 20 15) spoilt held
    ∷ one_call "15: level" (fed Live) held (arrives (unit 5 8 unlisted) 20 15) spoilt held
    ∷ one_call "18: not sound" (fed Live) broken (arrives (unit 5 8 fits) 20 18) spoilt broken
    ∷ one_call "17: no slot free" (fed Live) taken (arrives (unit 5 8 fits) 20 17) spoilt taken
    ∷ one_call "16: does not fit" (fed Live) held (arrives (unit 5 8 misfits) 20 16) spoilt held
    ∷ one_call "2: Passed" (fed Live) held (arrives (unit 5 8 (message 60 [])) 20 2) (heard Live 8) held
    ∷ one_call "0: Taken" (fed Live) held (arrives (unit 5 8 fits) 20 0) (heard Live 8) both
    ∷ []

-- a message already cut: "never More, never a heartbeat, no bytes used"
unfoldable pub cuts : List Check
cuts =
    one_call "10" (fed Live) held (gets (Cut 5 8 fits 9) 10) (fed Live) held
    ∷ one_call "11" (fed Closed) held (gets (Cut 5 8 fits 20) 11) (fed Closed) held
    ∷ one_call "12: no bytes, never More" (fed Live) held (gets (Cut 5 8 [] 20) 12) lost held
    ∷ one_call "12: three bytes" (fed Live) held (gets (Cut 5 8 (3 ∷ 0 ∷ 60 ∷ []) 20) 12) lost held
    ∷ one_call "12: shorter than MsgSize" (fed Live) held (gets (Cut 5 8 (take 35 fits) 20) 12) lost held
    ∷ one_call "12: longer than MsgSize" (fed Live) held (gets (Cut 5 8 (fits ++ (0 ∷ [])) 20) 12) lost held
    ∷ one_call "12: never a heartbeat" (fed Live) held (gets (Cut 5 8 (20 ∷ 0 ∷ 0 ∷ 0 ∷ []) 20) 12) lost held
    ∷ one_call "13" (fed Live) held (gets (Cut 6 8 fits 20) 13) lost held
    ∷ one_call "14" (fed Live) held (gets (Cut 5 0 fits 20) 14) lost held
    ∷ one_call "1" (fed Live) held (gets (Cut 5 7 fits 20) 1) (heard Live 7) held
    ∷ one_call "15" (fed Live) held (gets (Cut 5 8 unlisted 20) 15) spoilt held
    ∷ one_call "18" (fed Live) broken (gets (Cut 5 8 fits 20) 18) spoilt broken
    ∷ one_call "17" (fed Live) taken (gets (Cut 5 8 fits 20) 17) spoilt taken
    ∷ one_call "16" (fed Live) held (gets (Cut 5 8 misfits 20) 16) spoilt held
    ∷ one_call "2" (fed Live) held (gets (Cut 5 8 (message 60 []) 20) 2) (heard Live 8) held
    ∷ one_call "0" (fed Live) held (gets (Cut 5 8 fits 20) 0) (heard Live 8) both
    ∷ []

-- the order in which the answers are tried: where two could be given, the one that stands first
unfoldable pub order : List Check
order =
    one_call "10 before 11" (fed Lost) held (arrives (unit 5 8 fits) 9 10) (fed Lost) held
    ∷ one_call "10 before 3" (fed Live) held (arrives [] 9 10) (fed Live) held
    ∷ one_call "11 before 3" (fed Idle) held (arrives [] 20 11) (fed Idle) held
    ∷ one_call "3 before 12" (fed Live) held (arrives (take 26 (unit 5 8 (message 203 (0 ∷ 0 ∷ 0 ∷ [])))) 20 3) (fed Live) held
    ∷ one_call "3 before 13" (fed Live) held (arrives (take 26 (unit 9 8 fits)) 20 3) (fed Live) held
    ∷ one_call "12 before 13" (fed Live) held (arrives (unit 9 8 (message 203 (0 ∷ 0 ∷ 0 ∷ []))) 20 12) lost held
    ∷ one_call "12 before 14" (fed Live) held (arrives (unit 5 8 (message 203 (0 ∷ 0 ∷ 0 ∷ []))) 20 12) lost held
    ∷ one_call "13 before 14" (fed Live) held (arrives (unit 9 8 send_key) 20 13) lost held
    ∷ one_call "13 before 1" (fed Live) held (arrives (unit 9 7 fits) 20 13) lost held
    ∷ one_call "14 before 1" (fed Live) held (arrives (unit 5 0 (message 60 [])) 20 14) lost held
    ∷ one_call "14 before 15" (fed Live) held (arrives (unit 5 8 (logon 4)) 20 14) lost held
    ∷ one_call "1 before 15" (fed Live) held (arrives (unit 5 7 unlisted) 20 1) (heard Live 7) held
    ∷ one_call "1 before 18" (fed Live) broken (arrives (unit 5 7 fits) 20 1) (heard Live 7) broken
    ∷ one_call "1 before 17" (fed Live) taken (arrives (unit 5 7 fits) 20 1) (heard Live 7) taken
    ∷ one_call "1 before 16" (fed Live) held (arrives (unit 5 7 misfits) 20 1) (heard Live 7) held
    ∷ one_call "1 before 2" (fed Live) held (arrives (unit 5 7 (message 60 [])) 20 1) (heard Live 7) held
    ∷ one_call "15 before 18" (fed Live) broken (arrives (unit 5 8 unlisted) 20 15) spoilt broken
    ∷ one_call "15 before 17" (fed Live) taken (arrives (unit 5 8 unlisted) 20 15) spoilt taken
    ∷ one_call "15 before 16: the second entry not listed, the first not fitting" (fed Live) held
    (arrives (unit 5 8 (book_message 700 (entry 0 2 0 9740 1 1 ∷ entry 0 1 3 0 0 0 ∷ []))) 20 15) spoilt held
    ∷ one_call "18 before 16" (fed Live) broken (arrives (unit 5 8 misfits) 20 18) spoilt broken
    ∷ one_call "17 before 16" (fed Live) taken (arrives (unit 5 8 misfits) 20 17) spoilt taken
    ∷ []
