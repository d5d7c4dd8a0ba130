-- Each status of 1102, 1103 and 1202 (document 01, "The feed"). Assumes nothing.
use Rattle.std.specs.Prelude.{ℕ, zero, suc, true, false, cond, List, [], ◌∷◌, replicate}
use Prim.Native.String.{String}
use Rattle.ground.specs.Choice.{one_of, same}
use Rattle.feed.specs.Events.{Arrive}
use Rattle.feed.specs.Steps.{outcome}
use Rattle.feed.specs.declared.Phase.{Phase}
use Rattle.feed.specs.declared.Phase.TheVariants.{WaitKey, WaitLogon, Refreshing, Live, Closed}
use Rattle.feed.specs.declared.Feed.{Feed}
use Rattle.promises.specs.Checks.{Check}
use Rattle.promises.specs.Build.{unit, logon, logout, refresh, feed, state, arrives}
use Rattle.promises.specs.Answering.{one_call, fed, spoilt, heard, held}

-- after a fresh connect and after a resuming one: a status, the feed and the table after it
unfoldable pub freshly : String → ℕ → Feed → List ℕ → Check
freshly name st f words = one_call name (fed WaitLogon) held (arrives (unit 5 0 (logon st)) 20 0) f words

unfoldable pub resumed : String → ℕ → Feed → List ℕ → Check
resumed name st f words = one_call name (feed WaitLogon 5 7 10 true false) held (arrives (unit 5 0 (logon st)) 20 0) f words

unfoldable pub wiped : List ℕ
wiped = replicate 64 0

unfoldable pub logons : List Check
logons =
    freshly "0, fresh" 0 (heard Live 0) wiped
    ∷ freshly "2, fresh" 2 (heard Live 0) wiped
    ∷ freshly "101, fresh" 101 (feed Refreshing 6 0 20 false true) wiped
    ∷ freshly "1, fresh" 1 (heard WaitLogon 7) held
    ∷ freshly "3, fresh" 3 (heard WaitLogon 7) held
    ∷ freshly "8, fresh" 8 (heard WaitLogon 7) held
    ∷ freshly "5, fresh" 5 (heard Closed 7) held
    ∷ freshly "6, fresh" 6 (heard Closed 7) held
    ∷ freshly "100, fresh" 100 (heard Closed 7) held
    ∷ freshly "104, fresh" 104 (heard Closed 7) held
    ∷ freshly "105, fresh" 105 (heard Closed 7) held
    ∷ resumed "0, resumed" 0 (feed Live 6 7 20 true false) held
    ∷ resumed "2, resumed" 2 (feed Live 6 7 20 true false) held
    ∷ resumed "101, resumed" 101 (feed Refreshing 6 0 20 false false) wiped
    ∷ resumed "1, resumed" 1 (feed WaitLogon 6 7 20 true false) held
    ∷ resumed "3, resumed" 3 (feed WaitLogon 6 7 20 true false) held
    ∷ resumed "8, resumed" 8 (feed WaitLogon 6 7 20 true false) held
    ∷ resumed "5, resumed" 5 (feed Closed 6 7 20 true false) held
    ∷ resumed "6, resumed" 6 (feed Closed 6 7 20 true false) held
    ∷ resumed "100, resumed" 100 (feed Closed 6 7 20 true false) held
    ∷ resumed "104, resumed" 104 (feed Closed 6 7 20 true false) held
    ∷ resumed "105, resumed" 105 (feed Closed 6 7 20 true false) held
    ∷ one_call "4 is not listed" (fed WaitLogon) held (arrives (unit 5 0 (logon 4)) 20 15) spoilt held
    ∷ one_call "255 is not listed" (fed WaitLogon) held (arrives (unit 5 0 (logon 255)) 20 15) spoilt held
    ∷ []

unfoldable pub others : List Check
others =
    one_call "1103, 6, in WaitKey" (fed WaitKey) held (arrives (unit 5 0 (logout 6)) 20 0) (heard Closed 7) held
    ∷ one_call "1103, 102, in Refreshing" (fed Refreshing) held (arrives (unit 5 0 (logout 102)) 20 0) (heard Closed 7) held
    ∷ one_call "1103, 103, in Live" (fed Live) held (arrives (unit 5 0 (logout 103)) 20 0) (heard Closed 7) held
    ∷ one_call "1103, 0 is not listed" (fed Live) held (arrives (unit 5 0 (logout 0)) 20 15) spoilt held
    ∷ one_call "1202, 0" (fed Refreshing) held (arrives (unit 5 0 (refresh 0)) 20 0) (heard Refreshing 7) held
    ∷ one_call "1202, 1 is not listed" (fed Refreshing) held (arrives (unit 5 0 (refresh 1)) 20 15) spoilt held
    ∷ []

-- what a message with each of the numbers below n is answered
unfoldable pub answers_below : Phase → (ℕ → List ℕ) → ℕ → List ℕ
answers_below p m zero = []
answers_below p m (suc n) = (outcome (state (fed p) []) (Arrive (unit 5 0 (m n)) 20)).given.answer ∷ answers_below p m n

-- 0 for those listed of the numbers below n, and 15 for all the others
unfoldable pub listed_below : List ℕ → ℕ → List ℕ
listed_below ns zero = []
listed_below ns (suc n) = cond (one_of n ns) 0 15 ∷ listed_below ns n

-- of all 256 statuses
unfoldable pub all256 : String → Phase → (ℕ → List ℕ) → List ℕ → Check
all256 name p m ns = record { name = name; holds = same (answers_below p m 256) (listed_below ns 256) }

unfoldable pub all_statuses : List Check
all_statuses =
    all256 "1102" WaitLogon logon (0 ∷ 1 ∷ 2 ∷ 3 ∷ 5 ∷ 6 ∷ 8 ∷ 100 ∷ 101 ∷ 104 ∷ 105 ∷ [])
    ∷ all256 "1103" Live logout (6 ∷ 102 ∷ 103 ∷ [])
    ∷ all256 "1202" Refreshing refresh (0 ∷ [])
    ∷ []
