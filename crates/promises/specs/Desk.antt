-- The starred examples 1 to 8 of document 01, from bytes. Assumes nothing.
use Rattle.std.specs.Prelude.{ℕ, zero, suc, ◌+◌, ◌-◌, true, false, List, [], ◌∷◌, ◌++◌, replicate}
use Rattle.feed.specs.declared.Phase.TheVariants.{Live, Lost}
use Rattle.feed.specs.declared.Feed.{Feed}
use Rattle.promises.specs.Checks.{Check, Call}
use Rattle.promises.specs.Build.{unit, entry, book_message, fill, row, block, feed, start, arrives, dropping, ends, case, logs_on}

-- the bytes that example 1 prints
unfoldable pub example1 : List ℕ
example1 =
    0x24 ∷ 0x00 ∷ 0x35 ∷ 0x00 ∷ 0xBC ∷ 0x02 ∷ 0x00 ∷ 0x00 ∷ 0x00 ∷ 0x00 ∷ 0x00 ∷ 0x01
    ∷ 0xA0 ∷ 0x0F ∷ 0x00 ∷ 0x00 ∷ 0x00 ∷ 0x00 ∷ 0x00 ∷ 0x00 ∷ 0x02 ∷ 0x26 ∷ 0x00 ∷ 0x00
    ∷ 0x02 ∷ 0x00 ∷ 0x00 ∷ 0x00 ∷ 0x00 ∷ 0x00 ∷ 0x01 ∷ 0x00 ∷ 0x00 ∷ 0x00 ∷ 0x00 ∷ 0x00 ∷ []

-- the words that it prints: "700, 1, 0, 0, 2147493378, 4000, 2; the rest 0"
unfoldable pub words1 : List ℕ
words1 = fill 64 (700 ∷ 1 ∷ 0 ∷ 0 ∷ 2147493378 ∷ 4000 ∷ 2 ∷ [])

-- ten bids from 10.000 down, with 1 to 10 orders
unfoldable pub ten_entries : ℕ → List (List ℕ)
ten_entries zero = []
ten_entries (suc n) = ten_entries n ++ (entry 0 (n + 1) 0 (10000 - n) 500 (n + 1) ∷ [])

unfoldable pub ten_rows : ℕ → List (List ℕ)
ten_rows zero = []
ten_rows (suc n) = ten_rows n ++ (row (10000 - n) 500 (n + 1) ∷ [])

-- one message after the logon; and one message more after example 1
unfoldable pub alone : List ℕ → ℕ → List Call
alone m answer = logs_on 0 0 ++ (arrives (unit 3 1 m) 0 answer ∷ [])

unfoldable pub next : List ℕ → ℕ → List Call
next m answer = logs_on 0 0 ++ (arrives (unit 3 1 example1) 0 0 ∷ arrives (unit 4 2 m) 0 answer ∷ [])

-- where such runs end: taken, or Lost and not whole
unfoldable pub live : ℕ → Feed
live seq = feed Live (seq + 1) (seq - 2) 0 true true

unfoldable pub spoilt : ℕ → Feed
spoilt seq = feed Lost seq (seq - 3) 0 false true

unfoldable pub desk : List Check
desk =
    case "1: a fresh book" (start 64) (alone example1 0) (ends (live 3) words1 ((0, 1) ∷ []))
    ∷ case "2: level 3" (start 64) (next (book_message 700 (entry 0 3 0 9720 100 1 ∷ [])) 16) (ends (spoilt 4) words1 ((0, 0) ∷ []))
    ∷ case "2: level 2 at 9.740" (start 64) (next (book_message 700 (entry 0 2 0 9740 100 1 ∷ [])) 16) (ends (spoilt 4) words1 ((0, 0) ∷ []))
    ∷ case "2: level 2 at 9.730" (start 64) (next (book_message 700 (entry 0 2 0 9730 100 1 ∷ [])) 16) (ends (spoilt 4) words1 ((0, 0) ∷ []))
    ∷ case "2: level 2 at 9.720" (start 64) (next (book_message 700 (entry 0 2 0 9720 100 1 ∷ [])) 0)
    (ends (live 4) (block 700 (row 9730 4000 2 ∷ row 9720 100 1 ∷ []) []) ((0, 1) ∷ []))
    ∷ case "3: ten bids" (start 64) (alone (book_message 5 (ten_entries 10)) 0) (ends (live 3) (block 5 (ten_rows 10) []) [])
    ∷ case "3: a new best, the old tenth gone" (start 64)
    (logs_on 0 0 ++ (arrives (unit 3 1 (book_message 5 (ten_entries 10))) 0 0 ∷ dropping 1 (arrives (unit 4 2 (book_message 5 (entry 0 1 0 10001 7 3 ∷ []))) 0 0) ∷ []))
    (ends (live 4) (block 5 (row 10001 7 3 ∷ ten_rows 9) []) [])
    ∷ case "4: level 0" (start 64) (alone (book_message 700 (entry 0 0 0 9730 1 1 ∷ [])) 15) (ends (spoilt 3) (replicate 64 0) [])
    ∷ case "4: level 11" (start 64) (alone (book_message 700 (entry 0 11 0 9730 1 1 ∷ [])) 15) (ends (spoilt 3) (replicate 64 0) [])
    ∷ case "4: action 3" (start 64) (alone (book_message 700 (entry 0 1 3 9730 1 1 ∷ [])) 15) (ends (spoilt 3) (replicate 64 0) [])
    ∷ case "4: side 2" (start 64) (alone (book_message 700 (entry 2 1 0 9730 1 1 ∷ [])) 15) (ends (spoilt 3) (replicate 64 0) [])
    ∷ case "4: action 74, side 9, level 0" (start 64) (next (book_message 700 (entry 9 0 74 0 0 0 ∷ [])) 0) (ends (live 4) (block 700 [] []) [])
    ∷ case "5: code 99,999" (start 64) (alone (book_message 99999 (entry 1 1 0 9730 1 1 ∷ [])) 0) (ends (live 3) (block 99999 [] (row 9730 1 1 ∷ [])) [])
    ∷ case "5: code 0" (start 64) (alone (book_message 0 (entry 0 1 0 9730 1 1 ∷ [])) 15) (ends (spoilt 3) (replicate 64 0) [])
    ∷ case "5: code 100,000" (start 64) (alone (book_message 100000 (entry 0 1 0 9730 1 1 ∷ [])) 15) (ends (spoilt 3) (replicate 64 0) [])
    ∷ case "6: the second entry does not fit" (start 64)
    (next (book_message 700 (entry 0 2 0 9720 100 1 ∷ entry 0 3 0 9720 100 1 ∷ [])) 16) (ends (spoilt 4) words1 ((0, 0) ∷ []))
    ∷ case "7: the badge" (start 64) (logs_on 0 5000)
    (ends (feed Live 3 0 5000 true true) (replicate 64 0) ((5000, 1) ∷ (6000, 1) ∷ (6001, 0) ∷ (4999, 0) ∷ []))
    ∷ case "8: a table of 63 words" (start 63) (alone (book_message 700 (entry 0 1 0 9730 1 1 ∷ [])) 17) (ends (spoilt 3) (replicate 63 0) [])
    ∷ []
