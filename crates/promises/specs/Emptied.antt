-- A case for each sentence of request 1, "An emptied book must look empty" (document 02), in Live and in Refreshing alike. Assumes nothing.
use Rattle.std.specs.Prelude.{ℕ, true, false, List, [], ◌∷◌, ◌++◌, take, replicate, set}
use Prim.Native.String.{String}
use Rattle.feed.specs.Events.{Connect, Cut}
use Rattle.feed.specs.declared.Phase.{Phase}
use Rattle.feed.specs.declared.Phase.TheVariants.{Refreshing, Live, Lost}
use Rattle.feed.specs.declared.Link.TheVariants.{Resuming}
use Rattle.books.specs.Reading.{row_refused}
use Rattle.promises.specs.Checks.{Check, reads, reads_side}
use Rattle.promises.specs.Build.{unit, send_key, logon, refresh, complete, entry, book_message, row, block, feed, start, arrives, gets, ends, case, logs_on}
use Rattle.promises.specs.Answering.{one_call, fed, spoilt, heard, held}
use Rattle.promises.specs.Desk.{example1, words1, ten_rows}
use Rattle.promises.specs.Sides.{no_level}
use Rattle.promises.specs.Tables.{other, first_bid, ten_offers}

-- a type 53 message with NoEntries 0
unfoldable pub emptying : ℕ → List ℕ
emptying code = book_message code []

-- a book with rows on both sides, and the same emptied
unfoldable pub full : List ℕ
full = block 700 (row 9730 4000 2 ∷ row 9720 100 1 ∷ []) (row 9740 5 1 ∷ [])

unfoldable pub empty : List ℕ
empty = block 700 [] []

-- a free slot that is not zero behind its code
unfoldable pub garbage : List ℕ
garbage = 0 ∷ replicate 63 77

-- in a phase, with an internal number that it allows, and the last one afterwards
module _ (p : Phase) (internal last : ℕ) where
  -- the message for code 700 on a table: taken, and the table after it; or 18 and no word written
  unfoldable pub leaves : String → List ℕ → List ℕ → Check
  leaves name words after = one_call name (fed p) words (arrives (unit 5 internal (emptying 700)) 20 0) (heard p last) after

  unfoldable pub unsound : String → List ℕ → Check
  unsound name words = one_call name (fed p) words (arrives (unit 5 internal (emptying 700)) 20 18) spoilt words

  -- for a code that is not listed
  unfoldable pub unlisted : String → ℕ → List ℕ → Check
  unlisted name code words = one_call name (fed p) words (arrives (unit 5 internal (emptying code)) 20 15) spoilt words

  unfoldable pub emptied : List Check
  emptied =
      leaves "both sides are emptied; the slot and the code stay" full empty
      ∷ leaves "a book of bids alone" held empty
      ∷ leaves "a book of offers alone" (block 700 [] (row 9740 5 1 ∷ [])) empty
      ∷ leaves "ten rows a side" (block 700 (ten_rows 10) (ten_offers 10)) empty
      ∷ leaves "a book that is empty" empty empty
      ∷ leaves "another book, and the word behind the slots" (other ++ full ++ (9 ∷ [])) (other ++ empty ++ (9 ∷ []))
      ∷ leaves "behind a free slot" (garbage ++ full) (garbage ++ empty)
      ∷ leaves "the code twice: the lowest" (full ++ held) (empty ++ held)
      ∷ leaves "the code twice, the second unsound" (full ++ set held 3 1) (empty ++ set held 3 1)
      ∷ leaves "another book unsound" (set other 3 1 ++ full) (set other 3 1 ++ empty)
      ∷ []

  unfoldable pub without : List Check
  without =
      leaves "no book: no slot is taken" (replicate 128 0) (replicate 128 0)
      ∷ leaves "no book: a free slot is not written" (other ++ garbage) (other ++ garbage)
      ∷ leaves "no book in a full table: not 17" other other
      ∷ leaves "no slot at all" (take 63 held) (take 63 held)
      ∷ unsound "NoEntries 0 for an unsound book: 18" (set full 3 1)
      ∷ unsound "an unsound book that counts no rows" (set empty 4 1)
      ∷ unsound "a count of 18,446,744,073,709,551,615" (set full 1 18446744073709551615)
      ∷ unsound "the code twice, the first unsound" (set full 3 1 ++ full)
      ∷ unlisted "code 0: 15" 0 full
      ∷ unlisted "code 100,000: 15 before 18" 100000 (set (block 100000 [] []) 3 1)
      ∷ []

unfoldable pub live : List Check
live = emptied Live 8 8

unfoldable pub live_without : List Check
live_without = without Live 8 8

unfoldable pub refreshing : List Check
refreshing = emptied Refreshing 0 7

unfoldable pub refreshing_without : List Check
refreshing_without = without Refreshing 0 7

-- Seen comes before all of it; a message already cut; what is then read
unfoldable pub around : List Check
around =
    one_call "Seen: nothing is emptied" (fed Live) full (arrives (unit 5 7 (emptying 700)) 20 1) (heard Live 7) full
    ∷ one_call "Seen before 18" (fed Live) (set full 3 1) (arrives (unit 5 7 (emptying 700)) 20 1) (heard Live 7) (set full 3 1)
    ∷ one_call "Seen before 15" (fed Live) full (arrives (unit 5 7 (emptying 0)) 20 1) (heard Live 7) full
    ∷ one_call "already cut" (fed Live) full (gets (Cut 5 8 (emptying 700) 20) 0) (heard Live 8) empty
    ∷ one_call "already cut, unsound" (fed Live) (set full 3 1) (gets (Cut 5 8 (emptying 700) 20) 18) spoilt (set full 3 1)
    ∷ record { name = "no bid is read"; holds = reads empty 700 0 1 (row_refused 4) }
    ∷ record { name = "no offer is read"; holds = reads empty 700 1 1 (row_refused 4) }
    ∷ record { name = "a side of no rows"; holds = reads_side empty 700 0 (record { answer = 0; count = 0; rows = replicate 10 no_level }) }
    ∷ []

-- over whole runs of one table of 64 words; example 1 opens the book of code 700
unfoldable pub days : List Check
days =
    case "then a new level 1" (start 64)
    (logs_on 0 0 ++ (arrives (unit 3 1 example1) 0 0 ∷ arrives (unit 4 2 (emptying 700)) 1 0 ∷ arrives (unit 5 3 first_bid) 2 0 ∷ []))
    (ends (feed Live 6 3 2 true true) held ((2, 1) ∷ (1002, 1) ∷ (1003, 0) ∷ []))
    ∷ case "then a change of level 1 does not fit" (start 64)
    (logs_on 0 0 ++ (arrives (unit 3 1 example1) 0 0 ∷ arrives (unit 4 2 (emptying 700)) 1 0 ∷ arrives (unit 5 3 (book_message 700 (entry 0 1 1 9730 1 1 ∷ []))) 2 16 ∷ []))
    (ends (feed Lost 5 2 1 false true) empty ((2, 0) ∷ []))
    ∷ case "emptied twice" (start 64)
    (logs_on 0 0 ++ (arrives (unit 3 1 example1) 0 0 ∷ arrives (unit 4 2 (emptying 700)) 1 0 ∷ arrives (unit 5 3 (emptying 700)) 2 0 ∷ []))
    (ends (feed Live 6 3 2 true true) empty ((2, 1) ∷ []))
    ∷ case "the slot stays taken" (start 64)
    (logs_on 0 0 ++ (arrives (unit 3 1 example1) 0 0 ∷ arrives (unit 4 2 (emptying 700)) 1 0 ∷ arrives (unit 5 3 (book_message 701 (entry 0 1 0 5 5 5 ∷ []))) 2 17 ∷ []))
    (ends (feed Lost 5 2 1 false true) empty ((2, 0) ∷ []))
    ∷ case "a resuming connect, and what Restart brings again is Seen" (start 64)
    (logs_on 0 0
    ++ (arrives (unit 3 1 example1) 0 0 ∷ arrives (unit 4 2 (emptying 700)) 1 0 ∷ gets (Connect Resuming 9) 0 ∷ arrives (unit 1 0 send_key) 9 0
    ∷ arrives (unit 2 0 (logon 2)) 9 0 ∷ arrives (unit 3 1 example1) 9 1 ∷ arrives (unit 4 2 (emptying 700)) 9 1 ∷ []))
    (ends (feed Live 5 2 9 true false) empty ((9, 1) ∷ []))
    ∷ case "a resuming connect, and an emptying that is Seen leaves the book" (start 64)
    (logs_on 0 0
    ++ (arrives (unit 3 1 (emptying 700)) 0 0 ∷ arrives (unit 4 2 example1) 1 0 ∷ gets (Connect Resuming 9) 0 ∷ arrives (unit 1 0 send_key) 9 0
    ∷ arrives (unit 2 0 (logon 2)) 9 0 ∷ arrives (unit 3 1 (emptying 700)) 9 1 ∷ []))
    (ends (feed Live 4 2 9 true false) words1 ((9, 1) ∷ []))
    ∷ case "emptied in a refresh, and the numbers advance" (start 64)
    (logs_on 101 0
    ++ (arrives (unit 3 0 (refresh 0)) 0 0 ∷ arrives (unit 4 0 example1) 0 0 ∷ arrives (unit 5 0 (emptying 700)) 1 0 ∷ arrives (unit 6 0 (complete 9)) 1 0 ∷ []))
    (ends (feed Live 7 9 1 true true) empty ((1, 1) ∷ []))
    ∷ []
