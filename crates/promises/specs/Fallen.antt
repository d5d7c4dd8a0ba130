-- A case for each sentence of request 6, "Show the row that fell off" (document 02): entries, messages, frames and scraps. Assumes nothing.
use Rattle.std.specs.Prelude.{ℕ, true, false, ◌&&◌, List, [], ◌∷◌, ◌++◌, take, drop, replicate, eqb}
use Prim.Native.String.{String}
use Rattle.std.proofs.Math.Option.{Option, none, some}
use Rattle.ground.specs.Choice.{same}
use Rattle.ladder.specs.Message.{entry_at}
use Rattle.ladder.specs.Walk.{fell_off}
use Rattle.ladder.specs.Words.{book_of, row_words}
use Rattle.ladder.specs.declared.Row.{Row}
use Rattle.feed.specs.Events.{Cut}
use Rattle.feed.specs.Frames.{Framed, framed}
use Rattle.feed.specs.declared.Phase.TheVariants.{Refreshing, Live, Lost}
use Rattle.feed.specs.declared.Feed.{Feed}
use Rattle.lines.specs.Scraps.{Hearing}
use Rattle.promises.specs.Checks.{Check, same_feed}
use Rattle.promises.specs.Build.{unit, heartbeat, entry, book_message, row, block, feed, both, arrives, gets, dropping}
use Rattle.promises.specs.Answering.{one_call, fed, lost, spoilt, heard}
use Rattle.promises.specs.Strips.{nominal, free}
use Rattle.promises.specs.Scraps.{Lined, lined, lined_in, scrapped}
use Rattle.promises.specs.Torn.{room}

-- ten bids from 9,730 down and ten offers from 9,750 up, no two rows alike
unfoldable pub bids : List (List ℕ)
bids =
    row 9730 1 11 ∷ row 9720 2 12 ∷ row 9710 3 13 ∷ row 9700 4 14 ∷ row 9690 5 15
    ∷ row 9680 6 16 ∷ row 9670 7 17 ∷ row 9660 8 18 ∷ row 9650 9 19 ∷ row 9640 10 20 ∷ []

unfoldable pub offers : List (List ℕ)
offers =
    row 9750 21 31 ∷ row 9760 22 32 ∷ row 9770 23 33 ∷ row 9780 24 34 ∷ row 9790 25 35
    ∷ row 9800 26 36 ∷ row 9810 27 37 ∷ row 9820 28 38 ∷ row 9830 29 39 ∷ row 9840 30 40 ∷ []

-- "whether a row was dropped, and which price, quantity and orders it had": an entry on a book of these rows, and the words of the row, none where none was
unfoldable pub row_out : Option Row → List ℕ
row_out none = []
row_out (some r) = row_words r

unfoldable pub falls : String → List (List ℕ) → List (List ℕ) → List ℕ → List ℕ → Check
falls name bids offers e told = record { name = name; holds = same (row_out (fell_off (entry_at 0 e) (book_of (block 700 bids offers)))) told }

unfoldable pub entries : List Check
entries =
    falls "new at rank 1 of ten bids: the old tenth" bids offers (entry 0 1 0 9740 8 9) (row 9640 10 20)
    ∷ falls "new at rank 5 of ten bids" bids offers (entry 0 5 0 9695 8 9) (row 9640 10 20)
    ∷ falls "new at rank 10 of ten bids" bids offers (entry 0 10 0 9645 8 9) (row 9640 10 20)
    ∷ falls "new at rank 1 of ten offers" bids offers (entry 1 1 0 9745 8 9) (row 9840 30 40)
    ∷ falls "new at rank 5 of ten offers" bids offers (entry 1 5 0 9785 8 9) (row 9840 30 40)
    ∷ falls "new at rank 10 of ten offers" bids offers (entry 1 10 0 9835 8 9) (row 9840 30 40)
    ∷ falls "nine bids, rank 1" (take 9 bids) offers (entry 0 1 0 9740 8 9) []
    ∷ falls "nine bids, rank 10" (take 9 bids) offers (entry 0 10 0 9645 8 9) []
    ∷ falls "nine offers, and ten bids" bids (take 9 offers) (entry 1 5 0 9785 8 9) []
    ∷ falls "no rows" [] [] (entry 0 1 0 9740 8 9) []
    ∷ falls "a change of the tenth" bids offers (entry 0 10 1 9640 8 9) []
    ∷ falls "a delete of the tenth" bids offers (entry 1 10 2 0 0 0) []
    ∷ falls "a clear" bids offers (entry 0 1 74 9740 8 9) []
    ∷ falls "a clear, side and rank not looked at" bids offers (entry 7 0 74 9740 8 9) []
    ∷ falls "a tenth row with quantity 0 and orders 0 is a row" (take 9 bids ++ (row 9640 0 0 ∷ [])) offers (entry 0 1 0 9740 8 9) (row 9640 0 0)
    ∷ falls "a tenth row with price word 0 is a row" (take 9 bids ++ ((0 ∷ 0 ∷ 0 ∷ []) ∷ [])) offers (entry 0 10 0 9645 8 9) (0 ∷ 0 ∷ 0 ∷ [])
    ∷ falls "a tenth row of price -1" (take 9 bids ++ ((2147483647 ∷ 5 ∷ 6 ∷ []) ∷ [])) offers (entry 0 2 0 9725 8 9) (2147483647 ∷ 5 ∷ 6 ∷ [])
    ∷ []

-- entries for code 700 on these bids and offers: how many rows the message says were dropped, and the rows after it
unfoldable pub tells : String → List (List ℕ) → List (List ℕ) → List (List ℕ) → ℕ → List (List ℕ) → List (List ℕ) → Check
tells name bids offers es n bids' offers' =
    one_call name (fed Live) (block 700 bids offers) (dropping n (arrives (unit 5 8 (book_message 700 es)) 20 0)) (heard Live 8) (block 700 bids' offers')

-- three new best bids, one after the other
unfoldable pub three : List (List ℕ)
three = entry 0 1 0 9740 8 9 ∷ entry 0 1 0 9741 7 7 ∷ entry 0 1 0 9742 6 6 ∷ []

unfoldable pub messages : List Check
messages =
    tells "new at rank 1 of ten bids" bids offers (entry 0 1 0 9740 8 9 ∷ []) 1 (row 9740 8 9 ∷ take 9 bids) offers
    ∷ tells "new at rank 5" bids offers (entry 0 5 0 9695 8 9 ∷ []) 1 (take 4 bids ++ (row 9695 8 9 ∷ take 5 (drop 4 bids))) offers
    ∷ tells "new at rank 10" bids offers (entry 0 10 0 9645 8 9 ∷ []) 1 (take 9 bids ++ (row 9645 8 9 ∷ [])) offers
    ∷ tells "new at rank 1 of ten offers" bids offers (entry 1 1 0 9745 8 9 ∷ []) 1 bids (row 9745 8 9 ∷ take 9 offers)
    ∷ tells "new at rank 5 of ten offers" bids offers (entry 1 5 0 9785 8 9 ∷ []) 1 bids (take 4 offers ++ (row 9785 8 9 ∷ take 5 (drop 4 offers)))
    ∷ tells "new at rank 10 of ten offers" bids offers (entry 1 10 0 9835 8 9 ∷ []) 1 bids (take 9 offers ++ (row 9835 8 9 ∷ []))
    ∷ tells "nine bids" (take 9 bids) offers (entry 0 1 0 9740 8 9 ∷ []) 0 (row 9740 8 9 ∷ take 9 bids) offers
    ∷ tells "nine bids, and then ten" (take 9 bids) offers (take 2 three) 1 (row 9741 7 7 ∷ row 9740 8 9 ∷ take 8 bids) offers
    ∷ tells "three new levels" bids offers three 3 (row 9742 6 6 ∷ row 9741 7 7 ∷ row 9740 8 9 ∷ take 7 bids) offers
    ∷ tells "one on each side" bids offers (entry 0 1 0 9740 8 9 ∷ entry 1 1 0 9745 8 9 ∷ []) 2 (row 9740 8 9 ∷ take 9 bids) (row 9745 8 9 ∷ take 9 offers)
    ∷ tells "new, delete, new: the second new level meets nine" bids offers (entry 0 1 0 9740 8 9 ∷ entry 0 2 2 0 0 0 ∷ entry 0 2 0 9735 7 7 ∷ []) 1
    (row 9740 8 9 ∷ row 9735 7 7 ∷ take 8 (drop 1 bids)) offers
    ∷ tells "new, then its delete: what was dropped stays dropped" bids offers (entry 0 1 0 9740 8 9 ∷ entry 0 1 2 0 0 0 ∷ []) 1 (take 9 bids) offers
    ∷ tells "new, then a clear takes none back" bids offers (entry 0 1 0 9740 8 9 ∷ entry 1 1 0 9745 8 9 ∷ entry 0 0 74 0 0 0 ∷ []) 2 [] []
    ∷ tells "a clear, then new: none" bids offers (entry 0 0 74 0 0 0 ∷ entry 0 1 0 9740 8 9 ∷ []) 0 (row 9740 8 9 ∷ []) []
    ∷ tells "a delete, then new: none" bids offers (entry 0 10 2 0 0 0 ∷ entry 0 1 0 9740 8 9 ∷ []) 0 (row 9740 8 9 ∷ take 9 bids) offers
    ∷ tells "a change of the tenth" bids offers (entry 0 10 1 9640 8 9 ∷ []) 0 (take 9 bids ++ (row 9640 8 9 ∷ [])) offers
    ∷ tells "a delete of the tenth" bids offers (entry 0 10 2 0 0 0 ∷ []) 0 (take 9 bids) offers
    ∷ tells "a clear" bids offers (entry 0 0 74 0 0 0 ∷ []) 0 [] []
    ∷ tells "NoEntries 0 empties the book and drops none" bids offers [] 0 [] []
    ∷ []

-- the two that drop, and then one that does not fit, or is not listed
unfoldable pub too_far : List (List ℕ)
too_far = take 2 three ++ (entry 0 1 0 9741 8 9 ∷ [])

unfoldable pub full : List ℕ
full = block 700 bids offers

-- "0 for a refused message", however far its walk had come, and for one that is Seen; of a message already cut, and in a refresh
unfoldable pub others : List Check
others =
    one_call "two that drop, then a misfit: 16 and 0" (fed Live) full (arrives (unit 5 8 (book_message 700 too_far)) 20 16) spoilt full
    ∷ one_call "15 and 0" (fed Live) full (arrives (unit 5 8 (book_message 700 (three ++ (entry 0 11 0 9750 8 9 ∷ [])))) 20 15) spoilt full
    ∷ one_call "13 and 0" (fed Live) full (arrives (unit 6 8 (book_message 700 three)) 20 13) lost full
    ∷ one_call "17 and 0" (fed Live) full (arrives (unit 5 8 (book_message 701 three)) 20 17) spoilt full
    ∷ one_call "18 and 0" (fed Live) (block 700 (row 9730 1 1 ∷ bids) offers) (arrives (unit 5 8 (book_message 700 three)) 20 18) spoilt (block 700 (row 9730 1 1 ∷ bids) offers)
    ∷ one_call "Seen and 0" (fed Live) full (arrives (unit 5 7 (book_message 700 three)) 20 1) (heard Live 7) full
    ∷ one_call "a message already cut: 3" (fed Live) full (dropping 3 (gets (Cut 5 8 (book_message 700 three) 20) 0)) (heard Live 8)
    (block 700 (row 9742 6 6 ∷ row 9741 7 7 ∷ row 9740 8 9 ∷ take 7 bids) offers)
    ∷ one_call "already cut, 16 and 0" (fed Live) full (gets (Cut 5 8 (book_message 700 too_far) 20) 16) spoilt full
    ∷ one_call "in a refresh" (fed Refreshing) full (dropping 1 (arrives (unit 5 0 (book_message 700 (take 1 three))) 20 0)) (heard Refreshing 7) (block 700 (row 9740 8 9 ∷ take 9 bids) offers)
    ∷ one_call "eleven new levels for a code that had no book" (fed Live) (replicate 64 0)
    (dropping 1 (arrives (unit 5 8 (book_message 700
    (entry 0 1 0 1 1 1 ∷ entry 0 1 0 2 2 2 ∷ entry 0 1 0 3 3 3 ∷ entry 0 1 0 4 4 4 ∷ entry 0 1 0 5 5 5 ∷ entry 0 1 0 6 6 6
    ∷ entry 0 1 0 7 7 7 ∷ entry 0 1 0 8 8 8 ∷ entry 0 1 0 9 9 9 ∷ entry 0 1 0 10 10 10 ∷ entry 0 1 0 11 11 11 ∷ []))) 20 0))
    (heard Live 8)
    (block 700
    (row 11 11 11 ∷ row 10 10 10 ∷ row 9 9 9 ∷ row 8 8 8 ∷ row 7 7 7 ∷ row 6 6 6 ∷ row 5 5 5 ∷ row 4 4 4 ∷ row 3 3 3 ∷ row 2 2 2 ∷ []) [])
    ∷ []

-- three messages of 56, 80 and 104 bytes: one that drops a row, one that drops two, and one that drops two and then does not fit
unfoldable pub first : List ℕ
first = unit 5 8 (book_message 700 (entry 1 1 0 9745 8 9 ∷ []))

unfoldable pub second : List ℕ
second = unit 6 9 (book_message 700 (take 2 three))

unfoldable pub last : List ℕ
last = unit 7 10 (book_message 700 (entry 0 1 0 9742 8 9 ∷ entry 0 1 0 9743 8 9 ∷ entry 0 1 0 9743 8 9 ∷ []))

-- the table after the first, and after both
unfoldable pub after_one : List ℕ
after_one = block 700 bids (row 9745 8 9 ∷ take 9 offers)

unfoldable pub after_two : List ℕ
after_two = block 700 (row 9741 7 7 ∷ row 9740 8 9 ∷ take 8 bids) (row 9745 8 9 ∷ take 9 offers)

-- a frame of these bytes: the last answer, the units accepted, the rows dropped, the feed and the books
unfoldable pub frame : String → List ℕ → ℕ → ℕ → ℕ → ℕ → Feed → List ℕ → Check
frame name bytes allowed answer accepted n f words =
    let o : Framed = framed (both (fed Live) full free) bytes allowed 20 in
    record {
      name = name;
      holds =
          eqb o.frame.answer answer && eqb o.frame.accepted accepted && eqb o.frame.dropped n
          && same_feed o.frame.feed f && same o.tables.books words;
    }

unfoldable pub live : ℕ → ℕ → Feed
live next internal = feed Live next internal 20 true true

unfoldable pub sums : List Check
sums =
    frame "0 allowed" (first ++ second ++ last) 0 0 0 0 (fed Live) full
    ∷ frame "1: its one" (first ++ second ++ last) 1 0 1 1 (live 6 8) after_one
    ∷ frame "2: the sum, not the last message's" (first ++ second ++ last) 2 0 2 3 (live 7 9) after_two
    ∷ frame "3, a refusal last: what was accepted before it" (first ++ second ++ last) 3 16 2 3 (feed Lost 7 9 20 false true) after_two
    ∷ frame "a refusal first: 0" (unit 5 8 (book_message 700 too_far) ++ second) 3 16 0 0 spoilt full
    ∷ frame "a torn last unit: 3, and the sum" (first ++ second ++ take 103 last) 9 3 2 3 (live 7 9) after_two
    ∷ frame "a heartbeat, a strip and one that is Seen between: none of their own" (heartbeat ++ first ++ unit 6 9 (nominal 700 9730) ++ unit 7 9 (book_message 700 three)) 9 3 4 1
    (live 8 9) after_one
    ∷ []

-- scraps of these bytes, one after the other, with a buffer of 200 bytes: the rows that each says were dropped
unfoldable pub numbers : Lined → List ℕ → List (List ℕ) → List ℕ
numbers x hold [] = []
numbers x hold (s ∷ ss) =
    let y : Hearing = scrapped x hold s 9 20 in
    y.heard.dropped ∷ numbers (lined_in y) y.hold ss

unfoldable pub scraps : String → List (List ℕ) → List ℕ → Check
scraps name ss told = record {
  name = name;
  holds = same (numbers (lined (record { feed = fed Live; held = 0; dropping = false }) (record { books = full; strips = free })) (room 200) ss) told;
}

unfoldable pub pieces : List Check
pieces =
    scraps "one piece, a refusal last" ((first ++ second ++ last) ∷ []) (3 ∷ [])
    ∷ scraps "a unit a scrap" (first ∷ second ∷ last ∷ []) (1 ∷ 2 ∷ 0 ∷ [])
    ∷ scraps "each unit torn in two" (take 30 first ∷ (drop 30 first ++ take 21 second) ∷ (drop 21 second ++ take 103 last) ∷ drop 103 last ∷ []) (0 ∷ 1 ∷ 2 ∷ 0 ∷ [])
    ∷ scraps "two units finished by one scrap, empty scraps between" (take 40 first ∷ [] ∷ (drop 40 first ++ second) ∷ [] ∷ last ∷ []) (0 ∷ 0 ∷ 3 ∷ 0 ∷ 0 ∷ [])
    ∷ scraps "what is dropped behind a refusal drops none" (last ∷ first ∷ []) (0 ∷ 0 ∷ [])
    ∷ []
