-- Tables of every kind, sound and unsound books, and rows read out of them (document 01, "The book table", "Reading a row"). Assumes nothing.
use Rattle.std.specs.Prelude.{ℕ, zero, suc, ◌+◌, ◌*◌, List, [], ◌∷◌, ◌++◌, length, take, replicate, set, ℤ, pos, negsuc, eqb}
use Prim.Native.String.{String}
use Rattle.slots.specs.Layout.{count_in}
use Rattle.books.specs.Table.{books}
use Rattle.feed.specs.declared.Phase.TheVariants.{WaitLogon, Live}
use Rattle.books.specs.declared.Level.{Level}
use Rattle.promises.specs.Sides.{no_level}
use Rattle.promises.specs.Checks.{Check, reads, reads_side}
use Rattle.promises.specs.Build.{unit, logon, entry, book_message, row, block, arrives}
use Rattle.promises.specs.Answering.{one_call, fed, spoilt, heard, held, both, fits}
use Rattle.promises.specs.Desk.{ten_rows}

-- a message for code 700 in Live on a table: the answer, and the table after it
unfoldable pub on : String → List ℕ → List ℕ → Check
on name words after = one_call name (fed Live) words (arrives (unit 5 8 fits) 20 0) (heard Live 8) after

unfoldable pub refused : String → List ℕ → ℕ → Check
refused name words answer = one_call name (fed Live) words (arrives (unit 5 8 fits) 20 answer) spoilt words

-- a first bid for code 700, and its book
unfoldable pub first_bid : List ℕ
first_bid = book_message 700 (entry 0 1 0 9730 4000 2 ∷ [])

unfoldable pub opened : String → List ℕ → List ℕ → Check
opened name words after = one_call name (fed Live) words (arrives (unit 5 8 first_bid) 20 0) (heard Live 8) after

-- a clearing: a fresh logon with status 0
unfoldable pub wipes : String → List ℕ → List ℕ → Check
wipes name words after = one_call name (fed WaitLogon) words (arrives (unit 5 0 (logon 0)) 20 0) (heard Live 0) after

unfoldable pub other : List ℕ
other = block 701 (row 100 1 1 ∷ []) []

unfoldable pub lengths : List Check
lengths =
    refused "0 words" [] 17
    ∷ refused "63 words" (replicate 63 0) 17
    ∷ refused "63 words that look like the book" (take 63 held) 17
    ∷ opened "64 words" (replicate 64 0) held
    ∷ opened "65 words, the last is no slot" (replicate 64 0 ++ (9 ∷ [])) (held ++ (9 ∷ []))
    ∷ refused "127 words, the slot taken" (other ++ replicate 63 0) 17
    ∷ opened "127 words" (replicate 127 0) (held ++ replicate 63 0)
    ∷ opened "128 words, the first slot taken" (other ++ replicate 64 0) (other ++ held)
    ∷ opened "the lowest free slot" (other ++ replicate 128 0) (other ++ held ++ replicate 64 0)
    ∷ wipes "a clearing of 0 words" [] []
    ∷ wipes "a clearing of 63 words" (replicate 63 5) (replicate 63 5)
    ∷ wipes "a clearing of 127 words" (held ++ replicate 63 5) (replicate 64 0 ++ replicate 63 5)
    ∷ wipes "a clearing of garbage" (replicate 128 18446744073709551615) (replicate 128 0)
    ∷ record { name = "4,096 slots"; holds = eqb (count_in books (64 * 4096)) 4096 }
    ∷ record { name = "4,097 blocks are 4,096 slots"; holds = eqb (count_in books (64 * 4097)) 4096 }
    ∷ record { name = "4,095 slots and a part"; holds = eqb (count_in books (64 * 4095 + 63)) 4095 }
    ∷ []

unfoldable pub slots : List Check
slots =
    on "the book in the second slot" (other ++ held) (other ++ both)
    ∷ on "behind a free slot" (replicate 64 0 ++ held) (replicate 64 0 ++ both)
    ∷ on "the code twice: the lowest" (held ++ held) (both ++ held)
    ∷ on "the code twice, the second unsound" (held ++ set held 3 1) (both ++ set held 3 1)
    ∷ refused "the code twice, the first unsound" (set held 3 1 ++ held) 18
    ∷ on "another book unsound" (set other 3 1 ++ held) (set other 3 1 ++ both)
    ∷ opened "garbage behind a zero" (0 ∷ replicate 63 77) held
    ∷ on "garbage behind a zero in another slot" ((0 ∷ replicate 63 77) ++ held) ((0 ∷ replicate 63 77) ++ both)
    ∷ refused "a code of 100,000 is not free" (block 100000 [] []) 17
    ∷ one_call "a new book with one entry that does not fit" (fed Live) (replicate 64 0) (arrives (unit 5 8 fits) 20 16) spoilt (replicate 64 0)
    ∷ one_call "a clear alone takes a slot" (fed Live) (replicate 64 0) (arrives (unit 5 8 (book_message 700 (entry 9 0 74 1 1 1 ∷ []))) 20 0) (heard Live 8) (block 700 [] [])
    ∷ one_call "a new level and its delete take a slot" (fed Live) (replicate 64 0)
    (arrives (unit 5 8 (book_message 700 (entry 1 1 0 5 5 5 ∷ entry 1 1 2 9 9 9 ∷ []))) 20 0) (heard Live 8) (block 700 [] [])
    ∷ []

-- each way of not being sound, and what is sound though it looks odd
unfoldable pub three : List ℕ
three = block 700 (row 30 1 1 ∷ row 20 1 1 ∷ row 10 1 1 ∷ []) (row 5 1 1 ∷ row 6 1 1 ∷ [])

-- ten offers from 10.001 up
unfoldable pub ten_offers : ℕ → List (List ℕ)
ten_offers zero = []
ten_offers (suc n) = ten_offers n ++ (row (10001 + n) 500 1 ∷ [])

unfoldable pub sounds : List Check
sounds =
    refused "bid count 11" (set three 1 11) 18
    ∷ refused "offer count 11" (set three 2 11) 18
    ∷ refused "bid count 11 over ten good rows" (set (block 700 (ten_rows 10) []) 1 11) 18
    ∷ refused "offer count 11 over ten good rows" (set (block 700 [] (ten_offers 10)) 2 11) 18
    ∷ refused "a count of 18,446,744,073,709,551,615" (set three 1 18446744073709551615) 18
    ∷ refused "word 3" (set three 3 1) 18
    ∷ refused "a word behind the bids" (set three 13 1) 18
    ∷ refused "a quantity word behind the bids" (set three 14 1) 18
    ∷ refused "an orders word behind the bids" (set three 15 1) 18
    ∷ refused "the last word of the bids" (set three 33 1) 18
    ∷ refused "a word behind the offers" (set three 40 1) 18
    ∷ refused "a quantity word behind the offers" (set three 41 1) 18
    ∷ refused "an orders word behind the offers" (set three 42 1) 18
    ∷ refused "the last word of the offers" (set three 63 1) 18
    ∷ refused "a bid too few counted" (set three 1 2) 18
    ∷ refused "a price word of 4,294,967,296" (set three 4 4294967296) 18
    ∷ refused "an orders word of 4,294,967,296" (set three 6 4294967296) 18
    ∷ refused "an offer's orders word of 4,294,967,296" (set three 36 4294967296) 18
    ∷ refused "bids that rise" (block 700 (row 20 1 1 ∷ row 30 1 1 ∷ []) []) 18
    ∷ refused "two bids of one price" (block 700 (row 30 1 1 ∷ row 30 2 2 ∷ []) []) 18
    ∷ refused "bids that rise at the end" (block 700 (row 30 1 1 ∷ row 10 1 1 ∷ row 20 1 1 ∷ []) []) 18
    ∷ refused "offers that fall" (block 700 [] (row 30 1 1 ∷ row 20 1 1 ∷ [])) 18
    ∷ refused "two offers of one price" (block 700 [] (row 30 1 1 ∷ row 30 2 2 ∷ [])) 18
    ∷ on "bids that cross offers" (block 700 (row 9730 1 1 ∷ []) (row 5 1 1 ∷ [])) (block 700 (row 9730 1 1 ∷ row 9720 100 1 ∷ []) (row 5 1 1 ∷ []))
    ∷ on "any quantity" (set held 5 18446744073709551615) (set both 5 18446744073709551615)
    ∷ on "an orders word of 4,294,967,295" (set held 6 4294967295) (set both 6 4294967295)
    ∷ on "a zero row that is counted is a row" (set held 1 2) (set both 1 3)
    ∷ []

-- a row that is read
unfoldable pub row_is : String → List ℕ → ℕ → ℕ → ℕ → ℤ → ℕ → ℕ → Check
row_is name t c side rank price quantity orders =
    record { name = name; holds = reads t c side rank (record { answer = 0; price = price; quantity = quantity; orders = orders }) }

unfoldable pub no_row : String → List ℕ → ℕ → ℕ → ℕ → ℕ → Check
no_row name t c side rank answer =
    record { name = name; holds = reads t c side rank (record { answer = answer; price = pos 0; quantity = 0; orders = 0 }) }

-- a side that is read at once: its rows, and zeros behind them
unfoldable pub level : ℤ → ℕ → ℕ → Level
level price quantity orders = record { price = price; quantity = quantity; orders = orders }

unfoldable pub ten_bids : List (List ℕ)
ten_bids = row 10 1 1 ∷ row 9 2 1 ∷ row 8 3 1 ∷ row 7 4 1 ∷ row 6 5 1 ∷ row 5 6 1 ∷ row 4 7 1 ∷ row 3 8 1 ∷ row 2 9 1 ∷ row 1 10 1 ∷ []

unfoldable pub ten_levels : List Level
ten_levels =
    level (pos 10) 1 1 ∷ level (pos 9) 2 1 ∷ level (pos 8) 3 1 ∷ level (pos 7) 4 1 ∷ level (pos 6) 5 1 ∷ level (pos 5) 6 1
    ∷ level (pos 4) 7 1 ∷ level (pos 3) 8 1 ∷ level (pos 2) 9 1 ∷ level (pos 1) 10 1 ∷ []

unfoldable pub side_is : String → List ℕ → ℕ → ℕ → ℕ → List Level → Check
side_is name t c side answer told =
    record { name = name; holds = reads_side t c side (record { answer = answer; count = length told; rows = take 10 (told ++ replicate 10 no_level) }) }

unfoldable pub rows : List Check
rows =
    row_is "the best bid" three 700 0 1 (pos 30) 1 1
    ∷ row_is "the third bid" three 700 0 3 (pos 10) 1 1
    ∷ row_is "the second offer" three 700 1 2 (pos 6) 1 1
    ∷ row_is "the lowest price" (block 700 [] ((0 ∷ 8 ∷ 9 ∷ []) ∷ [])) 700 1 1 (negsuc 2147483647) 8 9
    ∷ row_is "a price of -1" (block 700 [] ((2147483647 ∷ 8 ∷ 9 ∷ []) ∷ [])) 700 1 1 (negsuc 0) 8 9
    ∷ row_is "a price of 0" (block 700 [] ((2147483648 ∷ 8 ∷ 9 ∷ []) ∷ [])) 700 1 1 (pos 0) 8 9
    ∷ row_is "the highest price" (block 700 [] ((4294967295 ∷ 18446744073709551615 ∷ 4294967295 ∷ []) ∷ [])) 700 1 1 (pos 2147483647) 18446744073709551615 4294967295
    ∷ row_is "in the second slot" (other ++ held) 700 0 1 (pos 9730) 4000 2
    ∷ row_is "the code twice: the lowest" (held ++ block 700 (row 1 1 1 ∷ []) []) 700 0 1 (pos 9730) 4000 2
    ∷ no_row "15: code 0" three 0 0 1 15
    ∷ no_row "15: code 100,000, though a slot has it" (block 100000 (row 1 1 1 ∷ []) []) 100000 0 1 15
    ∷ no_row "15: side 2" three 700 2 1 15
    ∷ no_row "15: rank 0" three 700 0 0 15
    ∷ no_row "15: rank 11" three 700 0 11 15
    ∷ no_row "15 before 4: a bad rank and no book" three 701 0 0 15
    ∷ no_row "15 before 18" (set three 3 1) 700 0 11 15
    ∷ no_row "4: no book, a slot free" (three ++ replicate 64 0) 701 0 1 4
    ∷ no_row "4: no book, none free" three 701 0 1 4
    ∷ no_row "4: no slot" (take 63 three) 700 0 1 4
    ∷ no_row "18" (set three 3 1) 700 0 1 18
    ∷ no_row "18 before 4: no such row" (set three 3 1) 700 0 4 18
    ∷ no_row "18: the code twice, the first unsound" (set held 3 1 ++ held) 700 0 1 18
    ∷ no_row "4: no such bid" three 700 0 4 4
    ∷ no_row "4: no such offer" three 700 1 3 4
    ∷ no_row "4: an empty book" (block 700 [] []) 700 0 1 4
    ∷ side_is "all bids" three 700 0 0 (level (pos 30) 1 1 ∷ level (pos 20) 1 1 ∷ level (pos 10) 1 1 ∷ [])
    ∷ side_is "all offers" three 700 1 0 (level (pos 5) 1 1 ∷ level (pos 6) 1 1 ∷ [])
    ∷ side_is "a side with the lowest and the highest price" (block 700 [] ((0 ∷ 8 ∷ 9 ∷ []) ∷ (4294967295 ∷ 18446744073709551615 ∷ 4294967295 ∷ []) ∷ [])) 700 1 0
    (level (negsuc 2147483647) 8 9 ∷ level (pos 2147483647) 18446744073709551615 4294967295 ∷ [])
    ∷ side_is "ten bids" (block 700 ten_bids []) 700 0 0 ten_levels
    ∷ side_is "an empty side" held 700 1 0 []
    ∷ side_is "an empty book's side" (block 700 [] []) 700 0 0 []
    ∷ side_is "a side in the second slot" (other ++ held) 700 0 0 (level (pos 9730) 4000 2 ∷ [])
    ∷ side_is "a side, the code twice: the lowest" (held ++ block 700 (row 1 1 1 ∷ []) []) 700 0 0 (level (pos 9730) 4000 2 ∷ [])
    ∷ side_is "a side, 15: code 0" three 0 0 15 []
    ∷ side_is "a side, 15: code 100,000, though a slot has it" (block 100000 (row 1 1 1 ∷ []) []) 100000 0 15 []
    ∷ side_is "a side, 15: side 2" three 700 2 15 []
    ∷ side_is "a side, 15 before 4" three 701 2 15 []
    ∷ side_is "a side, 4: no book, a slot free" (three ++ replicate 64 0) 701 0 4 []
    ∷ side_is "a side, 4: no book, none free" three 701 1 4 []
    ∷ side_is "a side, 18" (set three 3 1) 700 0 18 []
    ∷ side_is "a side, 18 by the other one" (set three 40 1) 700 0 18 []
    ∷ []
