-- What each action makes of a side, and how the entries of a message meet (document 01, "Entries, against a side of n rows"). Assumes nothing.
use Rattle.std.specs.Prelude.{ℕ, List, [], ◌∷◌, ◌++◌, take, drop}
use Prim.Native.String.{String}
use Rattle.feed.specs.declared.Phase.TheVariants.{Live}
use Rattle.promises.specs.Checks.{Check}
use Rattle.promises.specs.Build.{unit, entry, book_message, row, block, arrives, dropping}
use Rattle.promises.specs.Answering.{one_call, fed, spoilt, heard}
use Rattle.promises.specs.Desk.{ten_rows}

-- entries for code 700 on a book of these bids and offers: how many rows they drop and what they make of it; or an answer, and the book as it was
unfoldable pub drops : String → ℕ → List (List ℕ) → List (List ℕ) → List (List ℕ) → List (List ℕ) → List (List ℕ) → Check
drops name n bids offers es bids' offers' =
    one_call name (fed Live) (block 700 bids offers) (dropping n (arrives (unit 5 8 (book_message 700 es)) 20 0)) (heard Live 8) (block 700 bids' offers')

unfoldable pub makes : String → List (List ℕ) → List (List ℕ) → List (List ℕ) → List (List ℕ) → List (List ℕ) → Check
makes name bids offers es bids' offers' = drops name 0 bids offers es bids' offers'

unfoldable pub not : String → List (List ℕ) → List (List ℕ) → List (List ℕ) → ℕ → Check
not name bids offers es answer =
    one_call name (fed Live) (block 700 bids offers) (arrives (unit 5 8 (book_message 700 es)) 20 answer) spoilt (block 700 bids offers)

-- bids 30, 20, 10 and offers 40, 50, 60
unfoldable pub bids : List (List ℕ)
bids = row 30 1 1 ∷ row 20 2 2 ∷ row 10 3 3 ∷ []

unfoldable pub offers : List (List ℕ)
offers = row 40 4 4 ∷ row 50 5 5 ∷ row 60 6 6 ∷ []

unfoldable pub news : List Check
news =
    makes "first row" [] [] (entry 0 1 0 7 8 9 ∷ []) (row 7 8 9 ∷ []) []
    ∷ not "rank 2 of no rows" [] [] (entry 0 2 0 7 8 9 ∷ []) 16
    ∷ makes "above the best bid" bids offers (entry 0 1 0 31 8 9 ∷ []) (row 31 8 9 ∷ bids) offers
    ∷ not "at the best bid's price" bids offers (entry 0 1 0 30 8 9 ∷ []) 16
    ∷ not "below the best bid at rank 1" bids offers (entry 0 1 0 29 8 9 ∷ []) 16
    ∷ makes "between two bids" bids offers (entry 0 2 0 25 8 9 ∷ []) (row 30 1 1 ∷ row 25 8 9 ∷ row 20 2 2 ∷ row 10 3 3 ∷ []) offers
    ∷ not "at the price above" bids offers (entry 0 2 0 30 8 9 ∷ []) 16
    ∷ not "at the price below" bids offers (entry 0 2 0 20 8 9 ∷ []) 16
    ∷ not "at rank 3 of three, below the third bid" bids offers (entry 0 3 0 9 8 9 ∷ []) 16
    ∷ not "at rank 3 of three, above the third offer" bids offers (entry 1 3 0 61 8 9 ∷ []) 16
    ∷ makes "behind the last bid" bids offers (entry 0 4 0 9 8 9 ∷ []) (bids ++ (row 9 8 9 ∷ [])) offers
    ∷ not "behind the last bid at its price" bids offers (entry 0 4 0 10 8 9 ∷ []) 16
    ∷ not "two behind the last bid" bids offers (entry 0 5 0 9 8 9 ∷ []) 16
    ∷ makes "below the best offer" bids offers (entry 1 1 0 39 8 9 ∷ []) bids (row 39 8 9 ∷ offers)
    ∷ not "at the best offer's price" bids offers (entry 1 1 0 40 8 9 ∷ []) 16
    ∷ not "above the best offer at rank 1" bids offers (entry 1 1 0 41 8 9 ∷ []) 16
    ∷ makes "between two offers" bids offers (entry 1 3 0 55 8 9 ∷ []) bids (row 40 4 4 ∷ row 50 5 5 ∷ row 55 8 9 ∷ row 60 6 6 ∷ [])
    ∷ makes "an offer that crosses the bids" bids offers (entry 1 1 0 15 8 9 ∷ []) bids (row 15 8 9 ∷ offers)
    ∷ makes "the tenth row" (ten_rows 9) [] (entry 0 10 0 5 8 9 ∷ []) (ten_rows 9 ++ (row 5 8 9 ∷ [])) []
    ∷ drops "rank 10 of ten rows drops the old tenth" 1 (take 9 (ten_rows 10) ++ (row 1 1 1 ∷ [])) [] (entry 0 10 0 2 8 9 ∷ []) (take 9 (ten_rows 10) ++ (row 2 8 9 ∷ [])) []
    ∷ drops "rank 5 of ten rows drops the tenth" 1 (row 20000 1 1 ∷ ten_rows 9) [] (entry 0 2 0 15000 8 9 ∷ []) (row 20000 1 1 ∷ row 15000 8 9 ∷ ten_rows 8) []
    ∷ not "rank 10 of ten rows, below the tenth" (ten_rows 10) [] (entry 0 10 0 2 8 9 ∷ []) 16
    ∷ makes "a price of -1, quantity and orders 0" [] [] (entry 1 1 0 4294967295 0 0 ∷ []) [] ((2147483647 ∷ 0 ∷ 0 ∷ []) ∷ [])
    ∷ []

unfoldable pub changes : List Check
changes =
    makes "quantity and orders are replaced" bids offers (entry 0 2 1 20 8 9 ∷ []) (row 30 1 1 ∷ row 20 8 9 ∷ row 10 3 3 ∷ []) offers
    ∷ makes "the last offer" bids offers (entry 1 3 1 60 8 9 ∷ []) bids (row 40 4 4 ∷ row 50 5 5 ∷ row 60 8 9 ∷ [])
    ∷ not "another price" bids offers (entry 0 2 1 21 8 9 ∷ []) 16
    ∷ not "another row's price" bids offers (entry 0 2 1 30 8 9 ∷ []) 16
    ∷ not "behind the last" bids offers (entry 0 4 1 10 8 9 ∷ []) 16
    ∷ not "behind the last, price -2,147,483,648" bids offers (entry 0 4 1 2147483648 8 9 ∷ []) 16
    ∷ not "level 0" bids offers (entry 0 0 1 30 8 9 ∷ []) 15
    ∷ not "level 11" bids offers (entry 0 11 1 30 8 9 ∷ []) 15
    ∷ []

unfoldable pub deletes : List Check
deletes =
    makes "the best" bids offers (entry 0 1 2 30 1 1 ∷ []) (row 20 2 2 ∷ row 10 3 3 ∷ []) offers
    ∷ makes "price not looked at" bids offers (entry 0 2 2 999 0 0 ∷ []) (row 30 1 1 ∷ row 10 3 3 ∷ []) offers
    ∷ makes "the last offer" bids offers (entry 1 3 2 0 0 0 ∷ []) bids (row 40 4 4 ∷ row 50 5 5 ∷ [])
    ∷ makes "the only row keeps the slot" (row 30 1 1 ∷ []) [] (entry 0 1 2 0 0 0 ∷ []) [] []
    ∷ makes "of ten rows" (ten_rows 10) [] (entry 0 1 2 0 0 0 ∷ []) (drop 1 (ten_rows 10)) []
    ∷ not "behind the last" bids offers (entry 0 4 2 10 3 3 ∷ []) 16
    ∷ not "of no rows" [] offers (entry 0 1 2 10 3 3 ∷ []) 16
    ∷ not "level 11" bids offers (entry 0 11 2 0 0 0 ∷ []) 15
    ∷ []

unfoldable pub walks : List Check
walks =
    makes "clear empties both sides" bids offers (entry 0 0 74 0 0 0 ∷ []) [] []
    ∷ makes "clear, then new rows" bids offers (entry 65535 255 74 7 7 7 ∷ entry 1 1 0 5 5 5 ∷ entry 0 1 0 6 6 6 ∷ []) (row 6 6 6 ∷ []) (row 5 5 5 ∷ [])
    ∷ not "clear, then a row of before" bids offers (entry 0 0 74 0 0 0 ∷ entry 0 2 1 20 8 9 ∷ []) 16
    ∷ makes "the second entry meets the book as the first left it" bids offers (entry 0 1 2 0 0 0 ∷ entry 0 1 1 20 8 9 ∷ []) (row 20 8 9 ∷ row 10 3 3 ∷ []) offers
    ∷ not "and not as it was before the first" bids offers (entry 0 1 2 0 0 0 ∷ entry 0 1 1 30 8 9 ∷ []) 16
    ∷ not "the last of three does not fit" bids offers (entry 0 1 2 0 0 0 ∷ entry 1 1 2 0 0 0 ∷ entry 1 3 2 0 0 0 ∷ []) 16
    ∷ not "the last of three is not listed" bids offers (entry 0 1 2 0 0 0 ∷ entry 1 1 2 0 0 0 ∷ entry 2 1 2 0 0 0 ∷ []) 15
    ∷ makes "each side by itself" bids offers (entry 1 1 2 0 0 0 ∷ entry 0 3 2 0 0 0 ∷ entry 1 1 1 50 7 7 ∷ []) (row 30 1 1 ∷ row 20 2 2 ∷ []) (row 50 7 7 ∷ row 60 6 6 ∷ [])
    ∷ []
