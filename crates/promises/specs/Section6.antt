-- The worked examples of section 6 of 003, with the book after each (docs/SECTION-6.md). Assumes nothing.
use Rattle.std.specs.Prelude.{ℕ, true, List, [], ◌∷◌, ◌++◌}
use Prim.Native.String.{String}
use Rattle.feed.specs.declared.Phase.TheVariants.{Live}
use Rattle.promises.specs.Checks.{Check}
use Rattle.promises.specs.Build.{unit, entry, book_message, row, block, feed, state, arrives, dropping, ends, case}

-- a message for code 1234 in Live that turns one book into another and drops so many rows: what 003 calls an implicit deletion
unfoldable pub turns : String → ℕ → List ℕ → List (List ℕ) → List ℕ → Check
turns name n before es after =
    case name (state (feed Live 5 7 0 true true) before)
    (dropping n (arrives (unit 5 8 (book_message 1234 es)) 0 0) ∷ [])
    (ends (feed Live 6 8 0 true true) after [])

-- the bids before examples 1 and 2, and those after example 2 but for the last (003 prints no orders: 4 stands for them)
unfoldable pub bids_from9730 : List (List ℕ)
bids_from9730 =
    row 9730 700 4 ∷ row 9720 350 4 ∷ row 9710 150 4 ∷ row 9700 250 4 ∷ row 9690 100 4 ∷ row 9680 150 4 ∷ row 9670 50 4 ∷ []

unfoldable pub offers_before : List (List ℕ)
offers_before = row 9760 500 4 ∷ row 9770 300 4 ∷ row 9780 100 4 ∷ row 9790 150 4 ∷ []

unfoldable pub offers_after1 : List (List ℕ)
offers_after1 = row 9760 500 4 ∷ row 9770 200 1 ∷ row 9780 100 4 ∷ row 9790 150 4 ∷ row 9850 300 1 ∷ []

unfoldable pub offers_after5 : List (List ℕ)
offers_after5 = row 9750 300 1 ∷ row 9760 500 4 ∷ row 9770 200 1 ∷ row 9780 100 4 ∷ row 9790 150 4 ∷ []

unfoldable pub bids_before : List (List ℕ)
bids_before = bids_from9730 ++ (row 9660 200 4 ∷ row 9650 100 4 ∷ [])

unfoldable pub bids_after3 : List (List ℕ)
bids_after3 = row 9750 250 1 ∷ row 9740 50 1 ∷ (bids_from9730 ++ (row 9660 150 1 ∷ []))

-- 003 prints 200 at 9660 here, where its example 3 has left 150
unfoldable pub bids_after4 : List (List ℕ)
bids_after4 = row 9740 50 1 ∷ (bids_from9730 ++ (row 9660 150 1 ∷ row 9650 100 1 ∷ []))

-- "Explicit Deletions versus Implicit Deletions"
unfoldable pub eight_bids : List (List ℕ)
eight_bids =
    row 9800 700 4 ∷ row 9790 350 4 ∷ row 9780 150 4 ∷ row 9760 250 4 ∷ row 9750 100 4 ∷ row 9730 400 4 ∷ row 9720 200 4 ∷ row 9710 300 4 ∷ []

unfoldable pub six_bids : List (List ℕ)
six_bids = row 9860 450 1 ∷ row 9850 550 1 ∷ row 9840 650 1 ∷ row 9800 700 4 ∷ row 9790 350 4 ∷ row 9780 150 4 ∷ []

unfoldable pub section6 : List Check
section6 =
    turns "1: quantity reduction and explicit addition" 0 (block 1234 bids_before offers_before)
    (entry 1 2 1 9770 200 1 ∷ entry 1 5 0 9850 300 1 ∷ [])
    (block 1234 bids_before offers_after1)
    ∷ turns "2: implicit level adjustments" 0 (block 1234 bids_before offers_after1)
    (entry 0 1 0 9740 50 1 ∷ [])
    (block 1234 (row 9740 50 1 ∷ bids_before) offers_after1)
    ∷ turns "3: implicit deletions" 1 (block 1234 (row 9740 50 1 ∷ bids_before) offers_after1)
    (entry 0 1 0 9750 250 1 ∷ entry 0 10 1 9660 150 1 ∷ [])
    (block 1234 bids_after3 offers_after1)
    ∷ turns "4: explicit additions" 0 (block 1234 bids_after3 offers_after1)
    (entry 0 1 2 9750 250 1 ∷ entry 0 10 0 9650 100 1 ∷ [])
    (block 1234 bids_after4 offers_after1)
    ∷ turns "5: explicit deletions" 0 (block 1234 bids_after4 offers_after1)
    (entry 1 1 0 9750 300 1 ∷ entry 1 6 2 9850 300 1 ∷ [])
    (block 1234 bids_after4 offers_after5)
    ∷ turns "explicit deletions versus implicit deletions" 1 (block 1234 eight_bids [])
    (entry 0 1 0 9860 450 1 ∷ entry 0 2 0 9850 550 1 ∷ entry 0 3 0 9840 650 1
    ∷ entry 0 7 2 9760 250 1 ∷ entry 0 7 2 9750 100 1 ∷ entry 0 7 2 9730 400 1 ∷ entry 0 7 2 9720 200 1 ∷ [])
    (block 1234 six_bids [])
    ∷ turns "6: orderbook clear" 0 (block 1234 bids_after4 offers_after5) (entry 0 0 74 0 0 0 ∷ []) (block 1234 [] [])
    ∷ []
