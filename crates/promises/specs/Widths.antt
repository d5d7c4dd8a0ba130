-- How wide each field is, and that filler is not judged: numbers that fill every byte, and numbers just beyond (document 01, "One unit"). Every
-- byte that nobody looks at is other than zero in all units and messages of specs/Build, and zero in example 1. Assumes nothing.
use Rattle.std.specs.Prelude.{true, List, [], ◌∷◌}
use Rattle.feed.specs.declared.Phase.TheVariants.{Refreshing, Live}
use Rattle.promises.specs.Checks.{Check}
use Rattle.promises.specs.Build.{unit, message, complete, entry, book_message, row, feed, arrives}
use Rattle.promises.specs.Answering.{one_call, fed, spoilt, heard, held}
use Rattle.promises.specs.Entries.{makes, not}

unfoldable pub widths : List Check
widths =
    one_call "SeqNum and internal number, all four bytes" (feed Live 0x04030201 0x05060707 10 true true) held
    (arrives (unit 0x04030201 0x05060708 (message 60 [])) 20 2) (feed Live 0x04030202 0x05060708 20 true true) held
    ∷ one_call "203's number, all four bytes" (fed Refreshing) held (arrives (unit 5 0 (complete 0x14131211)) 20 0) (heard Live 0x14131211) held
    ∷ makes "price, quantity and orders, all their bytes" [] [] (entry 1 1 0 0x14131211 0x0807060504030201 0x24232221 ∷ []) []
    (row 0x14131211 0x0807060504030201 0x24232221 ∷ [])
    ∷ makes "the same in a change" (row 0x14131211 1 1 ∷ []) [] (entry 0 1 1 0x14131211 0x0807060504030201 0x24232221 ∷ [])
    (row 0x14131211 0x0807060504030201 0x24232221 ∷ []) []
    ∷ one_call "code 700 and one in its fourth byte" (fed Live) held (arrives (unit 5 8 (book_message 16777916 (entry 0 2 0 9720 100 1 ∷ []))) 20 15) spoilt held
    ∷ not "side 256" [] [] (entry 256 1 0 9730 1 1 ∷ []) 15
    ∷ not "side 257" [] [] (entry 257 1 0 9730 1 1 ∷ []) 15
    ∷ not "level 255" [] [] (entry 0 255 0 9730 1 1 ∷ []) 15
    ∷ not "action 73" [] [] (entry 0 1 73 9730 1 1 ∷ []) 15
    ∷ not "action 75" [] [] (entry 0 1 75 9730 1 1 ∷ []) 15
    ∷ not "action 255" [] [] (entry 0 1 255 9730 1 1 ∷ []) 15
    ∷ makes "a clear with its filler" (row 0x14131211 1 1 ∷ []) [] (entry 65535 255 74 4294967295 18446744073709551615 4294967295 ∷ []) [] []
    ∷ []
