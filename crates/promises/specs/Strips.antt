-- A case for each sentence of request 2, "Price strip under each book" (document 02), in Live and in Refreshing alike. Assumes nothing.
use Rattle.std.specs.Prelude.{ℕ, ◌+◌, ◌*◌, Bool, true, false, ◌&&◌, List, [], ◌∷◌, ◌++◌, length, take, replicate, set, ℤ, pos, negsuc, eqb}
use Prim.Native.String.{String}
use Rattle.slots.specs.Layout.{count_in}
use Rattle.strips.specs.Table.{strips}
use Rattle.strips.specs.Reading.{read_strip, strip_refused}
use Rattle.strips.specs.Reading.{StripRead}
use Rattle.feed.specs.Events.{Connect, Cut}
use Rattle.feed.specs.Program.{program_run}
use Rattle.feed.specs.declared.Phase.{Phase}
use Rattle.feed.specs.declared.Phase.TheVariants.{Idle, WaitKey, WaitLogon, Refreshing, Live, Lost, Closed}
use Rattle.feed.specs.declared.Feed.{Feed}
use Rattle.feed.specs.declared.Link.TheVariants.{Resuming}
use Rattle.promises.specs.Checks.{Check, Call, same_number}
use Rattle.promises.specs.Build.{bytes, unit, message, send_key, logon, fill, feed, both, arrives, gets, ends_both, case, logs_on}
use Rattle.promises.specs.Answering.{fed, lost, spoilt, heard, held, taken, fits, both as two_bids}
use Rattle.promises.specs.Tables.{other}

-- the five messages; a price is in thousandths, below 0 as 4,294,967,296 less. No byte that nobody looks at is zero
unfoldable pub nominal : ℕ → ℕ → List ℕ
nominal code price = message 40 (bytes 4 code ++ bytes 4 price)

unfoldable pub iep : ℕ → ℕ → ℕ → List ℕ
iep code price volume = message 41 (bytes 4 code ++ bytes 4 price ++ bytes 8 volume)

unfoldable pub reference : ℕ → ℕ → ℕ → ℕ → List ℕ
reference code price lower upper = message 43 (bytes 4 code ++ bytes 4 price ++ bytes 4 lower ++ bytes 4 upper)

unfoldable pub imbalance : ℕ → ℕ → ℕ → List ℕ
imbalance code direction quantity = message 56 (bytes 4 code ++ (direction ∷ 0x51 ∷ []) ++ bytes 8 quantity ++ (0x52 ∷ 0x53 ∷ []))

unfoldable pub closing : ℕ → ℕ → List ℕ
closing code price = message 62 (bytes 4 code ++ bytes 4 price ++ bytes 4 0x57565554)

-- N, B, S, space
abbrev pub N : ℕ
N = 78

abbrev pub B : ℕ
B = 66

abbrev pub S : ℕ
S = 83

abbrev pub none : ℕ
none = 32

-- a price's word, in thousandths; the 12 words of a strip: code, flags, nine values, spare; a free slot
unfoldable pub word : ℕ → ℕ
word price = price + 2147483648

unfoldable pub strip : ℕ → ℕ → List ℕ → List ℕ
strip code flags values = (code ∷ flags ∷ []) ++ fill 9 values ++ (0 ∷ [])

unfoldable pub free : List ℕ
free = replicate 12 0

-- one with every value, and each message's own
unfoldable pub whole : List ℕ
whole = strip 700 511 (word 9730 ∷ word 9740 ∷ 5000 ∷ word 9700 ∷ word 9600 ∷ word 9800 ∷ B ∷ 300 ∷ word 9750 ∷ [])

unfoldable pub other_strip : List ℕ
other_strip = strip 701 1 (word 100 ∷ [])

-- one call on a feed, books and strips
unfoldable pub on_both : String → Feed → List ℕ → List ℕ → Call → Feed → List ℕ → List ℕ → Check
on_both name f books strips c f' books' strips' = case name (both f books strips) (c ∷ []) (ends_both f' books' strips' [])

-- in a phase, with an internal number that it allows, and the last one afterwards
module _ (p : Phase) (internal last : ℕ) where
  -- a message on a table of strips: taken, the strips after it, and no word of the books touched; or refused, and no word written
  unfoldable pub makes : String → List ℕ → List ℕ → List ℕ → Check
  makes name m words after = on_both name (fed p) held words (arrives (unit 5 internal m) 20 0) (heard p last) held after

  unfoldable pub refuses : String → List ℕ → List ℕ → ℕ → Check
  refuses name m words answer = on_both name (fed p) held words (arrives (unit 5 internal m) 20 answer) spoilt held words

  unfoldable pub firsts : List Check
  firsts =
      makes "40" (nominal 700 9730) free (strip 700 1 (word 9730 ∷ []))
      ∷ makes "41" (iep 700 9740 5000) free (strip 700 6 (0 ∷ word 9740 ∷ 5000 ∷ []))
      ∷ makes "43" (reference 700 9700 9600 9800) free (strip 700 56 (0 ∷ 0 ∷ 0 ∷ word 9700 ∷ word 9600 ∷ word 9800 ∷ []))
      ∷ makes "56 N" (imbalance 700 N 300) free (strip 700 192 (0 ∷ 0 ∷ 0 ∷ 0 ∷ 0 ∷ 0 ∷ N ∷ 300 ∷ []))
      ∷ makes "56 B" (imbalance 700 B 300) free (strip 700 192 (0 ∷ 0 ∷ 0 ∷ 0 ∷ 0 ∷ 0 ∷ B ∷ 300 ∷ []))
      ∷ makes "56 S" (imbalance 700 S 300) free (strip 700 192 (0 ∷ 0 ∷ 0 ∷ 0 ∷ 0 ∷ 0 ∷ S ∷ 300 ∷ []))
      ∷ makes "56 space: the quantity is 0, and both bits are set" (imbalance 700 none 300) free (strip 700 192 (0 ∷ 0 ∷ 0 ∷ 0 ∷ 0 ∷ 0 ∷ none ∷ 0 ∷ []))
      ∷ makes "62" (closing 700 9750) free (strip 700 256 (0 ∷ 0 ∷ 0 ∷ 0 ∷ 0 ∷ 0 ∷ 0 ∷ 0 ∷ word 9750 ∷ []))
      ∷ makes "code 1" (nominal 1 9730) free (strip 1 1 (word 9730 ∷ []))
      ∷ makes "code 99,999" (nominal 99999 9730) free (strip 99999 1 (word 9730 ∷ []))
      ∷ []

  -- the ends of what a value can be; price 0 has come
  unfoldable pub extremes : List Check
  extremes =
      makes "price 0 has come" (nominal 700 0) free (strip 700 1 (2147483648 ∷ []))
      ∷ makes "price 2,147,483,647" (closing 700 2147483647) free (strip 700 256 (replicate 8 0 ++ (4294967295 ∷ [])))
      ∷ makes "price -1" (nominal 700 4294967295) free (strip 700 1 (2147483647 ∷ []))
      ∷ makes "price -2,147,483,648" (reference 700 2147483648 0 4294967295) free (strip 700 56 (0 ∷ 0 ∷ 0 ∷ 0 ∷ 2147483648 ∷ 2147483647 ∷ []))
      ∷ makes "volume 0" (iep 700 0 0) free (strip 700 6 (0 ∷ 2147483648 ∷ 0 ∷ []))
      ∷ makes "volume 2^64 - 1" (iep 700 1 18446744073709551615) free (strip 700 6 (0 ∷ word 1 ∷ 18446744073709551615 ∷ []))
      ∷ makes "imbalance 0" (imbalance 700 N 0) free (strip 700 192 (0 ∷ 0 ∷ 0 ∷ 0 ∷ 0 ∷ 0 ∷ N ∷ 0 ∷ []))
      ∷ makes "imbalance 2^64 - 1" (imbalance 700 S 18446744073709551615) free (strip 700 192 (0 ∷ 0 ∷ 0 ∷ 0 ∷ 0 ∷ 0 ∷ S ∷ 18446744073709551615 ∷ []))
      ∷ makes "a space, and all bytes of the quantity" (imbalance 700 none 18446744073709551615) free (strip 700 192 (0 ∷ 0 ∷ 0 ∷ 0 ∷ 0 ∷ 0 ∷ none ∷ 0 ∷ []))
      ∷ makes "all bytes of price and volume" (iep 700 0x14131211 0x0807060504030201) free (strip 700 6 (0 ∷ word 0x14131211 ∷ 0x0807060504030201 ∷ []))
      ∷ []

  -- "Latest message wins": the values that come replace what was there, and the others stay
  unfoldable pub seconds : List Check
  seconds =
      makes "40 replaces the nominal price" (nominal 700 1) whole (set whole 2 (word 1))
      ∷ makes "41 replaces two" (iep 700 1 2) whole (set (set whole 3 (word 1)) 4 2)
      ∷ makes "43 replaces three" (reference 700 1 2 3) whole (set (set (set whole 5 (word 1)) 6 (word 2)) 7 (word 3))
      ∷ makes "56 replaces two" (imbalance 700 S 1) whole (set (set whole 8 S) 9 1)
      ∷ makes "56 with a space: no quantity is kept" (imbalance 700 none 1) whole (set (set whole 8 none) 9 0)
      ∷ makes "62 replaces the closing price" (closing 700 1) whole (set whole 10 (word 1))
      ∷ makes "40, then 62" (closing 700 2) (strip 700 1 (word 1 ∷ [])) (strip 700 257 (word 1 ∷ 0 ∷ 0 ∷ 0 ∷ 0 ∷ 0 ∷ 0 ∷ 0 ∷ word 2 ∷ []))
      ∷ makes "62, then 40" (nominal 700 1) (strip 700 256 (replicate 8 0 ++ (word 2 ∷ []))) (strip 700 257 (word 1 ∷ 0 ∷ 0 ∷ 0 ∷ 0 ∷ 0 ∷ 0 ∷ 0 ∷ word 2 ∷ []))
      ∷ makes "the same again" (nominal 700 9730) whole whole
      ∷ []

  -- "Imbalance direction must be N, B, S or space, else 15", "a bad code is 15"; before 18 and 17
  unfoldable pub unlisted : List Check
  unlisted =
      refuses "code 0" (nominal 0 9730) free 15
      ∷ refuses "code 100,000" (closing 100000 9730) free 15
      ∷ refuses "code 700 and one in its fourth byte" (reference 16777916 1 2 3) free 15
      ∷ refuses "direction 0" (imbalance 700 0 300) free 15
      ∷ refuses "direction n" (imbalance 700 110 300) free 15
      ∷ refuses "direction A" (imbalance 700 65 300) free 15
      ∷ refuses "direction 31" (imbalance 700 31 300) free 15
      ∷ refuses "direction 33" (imbalance 700 33 300) free 15
      ∷ refuses "direction 255" (imbalance 700 255 300) free 15
      ∷ refuses "15 before 18" (imbalance 700 0 300) (set whole 11 1) 15
      ∷ refuses "15 before 17" (imbalance 700 0 300) other_strip 15
      ∷ refuses "code 0 before 17" (nominal 0 9730) other_strip 15
      ∷ []

  -- "Sound: flags below 512, price words below 4,294,967,296, a direction that has come one of the four, values not come and the spare word zero"
  unfoldable pub unsound : List Check
  unsound =
      refuses "flags 512" (nominal 700 1) (set whole 1 512) 18
      ∷ refuses "flags 2^64 - 1" (nominal 700 1) (set whole 1 18446744073709551615) 18
      ∷ refuses "nominal price word" (closing 700 1) (set whole 2 4294967296) 18
      ∷ refuses "the one that would be replaced" (nominal 700 1) (set whole 2 4294967296) 18
      ∷ refuses "IEP word" (nominal 700 1) (set whole 3 4294967296) 18
      ∷ refuses "reference price word" (nominal 700 1) (set whole 5 4294967296) 18
      ∷ refuses "lower price word" (nominal 700 1) (set whole 6 4294967296) 18
      ∷ refuses "upper price word" (nominal 700 1) (set whole 7 4294967296) 18
      ∷ refuses "closing price word" (nominal 700 1) (set whole 10 4294967296) 18
      ∷ refuses "direction 0 that has come" (nominal 700 1) (set whole 8 0) 18
      ∷ refuses "direction 79" (nominal 700 1) (set whole 8 79) 18
      ∷ refuses "spare word" (nominal 700 1) (set whole 11 1) 18
      ∷ refuses "18 before 17 is not asked of another code" (nominal 700 1) (set other_strip 11 1) 17
      ∷ []

  unfoldable pub uncome : List Check
  uncome =
      refuses "a nominal price that has not come" (closing 700 1) (strip 700 0 (1 ∷ [])) 18
      ∷ refuses "an IEP" (closing 700 1) (strip 700 1 (word 1 ∷ 1 ∷ [])) 18
      ∷ refuses "a volume" (closing 700 1) (strip 700 3 (word 1 ∷ word 1 ∷ 1 ∷ [])) 18
      ∷ refuses "a reference price" (closing 700 1) (strip 700 0 (replicate 3 0 ++ (1 ∷ []))) 18
      ∷ refuses "a lower price" (closing 700 1) (strip 700 0 (replicate 4 0 ++ (1 ∷ []))) 18
      ∷ refuses "an upper price" (closing 700 1) (strip 700 0 (replicate 5 0 ++ (1 ∷ []))) 18
      ∷ refuses "a direction, one of the four" (closing 700 1) (strip 700 0 (replicate 6 0 ++ (N ∷ []))) 18
      ∷ refuses "an imbalance" (closing 700 1) (strip 700 64 (replicate 6 0 ++ (N ∷ 1 ∷ []))) 18
      ∷ refuses "a closing price" (nominal 700 1) (strip 700 0 (replicate 8 0 ++ (1 ∷ []))) 18
      ∷ []

  -- what is sound though no message makes it
  unfoldable pub sounds : List Check
  sounds =
      makes "price words 0 and 4,294,967,295" (closing 700 1) (strip 700 3 (0 ∷ 4294967295 ∷ [])) (strip 700 259 (0 ∷ 4294967295 ∷ 0 ∷ 0 ∷ 0 ∷ 0 ∷ 0 ∷ 0 ∷ word 1 ∷ []))
      ∷ makes "a volume without its IEP" (closing 700 1) (strip 700 4 (0 ∷ 0 ∷ 18446744073709551615 ∷ [])) (strip 700 260 (0 ∷ 0 ∷ 18446744073709551615 ∷ 0 ∷ 0 ∷ 0 ∷ 0 ∷ 0 ∷ word 1 ∷ []))
      ∷ makes "a quantity beside a space" (closing 700 1) (strip 700 192 (replicate 6 0 ++ (none ∷ 7 ∷ []))) (strip 700 448 (replicate 6 0 ++ (none ∷ 7 ∷ word 1 ∷ [])))
      ∷ makes "no value at all" (closing 700 1) (strip 700 0 []) (strip 700 256 (replicate 8 0 ++ (word 1 ∷ [])))
      ∷ []

  -- "Slots, 17 and 18 work as for books"
  unfoldable pub slots : List Check
  slots =
      refuses "no word lent" (nominal 700 1) [] 17
      ∷ refuses "11 words" (nominal 700 1) (replicate 11 0) 17
      ∷ refuses "11 words that look like the strip" (nominal 700 1) (take 11 whole) 17
      ∷ refuses "every slot taken" (nominal 700 1) (other_strip ++ strip 702 0 []) 17
      ∷ refuses "a slot and 11 words" (nominal 700 1) (other_strip ++ replicate 11 0) 17
      ∷ makes "the lowest free slot" (nominal 700 1) (other_strip ++ free ++ free) (other_strip ++ strip 700 1 (word 1 ∷ []) ++ free)
      ∷ makes "the code's slot, and not a free one before it" (nominal 700 1) (free ++ whole) (free ++ set whole 2 (word 1))
      ∷ makes "the code twice: the lowest" (nominal 700 1) (whole ++ whole) (set whole 2 (word 1) ++ whole)
      ∷ makes "the code twice, the second unsound" (nominal 700 1) (whole ++ set whole 11 1) (set whole 2 (word 1) ++ set whole 11 1)
      ∷ makes "another strip unsound" (nominal 700 1) (set other_strip 11 1 ++ whole) (set other_strip 11 1 ++ set whole 2 (word 1))
      ∷ makes "a free slot's garbage goes" (nominal 700 1) (0 ∷ replicate 11 77) (strip 700 1 (word 1 ∷ []))
      ∷ makes "the words behind the slots stay" (nominal 700 1) (free ++ replicate 11 9) (strip 700 1 (word 1 ∷ []) ++ replicate 11 9)
      ∷ []

-- "at most 4,096" slots
unfoldable pub counts : List Check
counts =
    record { name = "4,096 slots"; holds = eqb (count_in strips (12 * 4096)) 4096 }
    ∷ record { name = "4,097 blocks are 4,096 slots"; holds = eqb (count_in strips (12 * 4097)) 4096 }
    ∷ record { name = "4,095 slots and a part"; holds = eqb (count_in strips (12 * 4095 + 11)) 4095 }
    ∷ record { name = "the program lends 128 slots of 12 words"; holds = eqb (length (program_run []).state.tables.strips) (128 * 12) }
    ∷ []

-- "Wrong sizes for these types become 12", in every phase that hears: a byte more, a byte less, and none behind the type
module _ (p : Phase) where
  unfoldable pub wrongly : String → List ℕ → Check
  wrongly name m = on_both name (fed p) held whole (arrives (unit 5 8 m) 20 12) lost held whole

  unfoldable pub sizes : List Check
  sizes =
      wrongly "40 of 11 bytes" (message 40 (bytes 4 700 ++ bytes 3 1))
      ∷ wrongly "40 of 13 bytes" (message 40 (bytes 4 700 ++ bytes 5 1))
      ∷ wrongly "40 of 4 bytes" (message 40 [])
      ∷ wrongly "41 of 19 bytes" (message 41 (bytes 4 700 ++ bytes 11 1))
      ∷ wrongly "41 of 21 bytes" (message 41 (bytes 4 700 ++ bytes 13 1))
      ∷ wrongly "43 of 19 bytes" (message 43 (bytes 4 700 ++ bytes 11 1))
      ∷ wrongly "43 of 21 bytes" (message 43 (bytes 4 700 ++ bytes 13 1))
      ∷ wrongly "56 of 19 bytes" (message 56 (bytes 4 700 ++ (N ∷ []) ++ bytes 10 1))
      ∷ wrongly "56 of 21 bytes" (message 56 (bytes 4 700 ++ (N ∷ []) ++ bytes 12 1))
      ∷ wrongly "62 of 15 bytes" (message 62 (bytes 4 700 ++ bytes 7 1))
      ∷ wrongly "62 of 17 bytes" (message 62 (bytes 4 700 ++ bytes 9 1))
      ∷ wrongly "62 of 12 bytes" (message 62 (bytes 4 700 ++ bytes 4 1))
      ∷ []

-- the other phases, Seen, and messages already cut
unfoldable pub around : List Check
around =
    on_both "14 in WaitKey" (fed WaitKey) held whole (arrives (unit 5 8 (nominal 700 1)) 20 14) lost held whole
    ∷ on_both "14 in WaitLogon" (fed WaitLogon) held whole (arrives (unit 5 8 (iep 700 1 2)) 20 14) lost held whole
    ∷ on_both "14 in Refreshing, with an internal number" (fed Refreshing) held whole (arrives (unit 5 8 (closing 700 1)) 20 14) lost held whole
    ∷ on_both "14 in Live, without one" (fed Live) held whole (arrives (unit 5 0 (imbalance 700 N 1)) 20 14) lost held whole
    ∷ on_both "11 in Idle" (fed Idle) held whole (arrives (unit 5 8 (nominal 700 1)) 20 11) (fed Idle) held whole
    ∷ on_both "11 in Lost" (fed Lost) held whole (arrives (unit 5 8 (nominal 700 1)) 20 11) (fed Lost) held whole
    ∷ on_both "11 in Closed, of the wrong size too" (fed Closed) held whole (arrives (unit 5 8 (message 40 [])) 20 11) (fed Closed) held whole
    ∷ on_both "Seen" (fed Live) held whole (arrives (unit 5 7 (nominal 700 1)) 20 1) (heard Live 7) held whole
    ∷ on_both "Seen before 15" (fed Live) held whole (arrives (unit 5 7 (imbalance 0 0 1)) 20 1) (heard Live 7) held whole
    ∷ on_both "Seen before 18" (fed Live) held (set whole 11 1) (arrives (unit 5 7 (nominal 700 1)) 20 1) (heard Live 7) held (set whole 11 1)
    ∷ on_both "Seen before 17" (fed Live) held [] (arrives (unit 5 7 (nominal 700 1)) 20 1) (heard Live 7) held []
    ∷ on_both "12 before 13" (fed Live) held whole (arrives (unit 6 8 (message 40 [])) 20 12) lost held whole
    ∷ on_both "13" (fed Live) held whole (arrives (unit 6 8 (nominal 700 1)) 20 13) lost held whole
    ∷ on_both "already cut" (fed Live) held whole (gets (Cut 5 8 (nominal 700 1) 20) 0) (heard Live 8) held (set whole 2 (word 1))
    ∷ on_both "already cut, 12" (fed Live) held whole (gets (Cut 5 8 (message 62 []) 20) 12) lost held whole
    ∷ on_both "already cut, 15" (fed Live) held whole (gets (Cut 5 8 (imbalance 700 1 1) 20) 15) spoilt held whole
    ∷ on_both "the neighbours are passed over" (fed Live) held whole (arrives (unit 5 8 (message 42 [])) 20 2) (heard Live 8) held whole
    ∷ on_both "40 in the low byte" (fed Live) held whole (arrives (unit 5 8 (message 296 [])) 20 2) (heard Live 8) held whole
    ∷ []

-- the two tables by themselves: own slots, own 17 and 18
unfoldable pub apart : List Check
apart =
    on_both "17 by the strips, with a book free" (fed Live) (replicate 64 0) other_strip (arrives (unit 5 8 (nominal 700 1)) 20 17) spoilt (replicate 64 0) other_strip
    ∷ on_both "taken, with no book free" (fed Live) taken free (arrives (unit 5 8 (nominal 700 1)) 20 0) (heard Live 8) taken (strip 700 1 (word 1 ∷ []))
    ∷ on_both "17 by the books, with a strip free" (fed Live) taken free (arrives (unit 5 8 fits) 20 17) spoilt taken free
    ∷ on_both "a book message with every strip taken" (fed Live) held other_strip (arrives (unit 5 8 fits) 20 0) (heard Live 8) two_bids other_strip
    ∷ on_both "a book message with no strip lent" (fed Live) held [] (arrives (unit 5 8 fits) 20 0) (heard Live 8) two_bids []
    ∷ []

-- another slot in each table: books 701 and 700, strips 700 and 701
unfoldable pub crossed : List Check
crossed =
    on_both "a strip message goes by the strip's slot" (fed Live) (other ++ held) (whole ++ other_strip) (arrives (unit 5 8 (nominal 700 1)) 20 0) (heard Live 8) (other ++ held) (set whole 2 (word 1) ++ other_strip)
    ∷ on_both "an unsound book is no 18 of its strip" (fed Live) (set held 3 1) whole (arrives (unit 5 8 (nominal 700 1)) 20 0) (heard Live 8) (set held 3 1) (set whole 2 (word 1))
    ∷ on_both "a book message by the book's slot" (fed Live) (other ++ held) (whole ++ other_strip) (arrives (unit 5 8 fits) 20 0) (heard Live 8) (other ++ two_bids) (whole ++ other_strip)
    ∷ on_both "an unsound strip is no 18 of its book" (fed Live) held (set whole 11 1) (arrives (unit 5 8 fits) 20 0) (heard Live 8) two_bids (set whole 11 1)
    ∷ []

-- "Both tables clear together"
unfoldable pub clears : List Check
clears =
    on_both "a fresh logon with 0" (fed WaitLogon) held whole (arrives (unit 5 0 (logon 0)) 20 0) (heard Live 0) (replicate 64 0) free
    ∷ on_both "with 2" (fed WaitLogon) held whole (arrives (unit 5 0 (logon 2)) 20 0) (heard Live 0) (replicate 64 0) free
    ∷ on_both "with 101" (fed WaitLogon) held whole (arrives (unit 5 0 (logon 101)) 20 0) (feed Refreshing 6 0 20 false true) (replicate 64 0) free
    ∷ on_both "a resumed logon with 0 clears neither" (feed WaitLogon 5 7 10 true false) held whole (arrives (unit 5 0 (logon 0)) 20 0) (feed Live 6 7 20 true false) held whole
    ∷ on_both "with 101 it clears both" (feed WaitLogon 5 7 10 true false) held whole (arrives (unit 5 0 (logon 101)) 20 0) (feed Refreshing 6 0 20 false false) (replicate 64 0) free
    ∷ on_both "the words behind the slots of each stay" (fed WaitLogon) (held ++ replicate 63 5) (whole ++ replicate 11 9) (arrives (unit 5 0 (logon 0)) 20 0) (heard Live 0)
    (replicate 64 0 ++ replicate 63 5) (free ++ replicate 11 9)
    ∷ on_both "garbage goes, in both" (fed WaitLogon) (replicate 64 77) (replicate 24 77) (arrives (unit 5 0 (logon 0)) 20 0) (heard Live 0) (replicate 64 0) (replicate 24 0)
    ∷ on_both "no strips lent" (fed WaitLogon) held [] (arrives (unit 5 0 (logon 0)) 20 0) (heard Live 0) (replicate 64 0) []
    ∷ []

-- a day: both tables fill, a resuming connect clears neither and what Restart brings again is Seen
unfoldable pub days : List Check
days =
    case "a day" (both (feed Idle 1 0 0 false true) (replicate 64 0) (free ++ free))
    (logs_on 0 0
    ++ (arrives (unit 3 1 (nominal 700 1)) 0 0 ∷ arrives (unit 4 2 (imbalance 701 B 5)) 0 0 ∷ arrives (unit 5 3 (closing 700 2)) 0 0
    ∷ gets (Connect Resuming 0) 0 ∷ arrives (unit 1 0 send_key) 0 0 ∷ arrives (unit 2 0 (logon 0)) 0 0
    ∷ arrives (unit 3 3 (closing 700 9)) 0 1 ∷ arrives (unit 4 4 (imbalance 701 none 9)) 0 0 ∷ []))
    (ends_both (feed Live 5 4 0 true false) (replicate 64 0)
    (strip 700 257 (word 1 ∷ 0 ∷ 0 ∷ 0 ∷ 0 ∷ 0 ∷ 0 ∷ 0 ∷ word 2 ∷ []) ++ strip 701 192 (0 ∷ 0 ∷ 0 ∷ 0 ∷ 0 ∷ 0 ∷ none ∷ 0 ∷ [])) ((0, 1) ∷ []))
    ∷ case "a strip message refused is not painted" (both (feed Idle 1 0 0 false true) (replicate 64 0) free)
    (logs_on 0 0 ++ (arrives (unit 3 1 (nominal 700 1)) 0 0 ∷ arrives (unit 4 2 (nominal 701 1)) 0 17 ∷ []))
    (ends_both (feed Lost 4 1 0 false true) (replicate 64 0) (strip 700 1 (word 1 ∷ [])) ((0, 0) ∷ []))
    ∷ []

-- a strip read out of a table
unfoldable pub same_strip : StripRead → StripRead → Bool
same_strip a b =
    eqb a.answer b.answer && eqb a.flags b.flags && same_number a.nominal b.nominal && same_number a.iep b.iep && eqb a.iev b.iev
    && same_number a.reference b.reference && same_number a.lower b.lower && same_number a.upper b.upper
    && eqb a.direction b.direction && eqb a.imbalance b.imbalance && same_number a.closing b.closing

unfoldable pub reads : String → List ℕ → ℕ → StripRead → Check
reads name t c told = record { name = name; holds = same_strip (read_strip c t) told }

unfoldable pub shows : ℕ → ℤ → ℤ → ℕ → ℤ → ℤ → ℤ → ℕ → ℕ → ℤ → StripRead
shows flags nominal iep iev reference lower upper direction imbalance closing = record {
  answer = 0;
  flags = flags;
  nominal = nominal;
  iep = iep;
  iev = iev;
  reference = reference;
  lower = lower;
  upper = upper;
  direction = direction;
  imbalance = imbalance;
  closing = closing;
}

unfoldable pub reading : List Check
reading =
    reads "code 0" whole 0 (strip_refused 15)
    ∷ reads "code 100,000" whole 100000 (strip_refused 15)
    ∷ reads "15 before 4" [] 0 (strip_refused 15)
    ∷ reads "no word" [] 700 (strip_refused 4)
    ∷ reads "no strip" other_strip 700 (strip_refused 4)
    ∷ reads "a slot that looks free" (0 ∷ replicate 11 77) 700 (strip_refused 4)
    ∷ reads "4 for a free slot is not 18" (free ++ set other_strip 11 1) 700 (strip_refused 4)
    ∷ reads "not sound" (set whole 11 1) 700 (strip_refused 18)
    ∷ reads "flags 512" (set whole 1 512) 700 (strip_refused 18)
    ∷ reads "a price word" (set whole 10 4294967296) 700 (strip_refused 18)
    ∷ reads "every value" whole 700 (shows 511 (pos 9730) (pos 9740) 5000 (pos 9700) (pos 9600) (pos 9800) B 300 (pos 9750))
    ∷ reads "nothing has come: 0, not -2,147,483,648" (strip 700 0 []) 700 (shows 0 (pos 0) (pos 0) 0 (pos 0) (pos 0) (pos 0) 0 0 (pos 0))
    ∷ reads "price -1 and price -2,147,483,648" (strip 700 3 (2147483647 ∷ 0 ∷ [])) 700 (shows 3 (negsuc 0) (negsuc 2147483647) 0 (pos 0) (pos 0) (pos 0) 0 0 (pos 0))
    ∷ reads "price 0 that has come" (strip 700 257 (word 0 ∷ 0 ∷ 0 ∷ 0 ∷ 0 ∷ 0 ∷ 0 ∷ 0 ∷ word 2147483647 ∷ [])) 700 (shows 257 (pos 0) (pos 0) 0 (pos 0) (pos 0) (pos 0) 0 0 (pos 2147483647))
    ∷ reads "the code twice: the lowest" (whole ++ strip 700 0 []) 700 (shows 511 (pos 9730) (pos 9740) 5000 (pos 9700) (pos 9600) (pos 9800) B 300 (pos 9750))
    ∷ reads "the lowest, though it is not sound" (set whole 11 1 ++ whole) 700 (strip_refused 18)
    ∷ []
