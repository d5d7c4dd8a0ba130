-- A case for each sentence of request 5, "The line hands us scraps" (document 02): single scraps, scraps one after the other, connects, and runs of a
-- line's calls. Assumes nothing.
use Rattle.std.specs.Prelude.{ℕ, zero, suc, ◌+◌, ◌-◌, Bool, true, false, ◌&&◌, List, [], ◌∷◌, ◌++◌, length, take, drop, replicate, set, eqb}
use Prim.Native.String.{String}
use Rattle.std.specs.Bool.{beq}
use Rattle.ground.specs.Choice.{same}
use Rattle.feed.specs.Events.{Event, Connect, Arrive, Cut, Overrun}
use Rattle.feed.specs.declared.Phase.TheVariants.{Idle, WaitKey, WaitLogon, Refreshing, Live, Lost, Closed}
use Rattle.feed.specs.declared.Feed.{Feed}
use Rattle.feed.specs.declared.Link.{Link}
use Rattle.feed.specs.declared.Link.TheVariants.{Fresh, Resuming}
use Rattle.lines.specs.Scraps.{Hearing, links}
use Rattle.lines.specs.declared.Line.{Line}
use Rattle.lines.specs.declared.Linked.{Linked}
use Rattle.promises.specs.Checks.{Check, same_feed}
use Rattle.promises.specs.Build.{bytes, header, unit, heartbeat, message, send_key, logon, logout, entry, book_message, feed}
use Rattle.promises.specs.Answering.{fed, lost, spoilt, heard, held as one_bid, fits, misfits, unlisted, both as two_bids}
use Rattle.promises.specs.Strips.{nominal, strip, word, free}
use Rattle.promises.specs.Runs.{History, tale, is_green, green}
use Rattle.promises.specs.Scraps.{
  Lined,
  lined,
  state_on,
  lined_in,
  scrapped,
  linked,
  View,
  scraps,
  LineAct,
  Links,
  Hears,
  end_line,
  line_run,
}
use Rattle.promises.specs.Mornings.{words_of_one}
use Rattle.promises.specs.Repaints.{session}

-- the bytes from one on, each one more than the last; a holding buffer of n bytes with nothing of ours in it, from its k-th byte on; all of it
unfoldable pub climbing : ℕ → ℕ → List ℕ
climbing zero from = []
climbing (suc n) from = from ∷ climbing n (from + 1)

unfoldable pub own : ℕ → ℕ → List ℕ
own n k = climbing (n - k) (128 + k)

unfoldable pub room : ℕ → List ℕ
room n = own n 0

-- a line; one with so many bytes waiting; one that drops what comes
unfoldable pub line : Feed → ℕ → Bool → Line
line f held dropping = record { feed = f; held = held; dropping = dropping }

unfoldable pub torn : Feed → ℕ → Line
torn f n = line f n false

unfoldable pub shut : Feed → Line
shut f = line f 0 true

unfoldable pub same_line : Line → Line → Bool
same_line l k = same_feed l.feed k.feed && eqb l.held k.held && beq l.dropping k.dropping

-- what a scrap must hand back: whether there is an answer, the last one, the units accepted, the bytes used, the line, and no row dropped (those that drop
-- some are in specs/Fallen); every byte of the buffer; and every word of both tables
pub record Told : Type 0 where
  pub said : Bool
  pub answer : ℕ
  pub accepted : ℕ
  pub used : ℕ
  pub line : Line
  pub hold : List ℕ
  pub words : List ℕ
  pub strips : List ℕ

unfoldable pub tells : Hearing → Told → Bool
tells y t =
    beq y.heard.said t.said && eqb y.heard.answer t.answer && eqb y.heard.accepted t.accepted && eqb y.heard.used t.used
    && same_line y.heard.line t.line && eqb y.heard.dropped 0 && same y.hold t.hold && same y.tables.books t.words
    && same y.tables.strips t.strips

-- no answer to what came last, so many units accepted before it; an answer; both with a bid of 700 and no strip
unfoldable pub quiet_after : ℕ → ℕ → Line → List ℕ → Told
quiet_after accepted used l hold = record { said = false; answer = 0; accepted = accepted; used = used; line = l; hold = hold; words = one_bid; strips = free }

unfoldable pub quiet : ℕ → Line → List ℕ → Told
quiet used l hold = quiet_after 0 used l hold

unfoldable pub says : ℕ → ℕ → ℕ → Line → List ℕ → Told
says answer accepted used l hold = record { said = true; answer = answer; accepted = accepted; used = used; line = l; hold = hold; words = one_bid; strips = free }

-- the same where the book message below was applied; with these strips
unfoldable pub booked : Told → Told
booked t = record { said = t.said; answer = t.answer; accepted = t.accepted; used = t.used; line = t.line; hold = t.hold; words = two_bids; strips = t.strips }

unfoldable pub with_strips : List ℕ → Told → Told
with_strips strips t = record {
  said = t.said;
  answer = t.answer;
  accepted = t.accepted;
  used = t.used;
  line = t.line;
  hold = t.hold;
  words = t.words;
  strips = strips;
}

-- a line with a bid of 700 and no strip; a scrap handed to it
unfoldable pub on : Line → Lined
on l = lined l (record { books = one_bid; strips = free })

unfoldable pub scrap : String → Line → List ℕ → List ℕ → ℕ → ℕ → Told → Check
scrap name l hold s allowed time t = record { name = name; holds = tells (scrapped (on l) hold s allowed time) t }

-- scraps one after the other, the buffer lent again as it was left, and what each hands back
pub record Step : Type 0 where
  pub scrap : List ℕ
  pub allowed : ℕ
  pub time : ℕ
  pub told : Told

unfoldable pub hand : List ℕ → ℕ → ℕ → Told → Step
hand s allowed time t = record { scrap = s; allowed = allowed; time = time; told = t }

unfoldable pub follows : Lined → List ℕ → List Step → Bool
follows x hold [] = true
follows x hold (c ∷ cs) =
    let y : Hearing = scrapped x hold c.scrap c.allowed c.time in
    tells y c.told && follows (lined_in y) y.hold cs

unfoldable pub after : String → Line → List ℕ → List Step → Check
after name l hold steps = record { name = name; holds = follows (on l) hold steps }

-- units of 56, 24 and 32 bytes for a feed of next SeqNum 5 and last internal number 7: a book message, one that goes to no table, a strip message
unfoldable pub book : List ℕ
book = unit 5 8 fits

unfoldable pub passed : List ℕ
passed = unit 5 8 (message 60 [])

unfoldable pub priced : List ℕ
priced = unit 5 8 (nominal 700 9730)

-- that feed after a heartbeat at 20
unfoldable pub beaten : Feed
beaten = feed Live 5 7 20 true true

-- the first n bytes of a unit, handed to a line with nothing waiting: "till then a scrap has no answer and only waits"
unfoldable pub lays : String → List ℕ → ℕ → Check
lays name s n = scrap name (torn (fed Live) 0) (room 64) (take n s) 9 20 (quiet n (torn (fed Live) n) (take n s ++ own 64 n))

unfoldable pub waits : List Check
waits =
    scrap "no bytes" (torn (fed Live) 0) (room 64) [] 9 20 (quiet 0 (torn (fed Live) 0) (room 64))
    ∷ lays "one byte: laid at the front, the rest of the buffer untouched" book 1
    ∷ lays "19 bytes, one short of a header" book 19
    ∷ lays "21 bytes, one short of MsgSize" book 21
    ∷ lays "22 bytes: its length is known, and fits" book 22
    ∷ lays "55 bytes, one short of the unit" book 55
    ∷ lays "19 bytes of a heartbeat" heartbeat 19
    ∷ scrap "bytes behind bytes that wait" (torn (fed Live) 10) (take 10 book ++ own 64 10) (drop 10 (take 30 book)) 9 20
    (quiet 20 (torn (fed Live) 30) (take 30 book ++ own 64 30))
    ∷ scrap "no bytes behind bytes that wait" (torn (fed Live) 10) (take 10 book ++ own 64 10) [] 9 20
    (quiet 0 (torn (fed Live) 10) (take 10 book ++ own 64 10))
    ∷ []

-- one byte at a time: the k-th only waits, up to the n-th; then what follows
unfoldable pub byte_by_byte : List ℕ → ℕ → ℕ → List Step → List Step
byte_by_byte s k zero then = then
byte_by_byte s k (suc n) then =
    hand (take 1 (drop k s)) 9 20 (quiet 1 (torn (fed Live) (k + 1)) (take (k + 1) s ++ own 64 (k + 1))) ∷ byte_by_byte s (k + 1) n then

unfoldable pub singly : List Check
singly =
    after "a heartbeat byte by byte: an answer at the 20th and not before" (torn (fed Live) 0) (room 64)
    (byte_by_byte heartbeat 0 19 (hand (drop 19 heartbeat) 1 20 (says 0 1 1 (torn beaten 0) (heartbeat ++ own 64 20)) ∷ []))
    ∷ after "a unit of 24 bytes: at the 24th" (torn (fed Live) 0) (room 64)
    (byte_by_byte passed 0 23 (hand (drop 23 passed) 1 20 (says 2 1 1 (torn (heard Live 8) 0) (passed ++ own 64 24)) ∷ []))
    ∷ after "a book message: at the 56th" (torn (fed Live) 0) (room 64)
    (byte_by_byte book 0 55 (hand (drop 55 book) 1 20 (booked (says 0 1 1 (torn (heard Live 8) 0) (book ++ own 64 56))) ∷ []))
    ∷ []

-- "scraps go in, finished units go through the feed, the rest waits": a unit that was torn is put together at the front of the buffer, and nothing else
-- of it is written
unfoldable pub torn_units : List Check
torn_units =
    after "a book message in two" (torn (fed Live) 0) (room 64)
    (hand (take 30 book) 9 20 (quiet 30 (torn (fed Live) 30) (take 30 book ++ own 64 30))
    ∷ hand (drop 30 book) 1 20 (booked (says 0 1 26 (torn (heard Live 8) 0) (book ++ own 64 56)))
    ∷ [])
    ∷ after "in three, torn in its header and in MsgSize" (torn (fed Live) 0) (room 64)
    (hand (take 3 book) 9 20 (quiet 3 (torn (fed Live) 3) (take 3 book ++ own 64 3))
    ∷ hand (take 18 (drop 3 book)) 9 20 (quiet 18 (torn (fed Live) 21) (take 21 book ++ own 64 21))
    ∷ hand (drop 21 book) 1 20 (booked (says 0 1 35 (torn (heard Live 8) 0) (book ++ own 64 56)))
    ∷ [])
    ∷ after "an empty scrap between its halves" (torn (fed Live) 0) (room 64)
    (hand (take 30 book) 9 20 (quiet 30 (torn (fed Live) 30) (take 30 book ++ own 64 30))
    ∷ hand [] 9 20 (quiet 0 (torn (fed Live) 30) (take 30 book ++ own 64 30))
    ∷ hand (drop 30 book) 1 20 (booked (says 0 1 26 (torn (heard Live 8) 0) (book ++ own 64 56)))
    ∷ [])
    ∷ after "the rest of one and half of the next: that waits at the front, behind it stands what stood there" (torn (fed Live) 0) (room 64)
    (hand (take 30 book) 9 20 (quiet 30 (torn (fed Live) 30) (take 30 book ++ own 64 30))
    ∷ hand (drop 30 book ++ take 10 heartbeat) 9 20
    (booked (quiet_after 1 36 (torn (heard Live 8) 10) (take 10 heartbeat ++ drop 10 book ++ own 64 56)))
    ∷ hand (drop 10 heartbeat) 1 20 (booked (says 0 1 10 (torn (heard Live 8) 0) (heartbeat ++ drop 20 book ++ own 64 56)))
    ∷ [])
    ∷ scrap "the time is that of the last byte" (torn (fed Live) 23) (take 23 passed ++ own 64 23) (drop 23 passed) 1 99
    (says 2 1 1 (torn (feed Live 6 8 99 true true) 0) (passed ++ own 64 24))
    ∷ scrap "a strip message, torn" (torn (fed Live) 31) (take 31 priced ++ own 64 31) (drop 31 priced) 1 20
    (with_strips (strip 700 1 (word 9730 ∷ [])) (says 0 1 1 (torn (heard Live 8) 0) (priced ++ own 64 32)))
    ∷ []

-- a unit that lies whole in the scrap is read where it lies; a hand-made line may have a whole unit waiting, and what waits behind it moves to the front
unfoldable pub mixed : List ℕ
mixed = book ++ heartbeat ++ take 7 passed

unfoldable pub places : List Check
places =
    scrap "a whole unit in a scrap, nothing waits: no byte of the buffer is written" (torn (fed Live) 0) (room 64) book 1 20
    (booked (says 0 1 56 (torn (heard Live 8) 0) (room 64)))
    ∷ scrap "a unit waits whole: no byte of the scrap is used" (torn (fed Live) 24) (passed ++ own 64 24) heartbeat 1 20
    (says 2 1 0 (torn (heard Live 8) 0) (passed ++ own 64 24))
    ∷ scrap "and bytes behind it: they move to the front" (torn (fed Live) 28) (passed ++ take 4 heartbeat ++ own 64 28) [] 1 20
    (says 2 1 0 (torn (heard Live 8) 4) (take 4 heartbeat ++ drop 4 passed ++ take 4 heartbeat ++ own 64 28))
    ∷ scrap "they are put together with the scrap's" (torn (fed Live) 28) (passed ++ take 4 heartbeat ++ own 64 28) (drop 4 heartbeat) 2 20
    (says 0 2 16 (torn (heard Live 8) 0) (heartbeat ++ drop 20 passed ++ take 4 heartbeat ++ own 64 28))
    ∷ scrap "two heartbeats wait: 1 allowed" (torn (fed Live) 40) (heartbeat ++ heartbeat ++ own 64 40) [] 1 20
    (says 0 1 0 (torn beaten 20) (heartbeat ++ heartbeat ++ own 64 40))
    ∷ []

-- at most so many units as the caller allows: an answer where that number is reached, none where it is not; come again with the rest
unfoldable pub numbers : List Check
numbers =
    scrap "0 allowed: nothing is done" (torn (fed Live) 0) (room 64) mixed 0 20 (quiet 0 (torn (fed Live) 0) (room 64))
    ∷ scrap "1: a book message" (torn (fed Live) 0) (room 64) mixed 1 20 (booked (says 0 1 56 (torn (heard Live 8) 0) (room 64)))
    ∷ scrap "2: and a heartbeat, a unit like others" (torn (fed Live) 0) (room 64) mixed 2 20 (booked (says 0 2 76 (torn (heard Live 8) 0) (room 64)))
    ∷ scrap "3: two units and a torn third, which waits without an answer" (torn (fed Live) 0) (room 64) mixed 3 20
    (booked (quiet_after 2 83 (torn (heard Live 8) 7) (take 7 passed ++ own 64 7)))
    ∷ scrap "many" (torn (fed Live) 0) (room 64) mixed 100 20 (booked (quiet_after 2 83 (torn (heard Live 8) 7) (take 7 passed ++ own 64 7)))
    ∷ scrap "more than there are, and no byte left: no answer, not 3" (torn (fed Live) 0) (room 64) heartbeat 2 20 (quiet_after 1 20 (torn beaten 0) (room 64))
    ∷ scrap "Seen last" (torn (fed Live) 0) (room 64) (heartbeat ++ unit 5 7 misfits) 2 20 (says 1 2 76 (torn (heard Live 7) 0) (room 64))
    ∷ scrap "Passed last" (torn (fed Live) 0) (room 64) (heartbeat ++ passed) 2 20 (says 2 2 44 (torn (heard Live 8) 0) (room 64))
    ∷ after "1 and again 1 with the rest, and again: each answer is seen" (torn (fed Live) 0) (room 64)
    (hand (passed ++ heartbeat ++ take 7 book) 1 20 (says 2 1 24 (torn (heard Live 8) 0) (room 64))
    ∷ hand (heartbeat ++ take 7 book) 1 20 (says 0 1 20 (torn (heard Live 8) 0) (room 64))
    ∷ hand (take 7 book) 1 20 (quiet 7 (torn (heard Live 8) 7) (take 7 book ++ own 64 7))
    ∷ [])
    ∷ scrap "0 where a unit would be refused" (torn (fed Live) 0) (room 64) (unit 9 8 fits) 0 20 (quiet 0 (torn (fed Live) 0) (room 64))
    ∷ scrap "0 where 22 is due" (torn (fed Live) 5) (room 21) heartbeat 0 20 (quiet 0 (torn (fed Live) 5) (room 21))
    ∷ scrap "0 before the last heard time, in Lost, with a unit waiting" (torn (fed Lost) 20) (heartbeat ++ own 64 20) [] 0 9
    (quiet 0 (torn (fed Lost) 20) (heartbeat ++ own 64 20))
    ∷ scrap "0 while dropping: no byte is used" (shut (fed Live)) (room 64) heartbeat 0 20 (quiet 0 (shut (fed Live)) (room 64))
    ∷ []

-- a header that is no heartbeat's, and MsgSize: 22 bytes
unfoldable pub sized : ℕ → List ℕ
sized n = header 22 5 8 ++ bytes 2 n

-- a unit is finished where the reader of units would not say More; "A MsgSize below 4 is a unit of that length, and 12"
unfoldable pub lengths : List Check
lengths =
    scrap "a heartbeat at 20 bytes" (torn (fed Live) 0) (room 64) heartbeat 1 20 (says 0 1 20 (torn beaten 0) (room 64))
    ∷ scrap "and no byte behind it is looked at" (torn (fed Live) 0) (room 64) (heartbeat ++ (255 ∷ 255 ∷ [])) 2 20
    (quiet_after 1 22 (torn beaten 2) (255 ∷ 255 ∷ own 64 2))
    ∷ lays "MsgSize 0 not at 21 bytes" (sized 0) 21
    ∷ scrap "MsgSize 0 at 22" (torn (fed Live) 0) (room 64) (sized 0) 1 20 (says 12 0 22 (shut lost) (room 64))
    ∷ scrap "MsgSize 0 as the 22nd comes, put together" (torn (fed Live) 21) (take 21 (sized 0) ++ own 64 21) (0 ∷ []) 1 20
    (says 12 0 1 (shut lost) (sized 0 ++ own 64 22))
    ∷ lays "MsgSize 1 not at 21 bytes, its full length" (sized 1) 21
    ∷ scrap "MsgSize 1 at 22" (torn (fed Live) 0) (room 64) (sized 1) 1 20 (says 12 0 22 (shut lost) (room 64))
    ∷ scrap "MsgSize 2 as the 22nd comes, put together" (torn (fed Live) 21) (take 21 (sized 2) ++ own 64 21) (0 ∷ []) 1 20
    (says 12 0 1 (shut lost) (sized 2 ++ own 64 22))
    ∷ lays "MsgSize 3 not at 22" (sized 3) 22
    ∷ scrap "MsgSize 3 at 23" (torn (fed Live) 0) (room 64) (sized 3 ++ (60 ∷ [])) 1 20 (says 12 0 23 (shut lost) (room 64))
    ∷ lays "MsgSize 4 not at 23" passed 23
    ∷ scrap "MsgSize 4 at 24" (torn (fed Live) 0) (room 64) passed 1 20 (says 2 1 24 (torn (heard Live 8) 0) (room 64))
    ∷ []

-- 22: all of the scrap used, the buffer as it was, and nothing of the feed changed but for its phase
unfoldable pub over : String → Line → List ℕ → List ℕ → ℕ → Check
over name l hold s used = scrap name l hold s 9 20 (says 22 0 used (shut lost) hold)

-- "22, given exactly when a unit's full length, the header with MsgSize, or the bytes waiting exceed the holding buffer; it comes as soon as that is
-- known"; "the feed goes Lost with whole kept"
unfoldable pub limits : List Check
limits =
    scrap "one byte too long: not known at 21 bytes" (torn (fed Live) 0) (room 55) (take 21 book) 9 20
    (quiet 21 (torn (fed Live) 21) (take 21 book ++ own 55 21))
    ∷ over "at 22 bytes it is" (torn (fed Live) 0) (room 55) (take 22 book) 22
    ∷ over "as the 22nd comes: nothing is written" (torn (fed Live) 21) (take 21 book ++ own 55 21) (36 ∷ []) 1
    ∷ over "where the unit lies whole in the scrap" (torn (fed Live) 0) (room 55) (book ++ heartbeat) 76
    ∷ scrap "as long as the buffer: no 22" (torn (fed Live) 0) (room 56) book 1 20 (booked (says 0 1 56 (torn (heard Live 8) 0) (room 56)))
    ∷ scrap "as long as the buffer, torn: it fills it" (torn (fed Live) 55) (take 55 book ++ own 56 55) (drop 55 book) 1 20
    (booked (says 0 1 1 (torn (heard Live 8) 0) book))
    ∷ scrap "behind a unit that is accepted" (torn (fed Live) 0) (room 55) (heartbeat ++ take 22 book) 9 20
    (says 22 1 42 (shut (feed Lost 5 7 20 true true)) (room 55))
    ∷ scrap "where it is not reached" (torn (fed Live) 0) (room 55) (heartbeat ++ take 22 book) 1 20 (says 0 1 20 (torn beaten 0) (room 55))
    ∷ scrap "in WaitKey, where nothing is whole yet: nothing but the phase changes" (torn (feed WaitKey 1 0 10 false true) 0) (room 55) (take 22 book) 9 20
    (says 22 0 22 (shut (feed Lost 1 0 10 false true)) (room 55))
    ∷ scrap "in WaitLogon" (torn (feed WaitLogon 2 7 10 true false) 0) (room 55) (take 22 book) 9 20
    (says 22 0 22 (shut (feed Lost 2 7 10 true false)) (room 55))
    ∷ scrap "in Refreshing" (torn (feed Refreshing 3 0 10 false true) 0) (room 55) (take 22 book) 9 20
    (says 22 0 22 (shut (feed Lost 3 0 10 false true)) (room 55))
    ∷ over "MsgSize 65,535" (torn (fed Live) 0) (room 64) (sized 65535) 22
    ∷ over "MsgSize 256" (torn (fed Live) 0) (room 64) (sized 256) 22
    ∷ over "a buffer of 21 bytes, and no bytes come" (torn (fed Live) 0) (room 21) [] 0
    ∷ over "a buffer of 21 bytes and a heartbeat, which would fit" (torn (fed Live) 0) (room 21) heartbeat 20
    ∷ over "no buffer" (torn (fed Live) 0) [] heartbeat 20
    ∷ scrap "a buffer of 22 bytes, and no bytes come" (torn (fed Live) 0) (room 22) [] 9 20 (quiet 0 (torn (fed Live) 0) (room 22))
    ∷ scrap "a buffer of 22 bytes: MsgSize 2 fits" (torn (fed Live) 0) (room 22) (sized 2) 9 20 (says 12 0 22 (shut lost) (room 22))
    ∷ over "MsgSize 3 does not" (torn (fed Live) 0) (room 22) (sized 3) 22
    ∷ over "more bytes wait than the buffer has" (torn (fed Live) 30) (heartbeat ++ own 29 20) [] 0
    ∷ scrap "as many as it has" (torn (fed Live) 30) (heartbeat ++ own 30 20) [] 1 20 (says 0 1 0 (torn beaten 10) (own 30 20 ++ drop 10 heartbeat ++ own 30 20))
    ∷ scrap "a scrap longer than the buffer, of units that fit" (torn (fed Live) 0) (room 22) (heartbeat ++ heartbeat ++ take 19 heartbeat) 9 20
    (quiet_after 2 59 (torn beaten 19) (take 19 heartbeat ++ own 22 19))
    ∷ []

-- a refusal that leaves the feed
unfoldable pub stays : String → Feed → List ℕ → List ℕ → ℕ → ℕ → ℕ → Check
stays name f hold s time answer used = scrap name (torn f 0) hold s 9 time (says answer 0 used (shut f) hold)

-- 10, then 11, then 22, "after 11 and before 12"
unfoldable pub order : List Check
order =
    stays "10 before 11" (fed Lost) (room 64) heartbeat 9 10 20
    ∷ stays "10 before 22" (fed Live) (room 55) (take 22 book) 9 10 22
    ∷ stays "10 before 12" (fed Live) (room 64) (sized 0) 9 10 22
    ∷ stays "10 before 11 where 22 is due" (fed Closed) (room 21) [] 9 10 0
    ∷ stays "11 before 22, in Lost" (fed Lost) (room 55) (take 22 book) 20 11 22
    ∷ stays "11 before 22, in Idle" (fed Idle) (room 21) [] 20 11 0
    ∷ stays "11 before 22, in Closed" (fed Closed) (room 21) [] 20 11 0
    ∷ stays "11 before 12" (fed Lost) (room 64) (sized 0) 20 11 22
    ∷ over "22 before 12" (torn (fed Live) 0) (room 22) (sized 3 ++ (60 ∷ [])) 23
    ∷ over "22 before 13" (torn (fed Live) 0) (room 23) (unit 9 8 (message 60 [])) 24
    ∷ over "22 before 14" (torn (fed Live) 0) (room 23) (unit 5 8 send_key) 24
    ∷ over "22 before 1" (torn (fed Live) 0) (room 23) (unit 5 7 (message 60 [])) 24
    ∷ over "22 before 15: whole is kept" (torn (fed Live) 0) (room 55) (unit 5 8 unlisted) 56
    ∷ over "22 before 16" (torn (fed Live) 0) (room 55) (unit 5 8 misfits) 56
    ∷ []

-- "Answers 10 and 11 are tried only when a unit is finished or 22 is due; till then a scrap has no answer and only waits"
unfoldable pub silent : String → Feed → ℕ → Check
silent name f time = scrap name (torn f 0) (room 64) (take 19 heartbeat) 9 time (quiet 19 (torn f 19) (take 19 heartbeat ++ own 64 19))

-- the last byte of a heartbeat
unfoldable pub finishes : String → Feed → ℕ → Told → Check
finishes name f time t = scrap name (torn f 19) (take 19 heartbeat ++ own 64 19) (drop 19 heartbeat) 1 time t

unfoldable pub late : List Check
late =
    silent "torn bytes in Closed" (fed Closed) 20
    ∷ finishes "11 as the unit is finished, in Closed" (fed Closed) 20 (says 11 0 1 (shut (fed Closed)) (heartbeat ++ own 64 20))
    ∷ silent "in Idle" (fed Idle) 20
    ∷ finishes "11 in Idle" (fed Idle) 20 (says 11 0 1 (shut (fed Idle)) (heartbeat ++ own 64 20))
    ∷ silent "in Lost" (fed Lost) 20
    ∷ finishes "11 in Lost" (fed Lost) 20 (says 11 0 1 (shut (fed Lost)) (heartbeat ++ own 64 20))
    ∷ silent "before the last heard time" (fed Live) 9
    ∷ finishes "10 as the unit is finished" (fed Live) 9 (says 10 0 1 (shut (fed Live)) (heartbeat ++ own 64 20))
    ∷ finishes "accepted, if the last byte is not early" (fed Live) 10 (says 0 1 1 (torn (feed Live 5 7 10 true true) 0) (heartbeat ++ own 64 20))
    ∷ scrap "no bytes, in Lost and before the last heard time" (torn (fed Lost) 0) (room 64) [] 9 9 (quiet 0 (torn (fed Lost) 0) (room 64))
    ∷ scrap "a logout and torn bytes behind it: they wait" (torn (fed Live) 0) (room 64) (unit 5 8 (logout 6) ++ take 5 heartbeat) 9 20
    (quiet_after 1 33 (torn (feed Closed 6 7 20 true true) 5) (take 5 heartbeat ++ own 64 5))
    ∷ scrap "a logout and a unit behind it: 11" (torn (fed Live) 0) (room 64) (unit 5 8 (logout 6) ++ heartbeat) 9 20
    (says 11 1 48 (shut (feed Closed 6 7 20 true true)) (room 64))
    ∷ []

-- a heartbeat is accepted, the unit behind it is not, and more follows in the scrap: all is used, nothing waits; "what follows a refusal is dropped, without
-- an answer": whole units and scraps, on the line as it is
unfoldable pub refuses_on : List ℕ → String → ℕ → List ℕ → Bool → ℕ → Check
refuses_on strips name answer s whole used =
    let l : Line = shut (feed Lost 5 7 20 whole true) in
    record {
      name = name;
      holds =
          follows (lined (torn (fed Live) 0) (record { books = one_bid; strips = strips })) (room 64)
          (hand (heartbeat ++ s ++ heartbeat ++ (1 ∷ 2 ∷ 3 ∷ [])) 9 20 (with_strips strips (says answer 1 used l (room 64)))
          ∷ hand heartbeat 1 30 (with_strips strips (quiet 20 l (room 64)))
          ∷ []);
    }

unfoldable pub refuses : String → ℕ → List ℕ → Bool → ℕ → Check
refuses name answer s whole used = refuses_on free name answer s whole used

unfoldable pub refusals : List Check
refusals =
    after "10, and what follows" (torn (fed Live) 0) (room 64)
    (hand (heartbeat ++ (1 ∷ 2 ∷ [])) 9 9 (says 10 0 22 (shut (fed Live)) (room 64))
    ∷ hand heartbeat 1 20 (quiet 20 (shut (fed Live)) (room 64))
    ∷ hand (take 7 book) 1 20 (quiet 7 (shut (fed Live)) (room 64))
    ∷ [])
    ∷ after "11, and what follows" (torn (fed Closed) 0) (room 64)
    (hand (heartbeat ++ (1 ∷ 2 ∷ [])) 9 20 (says 11 0 22 (shut (fed Closed)) (room 64))
    ∷ hand heartbeat 1 20 (quiet 20 (shut (fed Closed)) (room 64))
    ∷ [])
    ∷ refuses "12, and what follows" 12 (unit 5 8 (message 40 [])) true 67
    ∷ refuses "13, and what follows" 13 (unit 6 8 (message 60 [])) true 67
    ∷ refuses "14, and what follows" 14 (unit 5 8 send_key) true 67
    ∷ refuses "15, and what follows" 15 (unit 5 8 unlisted) false 99
    ∷ refuses "16, and what follows" 16 (unit 5 8 misfits) false 99
    ∷ refuses_on (strip 701 1 (word 100 ∷ [])) "17, no slot for a strip, and what follows" 17 priced false 75
    ∷ refuses_on (set (strip 700 1 (word 9730 ∷ [])) 3 5) "18, a strip that is not sound, and what follows" 18 priced false 75
    ∷ refuses "22, and what follows" 22 (sized 65535) true 65
    ∷ after "a torn unit that is refused: nothing waits, its bytes are not wiped out" (torn (fed Live) 23) (take 23 passed ++ own 64 23)
    (hand (drop 23 passed) 1 9 (says 10 0 1 (shut (fed Live)) (passed ++ own 64 24))
    ∷ hand heartbeat 1 20 (quiet 20 (shut (fed Live)) (passed ++ own 64 24))
    ∷ [])
    ∷ scrap "dropped where a whole unit would wait, with no buffer and before the last heard time" (line (fed Lost) 7 true) [] book 9 9
    (quiet 56 (line (fed Lost) 7 true) [])
    ∷ []

-- a connect with a buffer: its answer, and the line after it. "A connect with a holding buffer too short for the header and MsgSize is also 22, after 20, with
-- everything unchanged"; "the next accepted connect, which empties the holding buffer"
unfoldable pub connect : String → Line → List ℕ → Link → ℕ → ℕ → Line → Check
connect name l hold link time answer l' =
    let r : Linked = links (linked (on l) hold link time) l hold in
    record { name = name; holds = eqb r.answer answer && same_line r.line l' }

unfoldable pub reconnects : List Check
reconnects =
    connect "10, and bytes wait" (torn (fed Live) 5) (room 64) Fresh 9 10 (torn (fed Live) 5)
    ∷ connect "10 while dropping" (line (fed Live) 5 true) (room 64) Fresh 9 10 (line (fed Live) 5 true)
    ∷ connect "10 before 20" (torn spoilt 5) (room 64) Resuming 9 10 (torn spoilt 5)
    ∷ connect "10 before 22" (torn (fed Live) 5) (room 21) Fresh 9 10 (torn (fed Live) 5)
    ∷ connect "20 while dropping" (line spoilt 5 true) (room 64) Resuming 20 20 (line spoilt 5 true)
    ∷ connect "20 before 22" (torn spoilt 5) (room 21) Resuming 20 20 (torn spoilt 5)
    ∷ connect "22: a buffer of 21 bytes, everything unchanged" (torn (fed Live) 5) (room 21) Fresh 20 22 (torn (fed Live) 5)
    ∷ connect "22 while dropping" (line lost 5 true) (room 21) Resuming 20 22 (line lost 5 true)
    ∷ connect "22: no buffer, a new line" (torn (feed Idle 1 0 0 false true) 0) [] Fresh 0 22 (torn (feed Idle 1 0 0 false true) 0)
    ∷ connect "0: a buffer of 22 bytes, a new line" (torn (feed Idle 1 0 0 false true) 0) (room 22) Fresh 0 0 (torn (feed WaitKey 1 0 0 false true) 0)
    ∷ connect "0: empties the buffer" (torn (fed Live) 5) (room 22) Fresh 20 0 (torn (feed WaitKey 1 7 20 true true) 0)
    ∷ connect "0: ends the dropping" (shut (fed Live)) (room 22) Fresh 20 0 (torn (feed WaitKey 1 7 20 true true) 0)
    ∷ connect "0: resuming after 22, which kept whole" (shut lost) (room 22) Resuming 20 0 (torn (feed WaitKey 1 7 20 true false) 0)
    ∷ connect "0: both at once, resuming" (line lost 5 true) (room 64) Resuming 10 0 (torn (feed WaitKey 1 7 10 true false) 0)
    ∷ []

-- runs of a line's calls with limit 1,000: a connect at 5,000, and the key, the logon and a bid at 5,500; then more. Whether it is green at a time, by the
-- feed and by the history; when it was last heard by the history; how many events it is; and the line and the tables where it ends
unfoldable pub opening : List LineAct
opening = Links (room 64) Fresh 5000 ∷ Hears (room 64) session 3 5500 ∷ []

unfoldable pub opened : Feed
opened = feed Live 4 1 5500 true true

unfoldable pub ran : String → List LineAct → ℕ → Bool → ℕ → ℕ → Line → List ℕ → Check
ran name acts time shown heard events l words =
    let x : Lined = end_line 1000 words_of_one (opening ++ acts) in
    let es : List Event = line_run 1000 words_of_one (opening ++ acts) in
    let h : History = tale 1000 words_of_one es in
    record {
      name = name;
      holds =
          beq (is_green (state_on x) time) shown && beq (green h 1000 time) shown && eqb h.heard heard && eqb (length es) events
          && same_line x.line l && same x.tables.books words && same x.tables.strips free;
    }

-- a heartbeat that comes too early, and is answered 10; a unit too long for the buffer lent with it; one message lost
unfoldable pub early : LineAct
early = Hears (room 64) heartbeat 9 5400

unfoldable pub too_long : LineAct
too_long = Hears (room 55) (unit 4 2 fits) 9 6000

unfoldable pub gap : LineAct
gap = Hears (room 64) (unit 5 3 (message 60 [])) 9 6000

-- the key and a logon with 0, and a scrap of a heartbeat
unfoldable pub again : ℕ → LineAct
again time = Hears (room 64) (unit 1 0 send_key ++ unit 2 0 (logon 0)) 2 time

unfoldable pub beat : ℕ → LineAct
beat time = Hears (room 64) heartbeat 9 time

unfoldable pub mornings : List Check
mornings =
    ran "green up to the limit" [] 6500 true 5500 4 (torn opened 0) one_bid
    ∷ ran "torn bytes are not heard" (Hears (room 64) (take 19 heartbeat) 9 6000 ∷ []) 6501 false 5500 4 (torn opened 19) one_bid
    ∷ ran "the last byte of a unit is" (Hears (room 64) (take 19 heartbeat) 9 6000 ∷ Hears (take 19 heartbeat ++ own 64 19) (drop 19 heartbeat) 9 6001 ∷ [])
    7001 true 6001 5 (torn (feed Live 4 1 6001 true true) 0) one_bid
    ∷ ran "10 in Live: what comes is dropped, green to the limit" (early ∷ beat 6000 ∷ []) 6500 true 5500 5 (shut opened) one_bid
    ∷ ran "and not after" (early ∷ beat 6000 ∷ []) 6501 false 5500 5 (shut opened) one_bid
    ∷ ran "an accepted connect ends the dropping" (early ∷ Links (room 64) Resuming 6000 ∷ again 6000 ∷ beat 6100 ∷ []) 7100 true 6100 9
    (torn (feed Live 3 1 6100 true false) 0) one_bid
    ∷ ran "and empties the buffer: what had waited is no part of what comes"
    (Hears (room 64) (take 19 heartbeat) 9 5600
    ∷ Links (take 19 heartbeat ++ own 64 19) Fresh 6000
    ∷ Hears (take 19 heartbeat ++ own 64 19) (unit 1 0 send_key ++ unit 2 0 (logon 0)) 2 6000
    ∷ [])
    7000 true 6000 7 (torn (feed Live 3 0 6000 true true) 0) (replicate 64 0)
    ∷ ran "11 behind a logout: dropped up to the connect"
    (Hears (room 64) (unit 4 0 (logout 6) ++ heartbeat) 9 5600 ∷ beat 5700 ∷ Links (room 64) Resuming 6000 ∷ again 6000 ∷ []) 7000 true 6000 9
    (torn (feed Live 3 1 6000 true false) 0) one_bid
    ∷ []

-- "demand 3's badge counts it with 12 to 18"
unfoldable pub dark : List Check
dark =
    ran "22: not green at once" (too_long ∷ []) 6000 false 5500 5 (shut (feed Lost 4 1 5500 true true)) one_bid
    ∷ ran "and whatever comes" (too_long ∷ beat 6000 ∷ []) 6000 false 5500 5 (shut (feed Lost 4 1 5500 true true)) one_bid
    ∷ ran "resuming after 22: accepted, and the books are kept" (too_long ∷ Links (room 64) Resuming 6100 ∷ again 6100 ∷ []) 7100 true 6100 8
    (torn (feed Live 3 1 6100 true false) 0) one_bid
    ∷ ran "a fresh connect after 22" (too_long ∷ Links (room 64) Fresh 6100 ∷ again 6100 ∷ []) 7100 true 6100 8
    (torn (feed Live 3 0 6100 true true) 0) (replicate 64 0)
    ∷ ran "a connect answered 22 counts for nothing" (Links (room 21) Fresh 5600 ∷ []) 6500 true 5500 4 (torn opened 0) one_bid
    ∷ ran "nor does it end the dropping" (early ∷ Links (room 21) Fresh 5600 ∷ beat 6000 ∷ []) 6501 false 5500 5 (shut opened) one_bid
    ∷ ran "16, and a resuming that is answered 20: what comes is dropped" (Hears (room 64) (unit 4 2 misfits) 9 5600 ∷ Links (room 64) Resuming 5700 ∷ beat 5800 ∷ [])
    5800 false 5500 6 (shut (feed Lost 4 1 5500 false true)) one_bid
    ∷ ran "the morning by scraps: a message is lost, then bytes come" (gap ∷ Hears (room 64) (take 30 (unit 6 4 fits)) 9 6000 ∷ beat 6001 ∷ []) 6001 false 5500 5
    (shut (feed Lost 4 1 5500 true true)) one_bid
    ∷ ran "the morning, and a connect with too short a buffer" (gap ∷ Links (room 21) Resuming 6001 ∷ beat 6001 ∷ []) 6001 false 5500 5
    (shut (feed Lost 4 1 5500 true true)) one_bid
    ∷ []

-- an event in words, and answers with their events
unfoldable pub spelt : Event → List ℕ
spelt (Connect link time) = 0 ∷ time ∷ []
spelt (Arrive s time) = 1 ∷ time ∷ s
spelt (Cut seq internal m time) = 2 ∷ time ∷ m
spelt (Overrun time) = 3 ∷ time ∷ []

unfoldable pub same_said : List (Event × ℕ) → List (Event × ℕ) → Bool
same_said [] [] = true
same_said [] (q ∷ qs) = false
same_said (p ∷ ps) [] = false
same_said (p ∷ ps) (q ∷ qs) = same (spelt p.0) (spelt q.0) && eqb p.1 q.1 && same_said ps qs

-- "cutting a byte run into any scraps, some of them empty, gives the same answers, tables and feed as one piece, up to and including the first refusal":
-- a feed that waits for the key, last heard at 10, a buffer, the scraps of a run of bytes at a time, and what is seen of the line after them
pub record Shown : Type 0 where
  pub said : List (Event × ℕ)
  pub feed : Feed
  pub words : List ℕ
  pub waiting : List ℕ
  pub dropping : Bool

unfoldable pub cut : String → List ℕ → List (List ℕ) → ℕ → Shown → Check
cut name hold ss time told =
    let y : View = scraps [] (on (torn (feed WaitKey 1 7 10 true true) 0)) hold ss 200 time in
    record {
      name = name;
      holds =
          same_said y.said told.said && same_feed y.state.feed told.feed && same y.state.tables.books told.words
          && same y.state.tables.strips free && same y.waiting told.waiting && beq y.dropping told.dropping;
    }

-- so many scraps of n bytes, and the rest
unfoldable pub scraps_of : ℕ → ℕ → List ℕ → List (List ℕ)
scraps_of n zero s = s ∷ []
scraps_of n (suc many) s = take n s ∷ scraps_of n many (drop n s)

-- a good morning: the key, the logon, a bid of 700, a heartbeat, and 7 bytes of a book message: 24 + 28 + 56 + 20 + 7 bytes
unfoldable pub good_morning : List ℕ
good_morning = session ++ take 7 book

unfoldable pub logged_on : List (Event × ℕ)
logged_on = (Arrive (unit 1 0 send_key) 20, 0) ∷ (Arrive (unit 2 0 (logon 0)) 20, 0) ∷ []

unfoldable pub all_good : Shown
all_good = record {
  said = logged_on ++ ((Arrive (unit 3 1 (book_message 700 (entry 0 1 0 9730 4000 2 ∷ []))) 20, 0) ∷ (Arrive heartbeat 20, 0) ∷ []);
  feed = feed Live 4 1 20 true true;
  words = one_bid;
  waiting = take 7 book;
  dropping = false;
}

unfoldable pub cuttings : List Check
cuttings =
    cut "a good morning in one piece" (room 64) (good_morning ∷ []) 20 all_good
    ∷ cut "in two, the bid torn" (room 64) (take 80 good_morning ∷ drop 80 good_morning ∷ []) 20 all_good
    ∷ cut "in scraps of 10 bytes" (room 64) (scraps_of 10 13 good_morning) 20 all_good
    ∷ cut "byte by byte" (room 64) (scraps_of 1 135 good_morning) 20 all_good
    ∷ cut "with empty scraps first, between and last" (room 64)
    ([] ∷ take 24 good_morning ∷ [] ∷ [] ∷ take 40 (drop 24 good_morning) ∷ [] ∷ drop 64 good_morning ∷ [] ∷ []) 20 all_good
    ∷ []

-- a refusal at the third unit, after which nothing is said
unfoldable pub ends_at : Event → ℕ → Shown
ends_at e answer = record {
  said = logged_on ++ ((e, answer) ∷ []);
  feed = feed Lost 3 0 20 true true;
  words = replicate 64 0;
  waiting = [];
  dropping = true;
}

-- the bid is longer than a buffer of 55 bytes; SeqNum 3 is left out; MsgSize is 0
unfoldable pub left_out : List ℕ
left_out = take 52 session ++ unit 4 1 (message 60 []) ++ drop 52 session

unfoldable pub no_size : List ℕ
no_size = take 52 session ++ header 22 3 1 ++ (0 ∷ 0 ∷ []) ++ heartbeat

-- all of it too early, so that the first unit is answered 10
unfoldable pub too_early : Shown
too_early = record { said = (Arrive (unit 1 0 send_key) 9, 10) ∷ []; feed = feed WaitKey 1 7 10 true true; words = one_bid; waiting = []; dropping = true }

-- a logout, a heartbeat behind it, and 5 bytes more
unfoldable pub logged_out : List ℕ
logged_out = take 52 session ++ unit 3 0 (logout 6) ++ heartbeat ++ take 5 book

unfoldable pub closed : Shown
closed = record {
  said = logged_on ++ ((Arrive (unit 3 0 (logout 6)) 20, 0) ∷ (Arrive heartbeat 20, 11) ∷ []);
  feed = feed Closed 4 0 20 true true;
  words = replicate 64 0;
  waiting = [];
  dropping = true;
}

unfoldable pub broken : List Check
broken =
    cut "22 in one piece" (room 55) (good_morning ∷ []) 20 (ends_at (Overrun 20) 22)
    ∷ cut "22 in scraps of 10 bytes" (room 55) (scraps_of 10 13 good_morning) 20 (ends_at (Overrun 20) 22)
    ∷ cut "13 in one piece" (room 64) (left_out ∷ []) 20 (ends_at (Arrive (unit 4 1 (message 60 [])) 20) 13)
    ∷ cut "13 in scraps of 7 bytes" (room 64) (scraps_of 7 20 left_out) 20 (ends_at (Arrive (unit 4 1 (message 60 [])) 20) 13)
    ∷ cut "12 of MsgSize 0 in one piece" (room 64) (no_size ∷ []) 20 (ends_at (Arrive (header 22 3 1 ++ (0 ∷ 0 ∷ [])) 20) 12)
    ∷ cut "12 of MsgSize 0 byte by byte" (room 64) (scraps_of 1 94 no_size) 20 (ends_at (Arrive (header 22 3 1 ++ (0 ∷ 0 ∷ [])) 20) 12)
    ∷ cut "11 in one piece" (room 64) (logged_out ∷ []) 20 closed
    ∷ cut "11 in scraps of 10 bytes" (room 64) (scraps_of 10 10 logged_out) 20 closed
    ∷ cut "10 in one piece" (room 64) (good_morning ∷ []) 9 too_early
    ∷ cut "10 in scraps of 10 bytes" (room 64) (scraps_of 10 13 good_morning) 9 too_early
    ∷ []
