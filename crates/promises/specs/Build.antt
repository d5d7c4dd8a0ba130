-- Bytes and words for the cases: units, messages, books. Assumes nothing.
use Rattle.std.specs.Prelude.{ℕ, zero, suc, ◌+◌, ◌/◌, ◌%◌, Bool, true, false, cond, List, [], ◌∷◌, ◌++◌, length, take, replicate, leb}
use Prim.Native.String.{String}
use Rattle.feed.specs.Events.{State, Event, Arrive, Connect}
use Rattle.feed.specs.declared.Phase.{Phase}
use Rattle.feed.specs.declared.Phase.TheVariants.{Idle}
use Rattle.feed.specs.declared.Feed.{Feed}
use Rattle.feed.specs.declared.Link.TheVariants.{Fresh}
use Rattle.promises.specs.Checks.{Check, Call, End, runs}

-- n bytes of a number, little-endian
unfoldable pub bytes : ℕ → ℕ → List ℕ
bytes zero x = []
bytes (suc n) x = (x % 256) ∷ bytes n (x / 256)

unfoldable pub joined : List (List ℕ) → List ℕ
joined [] = []
joined (x ∷ xs) = x ++ joined xs

-- a header of 20 bytes: MsgLength, filler, SeqNum, InternalSeqNum, SendTime. No byte that nobody looks at is zero, here and below
unfoldable pub header : ℕ → ℕ → ℕ → List ℕ
header len seq internal = bytes 2 len ++ bytes 2 0x4241 ++ bytes 4 seq ++ bytes 4 internal ++ bytes 8 1700000000123000000

-- a unit: a header, then the message
unfoldable pub unit : ℕ → ℕ → List ℕ → List ℕ
unit seq internal m = header (20 + length m) seq internal ++ m

-- a heartbeat: a header whose MsgLength is 20
unfoldable pub heartbeat : List ℕ
heartbeat = header 20 0x64636261 0x74737271

-- a message of a type with the bytes behind its type
unfoldable pub message : ℕ → List ℕ → List ℕ
message type rest = bytes 2 (4 + length rest) ++ bytes 2 type ++ rest

unfoldable pub send_key : List ℕ
send_key = message 1105 []

unfoldable pub logon : ℕ → List ℕ
logon status = message 1102 (5 ∷ 4 ∷ status ∷ 30 ∷ [])

unfoldable pub logout : ℕ → List ℕ
logout status = message 1103 (status ∷ 1 ∷ 2 ∷ 3 ∷ [])

unfoldable pub refresh : ℕ → List ℕ
refresh status = message 1202 (status ∷ 1 ∷ 2 ∷ 3 ∷ [])

unfoldable pub complete : ℕ → List ℕ
complete internal = message 203 (bytes 4 internal)

-- an entry: side, level, action; price in thousandths, quantity, orders
unfoldable pub entry : ℕ → ℕ → ℕ → ℕ → ℕ → ℕ → List ℕ
entry side level action price quantity orders =
    bytes 8 quantity ++ bytes 4 price ++ bytes 4 orders ++ bytes 2 side ++ bytes 1 level ++ bytes 1 action ++ bytes 4 0x34333231

unfoldable pub book_message : ℕ → List (List ℕ) → List ℕ
book_message code es = message 53 (bytes 4 code ++ bytes 3 0x535251 ++ bytes 1 (length es) ++ joined es)

-- words made up to n by zeros
unfoldable pub fill : ℕ → List ℕ → List ℕ
fill n w = take n (w ++ replicate n 0)

-- a row: price in thousandths, quantity, orders
unfoldable pub row : ℕ → ℕ → ℕ → List ℕ
row price quantity orders = (price + 2147483648) ∷ quantity ∷ orders ∷ []

-- the 64 words of a book with these rows
unfoldable pub block : ℕ → List (List ℕ) → List (List ℕ) → List ℕ
block code bids offers = (code ∷ length bids ∷ length offers ∷ 0 ∷ []) ++ fill 30 (joined bids) ++ fill 30 (joined offers)

-- a feed with limit 1,000
unfoldable pub feed : Phase → ℕ → ℕ → ℕ → Bool → Bool → Feed
feed p next internal heard whole fresh =
    record { phase = p; next = next; internal = internal; heard = heard; limit = 1000; whole = whole; fresh = fresh }

-- a feed with books and strips; with books alone, no word lent for strips
unfoldable pub both : Feed → List ℕ → List ℕ → State
both f words strips = record { feed = f; tables = record { books = words; strips = strips } }

unfoldable pub state : Feed → List ℕ → State
state f words = both f words []

-- a new feed with limit 1,000 and n zero words
unfoldable pub start : ℕ → State
start n = state (feed Idle 1 0 0 false true) (replicate n 0)

-- a unit that arrives alone at a time: answered so, and used up where the answer is 0, 1 or 2
unfoldable pub arrives : List ℕ → ℕ → ℕ → Call
arrives s time answer = record { event = Arrive s time; answer = answer; used = cond (leb answer 2) (length s) 0; dropped = 0 }

-- a call that uses no bytes
unfoldable pub gets : Event → ℕ → Call
gets e answer = record { event = e; answer = answer; used = 0; dropped = 0 }

-- the same where rows are dropped
unfoldable pub dropping : ℕ → Call → Call
dropping n c = record { event = c.event; answer = c.answer; used = c.used; dropped = n }

unfoldable pub ends_both : Feed → List ℕ → List ℕ → List (ℕ × ℕ) → End
ends_both f words strips badges = record { feed = f; words = words; strips = strips; badges = badges }

unfoldable pub ends : Feed → List ℕ → List (ℕ × ℕ) → End
ends f words badges = ends_both f words [] badges

unfoldable pub case : String → State → List Call → End → Check
case name s calls e = record { name = name; holds = runs s calls e }

-- a fresh connect, SendKey and a logon's status, all at a time
unfoldable pub logs_on : ℕ → ℕ → List Call
logs_on status time =
    gets (Connect Fresh time) 0
    ∷ arrives (unit 1 0 send_key) time 0
    ∷ arrives (unit 2 0 (logon status)) time 0
    ∷ []
