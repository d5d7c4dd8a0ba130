-- The customer's three demands as statements. Each is proved in proofs/Demands, under its name with a small letter. Assumes nothing.
use Rattle.std.specs.Prelude.{ℕ, ◌+◌, ◌-◌, ◌*◌, ◌≤◌, ◌<◌, ◌≡◌, Bool, true, false, not, ◌&&◌, List, [], ◌∷◌, ◌++◌, ◌⊎◌, length, drop, get_or, replicate, T}
use Rattle.std.proofs.Math.Option.{some}
use Rattle.ground.specs.Choice.{one_of, all}
use Rattle.wire.specs.Number.{bytes_only}
use Rattle.wire.specs.Units.{unit_of}
use Rattle.wire.specs.declared.Unit.TheVariants as unit
use Rattle.slots.specs.Slots.{put}
use Rattle.slots.specs.Layout.{count_in, slots_in}
use Rattle.slots.specs.declared.Slot.TheVariants.{Held, Free}
use Rattle.wire.specs.Codes.{security_code}
use Rattle.ladder.specs.Message.{has_entries, listed_side, listed_rank}
use Rattle.ladder.specs.Sides.{no_row}
use Rattle.ladder.specs.declared.Row.{Row}
use Rattle.ladder.specs.Walk.{empty_book, book_after}
use Rattle.ladder.specs.Words.{book_width, sound, SoundBook}
use Rattle.books.specs.Table.{books, place_in, block, book_in}
use Rattle.books.specs.Reading.{row_refused, read_row}
use Rattle.slots.specs.Layout as table
use Rattle.strips.specs.Words as strip
use Rattle.strips.specs.Words.{strip_width, empty_strip, sound_strip, strip_after}
use Rattle.strips.specs.Table.{strips, strip_in}
use Rattle.strips.specs.Reading.{strip_shown, read_strip}
use Rattle.feed.specs.Messages.{kind, status_of, logon_status}
use Rattle.feed.specs.Feeds.{new_given}
use Rattle.feed.specs.Events.{State, Event, Connect, Arrive, Cut, Overrun, Message, news, time_of, on_message}
use Rattle.feed.specs.Answers.{number, tests}
use Rattle.feed.specs.Steps.{accepted, outcome}
use Rattle.feed.specs.Answers.{Answer}
use Rattle.feed.specs.declared.Kind.{Kind}
use Rattle.feed.specs.declared.Kind.TheVariants.{Session, Market}
use Rattle.feed.specs.declared.Session.TheVariants.{SendKey, Logon, Logout, Refresh, Complete, Request}
use Rattle.feed.specs.declared.Datum.{Datum}
use Rattle.feed.specs.declared.Datum.TheVariants as datum
use Rattle.feed.specs.Messages.{Status}
use Rattle.feed.specs.Messages.{Opens, Refills, Stays, Closes, Unlisted}
use Rattle.promises.specs.Refusals.{answers_to, ending, refusal}
use Rattle.promises.specs.Runs.{Sizes, zeroed, start, after, answer_of, trace, end_of, tale, is_green, green, replay, replay_on, replay_strip}

-- the rows of document 01's table of answers for a call
abbrev pub rows_for : State → Event → List (Bool × Answer)
rows_for s e = tests s.feed s.tables (time_of e) (news e)

-- DEMAND 1. Any bytes, any table, any clock reading gets one of the numbered answers ..
abbrev pub Listed : Type 0
Listed = (s : State) (e : Event) → T (one_of (answer_of s e) (answers_to e))

-- .. a new feed, reading a row and reading a strip too ..
abbrev pub NewListed : Type 0
NewListed = (limit : ℕ) → T (one_of (new_given limit).answer (19 ∷ 0 ∷ []))

abbrev pub ReadListed : Type 0
ReadListed = (code side rank : ℕ) (t : List ℕ) → T (one_of (read_row code side rank t).answer (15 ∷ 4 ∷ 18 ∷ 0 ∷ []))

abbrev pub StripListed : Type 0
StripListed = (code : ℕ) (t : List ℕ) → T (one_of (read_strip code t).answer (15 ∷ 4 ∷ 18 ∷ 0 ∷ []))

-- what is shown of a strip is a sound one: no price that is none, no direction but the four
abbrev pub StripShown : Type 0
StripShown = (code : ℕ) (t : List ℕ) → (read_strip code t).answer ≡ 0 → (read_strip code t ≡ strip_shown (strip_in code t)) × (sound_strip (strip_in code t) ≡ true)

-- .. under exactly its stated condition, both ways: n is the number of the first row whose test passes, and 0 where none does
abbrev pub Tells : List (Bool × Answer) → ℕ → Type 0
Tells [] n = n ≡ 0
Tells (t ∷ ts) n = ((t.0 ≡ true) × (n ≡ number t.1)) ⊎ ((t.0 ≡ false) × Tells ts n)

abbrev pub Exactly : Type 0
Exactly =
    (s : State) (e : Event) (n : ℕ)
    → (answer_of s e ≡ n → Tells (rows_for s e) n) × (Tells (rows_for s e) n → answer_of s e ≡ n)

-- "A refused arrival writes nothing to the book table, and document 01 says what becomes of the feed"; nor to the strips
abbrev pub Refused : Type 0
Refused = (s : State) (e : Event) → accepted (answer_of s e) ≡ false → outcome s e ≡ refusal (answer_of s e) s

-- what is answered to a unit that has come whole does not hang on the bytes behind it (specs/Pieces: so a stream may come in any pieces)
abbrev pub Behind : Type 0
Behind = (s : State) (a b : List ℕ) (time : ℕ) → (unit_of a ≡ unit.More → ⊥) → outcome s (Arrive (a ++ b) time) ≡ outcome s (Arrive a time)

-- DEMAND 2. "A counted message is acted on only when its number is the next"
abbrev pub Next : Type 0
Next =
    (s : State) (e : Event) (seq internal : ℕ) (m : List ℕ) → news e ≡ Message seq internal m
    → accepted (answer_of s e) ≡ true
    → (seq ≡ s.feed.next) × (seq ≤ 4294967295)

-- a market message that is taken: answered 0
pub record TakenAs (d : Datum) (s : State) (e : Event) (m : List ℕ) : Type 0 where
  pub seq : ℕ
  pub internal : ℕ
  pub brings : news e ≡ Message seq internal m
  pub of : kind m ≡ Market d
  pub zero : answer_of s e ≡ 0

-- a book message, of type 53; a strip message, of type 40, 41, 43, 56 or 62
abbrev pub Taken : State → Event → List ℕ → Type 0
Taken s e m = TakenAs datum.Book s e m

abbrev pub TakenStrip : State → Event → List ℕ → Type 0
TakenStrip s e m = TakenAs datum.Strip s e m

-- the words of the books before a call, and after it
abbrev pub before : State → List ℕ
before s = s.tables.books

abbrev pub behind : State → Event → List ℕ
behind s e = (after s e).tables.books

-- and of the strips
abbrev pub strips_before : State → List ℕ
strips_before s = s.tables.strips

abbrev pub strips_behind : State → Event → List ℕ
strips_behind s e = (after s e).tables.strips

-- "A book message is applied entry by entry in order, whole": the code's book is then what all its entries make of it ..
abbrev pub Whole : Type 0
Whole =
    (s : State) (e : Event) (m : List ℕ) → Taken s e m
    → book_after (time_of e) m (book_in (security_code m) (before s)) ≡ some (book_in (security_code m) (behind s e))

-- .. "and touches no other book": every slot but the one that the code has or takes, every other code's book,
-- every word behind the slots, and every word of the strips, is as it was
abbrev pub Others : Type 0
Others =
    (s : State) (e : Event) (m : List ℕ) → Taken s e m
    → ((j : ℕ) → (place_in (security_code m) (before s) ≡ Held j → ⊥) → (place_in (security_code m) (before s) ≡ Free j → ⊥)
    → block j (behind s e) ≡ block j (before s))
    × ((c : ℕ) → (security_code m ≡ c → ⊥) → (c ≡ 0 → ⊥) → book_in c (behind s e) ≡ book_in c (before s))
    × (length (behind s e) ≡ length (before s))
    × (drop (book_width * count_in books (length (before s))) (behind s e)
    ≡ drop (book_width * count_in books (length (before s))) (before s))
    × (strips_behind s e ≡ strips_before s)

-- Document 02, request 2. A strip message that is taken: the code's strip is then what its values make of it ..
abbrev pub StripWhole : Type 0
StripWhole =
    (s : State) (e : Event) (m : List ℕ) → TakenStrip s e m
    → strip_in (security_code m) (strips_behind s e) ≡ strip_after m (strip_in (security_code m) (strips_before s))

-- .. and it touches that code's strip only: every other slot, every other code's strip, every word behind the slots, and every word of the books,
-- is as it was
abbrev pub StripOthers : Type 0
StripOthers =
    (s : State) (e : Event) (m : List ℕ) → TakenStrip s e m
    → ((j : ℕ) → (table.place_in strips (security_code m) (strips_before s) ≡ Held j → ⊥) → (table.place_in strips (security_code m) (strips_before s) ≡ Free j → ⊥)
    → table.block strips j (strips_behind s e) ≡ table.block strips j (strips_before s))
    × ((c : ℕ) → (security_code m ≡ c → ⊥) → (c ≡ 0 → ⊥) → strip_in c (strips_behind s e) ≡ strip_in c (strips_before s))
    × (length (strips_behind s e) ≡ length (strips_before s))
    × (drop (strip_width * count_in strips (length (strips_before s))) (strips_behind s e)
    ≡ drop (strip_width * count_in strips (length (strips_before s))) (strips_before s))
    × (behind s e ≡ before s)

-- it is answered neither 16 nor 2
abbrev pub StripFits : Type 0
StripFits =
    (s : State) (e : Event) (seq internal : ℕ) (m : List ℕ) → news e ≡ Message seq internal m → kind m ≡ Market datum.Strip
    → (answer_of s e ≡ 16 → ⊥) × (answer_of s e ≡ 2 → ⊥)

-- "Demands 2 and 3 read with the new rule" (document 02, request 1). A message with NoEntries 0 that is taken "empties both sides of that code's book":
-- where the code has a slot, the lowest, its book was sound and that slot is then the code and zeros; "if the code has no book it still takes no slot".
-- No other word changes
abbrev pub Emptied : Type 0
Emptied =
    (s : State) (e : Event) (m : List ℕ) → Taken s e m → has_entries m ≡ false
    → (book_in (security_code m) (behind s e) ≡ empty_book)
    × ((k : ℕ) → place_in (security_code m) (before s) ≡ Held k
    → (sound (block k (before s)) ≡ true)
    × (behind s e ≡ put book_width k (security_code m ∷ replicate (book_width - 1) 0) (before s)))
    × (((k : ℕ) → place_in (security_code m) (before s) ≡ Held k → ⊥) → behind s e ≡ before s)

-- and it must look empty: reading a row of it gives 4, at every rank of both sides
abbrev pub LooksEmpty : Type 0
LooksEmpty =
    (s : State) (e : Event) (m : List ℕ) → Taken s e m → has_entries m ≡ false
    → (side rank : ℕ) → listed_side side ≡ true → listed_rank rank ≡ true → read_row (security_code m) side rank (behind s e) ≡ row_refused 4

-- it "can't be 17", and nothing of it can fail to fit
abbrev pub EmptyFits : Type 0
EmptyFits =
    (s : State) (e : Event) (seq internal : ℕ) (m : List ℕ) → news e ≡ Message seq internal m → kind m ≡ Market datum.Book → has_entries m ≡ false
    → (answer_of s e ≡ 17 → ⊥) × (answer_of s e ≡ 16 → ⊥)

-- DEMAND 3, of every run from a new feed of any limit and zeroed tables of any sizes.
-- "the table is what replaying from empty, in order, the book messages taken since the last clearing gives"; and so are the strips
abbrev pub Replayed : Type 0
Replayed = (limit : ℕ) (n : Sizes) (es : List Event) → (end_of limit n es).tables ≡ replay (tale limit n es).deeds (zeroed n)

-- what is handed in are bytes (the one thing assumed; of a slice of bytes it is a fact)
unfoldable pub hands_bytes : Event → Bool
hands_bytes (Connect link time) = true
hands_bytes (Arrive bytes time) = bytes_only bytes
hands_bytes (Cut seq internal m time) = bytes_only m
hands_bytes (Overrun time) = true

abbrev pub Bytes : List Event → Type 0
Bytes es = T (all hands_bytes es)

-- the same read book by book, by the messages for that code alone and with no table in it
abbrev pub BookByBook : Type 0
BookByBook =
    (limit : ℕ) (n : Sizes) (es : List Event) → Bytes es → (c : ℕ) → (c ≡ 0 → ⊥)
    → book_in c (end_of limit n es).tables.books ≡ replay_on c (tale limit n es).deeds empty_book

-- and strip by strip, whatever is handed in
abbrev pub StripByStrip : Type 0
StripByStrip =
    (limit : ℕ) (n : Sizes) (es : List Event) (c : ℕ) → (c ≡ 0 → ⊥)
    → strip_in c (end_of limit n es).tables.strips ≡ replay_strip c (tale limit n es).deeds empty_strip

-- "Each side has at most ten rows, best first, no price twice": every slot is sound, and so is every code's book
abbrev pub Sound : Type 0
Sound =
    (limit : ℕ) (n : Sizes) (es : List Event) → Bytes es
    → (all sound (slots_in books (end_of limit n es).tables.books) ≡ true)
    × ((c : ℕ) → SoundBook (book_in c (end_of limit n es).tables.books))

-- and every strip, whatever is handed in
abbrev pub StripsSound : Type 0
StripsSound =
    (limit : ℕ) (n : Sizes) (es : List Event)
    → (all strip.sound (slots_in strips (end_of limit n es).tables.strips) ≡ true)
    × ((c : ℕ) → sound_strip (strip_in c (end_of limit n es).tables.strips) ≡ true)

-- no price twice on a side, for any two ranks
abbrev pub NoPriceTwice : List Row → Type 0
NoPriceTwice s =
    (i j : ℕ) → (i ≡ j → ⊥) → i < length s → j < length s → (get_or s i no_row).price ≡ (get_or s j no_row).price → ⊥

abbrev pub Once : Type 0
Once =
    (limit : ℕ) (n : Sizes) (es : List Event) → Bytes es → (c : ℕ)
    → NoPriceTwice (book_in c (end_of limit n es).tables.books).bids
    × NoPriceTwice (book_in c (end_of limit n es).tables.books).offers

-- so 18 never comes in such a run
abbrev pub Never18 : Type 0
Never18 = (limit : ℕ) (n : Sizes) (es : List Event) (e : Event) → Bytes es → answer_of (end_of limit n es) e ≡ 18 → ⊥

-- "The badge is green exactly when" the history says so
abbrev pub Green : Type 0
Green =
    (limit : ℕ) (n : Sizes) (es : List Event) (time : ℕ)
    → is_green (end_of limit n es) time ≡ green (tale limit n es) (start limit n).feed.limit time

-- THE MORNING OF THE INCIDENT. After a lost message (or any arrival answered 12 to 18 or 22) the badge is not green at any time,
-- whatever comes, as long as no connect is accepted
abbrev pub is_connect : Event → Bool
is_connect (Connect link time) = true
is_connect (Arrive bytes time) = false
is_connect (Cut seq internal m time) = false
is_connect (Overrun time) = false

unfoldable pub connects : Event × ℕ → Bool
connects p = accepted p.1 && is_connect p.0

-- an event answered 12 to 18 or 22
abbrev pub Fails : ℕ → Sizes → List Event → Event → Type 0
Fails limit n es e = T (one_of (answer_of (end_of limit n es) e) ending)

-- none of the events fs that follow es and e, with their answers, passes a test
abbrev pub NoneOf : (Event × ℕ → Bool) → ℕ → Sizes → List Event → Event → List Event → Type 0
NoneOf test limit n es e fs = T (all (λ p. not (test p)) (trace (after (end_of limit n es) e) fs))

abbrev pub LostStaysDark : Type 0
LostStaysDark =
    (limit : ℕ) (n : Sizes) (es : List Event) (e : Event) (fs : List Event) (time : ℕ) → Fails limit n es e → NoneOf connects limit n es e fs
    → is_green (end_of limit n (es ++ (e ∷ fs))) time ≡ false

-- and it is not green either, connects or not, before a logon is accepted: "only 0, 2 and 101 are an accepted logon"
unfoldable pub lets_in : Status → Bool
lets_in Opens = true
lets_in Refills = true
lets_in Stays = false
lets_in Closes = false
lets_in Unlisted = false

unfoldable pub is_logon : Kind → List ℕ → Bool
is_logon (Session SendKey) m = false
is_logon (Session Logon) m = lets_in (status_of (logon_status m))
is_logon (Session Logout) m = false
is_logon (Session Refresh) m = false
is_logon (Session Complete) m = false
is_logon (Session Request) m = false
is_logon (Market d) m = false

unfoldable pub logs_on : Event × ℕ → Bool
logs_on p = accepted p.1 && on_message (λ seq internal m. is_logon (kind m) m) (news p.0)

abbrev pub DarkBeforeLogon : Type 0
DarkBeforeLogon =
    (limit : ℕ) (n : Sizes) (es : List Event) (e : Event) (fs : List Event) (time : ℕ) → Fails limit n es e → NoneOf logs_on limit n es e fs
    → is_green (end_of limit n (es ++ (e ∷ fs))) time ≡ false

-- when the line goes quiet, the badge is not green at any time more than the limit after the last connect or arrival
-- that was accepted, nor before it
abbrev pub Quiet : Type 0
Quiet =
    (limit : ℕ) (n : Sizes) (es : List Event) (time : ℕ) → is_green (end_of limit n es) time ≡ true
    → ((tale limit n es).heard ≤ time) × (time ≤ (tale limit n es).heard + (start limit n).feed.limit)
