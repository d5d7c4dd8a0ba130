-- Scraps through a holding buffer (document 02, request 5): what a line hands back, scraps as one piece, and runs of a line's calls. Each statement is
-- proved in proofs/Scraps, Cuts, Singles or Lines, under its name with a small letter. Assumes nothing.
use Rattle.std.specs.Prelude.{ℕ, zero, suc, ◌+◌, ◌≤◌, ◌<◌, ◌≡◌, Bool, true, false, cond, not, ◌&&◌, ◌||◌, List, [], ◌∷◌, ◌++◌, length, take, drop, T, ltb, leb, eqb}
use Rattle.ground.specs.Choice.{one_of, all}
use Rattle.wire.specs.Number.{bytes_only}
use Rattle.slots.specs.Layout.{slots_in}
use Rattle.ladder.specs.Words.{sound}
use Rattle.books.specs.Table.{books}
use Rattle.strips.specs.Words as strip
use Rattle.strips.specs.Table.{strips}
use Rattle.feed.specs.Feeds.{deaf}
use Rattle.feed.specs.Events.{Tables, State, Event, Connect, Arrive, Cut, Overrun, news}
use Rattle.feed.specs.Answers.{is_more}
use Rattle.feed.specs.Steps.{accepted, state_of, outcome}
use Rattle.feed.specs.Frames.{Framed, framed}
use Rattle.feed.specs.declared.Given.{Given}
use Rattle.feed.specs.declared.Link.{Link}
use Rattle.lines.specs.Looks.{least_hold, exceeds, look}
use Rattle.lines.specs.Scraps.{Heard, Hearing, hearing, behind, silent, onward, goes_on, hears, links}
use Rattle.lines.specs.declared.Look.{Look}
use Rattle.lines.specs.declared.Look.TheVariants.{Waits, TooLong, Finished}
use Rattle.lines.specs.declared.Line.{Line}
use Rattle.lines.specs.declared.Linked.{Linked}
use Rattle.promises.specs.Refusals.{ending, feed_refused}
use Rattle.promises.specs.Runs.{Sizes, zeroed, start, after, run, answer_of, trace, end_of, tale, is_green, green, replay}
use Rattle.promises.specs.Ledger.{up_to, last_of}
use Rattle.promises.specs.NoHole.{kept}
use Rattle.promises.specs.Demands.{Bytes, is_connect, connects}
use Rattle.promises.specs.Frames.{answers_in, accepted_in, dropped_in, state_in}

-- a line with its tables, and the feed with them
pub record Lined : Type 0 where
  pub line : Line
  pub tables : Tables

abbrev pub lined : Line → Tables → Lined
lined l x = record { line = l; tables = x }

abbrev pub state_on : Lined → State
state_on x = state_of x.line.feed x.tables

abbrev pub lined_in : Hearing → Lined
lined_in y = lined y.heard.line y.tables

-- a scrap handed to a line that has some bytes in its buffer, with so many units allowed
abbrev pub opens : Lined → List ℕ → Hearing
opens x hold = hearing (silent 0 x.line) x.tables hold

abbrev pub scrapped : Lined → List ℕ → List ℕ → ℕ → ℕ → Hearing
scrapped x hold scrap allowed time = hears x.line x.tables hold scrap allowed time

-- A SCRAP WRITTEN OUT: the events that its units are. One that only waits is none, and a line that drops meets none
unfoldable pub due_events : Look → List ℕ → ℕ → List Event
due_events Waits s time = []
due_events TooLong s time = Overrun time ∷ []
due_events (Finished n) s time = Arrive (take n s) time ∷ []

unfoldable pub turn_events : Line → List ℕ → List ℕ → ℕ → List Event
turn_events l hold scrap time =
    cond l.dropping []
    (due_events (look (length hold) l.held (behind l.held hold scrap)) (behind l.held hold scrap) time)

unfoldable pub units : ℕ → List ℕ → ℕ → Hearing → List Event
units zero scrap time y = []
units (suc left) scrap time y =
    let z : Hearing = onward scrap time y in
    turn_events y.heard.line y.hold (drop y.heard.used scrap) time ++ cond (goes_on z.heard) (units left scrap time z) []

abbrev pub scrap_events : Lined → List ℕ → List ℕ → ℕ → ℕ → List Event
scrap_events x hold scrap allowed time = units allowed scrap time (opens x hold)

-- the events of a scrap with their answers
abbrev pub scrap_said : Lined → List ℕ → List ℕ → ℕ → ℕ → List (Event × ℕ)
scrap_said x hold scrap allowed time = trace (state_on x) (scrap_events x hold scrap allowed time)

-- DEMAND 1 of a scrap. What it hands back, by its events: the feed and the tables, how many were accepted, the last answer where one is said,
-- and the rows dropped
abbrev pub ScrapTells : Type 0
ScrapTells =
    (x : Lined) (hold scrap : List ℕ) (allowed time : ℕ)
    → let y : Hearing = scrapped x hold scrap allowed time in
    (state_on (lined_in y) ≡ run (state_on x) (scrap_events x hold scrap allowed time))
    × (y.heard.accepted ≡ accepted_in (scrap_said x hold scrap allowed time))
    × (y.heard.said ≡ true → y.heard.answer ≡ last_of 0 (answers_in (scrap_said x hold scrap allowed time)))
    × (y.heard.said ≡ false → y.heard.answer ≡ 0)
    × (y.heard.dropped ≡ dropped_in (state_on x) (scrap_events x hold scrap allowed time))

-- any bytes, any tables, any buffer, any clock reading and any number allowed gets one of these: no scrap is answered 3
abbrev pub scrap_answers : List ℕ
scrap_answers = 10 ∷ 11 ∷ 22 ∷ 12 ∷ 13 ∷ 14 ∷ 1 ∷ 15 ∷ 18 ∷ 17 ∷ 16 ∷ 2 ∷ 0 ∷ []

abbrev pub ScrapListed : Type 0
ScrapListed = (x : Lined) (hold scrap : List ℕ) (allowed time : ℕ) → T (one_of (scrapped x hold scrap allowed time).heard.answer scrap_answers)

-- "under exactly its stated condition": of one unit, there is an answer exactly if 22 is due or the reader would not say More, and it is 22 exactly if 22
-- is due and neither 10 nor 11 comes first
abbrev pub ScrapExactly : Type 0
ScrapExactly =
    (x : Lined) (hold scrap : List ℕ) (time : ℕ) → x.line.dropping ≡ false
    → let s : List ℕ = behind x.line.held hold scrap in
    let long : Bool = exceeds (length hold) x.line.held s in
    let r : Heard = (scrapped x hold scrap 1 time).heard in
    (r.said ≡ (long || not (is_more (news (Arrive s time)))))
    × (eqb r.answer 22 ≡ (long && not (ltb time x.line.feed.heard) && not (deaf x.line.feed.phase)))

-- what the feed makes of a connect
abbrev pub linked : Lined → List ℕ → Link → ℕ → Given
linked x hold link time = (outcome (state_on x) (Connect link time)).given

-- a connect: the feed's answer, or 22 where that is 0 and the buffer is "too short for the header and MsgSize"; accepted, it "empties the holding buffer" and
-- ends the dropping; refused, everything is unchanged
abbrev pub LinkTells : Type 0
LinkTells =
    (x : Lined) (hold : List ℕ) (link : Link) (time : ℕ)
    → let r : Linked = links (linked x hold link time) x.line hold in
    let n : ℕ = answer_of (state_on x) (Connect link time) in
    (r.answer ≡ cond (eqb n 0 && ltb (length hold) least_hold) 22 n)
    × (r.answer ≡ 0 → r.line ≡ record { feed = (after (state_on x) (Connect link time)).feed; held = 0; dropping = false })
    × ((r.answer ≡ 0 → ⊥) → r.line ≡ x.line)

abbrev pub LinkListed : Type 0
LinkListed =
    (x : Lined) (hold : List ℕ) (link : Link) (time : ℕ)
    → T (one_of (links (linked x hold link time) x.line hold).answer (10 ∷ 20 ∷ 22 ∷ 0 ∷ []))

-- how a scrap ends: with no answer all of it is used; with an accepted one the allowed number is reached
abbrev pub ScrapEnds : Type 0
ScrapEnds =
    (x : Lined) (hold scrap : List ℕ) (allowed time : ℕ)
    → let y : Hearing = scrapped x hold scrap (suc allowed) time in
    (y.heard.said ≡ false → y.heard.used ≡ length scrap)
    × (y.heard.said ≡ true → accepted y.heard.answer ≡ true → y.heard.accepted ≡ suc allowed)

-- .. or with a refusal: all of it is used, nothing waits, and the line drops. What was accepted before stays applied; the refused writes no word of a table
-- and counts for nothing, and documents 01 and 02 say what becomes of the feed
abbrev pub ended_by : ℕ → List ℕ → Hearing → Heard
ended_by n scrap y = record {
  said = true;
  answer = n;
  accepted = y.heard.accepted;
  used = length scrap;
  line = record { feed = feed_refused n y.heard.line.feed; held = 0; dropping = true };
  dropped = y.heard.dropped;
}

abbrev pub ScrapRefused : Type 0
ScrapRefused =
    (x : Lined) (hold scrap : List ℕ) (allowed time : ℕ)
    → let y : Hearing = scrapped x hold scrap allowed time in
    let before : Hearing = scrapped x hold scrap y.heard.accepted time in
    y.heard.said ≡ true → accepted y.heard.answer ≡ false
    → (y.heard ≡ ended_by y.heard.answer scrap before) × (y.tables ≡ before.tables)

-- no more are accepted than are allowed, no more bytes used than there are, and no more wait than waited and were used
abbrev pub ScrapWithin : Type 0
ScrapWithin =
    (x : Lined) (hold scrap : List ℕ) (allowed time : ℕ)
    → let y : Hearing = scrapped x hold scrap allowed time in
    (y.heard.accepted ≤ allowed) × (y.heard.used ≤ length scrap) × (y.heard.line.held ≤ x.line.held + y.heard.used)

-- the buffer is as long as it was, and what waits fits it where it did before
abbrev pub ScrapHolds : Type 0
ScrapHolds =
    (x : Lined) (hold scrap : List ℕ) (allowed time : ℕ)
    → let y : Hearing = scrapped x hold scrap allowed time in
    (length y.hold ≡ length hold) × (x.line.held ≤ length hold → y.heard.line.held ≤ length hold)

-- "finished units go through the feed, the rest waits": no byte is lost. While a line does not drop, what waited and came is the units that went through
-- the feed, one behind the other, then what waits, and what is left of the scrap
unfoldable pub bytes_in : List Event → List ℕ
bytes_in [] = []
bytes_in (Connect link time ∷ es) = bytes_in es
bytes_in (Arrive bytes time ∷ es) = bytes ++ bytes_in es
bytes_in (Cut seq internal m time ∷ es) = bytes_in es
bytes_in (Overrun time ∷ es) = bytes_in es

abbrev pub NoByteLost : Type 0
NoByteLost =
    (x : Lined) (hold scrap : List ℕ) (allowed time : ℕ)
    → let y : Hearing = scrapped x hold scrap allowed time in
    y.heard.line.dropping ≡ false
    → behind x.line.held hold scrap
    ≡ bytes_in (scrap_events x hold scrap allowed time) ++ behind y.heard.line.held y.hold (drop y.heard.used scrap)

-- nothing waits before it or after it: no byte of the buffer is written
abbrev pub NothingCopied : Type 0
NothingCopied =
    (x : Lined) (hold scrap : List ℕ) (allowed time : ℕ) → x.line.held ≡ 0 → (scrapped x hold scrap allowed time).heard.line.held ≡ 0
    → (scrapped x hold scrap allowed time).hold ≡ hold

-- "what follows a refusal is dropped, without an answer, until the next accepted connect": no line, no word and no byte of the buffer changes
abbrev pub ScrapDropped : Type 0
ScrapDropped =
    (x : Lined) (hold scrap : List ℕ) (allowed time : ℕ) → x.line.dropping ≡ true
    → scrapped x hold scrap (suc allowed) time ≡ hearing (silent (length scrap) x.line) x.tables hold

-- THE SENTENCE OF DOCUMENT 02. "Given the same time and holding buffer throughout, cutting a byte run into any scraps, some of them empty, gives the same
-- answers, tables and feed as one piece, up to and including the first refusal": what is seen of a line are its events with their answers, the feed and
-- the tables, the bytes that wait, and whether it drops
pub record View : Type 0 where
  pub said : List (Event × ℕ)
  pub state : State
  pub waiting : List ℕ
  pub dropping : Bool

abbrev pub view : List (Event × ℕ) → Hearing → View
view said y = record {
  said = said;
  state = state_on (lined_in y);
  waiting = take y.heard.line.held y.hold;
  dropping = y.heard.line.dropping;
}

-- scraps handed in one after the other, at each so many units allowed
unfoldable pub scraps : List (Event × ℕ) → Lined → List ℕ → List (List ℕ) → ℕ → ℕ → View
scraps said x hold [] allowed time = view said (opens x hold)
scraps said x hold (s ∷ ss) allowed time =
    let y : Hearing = scrapped x hold s allowed time in
    scraps (said ++ scrap_said x hold s allowed time) (lined_in y) y.hold ss allowed time

unfoldable pub one_piece : List (List ℕ) → List ℕ
one_piece [] = []
one_piece (s ∷ ss) = s ++ one_piece ss

-- enough are allowed: no more units can be finished than bytes wait and come
abbrev pub Enough : Lined → List ℕ → List ℕ → ℕ → Type 0
Enough x hold bytes allowed = length (behind x.line.held hold bytes) < allowed

abbrev pub AnyScraps : Type 0
AnyScraps =
    (x : Lined) (hold s : List ℕ) (ss : List (List ℕ)) (allowed time : ℕ) → Enough x hold (one_piece (s ∷ ss)) allowed
    → scraps [] x hold (s ∷ ss) allowed time ≡ scraps [] x hold (one_piece (s ∷ ss) ∷ []) allowed time

-- and any two numbers that are enough do the same, to every byte of the buffer
abbrev pub MoreAllowed : Type 0
MoreAllowed =
    (x : Lined) (hold scrap : List ℕ) (a b time : ℕ) → Enough x hold scrap a → Enough x hold scrap b
    → (scrapped x hold scrap a time ≡ scrapped x hold scrap b time)
    × (scrap_events x hold scrap a time ≡ scrap_events x hold scrap b time)

-- come again with the rest: a units, and then b on what is left, are a + b where a were accepted; and where fewer were, a + b end where a do
abbrev pub on_top : ℕ → Hearing → Hearing → Hearing
on_top b y z =
    hearing
    (record {
      said = cond (eqb b 0) y.heard.said z.heard.said;
      answer = cond (eqb b 0) y.heard.answer z.heard.answer;
      accepted = y.heard.accepted + z.heard.accepted;
      used = y.heard.used + z.heard.used;
      line = z.heard.line;
      dropped = y.heard.dropped + z.heard.dropped;
    })
    z.tables
    z.hold

abbrev pub ScrapJoins : Type 0
ScrapJoins =
    (x : Lined) (hold scrap : List ℕ) (a b time : ℕ)
    → let y : Hearing = scrapped x hold scrap a time in
    y.heard.accepted ≡ a
    → scrapped x hold scrap (a + b) time ≡ on_top b y (scrapped (lined_in y) y.hold (drop y.heard.used scrap) b time)

abbrev pub ScrapStops : Type 0
ScrapStops =
    (x : Lined) (hold scrap : List ℕ) (a b time : ℕ) → (scrapped x hold scrap a time).heard.accepted < a
    → scrapped x hold scrap (a + b) time ≡ scrapped x hold scrap a time

-- SINGLE ARRIVALS. Where 22 is never due, the answers are those of single arrivals at the bytes that wait and the scrap behind them (request 3's frames are
-- made of them), but for an answer to what is no finished unit: 3, and a 10 or 11 that comes when it is; and the bytes that wait, with those that are left of
-- the scrap, are the bytes that single arrivals leave. Said for every number allowed, so of each answer
unfoldable pub is_overrun : Event → Bool
is_overrun (Connect link time) = false
is_overrun (Arrive bytes time) = false
is_overrun (Cut seq internal m time) = false
is_overrun (Overrun time) = true

abbrev pub Fits : Lined → List ℕ → List ℕ → ℕ → ℕ → Type 0
Fits x hold scrap allowed time = T (all (λ e. not (is_overrun e)) (scrap_events x hold scrap allowed time))

abbrev pub ScrapIsFrame : Type 0
ScrapIsFrame =
    (x : Lined) (hold scrap : List ℕ) (allowed time : ℕ) → x.line.dropping ≡ false → x.line.held ≤ length hold → Fits x hold scrap allowed time
    → let y : Hearing = scrapped x hold scrap allowed time in
    let f : Framed = framed (state_on x) (behind x.line.held hold scrap) allowed time in
    (state_in f ≡ state_on (lined_in y))
    × (f.frame.accepted ≡ y.heard.accepted)
    × (y.heard.said ≡ true → f.frame.answer ≡ y.heard.answer)
    × (y.heard.said ≡ false → (allowed ≡ 0 → ⊥) → T (one_of f.frame.answer (3 ∷ 10 ∷ 11 ∷ [])))
    × (y.heard.line.dropping ≡ false → behind y.heard.line.held y.hold (drop y.heard.used scrap) ≡ drop f.frame.used (behind x.line.held hold scrap))
    × (f.frame.dropped ≡ y.heard.dropped)

-- and with a buffer for the longest unit, of 20 + 65,535 bytes, 22 is never due of bytes
abbrev pub longest : ℕ
longest = 65555

abbrev pub RoomForAll : Type 0
RoomForAll =
    (x : Lined) (hold scrap : List ℕ) (allowed time : ℕ) → longest ≤ length hold → x.line.held ≤ length hold → T (bytes_only hold) → T (bytes_only scrap)
    → Fits x hold scrap allowed time

-- RUNS OF A LINE'S CALLS. A connect, or a scrap with so many units allowed, each with a buffer, whatever stands in it
pub data LineAct : Type 0 where
  Links : (hold : List ℕ) (link : Link) (time : ℕ) → LineAct
  Hears : (hold scrap : List ℕ) (allowed time : ℕ) → LineAct

unfoldable pub after_line : Lined → LineAct → Lined
after_line x (Links hold link time) = lined (links (linked x hold link time) x.line hold).line x.tables
after_line x (Hears hold scrap allowed time) = lined_in (scrapped x hold scrap allowed time)

unfoldable pub run_line : Lined → List LineAct → Lined
run_line x [] = x
run_line x (a ∷ acts) = run_line (after_line x a) acts

-- each written out as its events: a connect that is refused for its buffer counts for nothing
unfoldable pub line_events : Lined → LineAct → List Event
line_events x (Links hold link time) = cond (eqb (links (linked x hold link time) x.line hold).answer 22) [] (Connect link time ∷ [])
line_events x (Hears hold scrap allowed time) = scrap_events x hold scrap allowed time

unfoldable pub written_line : Lined → List LineAct → List Event
written_line x [] = []
written_line x (a ∷ acts) = line_events x a ++ written_line (after_line x a) acts

-- a run of a line's calls is the run of its events
abbrev pub LineWritten : Type 0
LineWritten = (x : Lined) (acts : List LineAct) → state_on (run_line x acts) ≡ run (state_on x) (written_line x acts)

-- a new line: a new feed, nothing waits, nothing is dropped; where a run from it ends, and the events that it is
abbrev pub new_line : ℕ → Sizes → Lined
new_line limit n = lined (record { feed = (start limit n).feed; held = 0; dropping = false }) (zeroed n)

abbrev pub end_line : ℕ → Sizes → List LineAct → Lined
end_line limit n acts = run_line (new_line limit n) acts

abbrev pub line_run : ℕ → Sizes → List LineAct → List Event
line_run limit n acts = written_line (new_line limit n) acts

-- so whatever is so of every run of single calls, of its events and of where it ends, is so of every run of a line's calls: demands 1 to 3, said once
abbrev pub WithLines : Type 1
WithLines =
    (limit : ℕ) (n : Sizes) (P : List Event → State → Type 0) → ((es : List Event) → P es (end_of limit n es))
    → (acts : List LineAct) → P (line_run limit n acts) (state_on (end_line limit n acts))

-- and where a demand asks that what is handed in are bytes, it asks that of the scraps and of the buffers
unfoldable pub line_bytes : LineAct → Bool
line_bytes (Links hold link time) = true
line_bytes (Hears hold scrap allowed time) = bytes_only hold && bytes_only scrap

abbrev pub LineWrittenBytes : Type 0
LineWrittenBytes = (x : Lined) (acts : List LineAct) → T (all line_bytes acts) → Bytes (written_line x acts)

-- DEMAND 2 of a line: while the badge is green, every counted message that went through the feed since the connect has been met, in its order, none
-- left out. What a line drops did not go through the feed; while it does not drop, no arrival was refused since the connect (LinesDrop), and no byte is
-- lost (NoByteLost)
abbrev pub LinesNoneLeftOut : Type 0
LinesNoneLeftOut =
    (limit : ℕ) (n : Sizes) (acts : List LineAct) (time : ℕ) → is_green (state_on (end_line limit n acts)) time ≡ true
    → ((kept limit n (line_run limit n acts)).came ≡ (kept limit n (line_run limit n acts)).met)
    × ((kept limit n (line_run limit n acts)).met ≡ up_to (length (kept limit n (line_run limit n acts)).met))

-- DEMAND 3 of a line: the tables are the replay, the badge is green exactly when the history says so, and sides and strips are sound
abbrev pub LinesReplayed : Type 0
LinesReplayed = (limit : ℕ) (n : Sizes) (acts : List LineAct) → (end_line limit n acts).tables ≡ replay (tale limit n (line_run limit n acts)).deeds (zeroed n)

abbrev pub LinesGreen : Type 0
LinesGreen =
    (limit : ℕ) (n : Sizes) (acts : List LineAct) (time : ℕ)
    → is_green (state_on (end_line limit n acts)) time ≡ green (tale limit n (line_run limit n acts)) (start limit n).feed.limit time

abbrev pub LinesSound : Type 0
LinesSound =
    (limit : ℕ) (n : Sizes) (acts : List LineAct) → T (all line_bytes acts)
    → (all sound (slots_in books (end_line limit n acts).tables.books) ≡ true)
    × (all strip.sound (slots_in strips (end_line limit n acts).tables.strips) ≡ true)

-- no connect is accepted
abbrev pub NoConnect : Lined → List LineAct → Type 0
NoConnect x acts = T (all (λ p. not (connects p)) (trace (state_on x) (written_line x acts)))

-- THE MORNING OF THE INCIDENT. After a scrap answered 12 to 18 or 22 the badge is not green at any time, whatever comes, as long as no connect is accepted
abbrev pub LineStaysDark : Type 0
LineStaysDark =
    (limit : ℕ) (n : Sizes) (acts : List LineAct) (hold scrap : List ℕ) (allowed moment : ℕ) (more : List LineAct) (time : ℕ)
    → let lost : Hearing = scrapped (end_line limit n acts) hold scrap allowed moment in
    T (one_of lost.heard.answer ending)
    → NoConnect (lined_in lost) more
    → is_green (state_on (end_line limit n (acts ++ (Hears hold scrap allowed moment ∷ more)))) time ≡ false

-- WHAT DROPS. A line drops exactly if an arrival was refused, with 10 and 11 too, and no connect was accepted since: by its events and their answers alone
unfoldable pub refused_since : Bool → List (Event × ℕ) → Bool
refused_since b [] = b
refused_since b (p ∷ ps) = refused_since (cond (is_connect p.0) (b && not (accepted p.1)) (b || not (accepted p.1))) ps

abbrev pub LinesDrop : Type 0
LinesDrop =
    (x : Lined) (acts : List LineAct) → (run_line x acts).line.dropping ≡ refused_since x.line.dropping (trace (state_on x) (written_line x acts))

-- and while it drops nothing of it changes, whatever scraps and refused connects come
abbrev pub DropsAll : Type 0
DropsAll = (x : Lined) (acts : List LineAct) → x.line.dropping ≡ true → NoConnect x acts → run_line x acts ≡ x

-- WHAT THAT DOES TO THE BADGE. After 10, which leaves the feed, a badge that is green stays green: exactly up to the limit after the last that was heard
abbrev pub GreenToTheLimit : Type 0
GreenToTheLimit =
    (x : Lined) (acts : List LineAct) (moment time : ℕ) → x.line.dropping ≡ true → NoConnect x acts → is_green (state_on x) moment ≡ true
    → is_green (state_on (run_line x acts)) time ≡ (leb x.line.feed.heard time && leb time (x.line.feed.heard + x.line.feed.limit))
