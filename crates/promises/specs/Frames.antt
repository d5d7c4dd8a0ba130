-- Whole frames (document 02, request 3): what one hands back, and runs with frames in them. Each statement is proved in proofs/Frames, under its name
-- with a small letter. Assumes nothing.
use Rattle.std.specs.Prelude.{ℕ, zero, suc, ◌+◌, ◌≤◌, ◌<◌, ◌≡◌, Bool, true, false, cond, not, List, [], ◌∷◌, ◌++◌, length, drop, T, eqb}
use Rattle.ground.specs.Choice.{one_of, all}
use Rattle.wire.specs.Number.{bytes_only}
use Rattle.slots.specs.Layout.{slots_in}
use Rattle.ladder.specs.Words.{sound}
use Rattle.books.specs.Table.{books}
use Rattle.strips.specs.Words as strip
use Rattle.strips.specs.Table.{strips}
use Rattle.feed.specs.Events.{State, Event, Arrive}
use Rattle.feed.specs.Steps.{accepted, used_of, state_of, outcome}
use Rattle.feed.specs.Frames.{Framed, framed_of, framed}
use Rattle.promises.specs.Refusals.{answers_to, ending, feed_refused}
use Rattle.promises.specs.Runs.{Sizes, zeroed, start, after, run, answer_of, trace, end_of, tale, is_green, green, replay}
use Rattle.promises.specs.Ledger.{up_to, last_of}
use Rattle.promises.specs.NoHole.{kept}
use Rattle.promises.specs.Demands.{hands_bytes, Bytes, connects}

-- "single calls at the same time", each at the bytes that the one before left, up to one that is not accepted: a frame written out
unfoldable pub singles : ℕ → List ℕ → ℕ → State → List Event
singles zero bytes time s = []
singles (suc left) bytes time s =
    let e : Event = Arrive bytes time in
    e ∷ cond (accepted (answer_of s e)) (singles left (drop (outcome s e).given.used bytes) time (after s e)) []

-- what events and their answers tell: the answers, how many were accepted, and the bytes that those used
unfoldable pub answers_in : List (Event × ℕ) → List ℕ
answers_in [] = []
answers_in (p ∷ ps) = p.1 ∷ answers_in ps

unfoldable pub accepted_in : List (Event × ℕ) → ℕ
accepted_in [] = 0
accepted_in (p ∷ ps) = cond (accepted p.1) 1 0 + accepted_in ps

unfoldable pub used_in : List (Event × ℕ) → ℕ
used_in [] = 0
used_in (p ∷ ps) = used_of p.1 p.0 + used_in ps

-- document 02, request 6: the rows that events drop, one after the other
unfoldable pub dropped_in : State → List Event → ℕ
dropped_in s [] = 0
dropped_in s (e ∷ es) = (outcome s e).given.dropped + dropped_in (after s e) es

-- "It reports how many it accepted, the bytes used and the last answer", 0 where there is none, "and ends exactly where single calls at the same time
-- would": all of it by the single calls, their answers, the rows they drop and where they end
abbrev pub told : List (Event × ℕ) → ℕ → State → Framed
told ps n s = framed_of (record { answer = last_of 0 (answers_in ps); accepted = accepted_in ps; used = used_in ps; feed = s.feed; dropped = n }) s.tables

abbrev pub FrameTells : Type 0
FrameTells =
    (s : State) (bytes : List ℕ) (allowed time : ℕ)
    → let es : List Event = singles allowed bytes time s in
    framed s bytes allowed time ≡ told (trace s es) (dropped_in s es) (run s es)

-- any bytes, any tables, any clock reading and any number allowed gets one of an arrival's answers
abbrev pub FrameListed : Type 0
FrameListed = (s : State) (bytes : List ℕ) (allowed time : ℕ) → T (one_of (framed s bytes allowed time).frame.answer (answers_to (Arrive bytes time)))

-- no more are accepted than are allowed, and no more bytes are used than there are
abbrev pub FrameWithin : Type 0
FrameWithin =
    (s : State) (bytes : List ℕ) (allowed time : ℕ)
    → ((framed s bytes allowed time).frame.accepted ≤ allowed) × ((framed s bytes allowed time).frame.used ≤ length bytes)

-- fewer are accepted than are allowed exactly if the last answer is not 0, 1 or 2
abbrev pub FrameFewer : Type 0
FrameFewer =
    (s : State) (bytes : List ℕ) (allowed time : ℕ)
    → ((framed s bytes allowed time).frame.accepted < allowed → accepted (framed s bytes allowed time).frame.answer ≡ false)
    × (accepted (framed s bytes allowed time).frame.answer ≡ false → (framed s bytes allowed time).frame.accepted < allowed)

-- the feed and the tables that a frame leaves, and the bytes
abbrev pub state_in : Framed → State
state_in o = state_of o.frame.feed o.tables

abbrev pub rest_of : List ℕ → Framed → List ℕ
rest_of bytes o = drop o.frame.used bytes

-- two frames as one: with a second of 0 units the last answer is the first's
abbrev pub joined : ℕ → Framed → Framed → Framed
joined b x y =
    framed_of
    (record {
      answer = cond (eqb b 0) x.frame.answer y.frame.answer;
      accepted = x.frame.accepted + y.frame.accepted;
      used = x.frame.used + y.frame.used;
      feed = y.frame.feed;
      dropped = x.frame.dropped + y.frame.dropped;
    })
    y.tables

-- a frame of a, then one of b on the rest, is one of a + b where the first accepted a; and where it did not, a + b end where a do
abbrev pub FrameJoins : Type 0
FrameJoins =
    (s : State) (bytes : List ℕ) (a b time : ℕ) → (framed s bytes a time).frame.accepted ≡ a
    → framed s bytes (a + b) time
    ≡ joined b (framed s bytes a time) (framed (state_in (framed s bytes a time)) (rest_of bytes (framed s bytes a time)) b time)

abbrev pub FrameStops : Type 0
FrameStops =
    (s : State) (bytes : List ℕ) (a b time : ℕ) → (framed s bytes a time).frame.accepted < a
    → framed s bytes (a + b) time ≡ framed s bytes a time

-- a refusal in a frame, or More: what stands before it stays applied, it writes nothing itself, uses nothing, counts for nothing and drops nothing, and
-- "document 01 says what becomes of the feed"
abbrev pub refused_after : ℕ → Framed → Framed
refused_after n x =
    framed_of (record { answer = n; accepted = x.frame.accepted; used = x.frame.used; feed = feed_refused n x.frame.feed; dropped = x.frame.dropped }) x.tables

abbrev pub FrameRefused : Type 0
FrameRefused =
    (s : State) (bytes : List ℕ) (allowed time : ℕ) → accepted (framed s bytes allowed time).frame.answer ≡ false
    → framed s bytes allowed time
    ≡ refused_after (framed s bytes allowed time).frame.answer (framed s bytes (framed s bytes allowed time).frame.accepted time)

-- RUNS WITH FRAMES. What a desk calls: one event, or a frame
pub data Act : Type 0 where
  One : (event : Event) → Act
  AtOnce : (bytes : List ℕ) (allowed time : ℕ) → Act

unfoldable pub after_act : State → Act → State
after_act s (One e) = after s e
after_act s (AtOnce bytes allowed time) = state_in (framed s bytes allowed time)

unfoldable pub run_acts : State → List Act → State
run_acts s [] = s
run_acts s (a ∷ acts) = run_acts (after_act s a) acts

-- each frame written out as its single arrivals: one of 0 units "counts as no arrival"
unfoldable pub events_of : State → Act → List Event
events_of s (One e) = e ∷ []
events_of s (AtOnce bytes allowed time) = singles allowed bytes time s

unfoldable pub written : State → List Act → List Event
written s [] = []
written s (a ∷ acts) = events_of s a ++ written (after_act s a) acts

-- a run with frames is the run with each frame written out
abbrev pub WrittenOut : Type 0
WrittenOut = (s : State) (acts : List Act) → run_acts s acts ≡ run s (written s acts)

-- so whatever is so of every run of single calls, of its events and of where it ends, is so of every run with frames: demands 1 to 3, said once
abbrev pub WithFrames : Type 1
WithFrames =
    (limit : ℕ) (n : Sizes) (P : List Event → State → Type 0) → ((es : List Event) → P es (end_of limit n es))
    → (acts : List Act) → P (written (start limit n) acts) (run_acts (start limit n) acts)

-- and where a demand asks that what is handed in are bytes, it asks that of the frames
unfoldable pub acts_bytes : Act → Bool
acts_bytes (One e) = hands_bytes e
acts_bytes (AtOnce bytes allowed time) = bytes_only bytes

abbrev pub WrittenBytes : Type 0
WrittenBytes = (s : State) (acts : List Act) → T (all acts_bytes acts) → Bytes (written s acts)

-- for instance: where a run with frames ends, and the events that it is
abbrev pub end_acts : ℕ → Sizes → List Act → State
end_acts limit n acts = run_acts (start limit n) acts

abbrev pub written_acts : ℕ → Sizes → List Act → List Event
written_acts limit n acts = written (start limit n) acts

-- DEMAND 2 with frames: while the badge is green, every counted message that came since the connect has been met, in its order, none left out
abbrev pub FramesNoneLeftOut : Type 0
FramesNoneLeftOut =
    (limit : ℕ) (n : Sizes) (acts : List Act) (time : ℕ) → is_green (end_acts limit n acts) time ≡ true
    → ((kept limit n (written_acts limit n acts)).came ≡ (kept limit n (written_acts limit n acts)).met)
    × ((kept limit n (written_acts limit n acts)).met ≡ up_to (length (kept limit n (written_acts limit n acts)).met))

-- DEMAND 3 with frames: the tables are the replay, the badge is green exactly when the history says so, and sides and strips are sound
abbrev pub FramesReplayed : Type 0
FramesReplayed = (limit : ℕ) (n : Sizes) (acts : List Act) → (end_acts limit n acts).tables ≡ replay (tale limit n (written_acts limit n acts)).deeds (zeroed n)

abbrev pub FramesGreen : Type 0
FramesGreen =
    (limit : ℕ) (n : Sizes) (acts : List Act) (time : ℕ)
    → is_green (end_acts limit n acts) time ≡ green (tale limit n (written_acts limit n acts)) (start limit n).feed.limit time

abbrev pub FramesSound : Type 0
FramesSound =
    (limit : ℕ) (n : Sizes) (acts : List Act) → T (all acts_bytes acts)
    → (all sound (slots_in books (end_acts limit n acts).tables.books) ≡ true)
    × (all strip.sound (slots_in strips (end_acts limit n acts).tables.strips) ≡ true)

-- THE MORNING OF THE INCIDENT. After a frame whose last answer is 12 to 18 the badge is not green at any time, whatever comes, in frames or not,
-- as long as no connect is accepted
abbrev pub FrameStaysDark : Type 0
FrameStaysDark =
    (limit : ℕ) (n : Sizes) (acts : List Act) (bytes : List ℕ) (allowed moment : ℕ) (more : List Act) (time : ℕ)
    → let lost : Framed = framed (end_acts limit n acts) bytes allowed moment in
    T (one_of lost.frame.answer ending)
    → T (all (λ p. not (connects p)) (trace (state_in lost) (written (state_in lost) more)))
    → is_green (end_acts limit n (acts ++ (AtOnce bytes allowed moment ∷ more))) time ≡ false
