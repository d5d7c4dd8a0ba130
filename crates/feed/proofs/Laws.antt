-- Laws of the feed that later work needs. Assumes nothing.
use Prim.Native.Nat.{ℕ, ◌≤◌, zero-le}
use mathlib.Core.Path.{◌≡◌, refl, ap, sym, ◌∙◌}
use mathlib.Core.Bool.{Bool, true, false, cond, not}
use mathlib.Core.List.{List}
use native.Mathlib.Omega.{arith}
use lib.ListN.{length}
use lib.Dec.{T, eqb}
use Rattle.ground.specs.Choice.{pick, first, all}
use Rattle.wire.specs.Units.{unit_of}
use Rattle.wire.specs.declared.Unit.{Unit}
use Rattle.wire.specs.declared.Unit.TheVariants as unit
use Rattle.ground.proofs.Choices.{first_may, first_skips, first_fails, first_settles, first_append, first_none}
use Rattle.wire.proofs.Fronts.{unit_fits, message_length, heartbeat_fits}
use Rattle.wire.specs.Codes.{security_code}
use Rattle.ladder.proofs.Walks.{drops_few}
use Rattle.books.specs.Table.{book_in}
use Rattle.feed.specs.Messages.{kind, wrong_size}
use Rattle.feed.specs.Feeds.{phase_no, phase_of, badge, badge_no, badge_of, plain_badge}
use Rattle.feed.specs.Events.{Tables, State, Event, Arrive, time_of, News, Linked, More, Heartbeat, TooLong, Message, cut_from, news, on_message, news_size, offered}
use Rattle.feed.specs.Answers.{number, line_tests, table_tests, tests, answer_to, reply}
use Rattle.feed.specs.Code.Judging.{verdict}
use Rattle.feed.specs.Steps.{drops, news_drops, dropped_on, accepted, used_of, state_of, handed, outcome}
use Rattle.feed.specs.Code.Judging.{on_tables}
use Rattle.feed.specs.declared.Phase.{Phase}
use Rattle.feed.specs.declared.Phase.TheVariants.{Idle, WaitKey, WaitLogon, Refreshing, Live, Lost, Closed}
use Rattle.feed.specs.declared.Kind.{Kind}
use Rattle.feed.specs.declared.Kind.TheVariants.{Session, Market}
use Rattle.feed.specs.declared.Datum.TheVariants.{Book, Strip, Other}
use Rattle.feed.specs.declared.Feed.{Feed}
use Rattle.feed.specs.Answers.{Answer, Keep, Lose, Spoil, Skip, Take}
use Rattle.feed.proofs.Parts.{book_right}

-- an answer with a number; one that leaves the last word to the tables
abbrev pub numbered : ℕ → Answer → Bool
numbered k a = eqb (number a) k

unfoldable pub is_take : Answer → Bool
is_take (Keep n) = false
is_take (Lose n) = false
is_take (Spoil n) = false
is_take (Skip n) = false
is_take (Take n) = true

-- the feed's verdict is the answer, whatever the tables, unless it leaves the answer to them
module _ (f : Feed) (x : Tables) (e : Event) (a : Answer) (v : a ≡ verdict f (time_of e) (news e)) where
  abbrev own : List (Bool × Answer)
  own = line_tests f (time_of e) (news e)

  abbrev theirs : Answer
  theirs = first (table_tests x (time_of e) (news e)) (Take 0)

  in_parts : reply (state_of f x) e ≡ first own theirs
  unfolding tests
  in_parts = first_append own (table_tests x (time_of e) (news e)) (Take 0)

  pub alone : T (not (is_take a)) → outcome (state_of f x) e ≡ handed a (state_of f x) e
  unfolding outcome is_take
  alone h =
      ap (λ (b : Answer). handed b (state_of f x) e)
      (in_parts ∙ first_settles (λ (b : Answer). not (is_take b)) own (Take 0) theirs (rw (← v) h) refl ∙ sym v)

  pub left : T (is_take a) → outcome (state_of f x) e ≡ on_tables (state_of f x) e
  unfolding outcome on_tables line_tests all is_take
  left h = ap (λ (b : Answer). handed b (state_of f x) e) (in_parts ∙ first_none own theirs (first_fails is_take own (Take 0) (rw (← v) h) tt))

-- what stands at the front of bytes is within them
unit_size : (s : List ℕ) (u : Unit) → unit_of s ≡ u → news_size (cut_from s u) ≤ length s
unfolding news_size cut_from
unit_size s unit.More e = zero-le
unit_size s unit.Heartbeat e = heartbeat_fits s e
unit_size s (unit.Message q i n) e = rw (message_length s q i n e) (unit_fits s q i n e)

-- the bytes used of an arrival are at most the bytes handed in
pub used_fits : (x : State) (s : List ℕ) (time : ℕ) → (outcome x (Arrive s time)).given.used ≤ length s
unfolding outcome handed used_of offered news
used_fits x s time = go (accepted (number (reply x (Arrive s time))))
  where
    go : (b : Bool) → cond b (news_size (cut_from s (unit_of s))) 0 ≤ length s
    go true = unit_size s (unit_of s) refl
    go false = zero-le

-- a message of the right size drops at most as many rows as it has bytes
message_drops_lem : (time : ℕ) (m : List ℕ) (x : Tables) → wrong_size m ≡ false → drops (kind m) time m x ≤ length m
unfolding drops
message_drops_lem time m x w = go (kind m) refl
  where
    go : (k : Kind) → k ≡ kind m → drops k time m x ≤ length m
    go (Session s) e = zero-le
    go (Market Book) e = omega (arith, book_right m (Market Book) Book e w refl refl, drops_few time m (book_in (security_code m) x.books))
    go (Market Strip) e = zero-le
    go (Market Other) e = zero-le

news_drops_lem : (f : Feed) (x : Tables) (time : ℕ) (n : News) → T (is_take (answer_to f x time n)) → news_drops time n x ≤ news_size n
unfolding news_drops news_size tests line_tests table_tests is_take number on_message
news_drops_lem f x time (Linked link) h = zero-le
news_drops_lem f x time More h = zero-le
news_drops_lem f x time Heartbeat h = zero-le
news_drops_lem f x time TooLong h = zero-le
news_drops_lem f x time (Message seq internal m) h =
    let w : wrong_size m ≡ false = first_skips is_take (numbered 12) (tests f x time (Message seq internal m)) (Take 0) h tt in
    omega (arith, message_drops_lem time m x w)

-- what is taken is accepted
takes_well : Answer → Bool
takes_well (Keep n) = true
takes_well (Lose n) = true
takes_well (Spoil n) = true
takes_well (Skip n) = true
takes_well (Take n) = accepted n

take_well : (f : Feed) (x : Tables) (time : ℕ) (n : News) → T (takes_well (answer_to f x time n))
unfolding takes_well tests line_tests table_tests all
take_well f x time n = first_may takes_well (tests f x time n) (Take 0) tt tt

-- so an arrival drops at most as many rows as it uses bytes
pub drops_fit : (x : State) (s : List ℕ) (time : ℕ) → (outcome x (Arrive s time)).given.dropped ≤ (outcome x (Arrive s time)).given.used
unfolding outcome handed used_of offered news time_of dropped_on is_take number takes_well
drops_fit x s time = go (reply x (Arrive s time)) (take_well x.feed x.tables time (cut_from s (unit_of s))) (news_drops_lem x.feed x.tables time (cut_from s (unit_of s)))
  where
    by : (b : Bool) (k n : ℕ) → T b → k ≤ n → k ≤ cond b n 0
    by true k n t h = h
    by false k n t h = absurd t

    go : (a : Answer) → T (takes_well a) → (T (is_take a) → news_drops time (cut_from s (unit_of s)) x.tables ≤ news_size (cut_from s (unit_of s)))
        → dropped_on a time (cut_from s (unit_of s)) x.tables ≤ cond (accepted (number a)) (news_size (cut_from s (unit_of s))) 0
    go (Keep n) t h = zero-le
    go (Lose n) t h = zero-le
    go (Spoil n) t h = zero-le
    go (Skip n) t h = zero-le
    go (Take n) t h = by (accepted n) (news_drops time (cut_from s (unit_of s)) x.tables) (news_size (cut_from s (unit_of s))) t (h tt)

-- a phase comes back from its number
pub phase_back : (p : Phase) → phase_of (phase_no p) ≡ p
unfolding phase_of pick
phase_back Idle = refl
phase_back WaitKey = refl
phase_back WaitLogon = refl
phase_back Refreshing = refl
phase_back Live = refl
phase_back Lost = refl
phase_back Closed = refl

-- the badge by plain numbers is the feed's badge
pub plain_badge_lem : (f : Feed) (time : ℕ) → plain_badge (phase_no f.phase) f.heard f.limit time ≡ badge_no (badge_of f time)
plain_badge_lem f time = ap (λ (p : Phase). badge_no (badge p f.heard f.limit time)) (phase_back f.phase)
