-- What a book's or a strip's message of the right size is, and that a logon does the same before and after the number advances. Assumes nothing.
use Prim.Native.Nat.{ℕ, ◌+◌, ◌*◌}
use mathlib.Core.Path.{◌≡◌, refl, sym}
use mathlib.Core.Bool.{Bool, true, false, cond, not, ◌&&◌, ◌||◌}
use mathlib.Core.List.{List, [], ◌∷◌}
use lib.Dec.{T, leb, ltb, eqb}
use lib.ListN.{length}
use borrow.Author.Tests.{eqb-true}
use Rattle.ground.proofs.Bools.{both}
use Rattle.ground.proofs.Choices.{pick_other}
use Rattle.ground.specs.Choice.{pick, first, all}
use Rattle.wire.specs.Number.{field}
use Rattle.ladder.specs.Message.{book_sized}
use Rattle.strips.specs.Forms.{is_strip, strip_sized}
use Rattle.strips.specs.Code.Shapes.{Sized}
use Rattle.feed.specs.Messages.{datum_of, kind_of, kind, on_market, market, sized, wrong_size, listed}
use Rattle.feed.specs.Feeds.{is, deaf, internal_is}
use Rattle.feed.specs.Answers.{Keep, Lose, Spoil, Skip, Take, number, arrives, lacks_need, is_more, is_too_long, is_next, allowed, seen, line_tests, table_tests, tests}
use Rattle.feed.specs.Code.Judging.{answered, verdict}
use Rattle.feed.specs.Events.{Tables, Connect, time_of, Linked, Message, news, on_message, offered}
use Rattle.feed.specs.Steps.{cleared, enter_live, connected, logged_on, on_feed, advanced, counted, taken, act, used_of, news_drops, dropped_on, state_of, out_of, handed, outcome}
use Rattle.feed.specs.declared.Kind.{Kind}
use Rattle.feed.specs.declared.Kind.TheVariants.{Session, Market}
use Rattle.feed.specs.declared.Session as session
use Rattle.feed.specs.declared.Phase.TheVariants.{Live}
use Rattle.feed.specs.declared.Link.{Link}
use Rattle.feed.specs.declared.Session.TheVariants.{SendKey, Logon, Logout, Refresh, Complete, Request}
use Rattle.feed.specs.declared.Datum.{Datum}
use Rattle.feed.specs.declared.Datum.TheVariants.{Book, Strip, Other}
use Rattle.feed.specs.Messages.{Status}
use Rattle.feed.specs.Messages.{Opens, Refills, Stays, Closes, Unlisted}
use Rattle.feed.specs.declared.Feed.{Feed}

-- what is a strip's message has a strip's type
strip_kind : Kind → Bool
strip_kind (Session s) = false
strip_kind (Market Book) = false
strip_kind (Market Strip) = true
strip_kind (Market Other) = false

abbrev sessions : List (ℕ × Kind)
sessions =
    (203, Session Complete)
    ∷ (1101, Session Request)
    ∷ (1102, Session Logon)
    ∷ (1103, Session Logout)
    ∷ (1105, Session SendKey)
    ∷ (1201, Session Request)
    ∷ (1202, Session Refresh)
    ∷ []

strip_type : (t : ℕ) → T (strip_kind (kind_of t)) → is_strip t ≡ true
unfolding kind_of datum_of pick all strip_kind
strip_type t h = go (eqb t 53) (is_strip t) (pick_other strip_kind t sessions (Market (datum_of t)) h tt)
  where
    go : (a b : Bool) → T (strip_kind (Market (cond a Book (cond b Strip Other)))) → b ≡ true
    go true b h = absurd h
    go false true h = refl
    go false false h = absurd h

last_holds : (a b : Bool) → (a || not b) ≡ false → b ≡ true
last_holds a true e = refl
last_holds true false e = sym e
last_holds false false e = sym e

pub book_right : (m : List ℕ) (k : Kind) (d : Datum) → k ≡ kind_of (field 2 2 m) → wrong_size m ≡ false → k ≡ Market d → d ≡ Book → length m ≡ 12 + 24 * field 11 1 m
unfolding wrong_size sized book_sized
book_right m k d a e g h =
    eqb-true (length m) (12 + 24 * field 11 1 m)
    (both (leb 12 (length m)) (eqb (length m) (12 + 24 * field 11 1 m))
    (last_holds (ltb (length m) 4 || not (eqb (field 0 2 m) (length m))) (book_sized m) (rw (← a, g, h) at e))).1

pub strip_right : (m : List ℕ) (k : Kind) (d : Datum) → k ≡ kind_of (field 2 2 m) → wrong_size m ≡ false → k ≡ Market d → d ≡ Strip → Sized m
unfolding wrong_size sized strip_kind
strip_right m k d a e g h = record {
  listed = strip_type (field 2 2 m) (rw (← a, g, h) tt);
  right = last_holds (ltb (length m) 4 || not (eqb (field 0 2 m) (length m))) (strip_sized m) (rw (← a, g, h) at e);
}

-- a logon does the same before and after the number advances
pub logon_later : (s : Status) (n : ℕ) (f : Feed) (x : Tables) → logged_on s (state_of (advanced n f) x) ≡ on_feed (advanced n) (logged_on s (state_of f x))
unfolding logged_on
logon_later Opens n f x = go f.fresh
  where
    go : (b : Bool) → on_feed enter_live (cond b (cleared (state_of (advanced n f) x)) (state_of (advanced n f) x)) ≡ on_feed (advanced n) (on_feed enter_live (cond b (cleared (state_of f x)) (state_of f x)))
    go true = refl
    go false = refl
logon_later Refills n f x = refl
logon_later Stays n f x = refl
logon_later Closes n f x = refl
logon_later Unlisted n f x = refl

-- what the tests of a message come to, one behind the other
pub verdict_is : (f : Feed) (n q i : ℕ) (m : List ℕ) → verdict f n (Message q i m)
    ≡ cond (ltb n f.heard) (Keep 10)
    (cond (deaf f.phase) (Keep 11)
    (cond (wrong_size m) (Lose 12)
    (cond (not (is_next f q)) (Lose 13)
    (cond (not (allowed (kind m) f.phase i)) (Lose 14)
    (cond (seen f (kind m) i) (Skip 1)
    (cond (not (listed (kind m) m)) (Spoil 15) (Take 0)))))))
unfolding first line_tests on_message arrives lacks_need is_too_long is_more
verdict_is f n q i m = refl

-- a session's message has no internal number that counts; a market message's counts in Live alone
pub session_counted : (s : session.Session) (i : ℕ) (f : Feed) → counted (Session s) i f ≡ f
unfolding counted market on_market
session_counted s i f = refl

pub market_counted : (d : Datum) (i : ℕ) (f : Feed) → counted (Market d) i f ≡ cond (is f.phase Live) (internal_is i f) f
unfolding counted market on_market
market_counted d i f = refl

pub market_seen : (d : Datum) (i : ℕ) (f : Feed) → seen f (Market d) i ≡ (is f.phase Live && leb i f.internal)
unfolding seen market on_market
market_seen d i f = go (is f.phase Live)
  where
    go : (b : Bool) → (b && true && leb i f.internal) ≡ (b && leb i f.internal)
    go true = refl
    go false = refl

pub session_seen : (s : session.Session) (i : ℕ) (f : Feed) → seen f (Session s) i ≡ false
unfolding seen market on_market
session_seen s i f = go (is f.phase Live)
  where
    go : (b : Bool) → (b && false && leb i f.internal) ≡ false
    go true = refl
    go false = refl

-- what the tests of a connect come to
pub connect_is : (f : Feed) (l : Link) (n : ℕ) (x : Tables) → outcome (state_of f x) (Connect l n)
    ≡ out_of (cond (ltb n f.heard) (answered 10 f) (cond (lacks_need f (Linked l)) (answered 20 f) (answered 0 (connected l n f)))) x
unfolding outcome handed first tests line_tests table_tests time_of news on_message arrives is_too_long is_more number act dropped_on news_drops taken used_of offered
connect_is f l n x = go (ltb n f.heard) (lacks_need f (Linked l))
  where
    go : (a b : Bool) → handed (cond a (Keep 10) (cond b (Keep 20) (Take 0))) (state_of f x) (Connect l n) ≡ out_of (cond a (answered 10 f) (cond b (answered 20 f) (answered 0 (connected l n f)))) x
    go true b = refl
    go false true = refl
    go false false = refl

pub ruleset sessions_done = (logon_later, session_counted)

pub ruleset seen_parts = (market_seen, session_seen)
