-- The reason tells the badge (specs/Why). Assumes nothing.
use Prim.Native.Nat.{ℕ, ◌+◌}
use mathlib.Core.Path.{◌≡◌, refl, sym}
use mathlib.Core.Bool.{Bool, true, false, cond, not, ◌&&◌}
use mathlib.Core.List.{[], ◌∷◌}
use lib.Dec.{leb, ltb}
use borrow.Author.Tests.{ltb-true, ltb-false, le-leb, lt-leb}
use Rattle.ground.specs.Choice.{pick, first}
use Rattle.feed.specs.Feeds.{is, deaf, listed_limit, colour, badge_no, badge, phase_of}
use Rattle.feed.specs.Reasons.{reason, why, badge_by}
use Rattle.feed.specs.declared.Phase.{Phase}
use Rattle.feed.specs.declared.Phase.TheVariants.{Idle, WaitKey, WaitLogon, Refreshing, Live, Lost, Closed}
use Rattle.feed.specs.declared.Badge.TheVariants.{Stale}
use Rattle.promises.specs.Why as W

-- a phase heard in time, and a phase that is not, for a reason that goes with Stale
heard_in_time : (p : Phase) → badge_no (colour p) ≡ badge_by (cond (deaf p) (reason p) (reason p))
unfolding badge_by pick deaf is
heard_in_time Idle = refl
heard_in_time WaitKey = refl
heard_in_time WaitLogon = refl
heard_in_time Refreshing = refl
heard_in_time Live = refl
heard_in_time Lost = refl
heard_in_time Closed = refl

not_in_time : (p : Phase) (n : ℕ) → badge_by n ≡ 0 → badge_by (cond (deaf p) (reason p) n) ≡ 0
unfolding badge_by pick deaf is
not_in_time Idle n h = refl
not_in_time WaitKey n h = h
not_in_time WaitLogon n h = h
not_in_time Refreshing n h = h
not_in_time Live n h = h
not_in_time Lost n h = refl
not_in_time Closed n h = refl

-- by the three tests: the limit is listed, the time is before the last heard, the line is silent
by_tests_lem : (p : Phase) (l e s : Bool)
    → badge_no (cond (l && not e && not s) (colour p) Stale) ≡ badge_by (first ((deaf p, reason p) ∷ (not l, 9) ∷ (e, 6) ∷ (s, 5) ∷ []) (reason p))
unfolding first badge_by pick
by_tests_lem p false e s = sym (not_in_time p 9 refl)
by_tests_lem p true true s = sym (not_in_time p 6 refl)
by_tests_lem p true false true = sym (not_in_time p 5 refl)
by_tests_lem p true false false = heard_in_time p

not_below : (a b : ℕ) → leb a b ≡ not (ltb b a)
not_below a b = go (ltb b a) refl
  where
    go : (t : Bool) → ltb b a ≡ t → leb a b ≡ not t
    go true e = lt-leb a b (ltb-true b a e)
    go false e = le-leb a b (ltb-false b a e)

pub why_tells : W.WhyTells
unfolding badge why
why_tells p heard limit time =
    rw (not_below heard time, not_below time (heard + limit)) (by_tests_lem p (listed_limit limit) (ltb time heard) (ltb (heard + limit) time))

pub plain_why_tells : W.PlainWhyTells
plain_why_tells phase heard limit time = why_tells (phase_of phase) heard limit time
