-- The feed, its phases, a new feed and the badge (document 01, "The feed"). Assumes nothing.
use Rattle.std.specs.Prelude.{ℕ, ◌+◌, Bool, true, false, cond, not, ◌&&◌, ◌||◌, [], ◌∷◌, leb, eqb}
use Rattle.ground.specs.Choice.{pick, first}
use Rattle.feed.specs.declared.Phase.{Phase}
use Rattle.feed.specs.declared.Phase.TheVariants.{Idle, WaitKey, WaitLogon, Refreshing, Live, Lost, Closed}
use Rattle.feed.specs.declared.Feed.{Feed}
use Rattle.feed.specs.declared.Given.{Given}
use Rattle.feed.specs.declared.Badge.{Badge}
use Rattle.feed.specs.declared.Badge.TheVariants.{Stale, Green, Filling}

-- "the phases count 0 to 6 in the order above"
abbrev pub phase_no : Phase → ℕ
phase_no Idle = 0
phase_no WaitKey = 1
phase_no WaitLogon = 2
phase_no Refreshing = 3
phase_no Live = 4
phase_no Lost = 5
phase_no Closed = 6

unfoldable pub is : Phase → Phase → Bool
is p q = eqb (phase_no p) (phase_no q)

-- 11: "arrival in Idle, Lost or Closed"
unfoldable pub deaf : Phase → Bool
deaf p = is p Idle || is p Lost || is p Closed

-- a feed with one thing changed
abbrev pub in_phase : Phase → Feed → Feed
in_phase p f = record { phase = p; next = f.next; internal = f.internal; heard = f.heard; limit = f.limit; whole = f.whole; fresh = f.fresh }

abbrev pub next_is : ℕ → Feed → Feed
next_is n f = record { phase = f.phase; next = n; internal = f.internal; heard = f.heard; limit = f.limit; whole = f.whole; fresh = f.fresh }

abbrev pub internal_is : ℕ → Feed → Feed
internal_is i f = record { phase = f.phase; next = f.next; internal = i; heard = f.heard; limit = f.limit; whole = f.whole; fresh = f.fresh }

abbrev pub heard_at : ℕ → Feed → Feed
heard_at t f = record { phase = f.phase; next = f.next; internal = f.internal; heard = t; limit = f.limit; whole = f.whole; fresh = f.fresh }

abbrev pub whole_is : Bool → Feed → Feed
whole_is b f = record { phase = f.phase; next = f.next; internal = f.internal; heard = f.heard; limit = f.limit; whole = b; fresh = f.fresh }

abbrev pub fresh_is : Bool → Feed → Feed
fresh_is b f = record { phase = f.phase; next = f.next; internal = f.internal; heard = f.heard; limit = f.limit; whole = f.whole; fresh = b }

-- "the silence limit (1 to 600,000 ms)"
unfoldable pub listed_limit : ℕ → Bool
listed_limit l = leb 1 l && leb l 600000

-- "A new feed has next SeqNum 1, last heard 0, last internal number 0, whole no and fresh yes"
abbrev pub new_feed : ℕ → Feed
new_feed l = record { phase = Idle; next = 1; internal = 0; heard = 0; limit = l; whole = false; fresh = true }

-- 19: "new feed, limit outside 1 to 600,000", and then "Idle, limit 1,000"
unfoldable pub new_given : ℕ → Given
new_given l =
    first
    ((not (listed_limit l), record { answer = 19; used = 0; feed = new_feed 1000; dropped = 0 })
    ∷ [])
    (record { answer = 0; used = 0; feed = new_feed l; dropped = 0 })

-- "Green (1) in Live, Filling (2) in WaitKey, WaitLogon or Refreshing .. otherwise Stale (0)"
abbrev pub colour : Phase → Badge
colour Idle = Stale
colour WaitKey = Filling
colour WaitLogon = Filling
colour Refreshing = Filling
colour Live = Green
colour Lost = Stale
colour Closed = Stale

abbrev pub badge_no : Badge → ℕ
badge_no Stale = 0
badge_no Green = 1
badge_no Filling = 2

-- "each only if the time asked about is not before the last heard time and at most the limit after it"; a limit outside 1 to 600,000 is Stale
unfoldable pub badge : Phase → ℕ → ℕ → ℕ → Badge
badge p heard limit time = cond (listed_limit limit && leb heard time && leb time (heard + limit)) (colour p) Stale

abbrev pub badge_of : Feed → ℕ → Badge
badge_of f time = badge f.phase f.heard f.limit time

-- the C call: "There the phases count 0 to 6 in the order above; an unknown phase .. is Stale" (it counts as Lost)
unfoldable pub phase_of : ℕ → Phase
phase_of n =
    pick n
    ((0, Idle)
    ∷ (1, WaitKey)
    ∷ (2, WaitLogon)
    ∷ (3, Refreshing)
    ∷ (4, Live)
    ∷ (5, Lost)
    ∷ (6, Closed)
    ∷ [])
    Lost

abbrev pub plain_badge : ℕ → ℕ → ℕ → ℕ → ℕ
plain_badge n heard limit time = badge_no (badge (phase_of n) heard limit time)
