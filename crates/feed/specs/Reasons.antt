-- Why the badge is what it is at a time: a call of our own beside document 01's badge. The two go together (promises/specs/Why). Assumes nothing.
use Rattle.std.specs.Prelude.{ℕ, ◌+◌, not, [], ◌∷◌, ltb}
use Rattle.ground.specs.Choice.{pick, first}
use Rattle.feed.specs.Feeds.{deaf, listed_limit, phase_of}
use Rattle.feed.specs.declared.Phase.{Phase}
use Rattle.feed.specs.declared.Phase.TheVariants.{Idle, WaitKey, WaitLogon, Refreshing, Live, Lost, Closed}

-- the reason of a phase: live; never connected; waiting for the key, for the logon, for the refresh; lost; closed
abbrev pub reason : Phase → ℕ
reason Live = 0
reason Idle = 1
reason WaitKey = 2
reason WaitLogon = 3
reason Refreshing = 4
reason Lost = 7
reason Closed = 8

-- by the phase where that alone makes the badge Stale; then 9, a limit outside 1 to 600,000; 6, before the last heard time; 5, silent beyond the limit;
-- and else by the phase
unfoldable pub why : Phase → ℕ → ℕ → ℕ → ℕ
why p heard limit time =
    first
    ((deaf p, reason p)
    ∷ (not (listed_limit limit), 9)
    ∷ (ltb time heard, 6)
    ∷ (ltb (heard + limit) time, 5)
    ∷ [])
    (reason p)

-- the same of a phase's number, for the C call
abbrev pub plain_why : ℕ → ℕ → ℕ → ℕ → ℕ
plain_why n heard limit time = why (phase_of n) heard limit time

-- the badge that a reason goes with: 0 is green, 2 to 4 are filling, all else is stale
unfoldable pub badge_by : ℕ → ℕ
badge_by n = pick n ((0, 1) ∷ (2, 2) ∷ (3, 2) ∷ (4, 2) ∷ []) 0
