-- Which answers a call can have, and what becomes of the feed where it is not accepted (document 01, "Answer numbers"). Assumes nothing.
use Rattle.std.specs.Prelude.{ℕ, false, cond, List, [], ◌∷◌, ◌++◌}
use Rattle.ground.specs.Choice.{one_of}
use Rattle.feed.specs.Feeds.{in_phase, whole_is}
use Rattle.feed.specs.Events.{State, Event, Connect, Arrive, Cut, Overrun}
use Rattle.feed.specs.Steps.{Outcome}
use Rattle.feed.specs.declared.Phase.TheVariants.{Lost}
use Rattle.feed.specs.declared.Feed.{Feed}

-- the answers of a connect, of an arrival of bytes, of a message already cut, which is never More, and where 22 is due
unfoldable pub answers_to : Event → List ℕ
answers_to (Connect link time) = 10 ∷ 20 ∷ 0 ∷ []
answers_to (Arrive bytes time) = 10 ∷ 11 ∷ 3 ∷ 12 ∷ 13 ∷ 14 ∷ 1 ∷ 15 ∷ 18 ∷ 17 ∷ 16 ∷ 2 ∷ 0 ∷ []
answers_to (Cut seq internal m time) = 10 ∷ 11 ∷ 12 ∷ 13 ∷ 14 ∷ 1 ∷ 15 ∷ 18 ∷ 17 ∷ 16 ∷ 2 ∷ 0 ∷ []
answers_to (Overrun time) = 10 ∷ 11 ∷ 22 ∷ []

-- the answers that leave the feed as it is, those that make it Lost, and those that make it Lost and not whole; "12 to 18" are the last two, with 22
-- (document 02, request 5: "demand 3's badge counts it with 12 to 18")
abbrev pub keeping : List ℕ
keeping = 10 ∷ 11 ∷ 20 ∷ 3 ∷ []

abbrev pub losing : List ℕ
losing = 12 ∷ 13 ∷ 14 ∷ 22 ∷ []

abbrev pub spoiling : List ℕ
spoiling = 15 ∷ 16 ∷ 17 ∷ 18 ∷ []

abbrev pub ending : List ℕ
ending = losing ++ spoiling

-- the column "Feed afterwards" for the answers other than 0, 1 and 2: unchanged; Lost; Lost and not whole
unfoldable pub feed_refused : ℕ → Feed → Feed
feed_refused n f =
    cond (one_of n keeping) f
    (cond (one_of n losing) (in_phase Lost f)
    (in_phase Lost (whole_is false f)))

-- all that a call that is not accepted hands back: no byte is used, and every word is as it was
abbrev pub refusal : ℕ → State → Outcome
refusal n s = record { given = record { answer = n; used = 0; feed = feed_refused n s.feed; dropped = 0 }; tables = s.tables }
