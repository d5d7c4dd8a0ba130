-- What DECISIONS 38, 103 and 104 say, as statements (of 103 the first half is Never18). Each is proved in proofs/Decisions, under its name with a small letter. Assumes nothing.
use Rattle.std.specs.Prelude.{ℕ, ◌≡◌, Bool, true, false, not, ◌&&◌, List, [], ◌∷◌, T}
use Rattle.ground.specs.Choice.{one_of}
use Rattle.wire.specs.Number.{bytes_only}
use Rattle.feed.specs.Events.{Tables, State, Event}
use Rattle.feed.specs.Answers.{no_slot_for, misfits_for}
use Rattle.feed.specs.Steps.{outcome}
use Rattle.feed.specs.Program.{program_run}
use Rattle.feed.specs.declared.Phase.TheVariants.{Refreshing, Live}
use Rattle.feed.specs.declared.Kind.TheVariants.{Market}
use Rattle.promises.specs.Runs.{Sizes, zeroed, end_of, Deed, Took, tale, perform}

-- 38. Whole: "No throughout Refreshing, and always yes in Live", in every run
abbrev pub WholeInLive : Type 0
WholeInLive =
    (limit : ℕ) (n : Sizes) (es : List Event)
    → ((end_of limit n es).feed.phase ≡ Refreshing → (end_of limit n es).feed.whole ≡ false)
    × ((end_of limit n es).feed.phase ≡ Live → (end_of limit n es).feed.whole ≡ true)

-- "only entering Live sets it", of any feed and any table
abbrev pub OnlyLiveSets : Type 0
OnlyLiveSets =
    (s : State) (e : Event) → s.feed.whole ≡ false → (outcome s e).given.feed.whole ≡ true
    → (outcome s e).given.feed.phase ≡ Live

-- 103. "the program ends in 3 or 11 to 17 only", whatever bytes come
abbrev pub ProgramEnds : Type 0
ProgramEnds = (s : List ℕ) → T (bytes_only s) → T (one_of (program_run s).answer (3 ∷ 11 ∷ 12 ∷ 13 ∷ 14 ∷ 15 ∷ 16 ∷ 17 ∷ []))

-- 104. Replay: "no replayed message misfits", and each finds a slot
unfoldable pub fits_deed : Deed → Tables → Bool
fits_deed (Took d time m) x = not (no_slot_for (Market d) m x) && not (misfits_for (Market d) time m x)

unfoldable pub fitting : List Deed → Tables → Bool
fitting [] x = true
fitting (d ∷ ds) x = fits_deed d x && fitting ds (perform d x)

abbrev pub ReplayFits : Type 0
ReplayFits = (limit : ℕ) (n : Sizes) (es : List Event) → T (fitting (tale limit n es).deeds (zeroed n))
