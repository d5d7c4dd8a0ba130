-- No hole under a green badge, proved: each is named as its statement in specs/NoHole, with a small letter. Assumes nothing.
use Prim.Native.Nat.{◌+◌}
use mathlib.Core.Path.{◌≡◌, refl, sym, ◌∙◌}
use mathlib.Core.Bool.{Bool, true, false, cond, not, ◌&&◌, true≢false}
use mathlib.Core.List.{[], ◌∷◌}
use lib.Dec.{ltb, leb, eqb}
use Rattle.ground.specs.Choice.{first}
use Rattle.feed.specs.Feeds.{is, deaf, listed_limit, colour, badge_no, badge}
use Rattle.feed.specs.Events.{news, time_of, on_message}
use Rattle.feed.specs.Answers.{number, arrives, lacks_need, is_more, is_too_long, line_tests, table_tests, tests}
use Rattle.feed.specs.Answers.{Answer}
use Rattle.feed.specs.Answers.{Keep}
use Rattle.feed.specs.Steps.{handed, outcome}
use Rattle.feed.specs.declared.Phase.{Phase}
use Rattle.feed.specs.declared.Phase.TheVariants.{Idle, WaitKey, WaitLogon, Refreshing, Live, Lost, Closed}
use Rattle.feed.specs.declared.Feed.{Feed}
use Rattle.promises.specs.Runs.{start, run}
use Rattle.promises.specs.NoHole as N
use Rattle.promises.proofs.Demands.{next}
use Rattle.promises.proofs.Ledgers.{on_ledger}

pub no_gap : N.NoGap
no_gap limit n es = (
  (on_ledger limit n es).1.gapless,
  λ e seq internal m b a. (next (run (start limit n) es) e seq internal m b a).0 ∙ (on_ledger limit n es).1.next,
)

pub rises : N.Rises
rises limit n es = (on_ledger limit n es).1.numbered.rises

-- a connect's answer, by its two tests
two_tests : (a b : Bool) → number (first ((a, Keep 10) ∷ (false, Keep 11) ∷ (not b, Keep 20) ∷ []) (Answer.Take 0)) ≡ cond a 10 (cond b 0 20)
unfolding first number
two_tests true b = refl
two_tests false true = refl
two_tests false false = refl

one_test : (a : Bool) → number (first ((a, Keep 10) ∷ []) (Answer.Take 0)) ≡ cond a 10 0
unfolding first number
one_test true = refl
one_test false = refl

pub resumes : N.Resumes
unfolding outcome handed tests line_tests table_tests first arrives lacks_need is_too_long is_more on_message news time_of
resumes limit n es time =
    let f : Feed = (run (start limit n) es).feed in
    let k = on_ledger limit n es in (
      two_tests (ltb time f.heard) (f.whole && leb 1 f.internal) ∙ rw (k.0.badge.heard, k.1.numbered.whole, k.1.numbered.last),
      one_test (ltb time f.heard) ∙ rw k.0.badge.heard,
    )

-- a green badge is Live's
green_heeds : (p : Phase) (c : Bool) → eqb (badge_no (cond c (colour p) (colour Lost))) 1 ≡ true → deaf p ≡ false
unfolding deaf is
green_heeds Idle true e = absurd (true≢false (sym e))
green_heeds Idle false e = absurd (true≢false (sym e))
green_heeds WaitKey c e = refl
green_heeds WaitLogon c e = refl
green_heeds Refreshing c e = refl
green_heeds Live c e = refl
green_heeds Lost true e = absurd (true≢false (sym e))
green_heeds Lost false e = absurd (true≢false (sym e))
green_heeds Closed true e = absurd (true≢false (sym e))
green_heeds Closed false e = absurd (true≢false (sym e))

pub none_left_out : N.NoneLeftOut
unfolding badge
none_left_out limit n es time g =
    let f : Feed = (run (start limit n) es).feed in
    let i = (on_ledger limit n es).1 in
    (i.heeded (green_heeds f.phase (listed_limit f.limit && leb f.heard time && leb time (f.heard + f.limit)) g), i.gapless)
