-- Runs of the C calls, proved: each is named as its statement in specs/Border, with a small letter. Assumes nothing.
use Prim.Native.Nat.{ℕ}
use mathlib.Core.Path.{◌≡◌, refl, sym, ap, ◌∙◌}
use mathlib.Core.Bool.{Bool, true, false}
use mathlib.Core.List.{List, [], ◌∷◌}
use lib.Dec.{eqb}
use Rattle.feed.specs.Feeds.{badge_no, badge_of, plain_badge}
use Rattle.feed.specs.Events.{State}
use Rattle.feed.specs.Steps.{state_of, outcome}
use Rattle.feed.specs.declared.Feed.{Feed}
use Rattle.feed.proofs.Laws.{phase_back, plain_badge_lem}
use Rattle.promises.specs.Runs.{Sizes, start, after, run, trace}
use Rattle.promises.proofs.Demands as D
use Rattle.promises.proofs.NoHole as N
use Rattle.promises.proofs.Dropped.{number_told}
use Rattle.screen.specs.Plain.{yes, bit, feed_of, plain_feed, plain_outcome}
use Rattle.border.specs.Border as C
use Rattle.screen.specs.Calls.{Call, event_of, hands_back}
use Rattle.border.specs.Border.{Held, plain_start, plain_after, plain_run, plain_trace, events_of}
use Rattle.screen.specs.declared.MmdhFeed.{MmdhFeed}

pub bit_back : (b : Bool) → yes (bit b) ≡ b
unfolding yes bit
bit_back true = refl
bit_back false = refl

pub comes_back : C.ComesBack
comes_back f = λ i. record {
  phase = phase_back f.phase i;
  next = f.next;
  internal = f.internal;
  heard = f.heard;
  limit = f.limit;
  whole = bit_back f.whole i;
  fresh = bit_back f.fresh i;
}

-- the numbers and words of a state
abbrev pub plain : State → Held
plain s = record { feed = plain_feed s.feed; tables = s.tables }

pub same_out : (s : State) (c : Call) → hands_back (plain s).feed (plain s).tables c ≡ plain_outcome (outcome s (event_of c))
same_out s c = ap (λ (f : Feed). plain_outcome (outcome (state_of f s.tables) (event_of c))) (comes_back s.feed)

pub step_is : (s : State) (c : Call) → plain_after (plain s) c ≡ plain (after s (event_of c))
unfolding plain_after after
step_is s c = λ i. record { feed = (same_out s c i).given.feed; tables = (same_out s c i).tables }

run_is : (cs : List Call) (s : State) → plain_run (plain s) cs ≡ plain (run s (events_of cs))
unfolding plain_run run events_of
run_is [] s = refl
run_is (c ∷ cs) s = ap (λ (x : Held). plain_run x cs) (step_is s c) ∙ run_is cs (after s (event_of c))

trace_is : (cs : List Call) (s : State) → plain_trace (plain s) cs ≡ trace s (events_of cs)
unfolding plain_trace trace events_of
trace_is [] s = refl
trace_is (c ∷ cs) s =
    let e : plain_trace (plain_after (plain s) c) cs ≡ trace (after s (event_of c)) (events_of cs) =
    ap (λ (x : Held). plain_trace x cs) (step_is s c) ∙ trace_is cs (after s (event_of c)) in
    λ i. (event_of c, (same_out s c i).given.answer) ∷ e i

pub is_run : C.IsRun
is_run limit n cs =
    let e = run_is cs (start limit n) in
    (ap (λ (x : Held). x.feed) e, ap (λ (x : Held). x.tables) e, trace_is cs (start limit n))

pub plain_listed : C.PlainListed
plain_listed f x c = D.listed (state_of (feed_of f) x) (event_of c)

pub plain_number_told : C.PlainNumberTold
plain_number_told f x c = number_told (state_of (feed_of f) x) (event_of c)

badge_is : (limit : ℕ) (n : Sizes) (cs : List Call) (time : ℕ)
    → plain_badge (plain_run (plain_start limit n) cs).feed.phase (plain_run (plain_start limit n) cs).feed.heard (plain_run (plain_start limit n) cs).feed.limit time
    ≡ badge_no (badge_of (run (start limit n) (events_of cs)).feed time)
badge_is limit n cs time =
    ap (λ (f : MmdhFeed). plain_badge f.phase f.heard f.limit time) (is_run limit n cs).0 ∙ plain_badge_lem (run (start limit n) (events_of cs)).feed time

pub plain_replayed : C.PlainReplayed
plain_replayed limit n cs =
    let r = is_run limit n cs in
    rw r.2 (r.1 ∙ D.replayed limit n (events_of cs))

pub plain_green : C.PlainGreen
plain_green limit n cs time = rw (is_run limit n cs).2 (ap (λ (k : ℕ). eqb k 1) (badge_is limit n cs time) ∙ D.green limit n (events_of cs) time)

pub plain_none_left_out : C.PlainNoneLeftOut
plain_none_left_out limit n cs time g =
    rw (is_run limit n cs).2 (N.none_left_out limit n (events_of cs) time (ap (λ (k : ℕ). eqb k 1) (sym (badge_is limit n cs time)) ∙ g))
