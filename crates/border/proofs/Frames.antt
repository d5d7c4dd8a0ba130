-- Frames by the C calls, proved: each is named as its statement in specs/Frames, with a small letter. Assumes nothing.
use Prim.Native.Nat.{ℕ, zero, suc, ◌+◌}
use native.Mathlib.Omega.{arith}
use mathlib.Core.Path.{◌≡◌, refl, sym, ap, ◌∙◌}
use mathlib.Core.Bool.{cond}
use mathlib.Core.List.{List, [], ◌∷◌}
use lib.ListN.{drop}
use lib.Dec.{eqb}
use borrow.Author.Tests.{ne_eqb}
use Rattle.feed.specs.Feeds.{plain_badge}
use Rattle.feed.specs.Events.{Tables, State}
use Rattle.feed.specs.Steps.{accepted, state_of}
use Rattle.feed.specs.Frames.{Framed, framed_of, opened, onward, through, framed}
use Rattle.feed.specs.declared.Feed.{Feed}
use Rattle.feed.proofs.Laws.{plain_badge_lem}
use Rattle.feed.proofs.Framing.{walk}
use Rattle.promises.specs.Runs.{start}
use Rattle.promises.specs.Frames.{state_in, after_act, run_acts, end_acts}
use Rattle.promises.proofs.Frames as P
use Rattle.screen.specs.Plain.{feed_of, plain_feed, PlainOut, PlainFramed, plain_framed_of, plain_framed}
use Rattle.screen.specs.Calls.{Arrives, plain_opened, frames_back}
use Rattle.screen.specs.declared.MmdhFeed.{MmdhFeed}
use Rattle.border.specs.Border.{Held}
use Rattle.border.specs.Frames as C
use Rattle.border.specs.Frames.{plain_onward, plain_through, PlainAct, Calls, CallsAtOnce, plain_after_act, plain_run_acts, act_of, acts_of}
use Rattle.border.proofs.Border.{comes_back, plain, same_out, step_is}

-- a loop of mmdh_arrive goes as a frame does
onward_is : (bytes : List ℕ) (time : ℕ) (y : Framed) → plain_onward bytes time (plain_framed y) ≡ plain_framed (onward bytes time y)
unfolding plain_onward onward
onward_is bytes time y =
    ap (λ (o : PlainOut). plain_framed_of
    (record {
      answer = o.given.answer;
      accepted = cond (accepted o.given.answer) (y.frame.accepted + 1) y.frame.accepted;
      used = y.frame.used + o.given.used;
      feed = o.given.feed;
      dropped = y.frame.dropped + o.given.dropped;
    })
    o.tables)
    (same_out (state_in y) (Arrives (drop y.frame.used bytes) time))

-- .. from any seven numbers on
first_is : (bytes : List ℕ) (time : ℕ) (f : MmdhFeed) (x : Tables)
    → plain_onward bytes time (plain_framed_of (plain_opened f) x) ≡ plain_framed (onward bytes time (framed_of (opened (feed_of f)) x))
unfolding plain_onward onward
first_is bytes time f x = refl

through_is : (bytes : List ℕ) (time k : ℕ) (y : Framed) → plain_through k bytes time (plain_framed y) ≡ plain_framed (through k bytes time y)
unfolding plain_through
through_is bytes time =
    walk bytes time (λ k y z. plain_through k bytes time (plain_framed y) ≡ plain_framed z)
    (λ y. refl)
    (λ k y z w on. rw (onward_is bytes time y, w) on)
    (λ k y w. rw (onward_is bytes time y, w))

pub frame_is_loop : C.FrameIsLoop
unfolding frames_back plain_through through
frame_is_loop f x bytes zero time = refl
frame_is_loop f x bytes (suc k) time =
    let begun : Framed = framed_of (opened (feed_of f)) x in
    let same : plain_onward bytes time (plain_framed_of (plain_opened f) x) ≡ plain_onward bytes time (plain_framed begun) =
    first_is bytes time f x ∙ sym (onward_is bytes time begun) in
    rw (ne_eqb (suc k) 0 (λ z. let w : ⊥ = omega (arith, z) in w), same) (sym (through_is bytes time (suc k) begun))

-- a frame of a feed's own numbers is the feed's frame
frame_is : (s : State) (bytes : List ℕ) (allowed time : ℕ) → frames_back (plain_feed s.feed) s.tables bytes allowed time ≡ plain_framed (framed s bytes allowed time)
unfolding frames_back through
frame_is s bytes zero time = refl
frame_is s bytes (suc k) time =
    rw (ne_eqb (suc k) 0 (λ z. let w : ⊥ = omega (arith, z) in w))
    (ap (λ (f : Feed). plain_framed (framed (state_of f s.tables) bytes (suc k) time)) (comes_back s.feed))

act_is : (s : State) (a : PlainAct) → plain_after_act (plain s) a ≡ plain (after_act s (act_of a))
unfolding plain_after_act after_act act_of
act_is s (Calls c) = step_is s c
act_is s (CallsAtOnce bytes allowed time) = ap (λ (o : PlainFramed). record { feed = o.frame.feed; tables = o.tables }) (frame_is s bytes allowed time)

acts_are : (acts : List PlainAct) (s : State) → plain_run_acts (plain s) acts ≡ plain (run_acts s (acts_of acts))
unfolding plain_run_acts run_acts acts_of
acts_are [] s = refl
acts_are (a ∷ acts) s = ap (λ (x : Held). plain_run_acts x acts) (act_is s a) ∙ acts_are acts (after_act s (act_of a))

pub is_run_acts : C.IsRunActs
is_run_acts limit n acts =
    let e = acts_are acts (start limit n) in
    (ap (λ (x : Held). x.feed) e, ap (λ (x : Held). x.tables) e)

pub plain_frames_replayed : C.PlainFramesReplayed
plain_frames_replayed limit n acts = (is_run_acts limit n acts).1 ∙ P.frames_replayed limit n (acts_of acts)

pub plain_frames_green : C.PlainFramesGreen
plain_frames_green limit n acts time =
    ap (λ (f : MmdhFeed). eqb (plain_badge f.phase f.heard f.limit time) 1) (is_run_acts limit n acts).0
    ∙ ap (λ (k : ℕ). eqb k 1) (plain_badge_lem (end_acts limit n (acts_of acts)).feed time)
    ∙ P.frames_green limit n (acts_of acts) time
