-- Frames by the C calls, in plain numbers. Each statement is proved in proofs/Frames, under its name with a small letter. Assumes nothing.
use Rattle.std.specs.Prelude.{ℕ, zero, suc, ◌+◌, ◌≡◌, cond, List, [], ◌∷◌, drop}
use Rattle.feed.specs.Events.{Tables}
use Rattle.feed.specs.Steps.{accepted}
use Rattle.promises.specs.Runs.{Sizes, zeroed, tale, green, replay}
use Rattle.promises.specs.Frames.{Act, One, AtOnce, end_acts, written_acts}
use Rattle.screen.specs.Plain.{plain_feed, PlainOut, PlainFramed, plain_framed_of}
use Rattle.screen.specs.Calls.{Call, event_of, Arrives, hands_back, plain_opened, frames_back}
use Rattle.screen.specs.declared.MmdhFeed.{MmdhFeed}
use Rattle.border.specs.Border.{Held, plain_start, plain_after, says_green}

-- one call of mmdh_arrive more, at the bytes that the ones before have left; and at most so many of them, until one is not accepted
unfoldable pub plain_onward : List ℕ → ℕ → PlainFramed → PlainFramed
plain_onward bytes time x =
    let o : PlainOut = hands_back x.frame.feed x.tables (Arrives (drop x.frame.used bytes) time) in
    plain_framed_of
    (record {
      answer = o.given.answer;
      accepted = cond (accepted o.given.answer) (x.frame.accepted + 1) x.frame.accepted;
      used = x.frame.used + o.given.used;
      feed = o.given.feed;
      dropped = x.frame.dropped + o.given.dropped;
    })
    o.tables

unfoldable pub plain_through : ℕ → List ℕ → ℕ → PlainFramed → PlainFramed
plain_through zero bytes time x = x
plain_through (suc left) bytes time x =
    cond (accepted (plain_onward bytes time x).frame.answer) (plain_through left bytes time (plain_onward bytes time x)) (plain_onward bytes time x)

-- mmdh_arrive_frame hands back what a loop of mmdh_arrive would, for any seven numbers, any words, any bytes, any number allowed and any clock reading
abbrev pub FrameIsLoop : Type 0
FrameIsLoop =
    (f : MmdhFeed) (x : Tables) (bytes : List ℕ) (allowed time : ℕ)
    → frames_back f x bytes allowed time ≡ plain_through allowed bytes time (plain_framed_of (plain_opened f) x)

-- runs of the C calls with frames in them
pub data PlainAct : Type 0 where
  Calls : (call : Call) → PlainAct
  CallsAtOnce : (bytes : List ℕ) (allowed time : ℕ) → PlainAct

unfoldable pub plain_after_act : Held → PlainAct → Held
plain_after_act x (Calls c) = plain_after x c
plain_after_act x (CallsAtOnce bytes allowed time) =
    record { feed = (frames_back x.feed x.tables bytes allowed time).frame.feed; tables = (frames_back x.feed x.tables bytes allowed time).tables }

unfoldable pub plain_run_acts : Held → List PlainAct → Held
plain_run_acts x [] = x
plain_run_acts x (a ∷ acts) = plain_run_acts (plain_after_act x a) acts

unfoldable pub act_of : PlainAct → Act
act_of (Calls c) = One (event_of c)
act_of (CallsAtOnce bytes allowed time) = AtOnce bytes allowed time

unfoldable pub acts_of : List PlainAct → List Act
acts_of [] = []
acts_of (a ∷ acts) = act_of a ∷ acts_of acts

-- from mmdh_new and zeroed tables each is a run with frames as the demands have it, number by number and word by word
abbrev pub IsRunActs : Type 0
IsRunActs =
    (limit : ℕ) (n : Sizes) (acts : List PlainAct)
    → ((plain_run_acts (plain_start limit n) acts).feed ≡ plain_feed (end_acts limit n (acts_of acts)).feed)
    × ((plain_run_acts (plain_start limit n) acts).tables ≡ (end_acts limit n (acts_of acts)).tables)

-- so demand 3: both tables are the replay, and mmdh_badge is green exactly when the history with each frame written out says so
abbrev pub PlainFramesReplayed : Type 0
PlainFramesReplayed =
    (limit : ℕ) (n : Sizes) (acts : List PlainAct)
    → (plain_run_acts (plain_start limit n) acts).tables ≡ replay (tale limit n (written_acts limit n (acts_of acts))).deeds (zeroed n)

abbrev pub PlainFramesGreen : Type 0
PlainFramesGreen =
    (limit : ℕ) (n : Sizes) (acts : List PlainAct) (time : ℕ)
    → says_green (plain_run_acts (plain_start limit n) acts) time
    ≡ green (tale limit n (written_acts limit n (acts_of acts))) (plain_start limit n).feed.limit time
