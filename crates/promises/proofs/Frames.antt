-- Whole frames, proved: each is named as its statement in specs/Frames, with a small letter. Assumes nothing.
use Prim.Native.Nat.{ℕ, zero, suc, ◌+◌, ◌<◌}
use native.Mathlib.Nat.{add_assoc}
use native.Mathlib.Omega.{arith}
use mathlib.Core.Path.{◌≡◌, refl, sym, ap, ◌∙◌, subst}
use mathlib.Core.Bool.{Bool, true, false, cond, not}
use mathlib.Core.List.{List, [], ◌∷◌, ◌++◌}
use lib.ListN.{length, drop}
use lib.Seq.{drop-drop}
use lib.Dec.{T}
use borrow.Author.Tests.{ne_eqb}
use Rattle.ground.specs.Choice.{one_of, all}
use Rattle.ground.proofs.Bools.{split, two, pair}
use Rattle.wire.specs.Number.{bytes_only}
use Rattle.ladder.proofs.Keeps.{bytes_drop}
use Rattle.feed.specs.Events.{Tables, State, Event, Arrive}
use Rattle.feed.specs.Steps.{Outcome, accepted, used_of, handed, outcome}
use Rattle.feed.specs.Frames.{Framed, framed_of, opened, onward, through, framed}
use Rattle.feed.specs.declared.Feed.{Feed}
use Rattle.feed.proofs.Framing.{Well, Ill, walk, onward_ends, through_fits, counted_all, counted_fewer, goes_on_lem, has_ended, ended, further, through_further}
use Rattle.promises.specs.Refusals.{answers_to, ending, refusal}
use Rattle.promises.specs.Runs.{Sizes, zeroed, start, after, run, answer_of, trace, end_of, tale, is_green, green, replay}
use Rattle.promises.specs.Ledger.{up_to, last_of}
use Rattle.promises.specs.NoHole.{kept}
use Rattle.promises.specs.Demands.{Bytes, hands_bytes, connects}
use Rattle.promises.specs.Frames as F
use Rattle.promises.specs.Frames.{singles, answers_in, accepted_in, used_in, dropped_in, state_in, rest_of, joined, refused_after, Act, One, AtOnce, after_act, run_acts, events_of, written, acts_bytes}
use Rattle.promises.proofs.Demands as D
use Rattle.promises.proofs.Soundness.{bytes_two}
use Rattle.promises.proofs.Morning.{run_append, lost_stays_dark}
use Rattle.promises.proofs.NoHole.{none_left_out}

-- where a frame begins
abbrev begun : State → Framed
begun s = framed_of (opened s.feed) s.tables

-- the first single call, and the others
module _ (k : ℕ) (bytes : List ℕ) (time : ℕ) (s : State) where
  abbrev front : Event
  front = Arrive bytes time

  singles_on : accepted (answer_of s front) ≡ true → singles (suc k) bytes time s ≡ front ∷ singles k (drop (outcome s front).given.used bytes) time (after s front)
  unfolding singles
  singles_on h = rw h

  singles_end : accepted (answer_of s front) ≡ false → singles (suc k) bytes time s ≡ front ∷ []
  unfolding singles
  singles_end h = rw h

used_is_lem : (s : State) (e : Event) → (outcome s e).given.used ≡ used_of (answer_of s e) e
unfolding outcome handed
used_is_lem s e = refl

-- what single calls add to where a frame stands
abbrev told_from : Framed → State → List Event → Framed
told_from x s es =
    framed_of
    (record {
      answer = last_of x.frame.answer (answers_in (trace s es));
      accepted = x.frame.accepted + accepted_in (trace s es);
      used = x.frame.used + used_in (trace s es);
      feed = (run s es).feed;
      dropped = x.frame.dropped + dropped_in s es;
    })
    (run s es).tables

module _ (bytes : List ℕ) (time : ℕ) where
  abbrev next : Framed → Event
  next x = Arrive (drop x.frame.used bytes) time

  told_none : (x : Framed) → x ≡ told_from x (state_in x) []
  unfolding trace run answers_in accepted_in used_in dropped_in last_of
  told_none x =
      let a : x.frame.accepted ≡ x.frame.accepted + 0 = omega arith in
      let u : x.frame.used ≡ x.frame.used + 0 = omega arith in
      let r : x.frame.dropped ≡ x.frame.dropped + 0 = omega arith in
      λ i. framed_of (record { answer = x.frame.answer; accepted = a i; used = u i; feed = x.frame.feed; dropped = r i }) x.tables

  told_more : (x : Framed) (es : List Event) → told_from (onward bytes time x) (after (state_in x) (next x)) es ≡ told_from x (state_in x) (next x ∷ es)
  unfolding onward trace run answers_in accepted_in used_in dropped_in last_of
  told_more x es =
      let s : State = state_in x in
      let t : State = after s (next x) in
      let u : x.frame.used + (outcome s (next x)).given.used + used_in (trace t es) ≡ x.frame.used + (used_of (answer_of s (next x)) (next x) + used_in (trace t es)) =
      omega (arith, used_is_lem s (next x)) in
      λ i. framed_of
      (record {
        answer = last_of (answer_of s (next x)) (answers_in (trace t es));
        accepted = more (accepted (answer_of s (next x))) x.frame.accepted (accepted_in (trace t es)) i;
        used = u i;
        feed = (run t es).feed;
        dropped = add_assoc x.frame.dropped (outcome s (next x)).given.dropped (dropped_in t es) i;
      })
      (run t es).tables
    where
      more : (b : Bool) (a c : ℕ) → cond b (a + 1) a + c ≡ a + (cond b 1 0 + c)
      more true a c = omega arith
      more false a c = omega arith

  abbrev rest : ℕ → Framed → List Event
  rest k x = singles k (drop x.frame.used bytes) time (state_in x)

  rest_on : (k : ℕ) (x : Framed) → Well (onward bytes time x) → rest (suc k) x ≡ next x ∷ rest k (onward bytes time x)
  unfolding onward after
  rest_on k x w =
      let o : Outcome = outcome (state_in x) (next x) in
      singles_on k (drop x.frame.used bytes) time (state_in x) w
      ∙ ap (λ (l : List ℕ). next x ∷ singles k l time (after (state_in x) (next x))) (drop-drop o.given.used x.frame.used bytes)

  rest_end : (k : ℕ) (x : Framed) → Ill (onward bytes time x) → rest (suc k) x ≡ next x ∷ []
  unfolding onward
  rest_end k x w = singles_end k (drop x.frame.used bytes) time (state_in x) w

  next_state : (x : Framed) → state_in (onward bytes time x) ≡ after (state_in x) (next x)
  unfolding onward after
  next_state x = refl

  tells : (k : ℕ) (x : Framed) → through k bytes time x ≡ told_from x (state_in x) (rest k x)
  tells =
      walk bytes time (λ k x y. y ≡ told_from x (state_in x) (rest k x))
      (λ x. unfold singles in told_none x)
      (λ k x y w h.
      h
      ∙ ap (λ (s : State). told_from (onward bytes time x) s (rest k (onward bytes time x))) (next_state x)
      ∙ told_more x (rest k (onward bytes time x))
      ∙ ap (told_from x (state_in x)) (sym (rest_on k x w)))
      (λ k x w.
      told_none (onward bytes time x)
      ∙ ap (λ (s : State). told_from (onward bytes time x) s []) (next_state x)
      ∙ told_more x []
      ∙ ap (told_from x (state_in x)) (sym (rest_end k x w)))

pub frame_tells : F.FrameTells
frame_tells s bytes allowed time =
    let es : List Event = singles allowed bytes time s in
    let a : 0 + accepted_in (trace s es) ≡ accepted_in (trace s es) = omega arith in
    let u : 0 + used_in (trace s es) ≡ used_in (trace s es) = omega arith in
    let r : 0 + dropped_in s es ≡ dropped_in s es = omega arith in
    tells bytes time allowed (begun s)
    ∙ (λ i. framed_of (record { answer = last_of 0 (answers_in (trace s es)); accepted = a i; used = u i; feed = (run s es).feed; dropped = r i }) (run s es).tables)

pub frame_listed : F.FrameListed
frame_listed s bytes allowed time =
    walk bytes time (λ k x y. Fine x → Fine y)
    (λ x h. h)
    (λ k x y w on h. on (next_fine x))
    (λ k x w h. next_fine x)
    allowed (begun s) (unfold one_of answers_to in tt)
  where
    Fine : Framed → Type 0
    Fine x = T (one_of x.frame.answer (answers_to (Arrive bytes time)))

    next_fine : (x : Framed) → Fine (onward bytes time x)
    next_fine x = unfold onward answers_to in D.listed (state_in x) (Arrive (drop x.frame.used bytes) time)

-- accepted to the end, or not
by_answer : (C : Type 0) (x : Framed) → (Well x → C) → (Ill x → C) → C
by_answer C x p q = go (accepted x.frame.answer) refl
  where
    go : (b : Bool) → accepted x.frame.answer ≡ b → C
    go true e = p e
    go false e = q e

module _ (s : State) (bytes : List ℕ) (time : ℕ) where
  all_accepted : (k : ℕ) → Well (framed s bytes k time) → (framed s bytes k time).frame.accepted ≡ k
  all_accepted k w = omega (arith, counted_all bytes time k (begun s) refl w)

  fewer_accepted : (k : ℕ) → Ill (framed s bytes k time) → (framed s bytes k time).frame.accepted < k
  fewer_accepted k w = omega (arith, counted_fewer bytes time k (begun s) refl w)

  not_fewer : (k : ℕ) → (framed s bytes k time).frame.accepted ≡ k → Well (framed s bytes k time)
  not_fewer k e = by_answer (Well (framed s bytes k time)) (framed s bytes k time) (λ w. w) (λ w. absurd (let z : ⊥ = omega (arith, e, fewer_accepted k w) in z))

pub frame_within : F.FrameWithin
frame_within s bytes allowed time = (
  by_answer _ (framed s bytes allowed time) (λ w. omega (arith, all_accepted s bytes time allowed w)) (λ w. omega (arith, fewer_accepted s bytes time allowed w)),
  through_fits bytes time allowed (begun s) (omega arith),
)

pub frame_fewer : F.FrameFewer
frame_fewer s bytes allowed time = (
  λ h. by_answer _ (framed s bytes allowed time) (λ w. absurd (let z : ⊥ = omega (arith, h, all_accepted s bytes time allowed w) in z)) (λ w. w),
  λ w. fewer_accepted s bytes time allowed w,
)

-- the next arrival does not look at the last answer
blind : (bytes : List ℕ) (time n : ℕ) (f : Feed) (t : Tables)
    → onward bytes time (framed_of (record { answer = n; accepted = 0; used = 0; feed = f; dropped = 0 }) t) ≡ onward bytes time (framed_of (opened f) t)
unfolding onward
blind bytes time n f t = refl

-- a frame that goes on from where another left it is one on the rest of the bytes, but for an answer that it does not give itself
on_rest : (bytes : List ℕ) (time b : ℕ) (x : Framed) → through b bytes time x ≡ joined b x (framed (state_in x) (rest_of bytes x) b time)
unfolding through
on_rest bytes time zero x =
    let a : x.frame.accepted ≡ x.frame.accepted + 0 = omega arith in
    let u : x.frame.used ≡ x.frame.used + 0 = omega arith in
    let r : x.frame.dropped ≡ x.frame.dropped + 0 = omega arith in
    λ i. framed_of (record { answer = x.frame.answer; accepted = a i; used = u i; feed = x.frame.feed; dropped = r i }) x.tables
on_rest bytes time (suc b) x =
    let p : ℕ = x.frame.accepted in
    let q : ℕ = x.frame.used in
    let d : ℕ = x.frame.dropped in
    let a : p ≡ p + 0 = omega arith in
    let u : q ≡ q + 0 = omega arith in
    let r : d ≡ d + 0 = omega arith in
    let y : Framed = framed_of (record { answer = x.frame.answer; accepted = 0; used = 0; feed = x.frame.feed; dropped = 0 }) x.tables in
    let same : x ≡ further p q d y = λ i. framed_of (record { answer = x.frame.answer; accepted = a i; used = u i; feed = x.frame.feed; dropped = r i }) x.tables in
    ap (through (suc b) bytes time) same ∙ through_further p q d bytes time (suc b) y
    ∙ rw (blind (drop q bytes) time x.frame.answer x.frame.feed x.tables, ne_eqb (suc b) 0 (λ z. let w : ⊥ = omega (arith, z) in w))

pub frame_joins : F.FrameJoins
frame_joins s bytes a b time e = goes_on_lem bytes time b a (begun s) refl (not_fewer s bytes time a e) ∙ on_rest bytes time b (framed s bytes a time)

pub frame_stops : F.FrameStops
frame_stops s bytes a b time h =
    has_ended bytes time b a (begun s) refl ((frame_fewer s bytes a time).0 h)

-- an arrival in a frame that is not accepted
onward_refused : (bytes : List ℕ) (time : ℕ) (x : Framed) → Ill (onward bytes time x) → onward bytes time x ≡ refused_after (onward bytes time x).frame.answer x
unfolding onward
onward_refused bytes time x h =
    let e : Event = Arrive (drop x.frame.used bytes) time in
    let n : ℕ = answer_of (state_in x) e in
    let o : outcome (state_in x) e ≡ refusal n (state_in x) = D.refused (state_in x) e h in
    let a : cond (accepted n) (x.frame.accepted + 1) x.frame.accepted ≡ x.frame.accepted = rw h in
    let u : x.frame.used + (outcome (state_in x) e).given.used ≡ x.frame.used = omega (arith, ap (λ (o : Outcome). o.given.used) o) in
    let r : x.frame.dropped + (outcome (state_in x) e).given.dropped ≡ x.frame.dropped = omega (arith, ap (λ (o : Outcome). o.given.dropped) o) in
    λ i. framed_of (record { answer = n; accepted = a i; used = u i; feed = (o i).given.feed; dropped = r i }) (o i).tables

pub frame_refused : F.FrameRefused
frame_refused s bytes allowed time h =
    let r = ended bytes time allowed (begun s) refl h in
    let x : Framed = framed s bytes r.before time in
    let i : Ill (onward bytes time x) = rw r.last at h in
    let c : (framed s bytes allowed time).frame.accepted ≡ r.before =
    ap (λ (y : Framed). y.frame.accepted) r.last ∙ onward_ends bytes time x i ∙ all_accepted s bytes time r.before r.well in
    let d : onward bytes time x ≡ framed s bytes allowed time = sym r.last in
    r.last ∙ onward_refused bytes time x i ∙ (λ j. refused_after (d j).frame.answer (framed s bytes (sym c j) time))

-- a frame's state is that of its single calls
at_once : (s : State) (bytes : List ℕ) (allowed time : ℕ) → state_in (framed s bytes allowed time) ≡ run s (singles allowed bytes time s)
at_once s bytes allowed time = ap state_in (frame_tells s bytes allowed time)

act_written : (s : State) (a : Act) → after_act s a ≡ run s (events_of s a)
unfolding after_act events_of run
act_written s (One e) = refl
act_written s (AtOnce bytes allowed time) = at_once s bytes allowed time

pub written_out : F.WrittenOut
unfolding run_acts written run
written_out s [] = refl
written_out s (a ∷ acts) =
    written_out (after_act s a) acts
    ∙ ap (λ (t : State). run t (written (after_act s a) acts)) (act_written s a)
    ∙ sym (run_append (events_of s a) (written (after_act s a) acts) s)

pub with_frames : F.WithFrames
with_frames limit n P h acts = rw (written_out (start limit n) acts) (h (written (start limit n) acts))

pub frames_none_left_out : F.FramesNoneLeftOut
frames_none_left_out limit n acts time =
    with_frames limit n
    (λ es s. is_green s time ≡ true
    → ((kept limit n es).came ≡ (kept limit n es).met)
    × ((kept limit n es).met ≡ up_to (length (kept limit n es).met)))
    (λ es. none_left_out limit n es time) acts

pub frames_replayed : F.FramesReplayed
frames_replayed limit n = with_frames limit n (λ es s. s.tables ≡ replay (tale limit n es).deeds (zeroed n)) (D.replayed limit n)

pub frames_green : F.FramesGreen
frames_green limit n acts time =
    with_frames limit n (λ es s. is_green s time ≡ green (tale limit n es) (start limit n).feed.limit time) (λ es. D.green limit n es time) acts

singles_bytes : (k : ℕ) (bytes : List ℕ) (time : ℕ) (s : State) → T (bytes_only bytes) → Bytes (singles k bytes time s)
unfolding singles all hands_bytes
singles_bytes zero bytes time s h = tt
singles_bytes (suc k) bytes time s h =
    pair (bytes_only bytes) _ h
    (split Bytes (accepted (answer_of s (Arrive bytes time))) _ _
    (λ e. singles_bytes k (drop (outcome s (Arrive bytes time)).given.used bytes) time (after s (Arrive bytes time))
    (bytes_drop (outcome s (Arrive bytes time)).given.used bytes h))
    (λ e. tt))

act_bytes : (s : State) (a : Act) → T (acts_bytes a) → Bytes (events_of s a)
unfolding acts_bytes events_of all
act_bytes s (One e) h = pair (hands_bytes e) true h tt
act_bytes s (AtOnce bytes allowed time) h = singles_bytes allowed bytes time s h

pub written_bytes : F.WrittenBytes
unfolding written all
written_bytes s [] h = tt
written_bytes s (a ∷ acts) h =
    let p = two (acts_bytes a) (all acts_bytes acts) h in
    bytes_two (events_of s a) (written (after_act s a) acts) (act_bytes s a p.0) (written_bytes (after_act s a) acts p.1)

pub frames_sound : F.FramesSound
frames_sound limit n acts h =
    rw (written_out (start limit n) acts)
    ((D.sound limit n (written (start limit n) acts) (written_bytes (start limit n) acts h)).0, (D.strips_sound limit n (written (start limit n) acts)).0)

-- the last of events that there are, and its answer
record Last (s : State) (es : List Event) (n : ℕ) : Type 0 where
  pub others : List Event
  pub event : Event
  pub parts : es ≡ others ++ (event ∷ [])
  pub says : answer_of (run s others) event ≡ n

last_of_lem : (es : List Event) (e : Event) (s : State) → Last s (e ∷ es) (last_of (answer_of s e) (answers_in (trace (after s e) es)))
unfolding last_of answers_in trace run
last_of_lem [] e s = record { others = []; event = e; parts = refl; says = refl }
last_of_lem (f ∷ fs) e s =
    let r = last_of_lem fs f (after s e) in
    record { others = e ∷ r.others; event = r.event; parts = ap (◌∷◌ e) r.parts; says = r.says }

-- a frame that ends 12 to 18 or 22 made a single call that did
last_single : (es : List Event) (s : State) → T (one_of (last_of 0 (answers_in (trace s es))) ending) → Last s es (last_of 0 (answers_in (trace s es)))
unfolding last_of answers_in trace one_of
last_single [] s h = absurd h
last_single (e ∷ es) s h = last_of_lem es e s

runs_on : (acts more : List Act) (s : State) → run_acts s (acts ++ more) ≡ run_acts (run_acts s acts) more
unfolding run_acts
runs_on [] more s = refl
runs_on (a ∷ acts) more s = runs_on acts more (after_act s a)

ends_on : (acts : List Act) (bytes : List ℕ) (allowed moment : ℕ) (more : List Act) (s : State)
    → run_acts s (acts ++ (AtOnce bytes allowed moment ∷ more))
    ≡ run (state_in (framed (run_acts s acts) bytes allowed moment)) (written (state_in (framed (run_acts s acts) bytes allowed moment)) more)
unfolding run_acts after_act
ends_on acts bytes allowed moment more s =
    runs_on acts (AtOnce bytes allowed moment ∷ more) s ∙ written_out (state_in (framed (run_acts s acts) bytes allowed moment)) more

-- after events whose last answer is 12 to 18 or 22 the badge is not green, whatever comes, as long as no connect is accepted
pub dark_after : (limit : ℕ) (n : Sizes) (before es rest : List Event) (time : ℕ) → T (one_of (last_of 0 (answers_in (trace (end_of limit n before) es))) ending)
    → T (all (λ p. not (connects p)) (trace (run (end_of limit n before) es) rest)) → is_green (run (run (end_of limit n before) es) rest) time ≡ false
unfolding run
dark_after limit n before es rest time h c =
    let s : State = end_of limit n before in
    let r = last_single es s h in
    let there : end_of limit n (before ++ r.others) ≡ run s r.others = run_append before r.others (start limit n) in
    let gone : after (end_of limit n (before ++ r.others)) r.event ≡ run s es =
    ap (λ (t : State). after t r.event) there ∙ sym (run_append r.others (r.event ∷ []) s) ∙ ap (run s) (sym r.parts) in
    let fails : T (one_of (answer_of (end_of limit n (before ++ r.others)) r.event) ending) =
    subst (λ (k : ℕ). T (one_of k ending)) (sym r.says ∙ ap (λ (t : State). answer_of t r.event) (sym there)) h in
    let none : T (all (λ p. not (connects p)) (trace (after (end_of limit n (before ++ r.others)) r.event) rest)) =
    subst (λ (t : State). T (all (λ p. not (connects p)) (trace t rest))) (sym gone) c in
    let same : run (run s es) rest ≡ end_of limit n ((before ++ r.others) ++ (r.event ∷ rest)) =
    ap (λ (t : State). run t rest) (sym gone) ∙ sym (run_append (before ++ r.others) (r.event ∷ rest) (start limit n)) in
    ap (λ (t : State). is_green t time) same ∙ lost_stays_dark limit n (before ++ r.others) r.event rest time fails none

pub frame_stays_dark : F.FrameStaysDark
frame_stays_dark limit n acts bytes allowed moment more time h c =
    let s : State = run_acts (start limit n) acts in
    let lost : Framed = framed s bytes allowed moment in
    let es : List Event = singles allowed bytes moment s in
    let before : List Event = written (start limit n) acts in
    let rest : List Event = written (state_in lost) more in
    let there : s ≡ end_of limit n before = written_out (start limit n) acts in
    let gone : state_in lost ≡ run (end_of limit n before) es = at_once s bytes allowed moment ∙ ap (λ (t : State). run t es) there in
    let answers = ap (λ (x : Framed). x.frame.answer) (frame_tells s bytes allowed moment) ∙ ap (λ (t : State). last_of 0 (answers_in (trace t es))) there in
    ap (λ (t : State). is_green t time) (ends_on acts bytes allowed moment more (start limit n) ∙ ap (λ (t : State). run t rest) gone)
    ∙ dark_after limit n before es rest time (subst (λ (k : ℕ). T (one_of k ending)) answers h) (subst (λ (t : State). T (all (λ p. not (connects p)) (trace t rest))) gone c)
