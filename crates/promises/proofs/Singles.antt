-- Scraps and single arrivals, proved: each is named as its statement in specs/Scraps, with a small letter. Assumes nothing.
use Prim.Native.Nat.{ℕ, zero, suc, ◌+◌, ◌≤◌, ◌<◌, max}
use native.Mathlib.Omega.{arith}
use mathlib.Core.Path.{◌≡◌, refl, sym, ap, ◌∙◌, subst}
use mathlib.Core.Bool.{Bool, true, false, cond, not, ◌||◌, true≢false}
use mathlib.Core.List.{List, [], ◌∷◌, ◌++◌}
use lib.ListN.{length, take, drop, take-append-drop}
use lib.Seq.{drop-drop}
use lib.Dec.{T, ltb}
use borrow.Author.Tests.{le-ltb, ltb-false}
use Rattle.ground.specs.Choice.{one_of, all, first}
use Rattle.ground.proofs.Bools.{no_second, two, is_T, of_T}
use Rattle.ground.proofs.Choices.{first_skips}
use Rattle.wire.specs.Number.{field, bytes_only}
use Rattle.wire.specs.Units.{unit_of, message_in}
use Rattle.wire.specs.declared.Unit.{Unit}
use Rattle.wire.specs.declared.Unit.TheVariants as unit
use Rattle.wire.proofs.Fields.{field_below}
use Rattle.wire.proofs.Fronts.{message_length, unit_stays}
use Rattle.ladder.proofs.Keeps.{bytes_drop}
use Rattle.ladder.proofs.Orders.{all_append, all_take}
use Rattle.feed.specs.Messages.{wrong_size}
use Rattle.feed.specs.Feeds.{deaf}
use Rattle.feed.specs.Events.{State, Event, Arrive, Overrun, Message, cut_from, news, time_of, on_message, news_size, offered}
use Rattle.feed.specs.Answers.{number, arrives, lacks_need, is_too_long, is_more, line_tests, table_tests, tests, answer_to}
use Rattle.feed.specs.Steps.{Outcome, accepted, used_of, act, dropped_on, state_of, handed, outcome}
use Rattle.feed.specs.Frames as frame
use Rattle.feed.specs.Frames.{Framed, framed_of, opened}
use Rattle.feed.specs.Answers.{Answer}
use Rattle.feed.specs.Answers.{Take}
use Rattle.feed.proofs.Laws.{numbered}
use Rattle.feed.proofs.Following.{pieces, keeps, overrun_not}
use Rattle.feed.proofs.Framing as framing
use Rattle.lines.specs.Looks.{look, exceeds, is_sized, full_length, finished}
use Rattle.lines.specs.Scraps.{Hearing, behind, onward, goes_on, through}
use Rattle.lines.specs.declared.Look.{Look}
use Rattle.lines.specs.declared.Look.TheVariants as asks
use Rattle.lines.proofs.Fronts.{unit_whole}
use Rattle.lines.proofs.Courses.{onward_counts, through_on, through_ends}
use Rattle.promises.specs.Runs.{after, answer_of}
use Rattle.promises.specs.Frames.{state_in}
use Rattle.promises.specs.Scraps as S
use Rattle.promises.specs.Scraps.{opens, units, is_overrun}
use Rattle.promises.proofs.Scraps.{at, SpokeAt, spoke_goes, spoke_state, spoke_taken, spoke_refused, quiet_state, quiet_said, spoke_said, spoke_answer, spoke_fell, quiet_fell, quiet_off, units_on, units_quiet, units_off, dropped, waits, long, fed}
use Rattle.promises.proofs.Cuts.{flow, told_waiting, waits_flow, unit_flow, onward_holds}

-- bytes that are no whole unit are answered 10, 11 or 3, and change nothing
record Unfinished (x : State) (s : List ℕ) (t : ℕ) : Type 0 where
  pub answer : ℕ
  pub same : outcome x (Arrive s t) ≡ keeps answer x
  pub refused : accepted answer ≡ false
  pub among : T (one_of answer (3 ∷ 10 ∷ 11 ∷ []))

unfinished : (x : State) (s : List ℕ) (t : ℕ) → unit_of s ≡ unit.More → Unfinished x s t
unfolding outcome handed time_of news used_of number act dropped_on tests line_tests table_tests first arrives lacks_need is_too_long is_more cut_from one_of
unfinished x s t u = go (ltb t x.feed.heard) refl (deaf x.feed.phase) refl
  where
    go : (p : Bool) → ltb t x.feed.heard ≡ p → (q : Bool) → deaf x.feed.phase ≡ q → Unfinished x s t
    go true e q d = record { answer = 10; same = rw e; refused = refl; among = tt }
    go false e true d = record { answer = 11; same = rw (u, e, d); refused = refl; among = tt }
    go false e false d = record { answer = 3; same = rw (u, e, d); refused = refl; among = tt }

-- an accepted message has its four bytes at least
is_accepted : Answer → Bool
is_accepted a = accepted (number a)

right_size : (s : State) (time seq internal : ℕ) (m : List ℕ) → accepted (number (answer_to s.feed s.tables time (Message seq internal m))) ≡ true → wrong_size m ≡ false
unfolding tests line_tests table_tests on_message arrives lacks_need is_too_long is_more number is_accepted
right_size s time seq internal m h =
    first_skips is_accepted (numbered 12) (tests s.feed s.tables time (Message seq internal m)) (Take 0) (is_T _ h) tt

first_false : (a b c : Bool) → (a || b || c) ≡ false → a ≡ false
first_false true b c h = h
first_false false b c h = refl

four_bytes : (m : List ℕ) → wrong_size m ≡ false → 4 ≤ length m
unfolding wrong_size
four_bytes m h = ltb-false (length m) 4 (first_false (ltb (length m) 4) _ _ h)

-- what a look tells of the unit at the front
look_is : (r w : ℕ) (s : List ℕ) (v : Look) → look r w s ≡ v → (v ≡ asks.TooLong → ⊥) → finished (unit_of s) ≡ v
unfolding look
look_is r w s v e k = go (exceeds r w s) e
  where
    go : (b : Bool) → cond b asks.TooLong (finished (unit_of s)) ≡ v → finished (unit_of s) ≡ v
    go true e = absurd (k (sym e))
    go false e = e

waits_more : (u : Unit) → finished u ≡ asks.Waits → u ≡ unit.More
unfolding finished
waits_more unit.More e = refl
waits_more unit.Heartbeat e = let z : ◌≡◌ {A = ℕ} 0 1 = cc in absurd (let y : ⊥ = omega arith in y)
waits_more (unit.Message q i n) e = let z : ◌≡◌ {A = ℕ} 0 1 = cc in absurd (let y : ⊥ = omega arith in y)

unit_more : (r w : ℕ) (s : List ℕ) → look r w s ≡ asks.Waits → unit_of s ≡ unit.More
unit_more r w s e = waits_more (unit_of s) (look_is r w s asks.Waits e (λ z. let z : ◌≡◌ {A = ℕ} 0 1 = cc in omega arith))

-- an arrival at all the bytes is an arrival at the finished unit's, and where it is accepted it uses those
module _ (x : State) (r w n : ℕ) (s : List ℕ) (t : ℕ) (e : look r w s ≡ asks.Finished n) where
  abbrev own : List ℕ
  own = take n s

  parts : own ++ drop n s ≡ s
  parts = take-append-drop n s

  arrives_own : outcome x (Arrive s t) ≡ outcome x (Arrive own t)
  arrives_own = ap (λ (b : List ℕ). outcome x (Arrive b t)) (sym parts) ∙ pieces x own (drop n s) t (unit_whole r w n s e)

  same_unit : unit_of own ≡ unit_of s
  same_unit = sym (unit_stays own (drop n s) (unit_whole r w n s e)) ∙ ap unit_of parts

  unit_is : finished (unit_of own) ≡ asks.Finished n
  unit_is = ap finished same_unit ∙ look_is r w s (asks.Finished n) e (λ z. let z : ◌≡◌ {A = ℕ} 0 1 = cc in omega arith)

  by_unit : (u : Unit) → unit_of own ≡ u → finished u ≡ asks.Finished n → accepted (number (answer_to x.feed x.tables t (cut_from own u))) ≡ true → news_size (cut_from own u) ≡ n
  unfolding finished cut_from news_size
  by_unit unit.More h f a = absurd (let z : ◌≡◌ {A = ℕ} 0 1 = cc in let y : ⊥ = omega arith in y)
  by_unit unit.Heartbeat h f a = let z : 20 ≡ n = cc in z
  by_unit (unit.Message q i k) h f a =
      let z : 20 + max 2 k ≡ n = cc in
      let l = message_length own q i k h in
      let m = four_bytes (message_in own k) (right_size x t q i (message_in own k) a) in
      omega (arith, l, m)

  uses_own : accepted (answer_of x (Arrive own t)) ≡ true → (outcome x (Arrive own t)).given.used ≡ n
  unfolding outcome handed used_of offered news time_of
  uses_own a = rw a (by_unit (unit_of own) refl unit_is a)

after_is : (x : State) (e : Event) → state_of (outcome x e).given.feed (outcome x e).tables ≡ after x e
unfolding after
after_is x e = refl

is_counted_lem : (n k : ℕ) → accepted n ≡ true → cond (accepted n) (k + 1) k ≡ k + 1
is_counted_lem n k e = rw e

-- a scrap that never overruns goes as a frame does, over the bytes B that wait and come
module _ (B s : List ℕ) (t : ℕ) where
  abbrev bytes : Hearing → List ℕ
  bytes y = (flow [] s y).waiting

  record Rel (y : Hearing) (f : Framed) : Type 0 where
    pub state : state_in f ≡ at s t y
    pub counted : f.frame.accepted ≡ y.heard.accepted
    pub fell : f.frame.dropped ≡ y.heard.dropped
    pub left : drop f.frame.used B ≡ bytes y

  abbrev Final : ℕ → Hearing → Framed → Type 0
  Final k z g =
      (state_in g ≡ at s t z)
      × (g.frame.accepted ≡ z.heard.accepted)
      × (z.heard.said ≡ true → g.frame.answer ≡ z.heard.answer)
      × (z.heard.said ≡ false → (k ≡ 0 → ⊥) → T (one_of g.frame.answer (3 ∷ 10 ∷ 11 ∷ [])))
      × (z.heard.line.dropping ≡ false → bytes z ≡ drop g.frame.used B)
      × (g.frame.dropped ≡ z.heard.dropped)

  abbrev asks_of : Hearing → Look
  asks_of y = look (length y.hold) y.heard.line.held (bytes y)

  module _ (y : Hearing) (f : Framed) (r : Rel y f) where
    abbrev next : Framed
    next = frame.onward B t f

    -- the frame's arrival, by what is left
    abbrev by : Outcome → Framed
    by o =
        framed_of
        (record {
          answer = o.given.answer;
          accepted = cond (accepted o.given.answer) (f.frame.accepted + 1) f.frame.accepted;
          used = f.frame.used + o.given.used;
          feed = o.given.feed;
          dropped = f.frame.dropped + o.given.dropped;
        })
        o.tables

    arrival : (o : Outcome) → outcome (at s t y) (Arrive (bytes y) t) ≡ o → next ≡ by o
    unfolding frame.onward
    arrival o e = ap by ((λ i. outcome (r.state i) (Arrive (r.left i) t)) ∙ e)

    counted_by : (b : Bool) → goes_on (onward s t y).heard ≡ b → (onward s t y).heard.accepted ≡ cond b (y.heard.accepted + 1) y.heard.accepted
    counted_by true o = onward_counts s t y ∙ ap (λ (b : Bool). y.heard.accepted + cond b 1 0) o
    counted_by false o =
        onward_counts s t y ∙ ap (λ (b : Bool). y.heard.accepted + cond b 1 0) o ∙ (let z : y.heard.accepted + 0 ≡ y.heard.accepted = omega arith in z)

    not_counted : (n k : ℕ) → accepted n ≡ false → cond (accepted n) (k + 1) k ≡ k
    not_counted n k e = rw e

    module _ (d : y.heard.line.dropping ≡ false) (k : ℕ) where
      abbrev Goal : Type 0
      Goal = Final (suc k) (through (suc k) s t y) (frame.through (suc k) B t f)

      ends : Final (suc k) (onward s t y) next → goes_on (onward s t y).heard ≡ false → accepted next.frame.answer ≡ false → Goal
      ends h o a = rw (through_ends s t y k o, framing.through_ends B t f k a) h

      on_waits : asks_of y ≡ asks.Waits → Goal
      on_waits e =
          let q = waits y.heard.line y.tables y.hold (drop y.heard.used s) t d e in
          let u = unfinished (at s t y) (bytes y) t (unit_more (length y.hold) y.heard.line.held (bytes y) e) in
          let a = arrival (keeps u.answer (at s t y)) u.same in
          let w : accepted next.frame.answer ≡ false = ap (λ (g : Framed). accepted g.frame.answer) a ∙ u.refused in
          ends (
            ap state_in a ∙ sym (quiet_state s t y q),
            ap (λ (g : Framed). g.frame.accepted) a ∙ not_counted u.answer f.frame.accepted u.refused ∙ r.counted ∙ sym (counted_by false (quiet_off s t y q)),
            λ h. absurd (true≢false (sym h ∙ quiet_said s t y q)),
            λ h nz. subst (λ (n : ℕ). T (one_of n (3 ∷ 10 ∷ 11 ∷ []))) (sym (ap (λ (g : Framed). g.frame.answer) a)) u.among,
            λ h. ap (λ (z : S.View). z.waiting) (waits_flow [] s t y d e) ∙ sym r.left
                ∙ ap (λ (k : ℕ). drop k B) (sym (ap (λ (g : Framed). g.frame.used) a ∙ (let z : f.frame.used + 0 ≡ f.frame.used = omega arith in z))),
            ap (λ (g : Framed). g.frame.dropped) a ∙ (let z : f.frame.dropped + 0 ≡ f.frame.dropped = omega arith in z) ∙ r.fell ∙ sym (quiet_fell s t y q),
          )
          (quiet_off s t y q) w

      module _ (n : ℕ) (e : asks_of y ≡ asks.Finished n) where
        abbrev event : Event
        event = Arrive (take n (bytes y)) t

        p : SpokeAt s t y event
        p = fed y.heard.line y.tables y.hold (drop y.heard.used s) t n d e

        o_is : outcome (at s t y) (Arrive (bytes y) t) ≡ outcome (at s t y) event
        o_is = arrives_own (at s t y) (length y.hold) y.heard.line.held n (bytes y) t e

        next_is_lem : next ≡ by (outcome (at s t y) event)
        next_is_lem = arrival (outcome (at s t y) event) o_is

        fell_as : next.frame.dropped ≡ (onward s t y).heard.dropped
        fell_as =
            ap (λ (g : Framed). g.frame.dropped) next_is_lem ∙ ap (λ (k : ℕ). k + (outcome (at s t y) event).given.dropped) r.fell ∙ sym (spoke_fell s t y event p)

        on_refused : accepted (answer_of (at s t y) event) ≡ false → Goal
        on_refused h =
            let o : goes_on (onward s t y).heard ≡ false = spoke_goes s t y event p ∙ h in
            ends (
              ap state_in next_is_lem ∙ after_is (at s t y) event ∙ sym (spoke_state s t y event p),
              ap (λ (g : Framed). g.frame.accepted) next_is_lem ∙ not_counted (answer_of (at s t y) event) f.frame.accepted h ∙ r.counted ∙ sym (counted_by false o),
              λ a. ap (λ (g : Framed). g.frame.answer) next_is_lem ∙ sym (spoke_answer s t y event p),
              λ a nz. absurd (true≢false (sym (spoke_said s t y event p) ∙ a)),
              λ a. absurd (true≢false (sym (spoke_refused s t y event p h) ∙ a)),
              fell_as,
            )
            o (ap (λ (g : Framed). accepted g.frame.answer) next_is_lem ∙ h)

        on_taken : accepted (answer_of (at s t y) event) ≡ true → Rel (onward s t y) next
        on_taken h =
            let o : goes_on (onward s t y).heard ≡ true = spoke_goes s t y event p ∙ h in
            let w : bytes (onward s t y) ≡ drop n (bytes y) = ap (λ (z : S.View). z.waiting) (unit_flow [] s t y d n e) ∙ told_waiting (flow [] s y) event (drop n (bytes y)) h in
            let u : (outcome (at s t y) event).given.used ≡ n = uses_own (at s t y) (length y.hold) y.heard.line.held n (bytes y) t e h in
            record {
              state = ap state_in next_is_lem ∙ after_is (at s t y) event ∙ sym (spoke_state s t y event p);
              counted = ap (λ (g : Framed). g.frame.accepted) next_is_lem ∙ is_counted_lem (answer_of (at s t y) event) f.frame.accepted h ∙ ap (λ (k : ℕ). k + 1) r.counted ∙ sym (counted_by true o);
              fell = fell_as;
              left =
                  ap (λ (g : Framed). drop g.frame.used B) next_is_lem
                  ∙ sym (drop-drop (outcome (at s t y) event).given.used f.frame.used B)
                  ∙ (λ i. drop (u i) (r.left i))
                  ∙ sym w;
            }

  overruns : (y : Hearing) (k : ℕ) → SpokeAt s t y (Overrun t) → accepted (answer_of (at s t y) (Overrun t)) ≡ false → T (all (λ e. not (is_overrun e)) (units (suc k) s t y)) → ⊥
  unfolding all is_overrun
  overruns y k p a w = subst (λ (es : List Event). T (all (λ e. not (is_overrun e)) es)) (units_off s t k y (Overrun t) p (spoke_goes s t y (Overrun t) p ∙ a)) w

  later_fits : (y : Hearing) (k : ℕ) (e : Event) → SpokeAt s t y e → goes_on (onward s t y).heard ≡ true → T (all (λ e. not (is_overrun e)) (units (suc k) s t y))
      → T (all (λ e. not (is_overrun e)) (units k s t (onward s t y)))
  unfolding all
  later_fits y k e p o w =
      (two (not (is_overrun e)) (all (λ e. not (is_overrun e)) (units k s t (onward s t y))) (subst (λ (es : List Event). T (all (λ e. not (is_overrun e)) es)) (units_on s t k y e p o) w)).1

  -- a unit was accepted before it, so a scrap that ends in silence went on
  silent_last : (k : ℕ) (y : Hearing) (f : Framed) → y.heard.said ≡ true
      → ((through k s t y).heard.said ≡ false → (k ≡ 0 → ⊥) → T (one_of (frame.through k B t f).frame.answer (3 ∷ 10 ∷ 11 ∷ [])))
      → (through k s t y).heard.said ≡ false → T (one_of (frame.through k B t f).frame.answer (3 ∷ 10 ∷ 11 ∷ []))
  silent_last zero y f e h a = absurd (true≢false (sym e ∙ (let z : y.heard.said ≡ false = unfold through in a in z)))
  silent_last (suc k) y f e h a = h a (λ z. let w : ⊥ = omega (arith, z) in w)

  -- what a frame and a scrap come to
  abbrev Together : ℕ → Hearing → Type 0
  Together k y =
      (f : Framed) → Rel y f → y.heard.line.dropping ≡ false → (y.heard.said ≡ true → f.frame.answer ≡ y.heard.answer)
      → T (all (λ e. not (is_overrun e)) (units k s t y)) → Final k (through k s t y) (frame.through k B t f)

  together : (k : ℕ) (y : Hearing) → Together k y
  together zero y f r d a w = unfold through frame.through in (r.state, r.counted, a, λ b nz. absurd (nz refl), λ b. sym r.left, r.fell)
  together (suc k) y f r d a w = go (together k (onward s t y)) (asks_of y) refl
    where
      go : Together k (onward s t y) → (v : Look) → asks_of y ≡ v → Final (suc k) (through (suc k) s t y) (frame.through (suc k) B t f)
      go ih asks.Waits e = on_waits y f r d k e
      go ih asks.TooLong e = absurd (overruns y k (long y.heard.line y.tables y.hold (drop y.heard.used s) t d e) (overrun_not (at s t y) t) w)
      go ih (asks.Finished n) e = by_answer (accepted (answer_of (at s t y) (Arrive (take n (bytes y)) t))) refl
        where
          by_answer : (c : Bool) → accepted (answer_of (at s t y) (Arrive (take n (bytes y)) t)) ≡ c → Final (suc k) (through (suc k) s t y) (frame.through (suc k) B t f)
          by_answer false h = on_refused y f r d k n e h
          by_answer true h =
              let p = fed y.heard.line y.tables y.hold (drop y.heard.used s) t n d e in
              let event : Event = Arrive (take n (bytes y)) t in
              let o : goes_on (onward s t y).heard ≡ true = spoke_goes s t y event p ∙ h in
              let q = next_is_lem y f r d k n e in
              let rest = ih (frame.onward B t f) (on_taken y f r d k n e h) (spoke_taken s t y event p h)
              (λ a. ap (λ (g : Framed). g.frame.answer) q ∙ sym (spoke_answer s t y event p)) (later_fits y k event p o w) in
              rw (through_on s t y k o, framing.through_on B t f k (ap (λ (g : Framed). accepted g.frame.answer) q ∙ h))
              (rest.0, rest.1, rest.2, λ a nz. silent_last k (onward s t y) (frame.onward B t f) (spoke_said s t y event p) rest.3 a, rest.4, rest.5)

pub scrap_is_frame : S.ScrapIsFrame
scrap_is_frame x hold scrap allowed time d h w =
    together (behind x.line.held hold scrap) scrap time allowed (opens x hold) (framed_of (opened x.line.feed) x.tables)
    (record { state = refl; counted = refl; fell = refl; left = refl }) d (λ a. absurd (true≢false (sym a))) w

-- with a buffer for the longest unit nothing is too long
never_asked : (u : Unit) → finished u ≡ asks.TooLong → ⊥
unfolding finished
never_asked unit.More e = let z : ◌≡◌ {A = ℕ} 0 1 = cc in omega arith
never_asked unit.Heartbeat e = let z : ◌≡◌ {A = ℕ} 0 1 = cc in omega arith
never_asked (unit.Message q i n) e = let z : ◌≡◌ {A = ℕ} 0 1 = cc in omega arith

never_long : (r w : ℕ) (s : List ℕ) → S.longest ≤ r → w ≤ r → T (bytes_only s) → look r w s ≡ asks.TooLong → ⊥
unfolding look exceeds
never_long r w s l h b e =
    let f : field 0 2 (drop 20 s) < 65536 = field_below 0 2 (drop 20 s) (bytes_drop 20 s b) in
    never_asked (unit_of s) (rw (le-ltb r (full_length s) (omega (arith, f)), no_second (is_sized s) false refl, le-ltb r 22 (omega arith), le-ltb r w h) at e)

module _ (s : List ℕ) (t : ℕ) where
  never_overruns : (k : ℕ) (y : Hearing) → y.heard.line.dropping ≡ false → S.longest ≤ length y.hold → y.heard.line.held ≤ length y.hold → T (bytes_only (flow [] s y).waiting)
      → T (all (λ e. not (is_overrun e)) (units k s t y))
  unfolding all is_overrun
  never_overruns zero y d l h b = unfold units in tt
  never_overruns (suc k) y d l h b = go (never_overruns k (onward s t y)) (look (length y.hold) y.heard.line.held (flow [] s y).waiting) refl
    where
      go : ((onward s t y).heard.line.dropping ≡ false → S.longest ≤ length (onward s t y).hold → (onward s t y).heard.line.held ≤ length (onward s t y).hold
          → T (bytes_only (flow [] s (onward s t y)).waiting) → T (all (λ e. not (is_overrun e)) (units k s t (onward s t y))))
          → (v : Look) → look (length y.hold) y.heard.line.held (flow [] s y).waiting ≡ v → T (all (λ e. not (is_overrun e)) (units (suc k) s t y))
      go ih asks.Waits e = subst (λ (es : List Event). T (all (λ e. not (is_overrun e)) es)) (sym (units_quiet s t k y (waits y.heard.line y.tables y.hold (drop y.heard.used s) t d e))) tt
      go ih asks.TooLong e = absurd (never_long (length y.hold) y.heard.line.held (flow [] s y).waiting l h b e)
      go ih (asks.Finished n) e = by (accepted (answer_of (at s t y) event)) refl
        where
          event : Event
          event = Arrive (take n (flow [] s y).waiting) t

          p : SpokeAt s t y event
          p = fed y.heard.line y.tables y.hold (drop y.heard.used s) t n d e

          by : (c : Bool) → accepted (answer_of (at s t y) event) ≡ c → T (all (λ e. not (is_overrun e)) (units (suc k) s t y))
          by false a = subst (λ (es : List Event). T (all (λ e. not (is_overrun e)) es)) (sym (units_off s t k y event p (spoke_goes s t y event p ∙ a))) tt
          by true a =
              let o = onward_holds s t y d in
              let w : (flow [] s (onward s t y)).waiting ≡ drop n (flow [] s y).waiting =
              ap (λ (z : S.View). z.waiting) (unit_flow [] s t y d n e) ∙ told_waiting (flow [] s y) event (drop n (flow [] s y).waiting) a in
              let rest = ih (spoke_taken s t y event p a) (rw o.0 l) (rw o.0 o.1) (rw w (bytes_drop n (flow [] s y).waiting b)) in
              subst (λ (es : List Event). T (all (λ e. not (is_overrun e)) es)) (sym (units_on s t k y event p (spoke_goes s t y event p ∙ a))) rest

pub room_for_all : S.RoomForAll
unfolding all
room_for_all x hold scrap allowed time l h b c = by allowed x.line.dropping refl
  where
    by : (k : ℕ) (q : Bool) → x.line.dropping ≡ q → T (all (λ e. not (is_overrun e)) (units k scrap time (opens x hold)))
    by zero q d = unfold units in tt
    by (suc k) true d = subst (λ (es : List Event). T (all (λ e. not (is_overrun e)) es)) (sym (units_quiet scrap time k (opens x hold) (dropped x.line x.tables hold scrap time d))) tt
    by (suc k) false d =
        never_overruns scrap time (suc k) (opens x hold) d l h
        (is_T _ (all_append (λ b. ltb b 256) (take x.line.held hold) scrap (all_take (λ b. ltb b 256) x.line.held hold (of_T _ b)) (of_T _ c)))
