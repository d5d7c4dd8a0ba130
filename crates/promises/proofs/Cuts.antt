-- Any scraps as one piece, proved: each is named as its statement in specs/Scraps, with a small letter. Assumes nothing.
use Prim.Native.Nat.{ℕ, zero, suc, ◌+◌, ◌-◌, ◌≤◌, ◌<◌}
use native.Mathlib.Omega.{arith}
use mathlib.Core.Path.{◌≡◌, refl, sym, ap, ◌∙◌}
use mathlib.Core.Bool.{Bool, true, false, cond, not, ◌&&◌, ◌||◌, true≢false}
use mathlib.Core.List.{List, [], ◌∷◌, ◌++◌, append_assoc, append-nil}
use lib.ListN.{length, take, drop, length-append, length-take, length-drop, take-append-drop}
use lib.Seq.{take_at, drop-drop, drop-length, length-take-le, drop-append-le, drop-append-add}
use lib.Dec.{ltb}
use borrow.Author.Tests.{le-ltb, ltb-true, ltb-false}
use Rattle.feed.specs.Events.{State, Event, Arrive, Overrun}
use Rattle.feed.specs.Steps.{accepted, outcome}
use Rattle.feed.specs.declared.Given.{Given}
use Rattle.feed.proofs.Following.{overrun_not}
use Rattle.ground.proofs.Bools.{cond_same, split}
use Rattle.wire.specs.Units.{unit_of}
use Rattle.lines.specs.Looks.{look, exceeds, finished, is_sized, full_length}
use Rattle.lines.specs.Scraps.{Heard, Holding, Hearing, hearing, behind, laid, gathered, moved_up, settled, looked, once, onward, goes_on, through}
use Rattle.lines.specs.declared.Look.{Look}
use Rattle.lines.specs.declared.Look.TheVariants.{Waits, TooLong, Finished}
use Rattle.lines.proofs.Cases.{cond_yes, cond_no}
use Rattle.lines.proofs.Copies.{behind_length, gathered_long, gather_whole}
use Rattle.lines.proofs.Fronts.{look_waits, look_finished}
use Rattle.lines.proofs.Courses.{onward_counts, through_on, through_ends}
use Rattle.promises.specs.Runs.{after, answer_of, trace}
use Rattle.promises.specs.Scraps as S
use Rattle.promises.specs.Scraps.{Lined, state_on, lined_in, opens, scrapped, units, scrap_events, scrap_said, bytes_in, View, view, scraps, one_piece}
use Rattle.promises.proofs.Scraps.{On, Off, at, met_at, walk, once_is, dropped, quiet_off, spoke_goes, spoke_state, spoke_taken, spoke_refused, units_quiet, units_on, units_off, ends, scrap_within, scrap_dropped, hears_dropped, scrap_stops, SpokeAt, waits, long, fed}
use Rattle.promises.proofs.Flows.{event_of, size_of, is_waits, told, joined, answered, rests, pump, pump_rest, pump_go, pump_same, settles, size, later, later_on, later_off, cut, joined_size, any_size, joined_twice, dropped_rests}

-- a buffer that is shorter than what waits is as good as none
unfoldable room : ℕ → ℕ → ℕ
room held r = cond (ltb r held) 0 r

three : (a b : Bool) → (a || b || true) ≡ true
three true b = refl
three false true = refl
three false false = refl

two : (a b : Bool) → (a || true || b) ≡ true
two true b = refl
two false b = refl

exceeds_room : (r held : ℕ) (s : List ℕ) → exceeds r held s ≡ exceeds (room held r) 0 s
unfolding exceeds room
exceeds_room r held s = go (ltb r held) refl
  where
    go : (b : Bool) → ltb r held ≡ b → ((is_sized s && ltb r (full_length s)) || ltb r 22 || b) ≡ ((is_sized s && ltb (cond b 0 r) (full_length s)) || ltb (cond b 0 r) 22 || ltb (cond b 0 r) 0)
    go true e = three (is_sized s && ltb r (full_length s)) (ltb r 22) ∙ sym (two (is_sized s && ltb 0 (full_length s)) (ltb 0 0))
    go false e = rw (le-ltb r 0 (omega arith))

look_room : (r held : ℕ) (s : List ℕ) → look r held s ≡ look (room held r) 0 s
unfolding look
look_room r held s = ap (λ (b : Bool). cond b TooLong (finished (unit_of s))) (exceeds_room r held s)

moved_long : (w n : ℕ) (h : List ℕ) → w ≤ length h → length (moved_up n w h) ≡ length h
moved_long w n h a =
    let k : length (drop n (take w h)) ≡ w - n = length-drop n (take w h) ∙ ap (λ (i : ℕ). i - n) (length-take-le w h a) in
    length-append (drop n (take w h)) (drop (length (drop n (take w h))) h) ∙ rw (k, length-drop (w - n) h) (omega arith)

-- where a scrap stands, as one list of bytes: those that wait, and those that are left
abbrev pub flow : List (Event × ℕ) → List ℕ → Hearing → View
flow said s y = record {
  said = said;
  state = state_on (lined_in y);
  waiting = take y.heard.line.held y.hold ++ drop y.heard.used s;
  dropping = y.heard.line.dropping;
}

abbrev room_at : Hearing → ℕ
room_at y = room y.heard.line.held (length y.hold)

module _ (S : List (Event × ℕ)) (s : List ℕ) (t : ℕ) (y : Hearing) (d : y.heard.line.dropping ≡ false) where
  abbrev w : ℕ
  w = y.heard.line.held

  abbrev left : List ℕ
  left = drop y.heard.used s

  abbrev come : List ℕ
  come = behind w y.hold left

  abbrev lk : Look
  lk = look (length y.hold) w come

  look_as : (v : Look) → lk ≡ v → look (room_at y) 0 (flow S s y).waiting ≡ v
  look_as v e = sym (look_room (length y.hold) w come) ∙ e

  none_after : drop (y.heard.used + length left) s ≡ []
  none_after = sym (drop-drop (length left) y.heard.used s) ∙ drop-length left

  -- what only waits is the same bytes as before
  pub waits_flow : lk ≡ Waits → flow S s (onward s t y) ≡ flow S s y
  unfolding onward looked
  waits_flow e =
      let o = once_is y.heard.line y.tables y.hold left t Waits d e in
      let f = look_waits (length y.hold) w come e in
      let k : take (w + length left) (laid come y.hold) ≡ come = take_at come (drop (length come) y.hold) (w + length left) (behind_length w y.hold left f.0) in
      let b : take (w + length left) (laid come y.hold) ++ drop (y.heard.used + length left) s ≡ come = rw (k, none_after) (append-nil come) in
      ap (λ (z : Hearing). flow S s (hearing
      (record { said = z.heard.said; answer = z.heard.answer; accepted = y.heard.accepted + z.heard.accepted; used = y.heard.used + z.heard.used; line = z.heard.line; dropped = y.heard.dropped + z.heard.dropped })
      z.tables z.hold)) o
      ∙ (λ i. record { said = S; state = state_on (lined_in y); waiting = b i; dropping = sym d i })

  -- 22 ends it
  long_flow : lk ≡ TooLong → flow (S ++ ((Overrun t, answer_of (at s t y) (Overrun t)) ∷ [])) s (onward s t y) ≡ told (flow S s y) (Overrun t) []
  unfolding told onward
  long_flow e =
      let p = long y.heard.line y.tables y.hold left t d e in
      let n = overrun_not (at s t y) t in
      let r = p.refused n in
      λ i. record {
        said = S ++ ((Overrun t, answer_of (at s t y) (Overrun t)) ∷ []);
        state = p.state i;
        waiting =
            ((λ j. take (r.1 j) (once y.heard.line y.tables y.hold left t).hold ++ drop (y.heard.used + r.0 j) s)
            ∙ none_after ∙ sym (cond_same {A = List ℕ} (accepted (answer_of (at s t y) (Overrun t))) [])) i;
        dropping = (r.2 ∙ sym (ap not n)) i;
      }

  -- a unit goes through the feed
  module _ (n : ℕ) (e : lk ≡ Finished n) where
    abbrev unit : Event
    unit = Arrive (take n come) t

    abbrev g : Given
    g = (outcome (at s t y) unit).given

    facts : (w ≤ length y.hold) × (n ≤ length y.hold) × (n ≤ length come) × (20 ≤ n)
    facts = look_finished (length y.hold) w come n e

    abbrev G : List ℕ
    G = gathered n w y.hold left

    -- what is left behind an accepted unit
    rest_is : take (w - n) (moved_up n w G) ++ drop (y.heard.used + (n - w)) s ≡ drop n come
    rest_is = go (ltb n w) refl
      where
        go : (b : Bool) → ltb n w ≡ b → take (w - n) (moved_up n w G) ++ drop (y.heard.used + (n - w)) s ≡ drop n come
        go true f =
            let l = ltb-true n w f in
            let h : G ≡ y.hold = sym (gather_whole w y.hold left facts.0 n (omega arith)) in
            let k : length (drop n (take w y.hold)) ≡ w - n = length-drop n (take w y.hold) ∙ ap (λ (i : ℕ). i - n) (length-take-le w y.hold facts.0) in
            let u : y.heard.used + (n - w) ≡ y.heard.used = omega arith in
            (λ i. take (w - n) (moved_up n w (h i)) ++ drop (u i) s)
            ∙ ap (λ (z : List ℕ). z ++ left) (take_at (drop n (take w y.hold)) (drop (length (drop n (take w y.hold))) y.hold) (w - n) k)
            ∙ sym (drop-append-le n (take w y.hold) left (rw (length-take-le w y.hold facts.0) (omega arith)))
        go false f =
            let l = ltb-false n w f in
            let z : w - n ≡ 0 = omega arith in
            let q : length (take w y.hold) + (n - w) ≡ n = rw (length-take-le w y.hold facts.0) (omega arith) in
            (λ i. take (z i) (moved_up n w G) ++ drop (y.heard.used + (n - w)) s)
            ∙ sym (drop-drop (n - w) y.heard.used s)
            ∙ sym (drop-append-add (take w y.hold) left (n - w))
            ∙ ap (λ (i : ℕ). drop i come) q

    fed_hold : (once y.heard.line y.tables y.hold left t).hold ≡ (settled g n w (length left) G).hold
    unfolding looked
    fed_hold = ap (λ (z : Hearing). z.hold) (once_is y.heard.line y.tables y.hold left t (Finished n) d e)

    fed_heard : (once y.heard.line y.tables y.hold left t).heard ≡ (settled g n w (length left) G).heard
    unfolding looked
    fed_heard = ap (λ (z : Hearing). z.heard) (once_is y.heard.line y.tables y.hold left t (Finished n) d e)

    -- of a kept outcome: the bytes left
    abbrev left_of : Holding → List ℕ
    left_of k = take k.heard.line.held k.hold ++ drop (y.heard.used + k.heard.used) s

    left_is : left_of (settled g n w (length left) G) ≡ cond (accepted g.answer) (drop n come) []
    unfolding settled
    left_is =
        split (λ (k : Holding). left_of k ≡ cond (accepted g.answer) (drop n come) []) (accepted g.answer) _ _
        (λ a. rest_is ∙ sym (cond_yes (accepted g.answer) (drop n come) [] a))
        (λ a. none_after ∙ sym (cond_no (accepted g.answer) (drop n come) [] a))

    drops_is : (settled g n w (length left) G).heard.line.dropping ≡ not (accepted g.answer)
    unfolding settled
    drops_is =
        split (λ (k : Holding). k.heard.line.dropping ≡ not (accepted g.answer)) (accepted g.answer) _ _ (λ a. sym (ap not a)) (λ a. sym (ap not a))

    pub unit_flow : flow (S ++ ((unit, answer_of (at s t y) unit) ∷ [])) s (onward s t y) ≡ told (flow S s y) unit (drop n come)
    unfolding told onward
    unit_flow =
        let p = fed y.heard.line y.tables y.hold left t n d e in
        λ i. record {
          said = S ++ ((unit, answer_of (at s t y) unit) ∷ []);
          state = p.state i;
          waiting = ((λ j. take (fed_heard j).line.held (fed_hold j) ++ drop (y.heard.used + (fed_heard j).used) s) ∙ left_is) i;
          dropping = (ap (λ (r : Heard). r.line.dropping) fed_heard ∙ drops_is) i;
        }

    -- the buffer is as long as it was, and what waits fits it
    hold_long : accepted g.answer ≡ true → length (onward s t y).hold ≡ length y.hold
    unfolding onward settled
    hold_long a =
        ap length (fed_hold ∙ ap (λ (k : Holding). k.hold) (cond_yes (accepted g.answer) _ _ a))
        ∙ moved_long w n G (rw (gathered_long w y.hold left facts.0 n facts.1 there) facts.0)
        ∙ gathered_long w y.hold left facts.0 n facts.1 there
      where
        there : n ≤ w + length left
        there = rw (← behind_length w y.hold left facts.0) facts.2

    held_less : accepted g.answer ≡ true → (onward s t y).heard.line.held ≡ w - n
    unfolding onward settled
    held_less a = ap (λ (r : Heard). r.line.held) fed_heard ∙ ap (λ (k : Holding). k.heard.line.held) (cond_yes (accepted g.answer) _ _ a)

    room_kept : accepted g.answer ≡ true → room_at (onward s t y) ≡ room_at y
    unfolding room
    room_kept a =
        rw (hold_long a, held_less a, le-ltb (length y.hold) (w - n) (let f = facts.0 in omega arith), le-ltb (length y.hold) w facts.0)

pub told_waiting : (l : View) (e : Event) (r : List ℕ) → accepted (answer_of l.state e) ≡ true → (told l e r).waiting ≡ r
unfolding told
told_waiting l e r h = rw h

-- what is due of a list of bytes that asks for v
module _ (r t : ℕ) (l : View) (v : Look) (e : look r 0 l.waiting ≡ v) where
  answered_is : answered r t l ≡ told l (event_of v l.waiting t) (drop (size_of v) l.waiting)
  unfolding answered
  answered_is = rw e

  rests_is : l.dropping ≡ false → rests r t l ≡ is_waits v
  unfolding rests
  rests_is d = ap (λ (b : Bool). b || is_waits (look r 0 l.waiting)) d ∙ ap is_waits e

-- a refusal leaves nothing, whatever stood behind it
refused_rest : (l : View) (e : Event) (a b : List ℕ) → accepted (answer_of l.state e) ≡ false → told l e a ≡ told l e b
unfolding told
refused_rest l e a b h = rw h

refused_drops : (l : View) (e : Event) (a : List ℕ) → accepted (answer_of l.state e) ≡ false → (told l e a).dropping ≡ true
unfolding told
refused_drops l e a h = rw h

module _ (s : List ℕ) (t : ℕ) where
  abbrev Same : ℕ → Hearing → Type 0
  Same k y =
      (S : List (Event × ℕ)) → y.heard.line.dropping ≡ false → flow (S ++ trace (at s t y) (units k s t y)) s (through k s t y) ≡ pump (room_at y) t k (flow S s y)

  module _ (k : ℕ) (y : Hearing) (S : List (Event × ℕ)) (d : y.heard.line.dropping ≡ false) where
    abbrev here : View
    here = flow S s y

    abbrev bytes : List ℕ
    bytes = behind y.heard.line.held y.hold (drop y.heard.used s)

    -- a turn that was refused
    off : (v : Look) (e : Event) (rest : List ℕ) → look (length y.hold) y.heard.line.held bytes ≡ v → is_waits v ≡ false → event_of v bytes t ≡ e → SpokeAt s t y e
        → flow (S ++ ((e, answer_of (at s t y) e) ∷ [])) s (onward s t y) ≡ told here e rest → accepted (answer_of (at s t y) e) ≡ false
        → flow (S ++ trace (at s t y) (units (suc k) s t y)) s (through (suc k) s t y) ≡ pump (room_at y) t (suc k) here
    unfolding trace
    off v e rest a w i p f h =
        let o : Off (onward s t y) = spoke_goes s t y e p ∙ h in
        let b = look_as S s t y d v a in
        let z : answered (room_at y) t here ≡ told here e rest =
        answered_is (room_at y) t here v b ∙ ap (λ (x : Event). told here x (drop (size_of v) bytes)) i ∙ refused_rest here e (drop (size_of v) bytes) rest h in
        let q : rests (room_at y) t (told here e rest) ≡ true = dropped_rests (room_at y) t [] (told here e rest) (refused_drops here e rest h) in
        rw (units_off s t k y e p o, through_ends s t y k o)
        (f ∙ sym (pump_go (room_at y) t k here (rests_is (room_at y) t here v b d ∙ w) ∙ ap (pump (room_at y) t k) z ∙ pump_rest (room_at y) t k (told here e rest) q))

    quiet : look (length y.hold) y.heard.line.held bytes ≡ Waits
        → flow (S ++ trace (at s t y) (units (suc k) s t y)) s (through (suc k) s t y) ≡ pump (room_at y) t (suc k) here
    unfolding trace is_waits
    quiet a =
        let q = waits y.heard.line y.tables y.hold (drop y.heard.used s) t d a in
        let b = look_as S s t y d Waits a in
        rw (units_quiet s t k y q, through_ends s t y k (quiet_off s t y q))
        (ap (λ (x : List (Event × ℕ)). flow x s (onward s t y)) (append-nil S) ∙ waits_flow S s t y d a
        ∙ sym (pump_rest (room_at y) t (suc k) here (rests_is (room_at y) t here Waits b d)))

    taken : (n : ℕ) (a : look (length y.hold) y.heard.line.held bytes ≡ Finished n) → accepted (answer_of (at s t y) (Arrive (take n bytes) t)) ≡ true → Same k (onward s t y)
        → flow (S ++ trace (at s t y) (units (suc k) s t y)) s (through (suc k) s t y) ≡ pump (room_at y) t (suc k) here
    unfolding trace is_waits event_of size_of
    taken n a h ih =
        let e : Event = Arrive (take n bytes) t in
        let p = fed y.heard.line y.tables y.hold (drop y.heard.used s) t n d a in
        let o : On (onward s t y) = spoke_goes s t y e p ∙ h in
        let b = look_as S s t y d (Finished n) a in
        let m : at s t (onward s t y) ≡ after (at s t y) e = spoke_state s t y e p in
        let c : (onward s t y).heard.line.dropping ≡ false = spoke_taken s t y e p h in
        let T₁ : List (Event × ℕ) = (e, answer_of (at s t y) e) ∷ [] in
        let j : (S ++ T₁) ++ trace (at s t (onward s t y)) (units k s t (onward s t y)) ≡ S ++ ((e, answer_of (at s t y) e) ∷ trace (after (at s t y) e) (units k s t (onward s t y))) =
        append_assoc S T₁ (trace (at s t (onward s t y)) (units k s t (onward s t y))) ∙ ap (λ (x : State). S ++ ((e, answer_of (at s t y) e) ∷ trace x (units k s t (onward s t y)))) m in
        rw (units_on s t k y e p o, through_on s t y k o)
        (ap (λ (x : List (Event × ℕ)). flow x s (through k s t (onward s t y))) (sym j)
        ∙ ih (S ++ T₁) c
        ∙ (λ i. pump (room_kept S s t y d n a h i) t k (unit_flow S s t y d n a i))
        ∙ sym (pump_go (room_at y) t k here (rests_is (room_at y) t here (Finished n) b d) ∙ ap (pump (room_at y) t k) (answered_is (room_at y) t here (Finished n) b)))

  through_flow : (k : ℕ) (y : Hearing) → Same k y
  through_flow zero y S d = unfold through units trace pump in ap (λ (x : List (Event × ℕ)). flow x s y) (append-nil S)
  through_flow (suc k) y S d =
      by (through_flow k (onward s t y)) (look (length y.hold) y.heard.line.held (behind y.heard.line.held y.hold (drop y.heard.used s))) refl
    where
      by : Same k (onward s t y) → (v : Look) → look (length y.hold) y.heard.line.held (behind y.heard.line.held y.hold (drop y.heard.used s)) ≡ v
          → flow (S ++ trace (at s t y) (units (suc k) s t y)) s (through (suc k) s t y) ≡ pump (room_at y) t (suc k) (flow S s y)
      by ih Waits a = quiet k y S d a
      by ih TooLong a =
          off k y S d TooLong (Overrun t) [] a (unfold is_waits in refl) (unfold event_of in refl) (long y.heard.line y.tables y.hold (drop y.heard.used s) t d a)
          (long_flow S s t y d a) (overrun_not (at s t y) t)
      by ih (Finished n) a = go (accepted (answer_of (at s t y) (Arrive (take n (behind y.heard.line.held y.hold (drop y.heard.used s))) t))) refl
        where
          go : (b : Bool) → accepted (answer_of (at s t y) (Arrive (take n (behind y.heard.line.held y.hold (drop y.heard.used s))) t)) ≡ b
              → flow (S ++ trace (at s t y) (units (suc k) s t y)) s (through (suc k) s t y) ≡ pump (room_at y) t (suc k) (flow S s y)
          go true h = taken k y S d n a h ih
          go false h =
              off k y S d (Finished n) (Arrive (take n (behind y.heard.line.held y.hold (drop y.heard.used s))) t) (drop n (behind y.heard.line.held y.hold (drop y.heard.used s))) a
              (unfold is_waits in refl) (unfold event_of in refl) (fed y.heard.line y.tables y.hold (drop y.heard.used s) t n d a)
              (unit_flow S s t y d n a) h

-- a turn of a line that does not drop: what waits then fits the buffer, which is as long as it was
module _ (s : List ℕ) (t : ℕ) (y : Hearing) (d : y.heard.line.dropping ≡ false) where
  abbrev Holds : List ℕ → ℕ → Type 0
  Holds h k = (length h ≡ length y.hold) × (k ≤ length y.hold)

  abbrev rest : List ℕ
  rest = drop y.heard.used s

  abbrev held : ℕ
  held = y.heard.line.held

  turn_is : (v : Look) → look (length y.hold) held (behind held y.hold rest) ≡ v → once y.heard.line y.tables y.hold rest t ≡ looked v y.heard.line y.tables y.hold rest t
  turn_is v e = once_is y.heard.line y.tables y.hold rest t v d e

  laid_long : (b : List ℕ) → length b ≤ length y.hold → length (laid b y.hold) ≡ length y.hold
  laid_long b l = length-append b (drop (length b) y.hold) ∙ rw (length-drop (length b) y.hold) (omega arith)

  looked_holds : (v : Look) → look (length y.hold) held (behind held y.hold rest) ≡ v
      → Holds (looked v y.heard.line y.tables y.hold rest t).hold (looked v y.heard.line y.tables y.hold rest t).heard.line.held
  unfolding looked settled
  looked_holds Waits e =
      let f = look_waits (length y.hold) held (behind held y.hold rest) e in
      (laid_long (behind held y.hold rest) f.1, rw (← behind_length held y.hold rest f.0) f.1)
  looked_holds TooLong e = (refl, omega arith)
  looked_holds (Finished n) e =
      let f = look_finished (length y.hold) held (behind held y.hold rest) n e in
      let there : n ≤ held + length rest = rw (← behind_length held y.hold rest f.0) f.2 in
      let l = gathered_long held y.hold rest f.0 n f.1 there in
      split (λ (k : Holding). Holds k.hold k.heard.line.held) (accepted (outcome (at s t y) (Arrive (take n (behind held y.hold rest)) t)).given.answer) _ _
      (λ a. (moved_long held n (gathered n held y.hold rest) (rw l f.0) ∙ l, omega (arith, f.0)))
      (λ a. (l, omega arith))

  pub onward_holds : Holds (onward s t y).hold (onward s t y).heard.line.held
  unfolding onward
  onward_holds =
      let v : Look = look (length y.hold) held (behind held y.hold rest) in
      let o = turn_is v refl in
      rw o (looked_holds v refl)

  -- an accepted unit takes a byte at least
  abbrev bytes_of : Hearing → List ℕ
  bytes_of z = (flow [] s z).waiting

  pub shrinks : On (onward s t y) → (length (bytes_of (onward s t y)) + 1 ≤ length (bytes_of y)) × ((onward s t y).heard.line.dropping ≡ false)
  shrinks o = by (look (length y.hold) held (behind held y.hold rest)) refl
    where
      by : (v : Look) → look (length y.hold) held (behind held y.hold rest) ≡ v → (length (bytes_of (onward s t y)) + 1 ≤ length (bytes_of y)) × ((onward s t y).heard.line.dropping ≡ false)
      by Waits e = absurd (true≢false (sym o ∙ quiet_off s t y (waits y.heard.line y.tables y.hold rest t d e)))
      by TooLong e =
          absurd (true≢false (sym o ∙ spoke_goes s t y (Overrun t) (long y.heard.line y.tables y.hold rest t d e) ∙ overrun_not (at s t y) t))
      by (Finished n) e =
          let p = fed y.heard.line y.tables y.hold rest t n d e in
          let a = sym (spoke_goes s t y (Arrive (take n (behind held y.hold rest)) t) p) ∙ o in
          let f = look_finished (length y.hold) held (behind held y.hold rest) n e in
          let u = ap (λ (z : View). z.waiting) (unit_flow [] s t y d n e) ∙ told_waiting (flow [] s y) (Arrive (take n (behind held y.hold rest)) t) (drop n (behind held y.hold rest)) a in
          (rw (u, length-drop n (behind held y.hold rest)) (omega (arith, f.2, f.3)), spoke_taken s t y (Arrive (take n (behind held y.hold rest)) t) p a)

module _ (s : List ℕ) (t : ℕ) where
  abbrev Fitting : Hearing → Type 0
  Fitting y = y.heard.line.held ≤ length y.hold

  -- no more units than bytes
  counts : (k : ℕ) (y : Hearing) → y.heard.line.dropping ≡ false → (through k s t y).heard.accepted ≤ y.heard.accepted + length (flow [] s y).waiting
  counts =
      walk s t (λ k y z. y.heard.line.dropping ≡ false → z.heard.accepted ≤ y.heard.accepted + length (flow [] s y).waiting)
      (λ y d. omega arith)
      (λ k y z o on d.
      let h = shrinks s t y d o in
      let c = onward_counts s t y ∙ ap (λ (b : Bool). y.heard.accepted + cond b 1 0) o in
      omega (arith, on h.1, h.0, c))
      (λ k y o d. let c = onward_counts s t y ∙ ap (λ (b : Bool). y.heard.accepted + cond b 1 0) o in omega (arith, c))

  later_holds : (k : ℕ) (y : Hearing) → y.heard.line.dropping ≡ false → Fitting y → (length (through k s t y).hold ≡ length y.hold) × Fitting (through k s t y)
  later_holds =
      walk s t (λ k y z. y.heard.line.dropping ≡ false → Fitting y → (length z.hold ≡ length y.hold) × Fitting z)
      (λ y d f. (refl, f))
      (λ k y z o on d f.
      let h = onward_holds s t y d in
      let r = on (shrinks s t y d o).1 (rw h.0 h.1) in
      (r.0 ∙ h.0, r.1))
      (λ k y o d f. let h = onward_holds s t y d in (h.0, rw h.0 h.1))

  ends_holds : (k : ℕ) (y : Hearing) → y.heard.line.dropping ≡ false → (length (through (suc k) s t y).hold ≡ length y.hold) × Fitting (through (suc k) s t y)
  unfolding through
  ends_holds k y d =
      let h = onward_holds s t y d in
      let f : Fitting (onward s t y) = rw h.0 h.1 in
      split (λ (z : Hearing). (length z.hold ≡ length y.hold) × Fitting z) (goes_on (onward s t y).heard) _ _
      (λ o. let r = later_holds k (onward s t y) (shrinks s t y d o).1 f in (r.0 ∙ h.0, r.1))
      (λ o. (h.0, f))

-- no byte is lost while it does not drop
module _ (s : List ℕ) (t : ℕ) where
  abbrev Goes : ℕ → Hearing → Type 0
  Goes k y = (through k s t y).heard.line.dropping ≡ false → (flow [] s y).waiting ≡ bytes_in (units k s t y) ++ (flow [] s (through k s t y)).waiting

  module _ (k : ℕ) (y : Hearing) (d : y.heard.line.dropping ≡ false) where
    abbrev come' : List ℕ
    come' = behind y.heard.line.held y.hold (drop y.heard.used s)

    goes_waits : look (length y.hold) y.heard.line.held come' ≡ Waits → Goes (suc k) y
    unfolding bytes_in
    goes_waits e h =
        let q = waits y.heard.line y.tables y.hold (drop y.heard.used s) t d e in
        rw (units_quiet s t k y q, through_ends s t y k (quiet_off s t y q)) (sym (ap (λ (z : View). z.waiting) (waits_flow [] s t y d e)))

    goes_unit : (n : ℕ) → look (length y.hold) y.heard.line.held come' ≡ Finished n → accepted (answer_of (at s t y) (Arrive (take n come') t)) ≡ true
        → ((onward s t y).heard.line.dropping ≡ false → Goes k (onward s t y)) → Goes (suc k) y
    unfolding bytes_in
    goes_unit n e a rest h =
        let e' : Event = Arrive (take n come') t in
        let p = fed y.heard.line y.tables y.hold (drop y.heard.used s) t n d e in
        let o : On (onward s t y) = spoke_goes s t y e' p ∙ a in
        let w : (flow [] s (onward s t y)).waiting ≡ drop n come' = ap (λ (z : View). z.waiting) (unit_flow [] s t y d n e) ∙ told_waiting (flow [] s y) e' (drop n come') a in
        let g : through (suc k) s t y ≡ through k s t (onward s t y) = through_on s t y k o in
        let i = rest (spoke_taken s t y e' p a) (sym (ap (λ (z : Hearing). z.heard.line.dropping) g) ∙ h) in
        sym (take-append-drop n come') ∙ ap (λ (b : List ℕ). take n come' ++ b) (sym w ∙ i)
        ∙ sym (append_assoc (take n come') (bytes_in (units k s t (onward s t y))) (flow [] s (through k s t (onward s t y))).waiting)
        ∙ (λ j. bytes_in (sym (units_on s t k y e' p o) j) ++ (flow [] s (sym g j)).waiting)

  goes_all : (k : ℕ) (y : Hearing) → y.heard.line.dropping ≡ false → Goes k y
  goes_all zero y d h = unfold through units bytes_in in refl
  goes_all (suc k) y d h = by (goes_all k (onward s t y)) (look (length y.hold) y.heard.line.held (behind y.heard.line.held y.hold (drop y.heard.used s))) refl
    where
      refused : (e : Event) → SpokeAt s t y e → accepted (answer_of (at s t y) e) ≡ false → ⊥
      refused e p a =
          true≢false (sym (ap (λ (z : Hearing). z.heard.line.dropping) (through_ends s t y k (spoke_goes s t y e p ∙ a)) ∙ spoke_refused s t y e p a) ∙ h)

      by : ((onward s t y).heard.line.dropping ≡ false → Goes k (onward s t y)) → (v : Look)
          → look (length y.hold) y.heard.line.held (behind y.heard.line.held y.hold (drop y.heard.used s)) ≡ v
          → (flow [] s y).waiting ≡ bytes_in (units (suc k) s t y) ++ (flow [] s (through (suc k) s t y)).waiting
      by rest Waits e = goes_waits k y d e h
      by rest TooLong e = absurd (refused (Overrun t) (long y.heard.line y.tables y.hold (drop y.heard.used s) t d e) (overrun_not (at s t y) t))
      by rest (Finished n) e = go (accepted (answer_of (at s t y) event)) refl
        where
          event : Event
          event = Arrive (take n (behind y.heard.line.held y.hold (drop y.heard.used s))) t

          go : (b : Bool) → accepted (answer_of (at s t y) event) ≡ b → (flow [] s y).waiting ≡ bytes_in (units (suc k) s t y) ++ (flow [] s (through (suc k) s t y)).waiting
          go true a = goes_unit k y d n e a rest h
          go false a = absurd (refused event (fed y.heard.line y.tables y.hold (drop y.heard.used s) t n d e) a)

-- a line that does not drop did not before
pub no_byte_lost : S.NoByteLost
no_byte_lost x hold scrap allowed time h = goes_all scrap time allowed (opens x hold) (before x.line.dropping refl) h
  where
    before : (b : Bool) → x.line.dropping ≡ b → x.line.dropping ≡ false
    before false d = d
    before true d = absurd (true≢false (sym (ap (λ (y : Lined). y.line.dropping) (hears_dropped x hold scrap allowed time d) ∙ d) ∙ h))

-- a line that drops meets nothing
pub no_events : (x : Lined) (hold s : List ℕ) (t : ℕ) → x.line.dropping ≡ true → (k : ℕ) → units (suc k) s t (opens x hold) ≡ []
no_events x hold s t d k = units_quiet s t k (opens x hold) (dropped x.line x.tables hold s t d)

-- a scrap with enough allowed
module _ (x : Lined) (hold s : List ℕ) (n t : ℕ) (h : length (behind x.line.held hold s) ≤ n) where
  abbrev start : Hearing
  start = opens x hold

  abbrev ended : Hearing
  ended = scrapped x hold s (suc n) t

  never_reached : x.line.dropping ≡ false → ended.heard.accepted < suc n
  never_reached d = omega (arith, counts s t (suc n) start d, h)

  all_used : x.line.dropping ≡ false → ended.heard.used ≡ length s
  all_used d = by ended.heard.said refl (accepted ended.heard.answer) refl
    where
      by : (a : Bool) → ended.heard.said ≡ a → (b : Bool) → accepted ended.heard.answer ≡ b → ended.heard.used ≡ length s
      by false e b f = (ends s t n start (omega arith)).0 e
      by true e true f = absurd (let z : ⊥ = omega (arith, (ends s t n start (omega arith)).1 e f, never_reached d) in z)
      by true e false f = ((ends s t n start (omega arith)).2 e f).0

  module _ (S : List (Event × ℕ)) where
    abbrev before : View
    before = view S start

    joined_start : flow S s start ≡ joined s before
    unfolding joined
    joined_start = refl

    call_off : x.line.dropping ≡ true → view (S ++ scrap_said x hold s (suc n) t) ended ≡ before
    unfolding trace
    call_off d =
        let e = scrap_dropped x hold s n t d in
        rw (no_events x hold s t d n) ((λ i. view (append-nil S i) (e i)))

    call_on : x.line.dropping ≡ false → view (S ++ scrap_said x hold s (suc n) t) ended ≡ pump (room x.line.held (length hold)) t (suc n) (joined s before)
    call_on d =
        let u : take ended.heard.line.held ended.hold ++ drop ended.heard.used s ≡ take ended.heard.line.held ended.hold =
        ap (λ (k : ℕ). take ended.heard.line.held ended.hold ++ drop k s) (all_used d)
        ∙ ap (λ (z : List ℕ). take ended.heard.line.held ended.hold ++ z) (drop-length s)
        ∙ append-nil (take ended.heard.line.held ended.hold) in
        (λ i. record { said = S ++ scrap_said x hold s (suc n) t; state = state_on (lined_in ended); waiting = sym u i; dropping = ended.heard.line.dropping })
        ∙ through_flow s t (suc n) start S d ∙ ap (pump (room x.line.held (length hold)) t (suc n)) joined_start

    -- a call is what comes after, with any number of turns that suffices
    call_is : (k : ℕ) → suc (length (take x.line.held hold ++ s)) ≤ k → view (S ++ scrap_said x hold s (suc n) t) ended ≡ later (room x.line.held (length hold)) t s k before
    call_is k m = by x.line.dropping refl
      where
        r : ℕ
        r = room x.line.held (length hold)

        by : (a : Bool) → x.line.dropping ≡ a → view (S ++ scrap_said x hold s (suc n) t) ended ≡ later r t s k before
        by true d = call_off d ∙ sym (later_off r t s k before d)
        by false d =
            let z = joined_size r t before s d in
            call_on d ∙ pump_same r t (suc n) k (joined s before) (omega (arith, z, h)) (omega (arith, z, m)) ∙ sym (later_on r t s k before d)

    rests_after : x.line.dropping ≡ false → rests (room x.line.held (length hold)) t (view (S ++ scrap_said x hold s (suc n) t) ended) ≡ true
    rests_after d =
        rw (call_on d) (settles (room x.line.held (length hold)) t (suc n) (joined s before)
        (let z = joined_size (room x.line.held (length hold)) t before s d in omega (arith, z, h)))

-- the buffer is as long as it was
pub scrap_holds : S.ScrapHolds
scrap_holds x hold scrap zero time = unfold through in (refl, λ f. f)
scrap_holds x hold scrap (suc k) time = by x.line.dropping refl
  where
    by : (c : Bool) → x.line.dropping ≡ c
        → (length (scrapped x hold scrap (suc k) time).hold ≡ length hold)
        × (x.line.held ≤ length hold → (scrapped x hold scrap (suc k) time).heard.line.held ≤ length hold)
    by true d = rw (scrap_dropped x hold scrap k time d) (refl, λ f. f)
    by false d = let h = ends_holds scrap time k (opens x hold) d in (h.0, λ f. rw (← h.0) h.1)

-- without room something is due
no_room : (s : List ℕ) → is_waits (look 0 0 s) ≡ false
unfolding look exceeds is_waits
no_room s = rw (two (is_sized s && ltb 0 (full_length s)) (ltb 0 0))

-- the room stays while bytes wait
module _ (x : Lined) (hold a : List ℕ) (n t : ℕ) (h : length (behind x.line.held hold a) ≤ n) (S : List (Event × ℕ)) (d : x.line.dropping ≡ false) (e : (scrapped x hold a (suc n) t).heard.line.dropping ≡ false) where
  abbrev there : Hearing
  there = scrapped x hold a (suc n) t

  still_waits : is_waits (look (room x.line.held (length hold)) 0 (take there.heard.line.held there.hold)) ≡ true
  unfolding rests
  still_waits = rw e at (rests_after x hold a n t h S d)

  room_stays : room there.heard.line.held (length there.hold) ≡ room x.line.held (length hold)
  unfolding room
  room_stays =
      let k = ends_holds a t n (opens x hold) d in
      cond_no (ltb (length there.hold) there.heard.line.held) 0 (length there.hold) (le-ltb (length there.hold) there.heard.line.held k.1)
      ∙ k.0 ∙ by (ltb (length hold) x.line.held) refl
    where
      by : (b : Bool) → ltb (length hold) x.line.held ≡ b → length hold ≡ cond b 0 (length hold)
      by true f =
          absurd (true≢false (sym still_waits ∙ ap (λ (r : ℕ). is_waits (look r 0 (take there.heard.line.held there.hold)))
          (unfold room in cond_yes (ltb (length hold) x.line.held) 0 (length hold) f) ∙ no_room (take there.heard.line.held there.hold)))
      by false f = refl

after_size : (r t : ℕ) (b : List ℕ) (l : View) → size r t (joined b l) ≤ suc (length (l.waiting ++ b))
unfolding joined
after_size r t b l = any_size r t (joined b l)

-- no more bytes wait than waited in the buffer and came
waits_most : (x : Lined) (hold s : List ℕ) (k t : ℕ)
    → length (take (scrapped x hold s k t).heard.line.held (scrapped x hold s k t).hold) ≤ length (take x.line.held hold) + length s
waits_most x hold s k t =
    let w = scrap_within x hold s k t in
    let e = (scrap_holds x hold s k t).0 in
    omega (arith, w.1, w.2, e, length-take x.line.held hold, length-take (scrapped x hold s k t).heard.line.held (scrapped x hold s k t).hold)

-- two scraps are one piece
module _ (x : Lined) (hold a b : List ℕ) (n t : ℕ) (h : length (behind x.line.held hold (a ++ b)) ≤ n) (S : List (Event × ℕ)) where
  abbrev first : Hearing
  first = scrapped x hold a (suc n) t

  abbrev S' : List (Event × ℕ)
  S' = S ++ scrap_said x hold a (suc n) t

  abbrev second : Hearing
  second = scrapped (lined_in first) first.hold b (suc n) t

  abbrev at_once : Hearing
  at_once = scrapped x hold (a ++ b) (suc n) t

  enough_first : length (behind x.line.held hold a) ≤ n
  enough_first = omega (arith, h, length-append (take x.line.held hold) a, length-append (take x.line.held hold) (a ++ b), length-append a b)

  pub enough_second : length (behind first.heard.line.held first.hold b) ≤ n
  enough_second =
      omega (arith, h, length-append (take x.line.held hold) (a ++ b), length-append a b, length-append (take first.heard.line.held first.hold) b, waits_most x hold a (suc n) t)

  two_scraps : view (S' ++ scrap_said (lined_in first) first.hold b (suc n) t) second ≡ view (S ++ scrap_said x hold (a ++ b) (suc n) t) at_once
  two_scraps = by x.line.dropping refl
    where
      r : ℕ
      r = room x.line.held (length hold)

      r₂ : ℕ
      r₂ = room first.heard.line.held (length first.hold)

      i : ℕ
      i = suc (length (take x.line.held hold ++ a))

      k : ℕ
      k = suc (length (take first.heard.line.held first.hold ++ b))

      m : ℕ
      m = suc (length (take x.line.held hold ++ (a ++ b)))

      l : View
      l = view S (opens x hold)

      l' : View
      l' = view S' first

      next : (c : Bool) → first.heard.line.dropping ≡ c → x.line.dropping ≡ false → later r₂ t b k l' ≡ later r t b k l'
      next true e d = later_off r₂ t b k l' e ∙ sym (later_off r t b k l' e)
      next false e d = ap (λ (q : ℕ). later q t b k l') (room_stays x hold a n t enough_first S d e)

      by : (c : Bool) → x.line.dropping ≡ c → view (S' ++ scrap_said (lined_in first) first.hold b (suc n) t) second ≡ view (S ++ scrap_said x hold (a ++ b) (suc n) t) at_once
      by true d =
          let f : l' ≡ l = call_off x hold a n t enough_first S d in
          let e : first.heard.line.dropping ≡ true = ap (λ (z : View). z.dropping) f ∙ d in
          call_off (lined_in first) first.hold b n t enough_second S' e ∙ f ∙ sym (call_off x hold (a ++ b) n t h S d)
      by false d =
          let f : l' ≡ later r t a i l = call_is x hold a n t enough_first S i (omega arith) in
          let g : l' ≡ pump r t i (joined a l) = f ∙ later_on r t a i l d in
          let p = joined_size r t l a d in
          let q : size r t (joined b (joined a l)) ≤ m = rw (joined_twice a b l) (let z = joined_size r t l (a ++ b) d in omega (arith, z)) in
          let u : size r t (joined b (pump r t i (joined a l))) ≤ k = rw (← g) (after_size r t b l') in
          call_is (lined_in first) first.hold b n t enough_second S' k (omega arith)
          ∙ next first.heard.line.dropping refl d
          ∙ ap (later r t b k) g
          ∙ sym (cut r t b i m k (joined a l) (unfold joined in d) (omega (arith, p)) q u)
          ∙ ap (pump r t m) (joined_twice a b l)
          ∙ sym (call_is x hold (a ++ b) n t h S m (omega arith) ∙ later_on r t (a ++ b) m l d)

any_scraps_lem : (s : List ℕ) (ss : List (List ℕ)) (x : Lined) (hold : List ℕ) (n time : ℕ) (S : List (Event × ℕ)) → length (behind x.line.held hold (one_piece (s ∷ ss))) ≤ n
    → scraps S x hold (s ∷ ss) (suc n) time ≡ scraps S x hold (one_piece (s ∷ ss) ∷ []) (suc n) time
unfolding scraps one_piece
any_scraps_lem s [] x hold n time S h = ap (λ (b : List ℕ). scraps S x hold (b ∷ []) (suc n) time) (sym (append-nil s))
any_scraps_lem s (b ∷ bs) x hold n time S h =
    let y : Hearing = scrapped x hold s (suc n) time in
    any_scraps_lem b bs (lined_in y) y.hold n time (S ++ scrap_said x hold s (suc n) time) (enough_second x hold s (one_piece (b ∷ bs)) n time h S)
    ∙ two_scraps x hold s (one_piece (b ∷ bs)) n time h S

pub any_scraps : S.AnyScraps
any_scraps x hold s ss zero time h = absurd (let z : ⊥ = omega (arith, h) in z)
any_scraps x hold s ss (suc n) time h = any_scraps_lem s ss x hold n time [] (omega (arith, h))

-- more units allowed than were accepted change nothing, and meet nothing
module _ (s : List ℕ) (t b : ℕ) where
  units_step : (k : ℕ) (y : Hearing) (c : Bool) → goes_on (onward s t y).heard ≡ c → units (suc k) s t y ≡ met_at s t y ++ cond c (units k s t (onward s t y)) []
  unfolding units
  units_step k y c e = rw e

  units_ended : (a : ℕ) (y : Hearing) → (through a s t y).heard.accepted < y.heard.accepted + a → units (a + b) s t y ≡ units a s t y
  units_ended zero y h = absurd (let z : y.heard.accepted < y.heard.accepted + 0 = unfold through in h in omega arith)
  units_ended (suc a) y h = by (units_ended a (onward s t y)) (goes_on (onward s t y).heard) refl
    where
      more : suc a + b ≡ suc (a + b)
      more = omega arith

      by : ((through a s t (onward s t y)).heard.accepted < (onward s t y).heard.accepted + a → units (a + b) s t (onward s t y) ≡ units a s t (onward s t y))
          → (c : Bool) → goes_on (onward s t y).heard ≡ c → units (suc a + b) s t y ≡ units (suc a) s t y
      by ih true o =
          let c = onward_counts s t y ∙ ap (λ (b : Bool). y.heard.accepted + cond b 1 0) o in
          let f : (through a s t (onward s t y)).heard.accepted < (onward s t y).heard.accepted + a =
          omega (arith, h, ap (λ (z : Hearing). z.heard.accepted) (through_on s t y a o), c) in
          rw more (units_step (a + b) y true o ∙ ap (λ (z : List Event). met_at s t y ++ z) (ih f) ∙ sym (units_step a y true o))
      by ih false o = rw more (units_step (a + b) y false o ∙ sym (units_step a y false o))

pub more_allowed : S.MoreAllowed
more_allowed x hold scrap a b time g h = ((same a g).0 ∙ sym (same b h).0, (same a g).1 ∙ sym (same b h).1)
  where
    n : ℕ
    n = length (behind x.line.held hold scrap)

    fewer : (c : Bool) → x.line.dropping ≡ c → (scrapped x hold scrap (suc n) time).heard.accepted < suc n
    fewer true d = omega (arith, ap (λ (z : Hearing). z.heard.accepted) (scrap_dropped x hold scrap n time d))
    fewer false d = never_reached x hold scrap n time (omega arith) d

    same : (k : ℕ) → n < k
        → (scrapped x hold scrap k time ≡ scrapped x hold scrap (suc n) time) × (scrap_events x hold scrap k time ≡ scrap_events x hold scrap (suc n) time)
    same k l =
        let more : k ≡ suc n + (k - suc n) = omega (arith, l) in
        let f = fewer x.line.dropping refl in (
          ap (λ (i : ℕ). scrapped x hold scrap i time) more ∙ scrap_stops x hold scrap (suc n) (k - suc n) time f,
          ap (λ (i : ℕ). scrap_events x hold scrap i time) more ∙ units_ended scrap time (k - suc n) (suc n) (opens x hold) (omega (arith, f)),
        )
