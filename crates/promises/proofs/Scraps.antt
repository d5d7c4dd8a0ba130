-- One scrap, proved: each is named as its statement in specs/Scraps, with a small letter. Assumes nothing.
use Prim.Native.Nat.{ℕ, zero, suc, ◌+◌, ◌≤◌, ◌<◌, max}
use native.Mathlib.Omega.{arith}
use native.Mathlib.Nat.{add_assoc, zero-add}
use mathlib.Core.Path.{◌≡◌, refl, sym, ap, ◌∙◌}
use mathlib.Core.Bool.{Bool, true, false, cond, not, ◌&&◌, ◌||◌, true≢false}
use mathlib.Core.List.{List, [], ◌∷◌, ◌++◌}
use lib.ListN.{length, take, drop, length-drop}
use lib.Seq.{drop-nil, drop-drop}
use lib.Dec.{T, ltb, eqb}
use borrow.Author.Tests.{ne_eqb}
use Rattle.ground.specs.Choice.{one_of, first}
use Rattle.ground.proofs.Choices.{each_has}
use Rattle.ground.proofs.Bools.{cond_same, both, split}
use Rattle.wire.specs.Units.{unit_of}
use Rattle.wire.specs.declared.Unit.{Unit}
use Rattle.wire.specs.declared.Unit.TheVariants as reader
use Rattle.feed.specs.Feeds.{deaf}
use Rattle.feed.specs.Events.{Tables, State, Event, Connect, Arrive, Overrun, cut_from, news, time_of}
use Rattle.feed.specs.Answers.{number, arrives, lacks_need, is_too_long, is_more, line_tests, table_tests, tests}
use Rattle.feed.specs.Steps.{accepted, Outcome, state_of, handed, outcome}
use Rattle.feed.specs.declared.Given.{Given}
use Rattle.feed.specs.Answers.{Answer}
use Rattle.feed.specs.Answers.{Keep, Lose}
use Rattle.feed.proofs.Following.{overrun_not, whole_answered}
use Rattle.lines.specs.Looks.{exceeds, finished, look}
use Rattle.lines.specs.Scraps.{Heard, Holding, Hearing, hearing, behind, laid, silent, gathered, moved_up, settled, looked, once, onward, goes_on, through, links}
use Rattle.lines.specs.declared.Look.{Look}
use Rattle.lines.specs.declared.Look.TheVariants.{Waits, TooLong, Finished}
use Rattle.lines.specs.declared.Line.{Line}
use Rattle.lines.specs.declared.Linked.{Linked}
use Rattle.lines.proofs.Cases.{cond_yes, cond_no}
use Rattle.lines.proofs.Fronts.{unit_whole}
use Rattle.lines.proofs.Courses.{onward_fits, onward_counts, through_on, through_ends}
use Rattle.promises.proofs.Demands as D
use Rattle.promises.specs.Refusals.{answers_to, feed_refused}
use Rattle.promises.specs.Runs.{after, run, answer_of, trace}
use Rattle.promises.specs.Ledger.{last_of}
use Rattle.promises.specs.Demands.{is_connect}
use Rattle.promises.specs.Frames.{answers_in, accepted_in, dropped_in}
use Rattle.promises.specs.Scraps as S
use Rattle.promises.specs.Scraps.{Lined, state_on, lined_in, opens, scrapped, due_events, turn_events, units, scrap_events, scrap_answers}

-- what one turn did: nothing was due, or an event was met
pub record Quiet (l : Line) (x : Tables) (h s : List ℕ) (t : ℕ) : Type 0 where
  pub met : turn_events l h s t ≡ []
  pub said : (once l x h s t).heard.said ≡ false
  pub answer : (once l x h s t).heard.answer ≡ 0
  pub counted : (once l x h s t).heard.accepted ≡ 0
  pub fell : (once l x h s t).heard.dropped ≡ 0
  pub used : (once l x h s t).heard.used ≡ length s
  pub drops : (once l x h s t).heard.line.dropping ≡ l.dropping
  pub state : state_on (lined_in (once l x h s t)) ≡ state_of l.feed x

pub record Spoke (l : Line) (x : Tables) (h s : List ℕ) (t : ℕ) (e : Event) : Type 0 where
  pub going : l.dropping ≡ false
  pub arrival : is_connect e ≡ false
  pub met : turn_events l h s t ≡ e ∷ []
  pub said : (once l x h s t).heard.said ≡ true
  pub answer : (once l x h s t).heard.answer ≡ answer_of (state_of l.feed x) e
  pub counted : (once l x h s t).heard.accepted ≡ cond (accepted (answer_of (state_of l.feed x) e)) 1 0
  pub fell : (once l x h s t).heard.dropped ≡ (outcome (state_of l.feed x) e).given.dropped
  pub state : state_on (lined_in (once l x h s t)) ≡ after (state_of l.feed x) e
  pub taken : accepted (answer_of (state_of l.feed x) e) ≡ true → (once l x h s t).heard.line.dropping ≡ false
  pub refused : accepted (answer_of (state_of l.feed x) e) ≡ false
      → ((once l x h s t).heard.used ≡ length s) × ((once l x h s t).heard.line.held ≡ 0) × ((once l x h s t).heard.line.dropping ≡ true)

-- a refusal drops no row
refused_none : (x : State) (e : Event) → accepted (answer_of x e) ≡ false → (outcome x e).given.dropped ≡ 0
refused_none x e h = ap (λ (o : Outcome). o.given.dropped) (D.refused x e h)

pub data Turn (l : Line) (x : Tables) (h s : List ℕ) (t : ℕ) : Type 0 where
  silently : Quiet l x h s t → Turn l x h s t
  with_event : (e : Event) → Spoke l x h s t e → Turn l x h s t

module _ (l : Line) (x : Tables) (h s : List ℕ) (t : ℕ) where
  abbrev come : List ℕ
  come = behind l.held h s

  abbrev here : State
  here = state_of l.feed x

  module _ (v : Look) (d : l.dropping ≡ false) (e : look (length h) l.held come ≡ v) where
    pub once_is : once l x h s t ≡ looked v l x h s t
    unfolding once
    once_is = cond_no l.dropping _ _ d ∙ rw e

    pub events_are : turn_events l h s t ≡ due_events v come t
    unfolding turn_events
    events_are = cond_no l.dropping _ _ d ∙ rw e

  pub dropped : l.dropping ≡ true → Quiet l x h s t
  unfolding once turn_events
  dropped d =
      let o : once l x h s t ≡ hearing (silent (length s) l) x h = cond_yes l.dropping _ _ d in
      record {
        met = cond_yes l.dropping _ _ d;
        said = ap (λ (y : Hearing). y.heard.said) o;
        answer = ap (λ (y : Hearing). y.heard.answer) o;
        counted = ap (λ (y : Hearing). y.heard.accepted) o;
        fell = ap (λ (y : Hearing). y.heard.dropped) o;
        used = ap (λ (y : Hearing). y.heard.used) o;
        drops = ap (λ (y : Hearing). y.heard.line.dropping) o;
        state = ap (λ (y : Hearing). state_on (lined_in y)) o;
      }

  pub waits : l.dropping ≡ false → look (length h) l.held come ≡ Waits → Quiet l x h s t
  unfolding looked due_events
  waits d e =
      let o = once_is Waits d e in
      record {
        met = events_are Waits d e;
        said = ap (λ (y : Hearing). y.heard.said) o;
        answer = ap (λ (y : Hearing). y.heard.answer) o;
        counted = ap (λ (y : Hearing). y.heard.accepted) o;
        fell = ap (λ (y : Hearing). y.heard.dropped) o;
        used = ap (λ (y : Hearing). y.heard.used) o;
        drops = ap (λ (y : Hearing). y.heard.line.dropping) o ∙ sym d;
        state = ap (λ (y : Hearing). state_on (lined_in y)) o;
      }

  pub long : l.dropping ≡ false → look (length h) l.held come ≡ TooLong → Spoke l x h s t (Overrun t)
  unfolding looked due_events after
  long d e =
      let o = once_is TooLong d e in
      let n = overrun_not here t in
      record {
        going = d;
        arrival = refl;
        met = events_are TooLong d e;
        said = ap (λ (y : Hearing). y.heard.said) o;
        answer = ap (λ (y : Hearing). y.heard.answer) o;
        counted = ap (λ (y : Hearing). y.heard.accepted) o ∙ sym (cond_no (accepted (answer_of here (Overrun t))) 1 0 n);
        fell = ap (λ (y : Hearing). y.heard.dropped) o ∙ sym (refused_none here (Overrun t) n);
        state = ap (λ (y : Hearing). state_on (lined_in y)) o;
        taken = λ a. absurd (true≢false (sym a ∙ n));
        refused = λ a. (ap (λ (y : Hearing). y.heard.used) o, ap (λ (y : Hearing). y.heard.line.held) o, ap (λ (y : Hearing). y.heard.line.dropping) o);
      }

  module _ (n : ℕ) (d : l.dropping ≡ false) (e : look (length h) l.held come ≡ Finished n) where
    abbrev unit : Event
    unit = Arrive (take n come) t

    abbrev g : Given
    g = (outcome here unit).given

    abbrev through_feed : Holding
    through_feed = settled g n l.held (length s) (gathered n l.held h s)

    fed_heard : (once l x h s t).heard ≡ through_feed.heard
    unfolding looked
    fed_heard = ap (λ (y : Hearing). y.heard) (once_is (Finished n) d e)

    fed_tables : (once l x h s t).tables ≡ (outcome here unit).tables
    unfolding looked
    fed_tables = ap (λ (y : Hearing). y.tables) (once_is (Finished n) d e)

    settled_said : through_feed.heard.said ≡ true
    unfolding settled
    settled_said = split (λ (k : Holding). k.heard.said ≡ true) (accepted g.answer) _ _ (λ a. refl) (λ a. refl)

    settled_answer : through_feed.heard.answer ≡ g.answer
    unfolding settled
    settled_answer = split (λ (k : Holding). k.heard.answer ≡ g.answer) (accepted g.answer) _ _ (λ a. refl) (λ a. refl)

    settled_counted : through_feed.heard.accepted ≡ cond (accepted g.answer) 1 0
    unfolding settled
    settled_counted =
        split (λ (k : Holding). k.heard.accepted ≡ cond (accepted g.answer) 1 0) (accepted g.answer) _ _
        (λ a. sym (cond_yes (accepted g.answer) 1 0 a)) (λ a. sym (cond_no (accepted g.answer) 1 0 a))

    settled_fell : through_feed.heard.dropped ≡ g.dropped
    unfolding settled
    settled_fell = split (λ (k : Holding). k.heard.dropped ≡ g.dropped) (accepted g.answer) _ _ (λ a. refl) (λ a. sym (refused_none here unit a))

    settled_feed : through_feed.heard.line.feed ≡ g.feed
    unfolding settled
    settled_feed = split (λ (k : Holding). k.heard.line.feed ≡ g.feed) (accepted g.answer) _ _ (λ a. refl) (λ a. refl)

    settled_taken : accepted g.answer ≡ true → through_feed.heard.line.dropping ≡ false
    unfolding settled
    settled_taken a = ap (λ (k : Holding). k.heard.line.dropping) (cond_yes (accepted g.answer) _ _ a)

    settled_refused : accepted g.answer ≡ false
        → (through_feed.heard.used ≡ length s) × (through_feed.heard.line.held ≡ 0) × (through_feed.heard.line.dropping ≡ true)
    unfolding settled
    settled_refused a =
        let k = cond_no (accepted g.answer) _ _ a in
        (ap (λ (k : Holding). k.heard.used) k, ap (λ (k : Holding). k.heard.line.held) k, ap (λ (k : Holding). k.heard.line.dropping) k)

    pub fed : Spoke l x h s t unit
    unfolding due_events after
    fed = record {
      going = d;
      arrival = refl;
      met = events_are (Finished n) d e;
      said = ap (λ (r : Heard). r.said) fed_heard ∙ settled_said;
      answer = ap (λ (r : Heard). r.answer) fed_heard ∙ settled_answer;
      counted = ap (λ (r : Heard). r.accepted) fed_heard ∙ settled_counted;
      fell = ap (λ (r : Heard). r.dropped) fed_heard ∙ settled_fell;
      state = λ i. state_of ((ap (λ (r : Heard). r.line.feed) fed_heard ∙ settled_feed) i) (fed_tables i);
      taken = λ a. ap (λ (r : Heard). r.line.dropping) fed_heard ∙ settled_taken a;
      refused = λ a.
          let k = settled_refused a in
          (ap (λ (r : Heard). r.used) fed_heard ∙ k.0, ap (λ (r : Heard). r.line.held) fed_heard ∙ k.1, ap (λ (r : Heard). r.line.dropping) fed_heard ∙ k.2);
    }

  -- no more waits than waited and was used
  looked_held : (v : Look) → (looked v l x h s t).heard.line.held ≤ l.held + (looked v l x h s t).heard.used
  unfolding looked settled
  looked_held Waits = omega arith
  looked_held TooLong = omega arith
  looked_held (Finished n) =
      split (λ (k : Holding). k.heard.line.held ≤ l.held + k.heard.used) (accepted (outcome here (Arrive (take n come) t)).given.answer) _ _
      (λ a. omega arith) (λ a. omega arith)

  pub once_held : (once l x h s t).heard.line.held ≤ l.held + (once l x h s t).heard.used
  once_held = by l.dropping refl
    where
      by : (b : Bool) → l.dropping ≡ b → (once l x h s t).heard.line.held ≤ l.held + (once l x h s t).heard.used
      by true d = unfold once in rw (cond_yes {A = Hearing} l.dropping _ _ d) (omega arith)
      by false d = rw (once_is (look (length h) l.held come) d refl) (looked_held (look (length h) l.held come))

  pub turn : Turn l x h s t
  turn = by_drop l.dropping refl
    where
      by_look : (v : Look) → look (length h) l.held come ≡ v → l.dropping ≡ false → Turn l x h s t
      by_look Waits e d = silently (waits d e)
      by_look TooLong e d = with_event (Overrun t) (long d e)
      by_look (Finished n) e d = with_event (Arrive (take n come) t) (fed n d e)

      by_drop : (b : Bool) → l.dropping ≡ b → Turn l x h s t
      by_drop true d = silently (dropped d)
      by_drop false d = by_look (look (length h) l.held come) refl d

-- a unit was accepted, or not
abbrev pub On : Hearing → Type 0
On y = goes_on y.heard ≡ true

abbrev pub Off : Hearing → Type 0
Off y = goes_on y.heard ≡ false

module _ (s : List ℕ) (t : ℕ) where
  -- one turn where a scrap stands
  abbrev next : Hearing → Hearing
  next y = once y.heard.line y.tables y.hold (drop y.heard.used s) t

  abbrev pub TurnAt : Hearing → Type 0
  TurnAt y = Turn y.heard.line y.tables y.hold (drop y.heard.used s) t

  abbrev pub QuietAt : Hearing → Type 0
  QuietAt y = Quiet y.heard.line y.tables y.hold (drop y.heard.used s) t

  abbrev pub SpokeAt : Hearing → Event → Type 0
  SpokeAt y e = Spoke y.heard.line y.tables y.hold (drop y.heard.used s) t e

  abbrev pub met_at : Hearing → List Event
  met_at y = turn_events y.heard.line y.hold (drop y.heard.used s) t

  abbrev pub at : Hearing → State
  at y = state_on (lined_in y)

  pub turn_at : (y : Hearing) → TurnAt y
  turn_at y = turn y.heard.line y.tables y.hold (drop y.heard.used s) t

  pub quiet_off : (y : Hearing) → QuietAt y → Off (onward s t y)
  unfolding onward goes_on
  quiet_off y q = ap (λ (b : Bool). b && accepted (next y).heard.answer) q.said

  pub spoke_goes : (y : Hearing) (e : Event) → SpokeAt y e → goes_on (onward s t y).heard ≡ accepted (answer_of (at y) e)
  unfolding onward goes_on
  spoke_goes y e p = ap (λ (b : Bool). b && accepted (next y).heard.answer) p.said ∙ ap accepted p.answer

  pub spoke_state : (y : Hearing) (e : Event) → SpokeAt y e → at (onward s t y) ≡ after (at y) e
  unfolding onward
  spoke_state y e p = p.state

  pub spoke_said : (y : Hearing) (e : Event) → SpokeAt y e → (onward s t y).heard.said ≡ true
  unfolding onward
  spoke_said y e p = p.said

  pub spoke_fell : (y : Hearing) (e : Event) → SpokeAt y e → (onward s t y).heard.dropped ≡ y.heard.dropped + (outcome (at y) e).given.dropped
  unfolding onward
  spoke_fell y e p = ap (λ (k : ℕ). y.heard.dropped + k) p.fell

  pub quiet_fell : (y : Hearing) → QuietAt y → (onward s t y).heard.dropped ≡ y.heard.dropped
  unfolding onward
  quiet_fell y q = ap (λ (k : ℕ). y.heard.dropped + k) q.fell ∙ (let z : y.heard.dropped + 0 ≡ y.heard.dropped = omega arith in z)

  pub spoke_answer : (y : Hearing) (e : Event) → SpokeAt y e → (onward s t y).heard.answer ≡ answer_of (at y) e
  unfolding onward
  spoke_answer y e p = p.answer

  pub quiet_state : (y : Hearing) → QuietAt y → at (onward s t y) ≡ at y
  unfolding onward
  quiet_state y q = q.state

  pub quiet_drops : (y : Hearing) → QuietAt y → (onward s t y).heard.line.dropping ≡ y.heard.line.dropping
  unfolding onward
  quiet_drops y q = q.drops

  pub quiet_said : (y : Hearing) → QuietAt y → (onward s t y).heard.said ≡ false
  unfolding onward
  quiet_said y q = q.said

  pub spoke_taken : (y : Hearing) (e : Event) → SpokeAt y e → accepted (answer_of (at y) e) ≡ true → (onward s t y).heard.line.dropping ≡ false
  unfolding onward
  spoke_taken y e p = p.taken

  pub spoke_refused : (y : Hearing) (e : Event) → SpokeAt y e → accepted (answer_of (at y) e) ≡ false → (onward s t y).heard.line.dropping ≡ true
  unfolding onward
  spoke_refused y e p a = (p.refused a).2

  module _ (k : ℕ) (y : Hearing) where
    pub units_quiet : QuietAt y → units (suc k) s t y ≡ []
    unfolding units
    units_quiet q = rw (q.met, quiet_off y q)

    pub units_on : (e : Event) → SpokeAt y e → On (onward s t y) → units (suc k) s t y ≡ e ∷ units k s t (onward s t y)
    unfolding units
    units_on e p a = rw (p.met, a)

    pub units_off : (e : Event) → SpokeAt y e → Off (onward s t y) → units (suc k) s t y ≡ e ∷ []
    unfolding units
    units_off e p a = rw (p.met, a)

  -- to show something of where k units from y end: where none is left, a unit before its end, and at a turn that ends it
  pub walk : (P : ℕ → Hearing → Hearing → Type 0) → ((y : Hearing) → P 0 y y)
      → ((k : ℕ) (y z : Hearing) → On (onward s t y) → P k (onward s t y) z → P (suc k) y z)
      → ((k : ℕ) (y : Hearing) → Off (onward s t y) → P (suc k) y (onward s t y))
      → (k : ℕ) (y : Hearing) → P k y (through k s t y)
  unfolding through
  walk P none on ends zero y = none y
  walk P none on ends (suc k) y =
      split (P (suc k) y) (goes_on (onward s t y).heard) _ _
      (λ e. on k y (through k s t (onward s t y)) e (walk P none on ends k (onward s t y)))
      (λ e. ends k y e)

  -- what a scrap hands back from y on, by its events
  pub record Told (y z : Hearing) (es : List Event) : Type 0 where
    pub ends : at z ≡ run (at y) es
    pub counts : z.heard.accepted ≡ y.heard.accepted + accepted_in (trace (at y) es)
    pub fell : z.heard.dropped ≡ y.heard.dropped + dropped_in (at y) es
    pub last : z.heard.said ≡ true → z.heard.answer ≡ last_of y.heard.answer (answers_in (trace (at y) es))
    pub none : z.heard.said ≡ false → z.heard.answer ≡ 0

  onward_quiet : (y : Hearing) → QuietAt y → Told y (onward s t y) []
  unfolding onward run trace accepted_in dropped_in answers_in last_of
  onward_quiet y q = record {
    ends = q.state;
    counts = ap (λ (k : ℕ). y.heard.accepted + k) q.counted;
    fell = ap (λ (k : ℕ). y.heard.dropped + k) q.fell;
    last = λ a. absurd (true≢false (sym a ∙ q.said));
    none = λ a. q.answer;
  }

  onward_spoke : (y : Hearing) (e : Event) → SpokeAt y e → Told y (onward s t y) (e ∷ [])
  unfolding onward run trace accepted_in dropped_in answers_in last_of
  onward_spoke y e p = record {
    ends = p.state;
    counts = ap (λ (k : ℕ). y.heard.accepted + k) (p.counted ∙ (let z : cond (accepted (answer_of (at y) e)) 1 0 ≡ cond (accepted (answer_of (at y) e)) 1 0 + 0 = omega arith in z));
    fell = ap (λ (k : ℕ). y.heard.dropped + k) (p.fell ∙ (let z : (outcome (at y) e).given.dropped ≡ (outcome (at y) e).given.dropped + 0 = omega arith in z));
    last = λ a. p.answer;
    none = λ a. absurd (true≢false (sym p.said ∙ a));
  }

  told_more : (y z : Hearing) (e : Event) (es : List Event) → SpokeAt y e → Told (onward s t y) z es → Told y z (e ∷ es)
  unfolding onward run trace accepted_in dropped_in answers_in last_of
  told_more y z e es p r =
      let a : at (onward s t y) ≡ after (at y) e = p.state in
      let c = (onward_spoke y e p).counts in
      record {
        ends = r.ends ∙ ap (λ (x : State). run x es) a;
        counts = r.counts ∙ counting a p.counted;
        fell =
            r.fell ∙ (λ i. y.heard.dropped + p.fell i + dropped_in (a i) es)
            ∙ add_assoc y.heard.dropped (outcome (at y) e).given.dropped (dropped_in (after (at y) e) es);
        last = λ h. r.last h ∙ (λ i. last_of (p.answer i) (answers_in (trace (a i) es)));
        none = r.none;
      }
    where
      counting : at (onward s t y) ≡ after (at y) e → (next y).heard.accepted ≡ cond (accepted (answer_of (at y) e)) 1 0
          → y.heard.accepted + (next y).heard.accepted + accepted_in (trace (at (onward s t y)) es)
          ≡ y.heard.accepted + (cond (accepted (answer_of (at y) e)) 1 0 + accepted_in (trace (after (at y) e) es))
      counting a c =
          (λ i. y.heard.accepted + c i + accepted_in (trace (a i) es))
          ∙ add_assoc y.heard.accepted (cond (accepted (answer_of (at y) e)) 1 0) (accepted_in (trace (after (at y) e) es))

  told_none : (y : Hearing) → (y.heard.said ≡ false → y.heard.answer ≡ 0) → Told y y []
  unfolding run trace accepted_in dropped_in answers_in last_of
  told_none y h = record { ends = refl; counts = (let z : y.heard.accepted ≡ y.heard.accepted + 0 = omega arith in z); fell = (let z : y.heard.dropped ≡ y.heard.dropped + 0 = omega arith in z); last = λ a. refl; none = h }

  abbrev Rest : ℕ → Hearing → Type 0
  Rest k y = (y.heard.said ≡ false → y.heard.answer ≡ 0) → Told y (through k s t y) (units k s t y)

  pub tells : (k : ℕ) (y : Hearing) → (y.heard.said ≡ false → y.heard.answer ≡ 0) → Told y (through k s t y) (units k s t y)
  tells zero y h = unfold through units in told_none y h
  tells (suc k) y h = by (tells k (onward s t y)) (turn_at y)
    where
      go_on : Rest k (onward s t y) → (e : Event) → SpokeAt y e → (b : Bool) → goes_on (onward s t y).heard ≡ b → Told y (through (suc k) s t y) (units (suc k) s t y)
      go_on rest e p true a = rw (units_on k y e p a, through_on s t y k a) (told_more y _ e _ p (rest (onward_spoke y e p).none))
      go_on rest e p false a = rw (units_off k y e p a, through_ends s t y k a) (onward_spoke y e p)

      by : Rest k (onward s t y) → TurnAt y → Told y (through (suc k) s t y) (units (suc k) s t y)
      by rest (silently q) = rw (units_quiet k y q, through_ends s t y k (quiet_off y q)) (onward_quiet y q)
      by rest (with_event e p) = go_on rest e p (goes_on (onward s t y).heard) refl

pub scrap_tells : S.ScrapTells
scrap_tells x hold scrap allowed time =
    let r = tells scrap time allowed (opens x hold) (λ a. refl) in
    let es : List Event = scrap_events x hold scrap allowed time in
    (r.ends, r.counts ∙ zero-add (accepted_in (trace (state_on x) es)), r.last, r.none, r.fell ∙ zero-add (dropped_in (state_on x) es))

-- how a scrap ends
module _ (s : List ℕ) (t : ℕ) where
  on_parts : (y : Hearing) → On y → (y.heard.said ≡ true) × (accepted y.heard.answer ≡ true)
  unfolding goes_on
  on_parts y h = both y.heard.said (accepted y.heard.answer) h

  abbrev Ends : ℕ → Hearing → Hearing → Type 0
  Ends k y z =
      (z.heard.said ≡ false → z.heard.used ≡ length s)
      × (z.heard.said ≡ true → accepted z.heard.answer ≡ true → z.heard.accepted ≡ y.heard.accepted + k)
      × (z.heard.said ≡ true → accepted z.heard.answer ≡ false → (z.heard.used ≡ length s) × (z.heard.line.held ≡ 0) × (z.heard.line.dropping ≡ true))

  module _ (k : ℕ) (y : Hearing) (h : y.heard.used ≤ length s) (o : Off (onward s t y)) where
    all_used : (next s t y).heard.used ≡ length (drop y.heard.used s) → y.heard.used + (next s t y).heard.used ≡ length s
    all_used e = omega (arith, e, h, length-drop y.heard.used s)

    off_quiet : QuietAt s t y → Ends (suc k) y (onward s t y)
    unfolding onward
    off_quiet q = (λ a. all_used q.used, λ a. absurd (true≢false (sym a ∙ q.said)), λ a. absurd (true≢false (sym a ∙ q.said)))

    off_spoke : (e : Event) → SpokeAt s t y e → Ends (suc k) y (onward s t y)
    unfolding onward
    off_spoke e p =
        let f : accepted (answer_of (at s t y) e) ≡ false = sym (spoke_goes s t y e p) ∙ o in
        let r = p.refused f in (
          λ a. absurd (true≢false (sym p.said ∙ a)),
          λ a b. absurd (true≢false (sym b ∙ ap accepted p.answer ∙ f)),
          λ a b. (all_used r.0, r.1, r.2),
        )

    ends_off : Ends (suc k) y (onward s t y)
    ends_off = by (turn_at s t y)
      where
        by : TurnAt s t y → Ends (suc k) y (onward s t y)
        by (silently q) = off_quiet q
        by (with_event e p) = off_spoke e p

  ends_later : (k : ℕ) (y z : Hearing) → On (onward s t y) → Ends k (onward s t y) z → Ends (suc k) y z
  ends_later k y z o e =
      let c = onward_counts s t y ∙ ap (λ (b : Bool). y.heard.accepted + cond b 1 0) o in
      (e.0, λ a b. (let z = e.1 a b in omega (arith, z, c)), e.2)

  ends_on : (k : ℕ) (y : Hearing) → On y → y.heard.used ≤ length s → Ends k y (through k s t y)
  ends_on =
      walk s t (λ k y z. On y → y.heard.used ≤ length s → Ends k y z)
      (λ y o h. (
        λ a. absurd (true≢false (sym (on_parts y o).0 ∙ a)),
        λ a b. (let z : y.heard.accepted ≡ y.heard.accepted + 0 = omega arith in z),
        λ a b. absurd (true≢false (sym (on_parts y o).1 ∙ b)),
      ))
      (λ k y z e on o h. ends_later k y z e (on e (onward_fits s t y h)))
      (λ k y e o h. ends_off k y h e)

  pub ends : (k : ℕ) (y : Hearing) → y.heard.used ≤ length s → Ends (suc k) y (through (suc k) s t y)
  unfolding through
  ends k y h =
      split (Ends (suc k) y) (goes_on (onward s t y).heard) _ _
      (λ e. ends_later k y (through k s t (onward s t y)) e (ends_on k (onward s t y) e (onward_fits s t y h)))
      (λ e. ends_off k y h e)

  -- no more units and bytes than there are
  onward_held : (y : Hearing) → (onward s t y).heard.line.held + y.heard.used ≤ y.heard.line.held + (onward s t y).heard.used
  unfolding onward
  onward_held y = omega (arith, once_held y.heard.line y.tables y.hold (drop y.heard.used s) t)

  pub within : (k : ℕ) (y : Hearing) → y.heard.used ≤ length s
      → ((through k s t y).heard.accepted ≤ y.heard.accepted + k) × ((through k s t y).heard.used ≤ length s)
      × ((through k s t y).heard.line.held + y.heard.used ≤ y.heard.line.held + (through k s t y).heard.used)
  within =
      walk s t (λ k y z. y.heard.used ≤ length s
      → (z.heard.accepted ≤ y.heard.accepted + k) × (z.heard.used ≤ length s) × (z.heard.line.held + y.heard.used ≤ y.heard.line.held + z.heard.used))
      (λ y h. (omega arith, h, omega arith))
      (λ k y z o on h.
      let r = on (onward_fits s t y h) in
      (omega (arith, r.0, onward_counts s t y ∙ ap (λ (b : Bool). y.heard.accepted + cond b 1 0) o), r.1, omega (arith, r.2, onward_held y)))
      (λ k y o h. (
        omega (arith, onward_counts s t y ∙ ap (λ (b : Bool). y.heard.accepted + cond b 1 0) o),
        onward_fits s t y h,
        onward_held y,
      ))

pub scrap_ends : S.ScrapEnds
scrap_ends x hold scrap allowed time =
    let e = ends scrap time allowed (opens x hold) (omega arith) in
    (e.0, λ a b. (let z = e.1 a b in omega (arith, z)))

pub scrap_within : S.ScrapWithin
scrap_within x hold scrap allowed time =
    let w = within scrap time allowed (opens x hold) (omega arith) in
    (omega (arith, w.0), w.1, omega (arith, w.2))

-- what a refusal leaves
refused_state : (s : State) (e : Event) → accepted (answer_of s e) ≡ false → after s e ≡ state_of (feed_refused (answer_of s e) s.feed) s.tables
unfolding after
refused_state s e h = ap (λ (o : Outcome). state_of o.given.feed o.tables) (D.refused s e h)

-- a scrap that ends with a refusal: so many units, and then the one that is refused
abbrev Refuses : Hearing → Type 0
Refuses y = (y.heard.said ≡ true) × (accepted y.heard.answer ≡ false)

module _ (s : List ℕ) (t : ℕ) where
  record Last (y z : Hearing) : Type 0 where
    pub before : ℕ
    pub well : (through before s t y).heard.accepted ≡ y.heard.accepted + before
    pub last : z ≡ onward s t (through before s t y)

  last_later : (y z : Hearing) → On (onward s t y) → Last (onward s t y) z → Last y z
  last_later y z o r =
      let g : through (suc r.before) s t y ≡ through r.before s t (onward s t y) = through_on s t y r.before o in
      let c = onward_counts s t y ∙ ap (λ (b : Bool). y.heard.accepted + cond b 1 0) o in
      record {
        before = suc r.before;
        well = ap (λ (u : Hearing). u.heard.accepted) g ∙ (let w = r.well in omega (arith, w, c));
        last = r.last ∙ ap (onward s t) (sym g);
      }

  last_one : (k : ℕ) (y : Hearing) → (Refuses y → ⊥) → Refuses (through k s t y) → Last y (through k s t y)
  last_one =
      walk s t (λ k y z. (Refuses y → ⊥) → Refuses z → Last y z)
      (λ y n h. absurd (n h))
      (λ k y z o on n h. last_later y z o (on (λ r. true≢false (sym (on_parts s t (onward s t y) o).1 ∙ r.1)) h))
      (λ k y o n h. record { before = 0; well = unfold through in (omega arith); last = unfold through in refl })

  -- the refused itself
  module _ (y : Hearing) (u : y.heard.used ≤ length s) (h : Refuses (onward s t y)) where
    refused_one : ((onward s t y).heard ≡ S.ended_by (onward s t y).heard.answer s y) × ((onward s t y).tables ≡ y.tables)
    refused_one = by (turn_at s t y)
      where
        by : TurnAt s t y → ((onward s t y).heard ≡ S.ended_by (onward s t y).heard.answer s y) × ((onward s t y).tables ≡ y.tables)
        by (silently q) = absurd (true≢false (sym h.0 ∙ quiet_said s t y q))
        by (with_event e p) =
            let n = spoke_answer s t y e p in
            let f : accepted (answer_of (at s t y) e) ≡ false = sym (ap accepted n) ∙ h.1 in
            let o : after (at s t y) e ≡ state_of (feed_refused (answer_of (at s t y) e) y.heard.line.feed) y.tables = refused_state (at s t y) e f in
            let z : at s t (onward s t y) ≡ state_of (feed_refused (onward s t y).heard.answer y.heard.line.feed) y.tables =
            spoke_state s t y e p ∙ o ∙ ap (λ (m : ℕ). state_of (feed_refused m y.heard.line.feed) y.tables) (sym n) in
            let c : (onward s t y).heard.accepted ≡ y.heard.accepted = onward_counts s t y ∙ ap (λ (b : Bool). y.heard.accepted + cond b 1 0) (spoke_goes s t y e p ∙ f) ∙ omega arith in
            let d : (onward s t y).heard.dropped ≡ y.heard.dropped = spoke_fell s t y e p ∙ ap (λ (k : ℕ). y.heard.dropped + k) (refused_none (at s t y) e f) ∙ omega arith in
            let r = (ends_off s t 0 y u (spoke_goes s t y e p ∙ f)).2 h.0 h.1 in (
              λ i. record {
                said = h.0 i;
                answer = (onward s t y).heard.answer;
                accepted = c i;
                used = r.0 i;
                line = record { feed = (z i).feed; held = r.1 i; dropping = r.2 i };
                dropped = d i;
              },
              ap (λ (x : State). x.tables) z,
            )

pub scrap_refused : S.ScrapRefused
scrap_refused x hold scrap allowed time a b =
    let r = last_one scrap time allowed (opens x hold) (λ h. true≢false (sym h.0)) (a, b) in
    let y : Hearing = scrapped x hold scrap r.before time in
    let g : Refuses (scrapped x hold scrap allowed time) = (a, b) in
    let h : Refuses (onward scrap time y) = rw r.last at g in
    let w = within scrap time r.before (opens x hold) (omega arith) in
    let q = refused_one scrap time y w.1 h in
    let e : (scrapped x hold scrap allowed time).heard.accepted ≡ r.before =
    ap (λ (z : Hearing). z.heard.accepted) r.last ∙ ap (λ (z : Heard). z.accepted) q.0 ∙ (let v = r.well in omega (arith, v)) in
    let d : onward scrap time y ≡ scrapped x hold scrap allowed time = sym r.last in (
      ap (λ (z : Hearing). z.heard) r.last ∙ q.0 ∙ (λ j. S.ended_by (d j).heard.answer scrap (scrapped x hold scrap (sym e j) time)),
      ap (λ (z : Hearing). z.tables) r.last ∙ q.1 ∙ (λ j. (scrapped x hold scrap (sym e j) time).tables),
    )

-- every answer of a scrap is one of these: an event that it meets is a finished unit, or what is too long
abbrev Fine : Hearing → Type 0
Fine y = T (one_of y.heard.answer scrap_answers)

not_three : (n : ℕ) → T (one_of n (10 ∷ 11 ∷ 3 ∷ 12 ∷ 13 ∷ 14 ∷ 1 ∷ 15 ∷ 18 ∷ 17 ∷ 16 ∷ 2 ∷ 0 ∷ [])) → (n ≡ 3 → ⊥) → T (one_of n scrap_answers)
unfolding one_of
not_three n h k =
    each_has (λ m. (m ≡ 3 → ⊥) → T (one_of m scrap_answers)) (10 ∷ 11 ∷ 3 ∷ 12 ∷ 13 ∷ 14 ∷ 1 ∷ 15 ∷ 18 ∷ 17 ∷ 16 ∷ 2 ∷ 0 ∷ [])
    (λ k. tt, (λ k. tt, (λ k. absurd (k refl), (λ k. tt, (λ k. tt, (λ k. tt, (λ k. tt, (λ k. tt, (λ k. tt, (λ k. tt, (λ k. tt, (λ k. tt, (λ k. tt, tt))))))))))))) n h k

overrun_fine : (s : State) (t : ℕ) → T (one_of (answer_of s (Overrun t)) scrap_answers)
unfolding one_of answers_to
overrun_fine s t =
    each_has (λ m. T (one_of m scrap_answers)) (10 ∷ 11 ∷ 22 ∷ []) (tt, (tt, (tt, tt))) (answer_of s (Overrun t)) (D.listed s (Overrun t))

module _ (l : Line) (x : Tables) (h s : List ℕ) (t : ℕ) where
  unit_fine : (n : ℕ) → look (length h) l.held (behind l.held h s) ≡ Finished n → T (one_of (answer_of (state_of l.feed x) (Arrive (take n (behind l.held h s)) t)) scrap_answers)
  unfolding answers_to
  unit_fine n e =
      let bytes = take n (behind l.held h s) in
      not_three (answer_of (state_of l.feed x) (Arrive bytes t)) (D.listed (state_of l.feed x) (Arrive bytes t))
      (whole_answered (state_of l.feed x) bytes t (unit_whole (length h) l.held n (behind l.held h s) e))

  pub once_fine : T (one_of (once l x h s t).heard.answer scrap_answers)
  unfolding one_of
  once_fine = by_drop l.dropping refl
    where
      by_look : (v : Look) → look (length h) l.held (behind l.held h s) ≡ v → l.dropping ≡ false → T (one_of (once l x h s t).heard.answer scrap_answers)
      by_look Waits e d = rw (waits l x h s t d e).answer tt
      by_look TooLong e d = rw (long l x h s t d e).answer (overrun_fine (state_of l.feed x) t)
      by_look (Finished n) e d = rw (fed l x h s t n d e).answer (unit_fine n e)

      by_drop : (b : Bool) → l.dropping ≡ b → T (one_of (once l x h s t).heard.answer scrap_answers)
      by_drop true d = rw (dropped l x h s t d).answer tt
      by_drop false d = by_look (look (length h) l.held (behind l.held h s)) refl d

pub scrap_listed : S.ScrapListed
unfolding one_of
scrap_listed x hold scrap allowed time =
    walk scrap time (λ k y z. Fine y → Fine z) (λ y h. h) (λ k y z o on h. on (fine y)) (λ k y o h. fine y) allowed (opens x hold) tt
  where
    fine : (y : Hearing) → Fine (onward scrap time y)
    fine y = unfold onward in once_fine y.heard.line y.tables y.hold (drop y.heard.used scrap) time

pub link_listed : S.LinkListed
unfolding links first one_of answers_to
link_listed x hold link time =
    each_has (λ m. T (one_of (first {A = Linked}
    ((not (accepted m), record { answer = m; line = x.line })
    ∷ (ltb (length hold) 22, record { answer = 22; line = x.line })
    ∷ [])
    (record { answer = m; line = record { feed = (S.linked x hold link time).feed; held = 0; dropping = false } })).answer (10 ∷ 20 ∷ 22 ∷ 0 ∷ [])))
    (10 ∷ 20 ∷ 0 ∷ []) (tt, (tt, (by (ltb (length hold) 22), tt))) (answer_of (state_on x) (Connect link time)) (D.listed (state_on x) (Connect link time))
  where
    by : (b : Bool) → T (one_of (cond {A = Linked} b (record { answer = 22; line = x.line }) (record { answer = 0; line = record { feed = (S.linked x hold link time).feed; held = 0; dropping = false } })).answer (10 ∷ 20 ∷ 22 ∷ 0 ∷ []))
    by true = tt
    by false = tt

-- the first turn
pub first_turn : (x : Lined) (hold scrap : List ℕ) (time : ℕ) → onward scrap time (opens x hold) ≡ once x.line x.tables hold scrap time
unfolding onward
first_turn x hold scrap time =
    let o : Hearing = once x.line x.tables hold scrap time in
    λ i. hearing
    (record {
      said = o.heard.said;
      answer = o.heard.answer;
      accepted = zero-add o.heard.accepted i;
      used = zero-add o.heard.used i;
      line = o.heard.line;
      dropped = zero-add o.heard.dropped i;
    })
    o.tables
    o.hold

pub one_turn : (x : Lined) (hold scrap : List ℕ) (time : ℕ) → scrapped x hold scrap 1 time ≡ once x.line x.tables hold scrap time
unfolding through
one_turn x hold scrap time =
    cond_same {A = Hearing} (goes_on (onward scrap time (opens x hold)).heard) (onward scrap time (opens x hold)) ∙ first_turn x hold scrap time

-- when there is an answer, and when it is 22
overrun_22 : (s : State) (t : ℕ) → eqb (answer_of s (Overrun t)) 22 ≡ (not (ltb t s.feed.heard) && not (deaf s.feed.phase))
unfolding outcome handed time_of news number tests line_tests table_tests first arrives lacks_need is_too_long is_more
overrun_22 s t = go (ltb t s.feed.heard) (deaf s.feed.phase)
  where
    go : (p q : Bool) → eqb (number (first {A = Answer} ((p, Keep 10) ∷ (q, Keep 11) ∷ []) (Lose 22))) 22 ≡ (not p && not q)
    go true q = refl
    go false true = refl
    go false false = refl

unit_not_22 : (s : State) (bytes : List ℕ) (t : ℕ) → eqb (answer_of s (Arrive bytes t)) 22 ≡ false
unfolding answers_to
unit_not_22 s bytes t =
    each_has (λ n. eqb n 22 ≡ false) (10 ∷ 11 ∷ 3 ∷ 12 ∷ 13 ∷ 14 ∷ 1 ∷ 15 ∷ 18 ∷ 17 ∷ 16 ∷ 2 ∷ 0 ∷ [])
    (refl, (refl, (refl, (refl, (refl, (refl, (refl, (refl, (refl, (refl, (refl, (refl, (refl, tt))))))))))))) (answer_of s (Arrive bytes t)) (D.listed s (Arrive bytes t))

module _ (x : Lined) (hold scrap : List ℕ) (time : ℕ) (d : x.line.dropping ≡ false) where
  abbrev all_come : List ℕ
  all_come = behind x.line.held hold scrap

  abbrev Exactly : Heard → Bool → Unit → Type 0
  Exactly r long u =
      (r.said ≡ (long || not (is_more (cut_from all_come u))))
      × (eqb r.answer 22 ≡ (long && not (ltb time x.line.feed.heard) && not (deaf x.line.feed.phase)))

  abbrev turned : Heard
  turned = (once x.line x.tables hold scrap time).heard

  by_reader : (u : Unit) → look (length hold) x.line.held all_come ≡ finished u → Exactly turned false u
  unfolding finished cut_from is_more
  by_reader reader.More e = let q = waits x.line x.tables hold scrap time d e in (q.said, ap (λ (n : ℕ). eqb n 22) q.answer)
  by_reader reader.Heartbeat e =
      let p = fed x.line x.tables hold scrap time 20 d e in
      (p.said, ap (λ (n : ℕ). eqb n 22) p.answer ∙ unit_not_22 (state_on x) (take 20 all_come) time)
  by_reader (reader.Message q i n) e =
      let p = fed x.line x.tables hold scrap time (20 + max 2 n) d e in
      (p.said, ap (λ (n : ℕ). eqb n 22) p.answer ∙ unit_not_22 (state_on x) (take (20 + max 2 n) all_come) time)

  by_length : (b : Bool) → exceeds (length hold) x.line.held all_come ≡ b → Exactly turned b (unit_of all_come)
  by_length true e =
      let p = long x.line x.tables hold scrap time d (unfold look in rw e) in
      (p.said, ap (λ (n : ℕ). eqb n 22) p.answer ∙ overrun_22 (state_on x) time)
  by_length false e = by_reader (unit_of all_come) (unfold look in rw e)

pub scrap_exactly : S.ScrapExactly
unfolding news
scrap_exactly x hold scrap time d =
    rw (one_turn x hold scrap time) (by_length x hold scrap time d (exceeds (length hold) x.line.held (behind x.line.held hold scrap)) refl)

-- nothing waits: no copy
module _ (l : Line) (x : Tables) (h s : List ℕ) (t : ℕ) (w : l.held ≡ 0) where
  gathers_none : (n : ℕ) → gathered n l.held h s ≡ h
  unfolding gathered
  gathers_none n = ap (λ (k : ℕ). gathered n k h s) w

  moves_none : (n : ℕ) (b : List ℕ) → moved_up n l.held b ≡ b
  moves_none n b = ap (λ (k : ℕ). moved_up n k b) w ∙ ap (λ (e : List ℕ). laid e b) (drop-nil n)

  no_bytes : (b : List ℕ) → length b ≡ 0 → b ≡ []
  no_bytes [] e = refl
  no_bytes (k ∷ b) e = absurd (let z : ⊥ = omega (arith, e) in z)

  looked_copies : (v : Look) → (looked v l x h s t).heard.line.held ≡ 0 → (looked v l x h s t).hold ≡ h
  unfolding looked settled
  looked_copies Waits e =
      let z : s ≡ [] = no_bytes s (omega (arith, e)) in
      λ i. laid (take (w i) h ++ z i) h
  looked_copies TooLong e = refl
  looked_copies (Finished n) e =
      split (λ (k : Holding). k.hold ≡ h) (accepted (outcome (state_of l.feed x) (Arrive (take n (behind l.held h s)) t)).given.answer) _ _
      (λ a. moves_none n (gathered n l.held h s) ∙ gathers_none n) (λ a. gathers_none n)

  pub once_copies : (once l x h s t).heard.line.held ≡ 0 → (once l x h s t).hold ≡ h
  unfolding once
  once_copies =
      split (λ (y : Hearing). y.heard.line.held ≡ 0 → y.hold ≡ h) l.dropping _ _ (λ d e. refl)
      (λ d. looked_copies (look (length h) l.held (behind l.held h s)))

  -- an accepted unit leaves no more waiting
  looked_empties : (v : Look) → goes_on (looked v l x h s t).heard ≡ true → (looked v l x h s t).heard.line.held ≡ 0
  unfolding looked settled goes_on
  looked_empties Waits = λ e. absurd (true≢false (sym e))
  looked_empties TooLong = λ e. refl
  looked_empties (Finished n) =
      split (λ (k : Holding). goes_on k.heard ≡ true → k.heard.line.held ≡ 0) (accepted (outcome (state_of l.feed x) (Arrive (take n (behind l.held h s)) t)).given.answer) _ _
      (λ a e. omega (arith, w)) (λ a e. refl)

  pub once_empties : goes_on (once l x h s t).heard ≡ true → (once l x h s t).heard.line.held ≡ 0
  unfolding once
  once_empties =
      split (λ (y : Hearing). goes_on y.heard ≡ true → y.heard.line.held ≡ 0) l.dropping _ _ (λ d e. w)
      (λ d. looked_empties (look (length h) l.held (behind l.held h s)))

pub nothing_copied : S.NothingCopied
nothing_copied x hold scrap allowed time =
    walk scrap time (λ k y z. y.heard.line.held ≡ 0 → z.heard.line.held ≡ 0 → z.hold ≡ y.hold)
    (λ y w e. refl)
    (λ k y z o on w e. let f = empties y w o in on f e ∙ copies y w f)
    (λ k y o w e. copies y w e)
    allowed (opens x hold)
  where
    copies : (y : Hearing) → y.heard.line.held ≡ 0 → (onward scrap time y).heard.line.held ≡ 0 → (onward scrap time y).hold ≡ y.hold
    copies y w e = unfold onward in (once_copies y.heard.line y.tables y.hold (drop y.heard.used scrap) time w (unfold onward in e))

    empties : (y : Hearing) → y.heard.line.held ≡ 0 → On (onward scrap time y) → (onward scrap time y).heard.line.held ≡ 0
    empties y w o = unfold onward in (once_empties y.heard.line y.tables y.hold (drop y.heard.used scrap) time w (unfold onward goes_on in o))

-- a line that drops
pub scrap_dropped : S.ScrapDropped
unfolding once
scrap_dropped x hold scrap allowed time d =
    through_ends scrap time (opens x hold) allowed (quiet_off scrap time (opens x hold) (dropped x.line x.tables hold scrap time d))
    ∙ first_turn x hold scrap time
    ∙ cond_yes x.line.dropping _ _ d

-- .. stays as it is
pub hears_dropped : (x : Lined) (hold scrap : List ℕ) (allowed time : ℕ) → x.line.dropping ≡ true → lined_in (scrapped x hold scrap allowed time) ≡ x
hears_dropped x hold scrap zero time d = unfold through in refl
hears_dropped x hold scrap (suc k) time d = ap lined_in (scrap_dropped x hold scrap k time d)

-- more units allowed: a scrap goes on from where the first left it, or has ended there
module _ (s : List ℕ) (t b : ℕ) where
  pub goes_on_lem : (a : ℕ) (y : Hearing) → (through a s t y).heard.accepted ≡ y.heard.accepted + a → through (a + b) s t y ≡ through b s t (through a s t y)
  goes_on_lem =
      walk s t (λ a y z. z.heard.accepted ≡ y.heard.accepted + a → through (a + b) s t y ≡ through b s t z)
      (λ y h. let z : 0 + b ≡ b = omega arith in rw z)
      (λ a y z o on h.
      let e : suc a + b ≡ suc (a + b) = omega arith in
      let c = onward_counts s t y ∙ ap (λ (b : Bool). y.heard.accepted + cond b 1 0) o in
      rw e (through_on s t y (a + b) o ∙ on (omega (arith, h, c))))
      (λ a y o h.
      let c = onward_counts s t y ∙ ap (λ (b : Bool). y.heard.accepted + cond b 1 0) o in
      absurd (let z : ⊥ = omega (arith, h, c) in z))

  pub has_ended : (a : ℕ) (y : Hearing) → (through a s t y).heard.accepted < y.heard.accepted + a → through (a + b) s t y ≡ through a s t y
  has_ended =
      walk s t (λ a y z. z.heard.accepted < y.heard.accepted + a → through (a + b) s t y ≡ z)
      (λ y h. absurd (let z : ⊥ = omega arith in z))
      (λ a y z o on h.
      let e : suc a + b ≡ suc (a + b) = omega arith in
      let c = onward_counts s t y ∙ ap (λ (b : Bool). y.heard.accepted + cond b 1 0) o in
      rw e (through_on s t y (a + b) o ∙ on (omega (arith, h, c))))
      (λ a y o h. let e : suc a + b ≡ suc (a + b) = omega arith in rw e (through_ends s t y (a + b) o))

pub scrap_stops : S.ScrapStops
scrap_stops x hold scrap a b time h = has_ended scrap time b a (opens x hold) (omega (arith, h))

-- p units, q bytes and d rows before a scrap are p, q and d more of them, and nothing else
abbrev further : ℕ → ℕ → ℕ → Hearing → Hearing
further p q d y =
    hearing
    (record { said = y.heard.said; answer = y.heard.answer; accepted = p + y.heard.accepted; used = q + y.heard.used; line = y.heard.line; dropped = d + y.heard.dropped })
    y.tables
    y.hold

module _ (p q d : ℕ) (s : List ℕ) (t : ℕ) where
  onward_further : (y : Hearing) → onward s t (further p q d y) ≡ further p q d (onward (drop q s) t y)
  unfolding onward
  onward_further y =
      let o : Hearing = once y.heard.line y.tables y.hold (drop y.heard.used (drop q s)) t in
      rw (← drop-drop y.heard.used q s)
      (λ i. hearing
      (record {
        said = o.heard.said;
        answer = o.heard.answer;
        accepted = add_assoc p y.heard.accepted o.heard.accepted i;
        used = add_assoc q y.heard.used o.heard.used i;
        line = o.heard.line;
        dropped = add_assoc d y.heard.dropped o.heard.dropped i;
      })
      o.tables
      o.hold)

  goes_same : (y : Hearing) → goes_on (further p q d y).heard ≡ goes_on y.heard
  unfolding goes_on
  goes_same y = refl

  goes_further : (y : Hearing) (b : Bool) → goes_on (onward (drop q s) t y).heard ≡ b → goes_on (onward s t (further p q d y)).heard ≡ b
  goes_further y b e = ap (λ (z : Hearing). goes_on z.heard) (onward_further y) ∙ goes_same (onward (drop q s) t y) ∙ e

  through_further : (k : ℕ) (y : Hearing) → through k s t (further p q d y) ≡ further p q d (through k (drop q s) t y)
  through_further =
      walk (drop q s) t (λ k y z. through k s t (further p q d y) ≡ further p q d z)
      (λ y. unfold through in refl)
      (λ k y z e on. through_on s t (further p q d y) k (goes_further y true e) ∙ ap (through k s t) (onward_further y) ∙ on)
      (λ k y e. through_ends s t (further p q d y) k (goes_further y false e) ∙ onward_further y)

-- a turn does not look at what was said before
blind : (s : List ℕ) (t : ℕ) (y : Hearing)
    → onward s t (hearing (record { said = y.heard.said; answer = y.heard.answer; accepted = 0; used = 0; line = y.heard.line; dropped = 0 }) y.tables y.hold)
    ≡ onward s t (opens (lined_in y) y.hold)
unfolding onward
blind s t y = refl

on_rest : (s : List ℕ) (t b : ℕ) (y : Hearing) → through b s t y ≡ S.on_top b y (scrapped (lined_in y) y.hold (drop y.heard.used s) b t)
unfolding through
on_rest s t zero y =
    let a : y.heard.accepted ≡ y.heard.accepted + 0 = omega arith in
    let u : y.heard.used ≡ y.heard.used + 0 = omega arith in
    let r : y.heard.dropped ≡ y.heard.dropped + 0 = omega arith in
    λ i. hearing (record { said = y.heard.said; answer = y.heard.answer; accepted = a i; used = u i; line = y.heard.line; dropped = r i }) y.tables y.hold
on_rest s t (suc b) y =
    let p : ℕ = y.heard.accepted in
    let q : ℕ = y.heard.used in
    let d : ℕ = y.heard.dropped in
    let a : p ≡ p + 0 = omega arith in
    let u : q ≡ q + 0 = omega arith in
    let r : d ≡ d + 0 = omega arith in
    let z : Hearing = hearing (record { said = y.heard.said; answer = y.heard.answer; accepted = 0; used = 0; line = y.heard.line; dropped = 0 }) y.tables y.hold in
    let same : y ≡ further p q d z =
    λ i. hearing (record { said = y.heard.said; answer = y.heard.answer; accepted = a i; used = u i; line = y.heard.line; dropped = r i }) y.tables y.hold in
    ap (through (suc b) s t) same ∙ through_further p q d s t (suc b) z
    ∙ rw (blind (drop q s) t y, ne_eqb (suc b) 0 (λ z. let w : ⊥ = omega (arith, z) in w))

pub scrap_joins : S.ScrapJoins
scrap_joins x hold scrap a b time e =
    goes_on_lem scrap time b a (opens x hold) (omega (arith, e)) ∙ on_rest scrap time b (scrapped x hold scrap a time)
