-- Lines by the C calls, proved: each is named as its statement in specs/Lines, with a small letter. Assumes nothing.
use Prim.Native.Nat.{ℕ, zero, suc, ◌+◌}
use native.Mathlib.Omega.{arith}
use native.Mathlib.Nat.{zero-add}
use mathlib.Core.Path.{◌≡◌, refl, sym, ap, ◌∙◌, subst}
use mathlib.Core.Bool.{Bool, true, false, cond, not, ◌&&◌}
use mathlib.Core.List.{List, [], ◌∷◌, ◌++◌, append-nil}
use lib.ListN.{length, take, drop}
use lib.Dec.{T, ltb, eqb}
use borrow.Author.Tests.{ne_eqb, eqb-true}
use Rattle.ground.specs.Choice.{one_of, all, first}
use Rattle.ground.proofs.Bools.{split, two}
use Rattle.feed.specs.Events.{Tables, State, Event, Connect}
use Rattle.feed.specs.Steps.{accepted, state_of, outcome}
use Rattle.feed.specs.declared.Given.{Given}
use Rattle.feed.specs.declared.Link.{Link}
use Rattle.feed.proofs.Laws.{plain_badge_lem}
use Rattle.lines.specs.Scraps.{Hearing, once, onward, goes_on, through, hears, links}
use Rattle.lines.specs.declared.Line.{Line}
use Rattle.lines.specs.declared.Linked.{Linked}
use Rattle.lines.proofs.Cases.{cond_yes, cond_no}
use Rattle.promises.specs.Refusals.{ending}
use Rattle.promises.specs.Demands.{connects}
use Rattle.promises.specs.Runs.{Sizes, after, answer_of, trace, is_green}
use Rattle.promises.specs.Frames.{answers_in}
use Rattle.promises.specs.Scraps.{Lined, lined, state_on, lined_in, opens, scrapped, units, scrap_said, scrap_answers, View, scraps, one_piece, linked, after_line, run_line, line_events, written_line, new_line, end_line, NoConnect}
use Rattle.promises.proofs.Scraps.{silently, with_event, TurnAt, QuietAt, SpokeAt, turn_at, quiet_said, spoke_said, spoke_answer, spoke_state, spoke_goes, units_quiet, units_on, units_off, walk, first_turn, one_turn, scrap_dropped, scrap_listed, link_listed}
use Rattle.promises.proofs.Cuts.{any_scraps, no_events}
use Rattle.promises.specs.Dropped.{dropped_by_all}
use Rattle.promises.proofs.Dropped.{any_scraps_drop}
use Rattle.promises.proofs.Lines as P
use Rattle.screen.specs.Plain.{yes, bit, link_of, feed_of, plain_feed, line_of, plain_line, PlainHearing, plain_hearing, plain_hears}
use Rattle.screen.specs.Calls.{linked_back, links_back, plain_silent, hears_back}
use Rattle.screen.specs.declared.MmdhLine.{MmdhLine}
use Rattle.screen.specs.declared.MmdhLinked.{MmdhLinked}
use Rattle.border.specs.Lines as C
use Rattle.border.specs.Lines.{plain_onward, plain_through, plain_said, PlainView, plain_scraps, plain_dropped, HeldLine, PlainLineAct, LinksBy, HearsBy, plain_after_line, plain_run_line, line_act_of, line_acts_of, plain_new_line, line_says_green, is_linked, none_linked}
use Rattle.border.proofs.Border.{bit_back, comes_back}

pub line_comes_back : C.LineComesBack
line_comes_back l = λ i. record { feed = comes_back l.feed i; held = l.held; dropping = bit_back l.dropping i }

suc_not : (k : ℕ) → eqb (suc k) 0 ≡ false
suc_not k = ne_eqb (suc k) 0 (λ z. let w : ⊥ = omega (arith, z) in w)

-- what a call does that is allowed a unit
module _ (l : MmdhLine) (x : Tables) (hold scrap : List ℕ) (k time : ℕ) where
  pub back_dropped : yes l.dropping ≡ true → hears_back l x hold scrap (suc k) time ≡ plain_hearing (plain_silent (length scrap) l) x hold
  unfolding hears_back first
  back_dropped d = rw (suc_not k, d)

  pub back_heard : yes l.dropping ≡ false → hears_back l x hold scrap (suc k) time ≡ plain_hears (hears (line_of l) x hold scrap (suc k) time)
  unfolding hears_back first
  back_heard d = cond_no (eqb (suc k) 0) _ _ (suc_not k) ∙ cond_no (yes l.dropping) _ _ d

-- of a line's own numbers
module _ (x : Lined) (hold scrap : List ℕ) (time : ℕ) where
  back_own : (k : ℕ) → hears_back (plain_line x.line) x.tables hold scrap (suc k) time ≡ plain_hears (scrapped x hold scrap (suc k) time)
  unfolding bit
  back_own k = by x.line.dropping refl
    where
      by : (b : Bool) → x.line.dropping ≡ b → hears_back (plain_line x.line) x.tables hold scrap (suc k) time ≡ plain_hears (scrapped x hold scrap (suc k) time)
      by true d =
          back_dropped (plain_line x.line) x.tables hold scrap k time (bit_back x.line.dropping ∙ d)
          ∙ sym (ap plain_hears (scrap_dropped x hold scrap k time d))
      by false d =
          back_heard (plain_line x.line) x.tables hold scrap k time (bit_back x.line.dropping ∙ d)
          ∙ ap (λ (l : Line). plain_hears (hears l x.tables hold scrap (suc k) time)) (line_comes_back x.line)

  back_one : hears_back (plain_line x.line) x.tables hold scrap 1 time ≡ plain_hears (once x.line x.tables hold scrap time)
  back_one = back_own 0 ∙ ap plain_hears (one_turn x hold scrap time)

-- a loop of calls goes as a scrap does
onward_is : (scrap : List ℕ) (time : ℕ) (y : Hearing) → plain_onward scrap time (plain_hears y) ≡ plain_hears (onward scrap time y)
unfolding plain_onward onward
onward_is scrap time y =
    ap (λ (z : PlainHearing). plain_hearing
    (record {
      said = z.heard.said;
      answer = z.heard.answer;
      accepted = y.heard.accepted + z.heard.accepted;
      used = y.heard.used + z.heard.used;
      line = z.heard.line;
      dropped = y.heard.dropped + z.heard.dropped;
    })
    z.tables
    z.hold)
    (back_one (lined_in y) y.hold (drop y.heard.used scrap) time)

goes_is : (y : Hearing) → (yes (plain_hears y).heard.said && accepted (plain_hears y).heard.answer) ≡ goes_on y.heard
unfolding goes_on
goes_is y = ap (λ (b : Bool). b && accepted y.heard.answer) (bit_back y.heard.said)

through_is : (scrap : List ℕ) (time k : ℕ) (y : Hearing) → plain_through k scrap time (plain_hears y) ≡ plain_hears (through k scrap time y)
unfolding plain_through
through_is scrap time =
    walk scrap time (λ k y z. plain_through k scrap time (plain_hears y) ≡ plain_hears z)
    (λ y. refl)
    (λ k y z o on. rw (onward_is scrap time y, goes_is (onward scrap time y), o) on)
    (λ k y o. rw (onward_is scrap time y, goes_is (onward scrap time y), o))

-- .. from any numbers on
module _ (l : MmdhLine) (x : Tables) (hold scrap : List ℕ) (time : ℕ) where
  abbrev begun : PlainHearing
  begun = plain_hearing (plain_silent 0 l) x hold

  abbrev after_one : PlainHearing → PlainHearing
  after_one z =
      plain_hearing
      (record { said = z.heard.said; answer = z.heard.answer; accepted = 0 + z.heard.accepted; used = 0 + z.heard.used; line = z.heard.line; dropped = 0 + z.heard.dropped })
      z.tables
      z.hold

  first_is : plain_onward scrap time begun ≡ after_one (hears_back l x hold scrap 1 time)
  unfolding plain_onward
  first_is = refl

  same_one : (z : PlainHearing) → after_one z ≡ z
  same_one z = λ i. plain_hearing
      (record {
        said = z.heard.said;
        answer = z.heard.answer;
        accepted = zero-add z.heard.accepted i;
        used = zero-add z.heard.used i;
        line = z.heard.line;
        dropped = zero-add z.heard.dropped i;
      })
      z.tables
      z.hold

  pub first_dropped : yes l.dropping ≡ true → plain_onward scrap time begun ≡ plain_hearing (plain_silent (length scrap) l) x hold
  first_dropped d = first_is ∙ same_one (hears_back l x hold scrap 1 time) ∙ back_dropped l x hold scrap 0 time d

  pub first_heard : yes l.dropping ≡ false → plain_onward scrap time begun ≡ plain_onward scrap time (plain_hears (opens (lined (line_of l) x) hold))
  first_heard d =
      first_is ∙ same_one (hears_back l x hold scrap 1 time) ∙ back_heard l x hold scrap 0 time d ∙ ap plain_hears (one_turn (lined (line_of l) x) hold scrap time ∙ sym (first_turn (lined (line_of l) x) hold scrap time))
      ∙ sym (onward_is scrap time (opens (lined (line_of l) x) hold))

  loop_dropped : (k : ℕ) → yes l.dropping ≡ true → hears_back l x hold scrap (suc k) time ≡ plain_through (suc k) scrap time begun
  unfolding plain_through yes
  loop_dropped k d = back_dropped l x hold scrap k time d ∙ rw (first_dropped d)

  loop_heard : (k : ℕ) → yes l.dropping ≡ false → hears_back l x hold scrap (suc k) time ≡ plain_through (suc k) scrap time begun
  unfolding plain_through
  loop_heard k d = back_heard l x hold scrap k time d ∙ sym (through_is scrap time (suc k) (opens (lined (line_of l) x) hold)) ∙ rw (← first_heard d)

pub scrap_is_loop : C.ScrapIsLoop
unfolding hears_back first plain_through
scrap_is_loop l x hold scrap zero time = refl
scrap_is_loop l x hold scrap (suc k) time = by (yes l.dropping) refl
  where
    by : (b : Bool) → yes l.dropping ≡ b → hears_back l x hold scrap (suc k) time ≡ plain_through (suc k) scrap time (begun l x hold scrap time)
    by true d = loop_dropped l x hold scrap time k d
    by false d = loop_heard l x hold scrap time k d

-- what the loop is told, one by one
module _ (scrap : List ℕ) (time k : ℕ) (y : Hearing) where
  abbrev next : Hearing
  next = onward scrap time y

  abbrev SaidBy : ℕ → Hearing → Type 0
  SaidBy n z = plain_said n scrap time (plain_hears z) ≡ answers_in (trace (state_on (lined_in z)) (units n scrap time z))

  said_step : (b : Bool) → next.heard.said ≡ b
      → plain_said (suc k) scrap time (plain_hears y) ≡ cond b (next.heard.answer ∷ cond (accepted next.heard.answer) (plain_said k scrap time (plain_hears next)) []) []
  unfolding plain_said
  said_step b e = rw (onward_is scrap time y, bit_back next.heard.said, e)

  said_quiet : QuietAt scrap time y → SaidBy (suc k) y
  unfolding answers_in trace
  said_quiet q = said_step false (quiet_said scrap time y q) ∙ rw (units_quiet scrap time k y q)

  said_spoke : (e : Event) → SpokeAt scrap time y e → SaidBy k next → (b : Bool) → accepted (answer_of (state_on (lined_in y)) e) ≡ b → SaidBy (suc k) y
  unfolding answers_in trace
  said_spoke e p rest b a =
      let n : ℕ = answer_of (state_on (lined_in y)) e in
      let q : next.heard.answer ≡ n = spoke_answer scrap time y e p in
      let o : goes_on next.heard ≡ b = spoke_goes scrap time y e p ∙ a in
      said_step true (spoke_said scrap time y e p) ∙ (λ i. q i ∷ cond (accepted (q i)) (plain_said k scrap time (plain_hears next)) [])
      ∙ ap (λ (r : List ℕ). n ∷ r) (then b a o) ∙ sym (ap (λ (es : List Event). answers_in (trace (state_on (lined_in y)) es)) (units_are b o))
    where
      then : (b : Bool) → accepted (answer_of (state_on (lined_in y)) e) ≡ b → goes_on next.heard ≡ b
          → cond (accepted (answer_of (state_on (lined_in y)) e)) (plain_said k scrap time (plain_hears next)) []
          ≡ answers_in (trace (after (state_on (lined_in y)) e) (cond b (units k scrap time next) []))
      then true a o =
          cond_yes (accepted (answer_of (state_on (lined_in y)) e)) _ _ a ∙ rest ∙ ap (λ (s : State). answers_in (trace s (units k scrap time next))) (spoke_state scrap time y e p)
      then false a o = cond_no (accepted (answer_of (state_on (lined_in y)) e)) _ _ a

      units_are : (b : Bool) → goes_on next.heard ≡ b → units (suc k) scrap time y ≡ e ∷ cond b (units k scrap time next) []
      units_are true o = units_on scrap time k y e p o
      units_are false o = units_off scrap time k y e p o

  said_turn : TurnAt scrap time y → SaidBy k next → SaidBy (suc k) y
  said_turn (silently q) rest = said_quiet q
  said_turn (with_event e p) rest = said_spoke e p rest (accepted (answer_of (state_on (lined_in y)) e)) refl

said_is : (scrap : List ℕ) (time k : ℕ) (y : Hearing) → plain_said k scrap time (plain_hears y) ≡ answers_in (trace (state_on (lined_in y)) (units k scrap time y))
unfolding plain_said answers_in trace units
said_is scrap time zero y = refl
said_is scrap time (suc k) y = said_turn scrap time k y (turn_at scrap time y) (said_is scrap time k (onward scrap time y))

-- .. from any numbers on
module _ (l : MmdhLine) (x : Tables) (hold scrap : List ℕ) (time k : ℕ) where
  told_dropped : yes l.dropping ≡ true → plain_said (suc k) scrap time (begun l x hold scrap time) ≡ []
  unfolding plain_said yes
  told_dropped d = rw (first_dropped l x hold scrap time d)

  told_first : yes l.dropping ≡ false → plain_said (suc k) scrap time (begun l x hold scrap time) ≡ plain_said (suc k) scrap time (plain_hears (opens (lined (line_of l) x) hold))
  unfolding plain_said
  told_first d =
      ap (λ (z : PlainHearing). cond (yes z.heard.said) (z.heard.answer ∷ cond (accepted z.heard.answer) (plain_said k scrap time z) []) [])
      (first_heard l x hold scrap time d)

pub each_said : C.EachSaid
unfolding plain_said answers_in trace units
each_said l x hold scrap zero time = refl
each_said l x hold scrap (suc k) time = by (yes l.dropping) refl
  where
    by : (b : Bool) → yes l.dropping ≡ b → plain_said (suc k) scrap time (begun l x hold scrap time) ≡ answers_in (scrap_said (lined (line_of l) x) hold scrap (suc k) time)
    by true d = told_dropped l x hold scrap time k d ∙ sym (ap (λ (es : List Event). answers_in (trace (state_on (lined (line_of l) x)) es)) (no_events (lined (line_of l) x) hold scrap time d k))
    by false d = told_first l x hold scrap time k d ∙ said_is scrap time (suc k) (opens (lined (line_of l) x) hold)

answer_back : (l : MmdhLine) (r : Linked) → (linked_back l r).answer ≡ r.answer
unfolding linked_back
answer_back l r = split (λ (k : MmdhLinked). k.answer ≡ r.answer) (eqb r.answer 0) _ _ (λ e. sym (eqb-true r.answer 0 e)) (λ e. refl)

pub plain_lines_listed : C.PlainLinesListed
unfolding hears_back first one_of
plain_lines_listed l x hold scrap allowed resuming time = (
  by (eqb allowed 0) (yes l.dropping),
  rw (answer_back l (links (linked z hold (link_of resuming) time) z.line hold)) (link_listed z hold (link_of resuming) time),
)
  where
    z : Lined
    z = lined (line_of l) x

    by : (a b : Bool) → T (one_of (first ((a, plain_hearing (plain_silent 0 l) x hold) ∷ (b, plain_hearing (plain_silent (length scrap) l) x hold) ∷ [])
        (plain_hears (scrapped z hold scrap allowed time))).heard.answer scrap_answers)
    by true b = tt
    by false true = tt
    by false false = scrap_listed z hold scrap allowed time

-- scraps by calls: what is seen in plain numbers
abbrev plain_view : View → PlainView
plain_view z = record {
  answers = answers_in z.said;
  feed = plain_feed z.state.feed;
  tables = z.state.tables;
  waiting = z.waiting;
  dropping = bit z.dropping;
}

answers_two : (p q : List (Event × ℕ)) → answers_in (p ++ q) ≡ answers_in p ++ answers_in q
unfolding answers_in
answers_two [] q = refl
answers_two (a ∷ p) q = ap (λ (r : List ℕ). a.1 ∷ r) (answers_two p q)

-- a line's own numbers
scraps_own : (ss : List (List ℕ)) (S : List (Event × ℕ)) (x : Lined) (hold : List ℕ) (k time : ℕ)
    → plain_scraps (answers_in S) (plain_line x.line) x.tables hold ss (suc k) time ≡ plain_view (scraps S x hold ss (suc k) time)
unfolding plain_scraps scraps
scraps_own [] S x hold k time = refl
scraps_own (s ∷ ss) S x hold k time =
    let y : Hearing = scrapped x hold s (suc k) time in
    let said : List (Event × ℕ) = scrap_said x hold s (suc k) time in
    let a : answers_in S ++ plain_said (suc k) s time (plain_hearing (plain_silent 0 (plain_line x.line)) x.tables hold) ≡ answers_in (S ++ said) =
    ap (λ (r : List ℕ). answers_in S ++ r) (each_said (plain_line x.line) x.tables hold s (suc k) time
    ∙ ap (λ (l : Line). answers_in (scrap_said (lined l x.tables) hold s (suc k) time)) (line_comes_back x.line))
    ∙ sym (answers_two S said) in
    let b = back_own x hold s time k in
    (λ i. plain_scraps (a i) (b i).heard.line (b i).tables (b i).hold ss (suc k) time) ∙ scraps_own ss (S ++ said) (lined_in y) y.hold k time

-- a line that drops stays as it was handed in
scraps_dropped : (ss : List (List ℕ)) (answers : List ℕ) (l : MmdhLine) (x : Tables) (hold : List ℕ) (k time : ℕ) → yes l.dropping ≡ true
    → plain_scraps answers l x hold ss (suc k) time ≡ record { answers = answers; feed = l.feed; tables = x; waiting = take l.held hold; dropping = l.dropping }
unfolding plain_scraps answers_in trace
scraps_dropped [] answers l x hold k time d = refl
scraps_dropped (s ∷ ss) answers l x hold k time d =
    let b = back_dropped l x hold s k time d in
    let a : answers ++ plain_said (suc k) s time (begun l x hold s time) ≡ answers =
    ap (λ (r : List ℕ). answers ++ r) (each_said l x hold s (suc k) time)
    ∙ ap (λ (es : List Event). answers ++ answers_in (trace (state_on (lined (line_of l) x)) es)) (no_events (lined (line_of l) x) hold s time d k)
    ∙ append-nil answers in
    (λ i. plain_scraps (a i) (b i).heard.line (b i).tables (b i).hold ss (suc k) time) ∙ scraps_dropped ss answers l x hold k time d

scraps_heard : (s : List ℕ) (ss : List (List ℕ)) (l : MmdhLine) (x : Tables) (hold : List ℕ) (k time : ℕ) → yes l.dropping ≡ false
    → plain_scraps [] l x hold (s ∷ ss) (suc k) time ≡ plain_view (scraps [] (lined (line_of l) x) hold (s ∷ ss) (suc k) time)
unfolding plain_scraps scraps
scraps_heard s ss l x hold k time d =
    let z : Lined = lined (line_of l) x in
    let y : Hearing = scrapped z hold s (suc k) time in
    let b = back_heard l x hold s k time d in
    (λ i. plain_scraps ([] ++ each_said l x hold s (suc k) time i) (b i).heard.line (b i).tables (b i).hold ss (suc k) time)
    ∙ scraps_own ss ([] ++ scrap_said z hold s (suc k) time) (lined_in y) y.hold k time

pub plain_any_scraps : C.PlainAnyScraps
plain_any_scraps l x hold s ss zero time h = absurd (let z : ⊥ = omega (arith, h) in z)
plain_any_scraps l x hold s ss (suc k) time h = by (yes l.dropping) refl
  where
    by : (b : Bool) → yes l.dropping ≡ b → plain_scraps [] l x hold (s ∷ ss) (suc k) time ≡ plain_scraps [] l x hold (one_piece (s ∷ ss) ∷ []) (suc k) time
    by true d = scraps_dropped (s ∷ ss) [] l x hold k time d ∙ sym (scraps_dropped (one_piece (s ∷ ss) ∷ []) [] l x hold k time d)
    by false d =
        scraps_heard s ss l x hold k time d
        ∙ ap plain_view (any_scraps (lined (line_of l) x) hold s ss (suc k) time h)
        ∙ sym (scraps_heard (one_piece (s ∷ ss)) [] l x hold k time d)

-- the rows dropped, in all
dropped_own : (ss : List (List ℕ)) (x : Lined) (hold : List ℕ) (k time : ℕ)
    → plain_dropped (plain_line x.line) x.tables hold ss (suc k) time ≡ dropped_by_all x hold ss (suc k) time
unfolding plain_dropped dropped_by_all
dropped_own [] x hold k time = refl
dropped_own (s ∷ ss) x hold k time =
    let y : Hearing = scrapped x hold s (suc k) time in
    ap (λ (z : PlainHearing). z.heard.dropped + plain_dropped z.heard.line z.tables z.hold ss (suc k) time) (back_own x hold s time k)
    ∙ ap (λ (n : ℕ). y.heard.dropped + n) (dropped_own ss (lined_in y) y.hold k time)

dropped_none : (ss : List (List ℕ)) (l : MmdhLine) (x : Tables) (hold : List ℕ) (k time : ℕ) → yes l.dropping ≡ true → plain_dropped l x hold ss (suc k) time ≡ 0
unfolding plain_dropped
dropped_none [] l x hold k time d = refl
dropped_none (s ∷ ss) l x hold k time d =
    ap (λ (z : PlainHearing). z.heard.dropped + plain_dropped z.heard.line z.tables z.hold ss (suc k) time) (back_dropped l x hold s k time d)
    ∙ ap (λ (n : ℕ). 0 + n) (dropped_none ss l x hold k time d)

dropped_heard : (s : List ℕ) (ss : List (List ℕ)) (l : MmdhLine) (x : Tables) (hold : List ℕ) (k time : ℕ) → yes l.dropping ≡ false
    → plain_dropped l x hold (s ∷ ss) (suc k) time ≡ dropped_by_all (lined (line_of l) x) hold (s ∷ ss) (suc k) time
unfolding plain_dropped dropped_by_all
dropped_heard s ss l x hold k time d =
    let y : Hearing = scrapped (lined (line_of l) x) hold s (suc k) time in
    ap (λ (z : PlainHearing). z.heard.dropped + plain_dropped z.heard.line z.tables z.hold ss (suc k) time) (back_heard l x hold s k time d)
    ∙ ap (λ (n : ℕ). y.heard.dropped + n) (dropped_own ss (lined_in y) y.hold k time)

pub plain_any_scraps_drop : C.PlainAnyScrapsDrop
plain_any_scraps_drop l x hold s ss zero time h = absurd (let z : ⊥ = omega (arith, h) in z)
plain_any_scraps_drop l x hold s ss (suc k) time h = by (yes l.dropping) refl
  where
    by : (b : Bool) → yes l.dropping ≡ b → plain_dropped l x hold (s ∷ ss) (suc k) time ≡ plain_dropped l x hold (one_piece (s ∷ ss) ∷ []) (suc k) time
    by true d = dropped_none (s ∷ ss) l x hold k time d ∙ sym (dropped_none (one_piece (s ∷ ss) ∷ []) l x hold k time d)
    by false d =
        dropped_heard s ss l x hold k time d
        ∙ any_scraps_drop (lined (line_of l) x) hold s ss (suc k) time h
        ∙ sym (dropped_heard (one_piece (s ∷ ss)) [] l x hold k time d)

-- runs
abbrev plain : Lined → HeldLine
plain x = record { line = plain_line x.line; tables = x.tables }

module _ (x : Lined) (hold : List ℕ) (link : Link) (time : ℕ) where
  abbrev g : Given
  g = linked x hold link time

  abbrev made : Linked
  made = links g x.line hold

  line_back : (linked_back (plain_line x.line) made).line ≡ plain_line made.line
  unfolding linked_back
  line_back = by (accepted g.answer) refl (ltb (length hold) 22) refl
    where
      back : MmdhLine → Linked → MmdhLine
      back l r = (cond {A = MmdhLinked} (eqb r.answer 0) (record { answer = 0; line = plain_line r.line }) (record { answer = r.answer; line = l })).line

      unchanged : (r : Linked) → r.line ≡ x.line → back (plain_line x.line) r ≡ plain_line r.line
      unchanged r e = either (eqb r.answer 0)
        where
          either : (b : Bool) → (cond {A = MmdhLinked} b (record { answer = 0; line = plain_line r.line }) (record { answer = r.answer; line = plain_line x.line })).line ≡ plain_line r.line
          either true = refl
          either false = sym (ap plain_line e)

      by : (a : Bool) → accepted g.answer ≡ a → (b : Bool) → ltb (length hold) 22 ≡ b → back (plain_line x.line) made ≡ plain_line made.line
      by false a b e = unchanged made (ap (λ (r : Linked). r.line) (P.links_refused x hold link time a))
      by true a true e = unchanged made (ap (λ (r : Linked). r.line) (P.links_short x hold link time a e))
      by true a false e =
          let q : made.answer ≡ 0 = ap (λ (r : Linked). r.answer) (P.links_made x hold link time a e) ∙ P.zero_only x hold link time a in
          ap (λ (n : ℕ). (cond {A = MmdhLinked} (eqb n 0) (record { answer = 0; line = plain_line made.line }) (record { answer = made.answer; line = plain_line x.line })).line) q

links_back_lem : (x : Lined) (hold : List ℕ) (resuming time : ℕ)
    → links_back (plain_line x.line) hold (outcome (state_of (feed_of (plain_feed x.line.feed)) x.tables) (Connect (link_of resuming) time)).given
    ≡ linked_back (plain_line x.line) (links (linked x hold (link_of resuming) time) x.line hold)
links_back_lem x hold resuming time =
    λ i. linked_back (plain_line x.line) (links (outcome (state_of (line_comes_back x.line i).feed x.tables) (Connect (link_of resuming) time)).given (line_comes_back x.line i) hold)

act_is : (x : Lined) (a : PlainLineAct) → plain_after_line (plain x) a ≡ plain (after_line x (line_act_of a))
unfolding plain_after_line after_line line_act_of
act_is x (LinksBy hold resuming time) =
    λ i. record { line = (ap (λ (r : MmdhLinked). r.line) (links_back_lem x hold resuming time) ∙ line_back x hold (link_of resuming) time) i; tables = x.tables }
act_is x (HearsBy hold scrap zero time) = unfold hears_back first through in refl
act_is x (HearsBy hold scrap (suc k) time) = ap (λ (y : PlainHearing). record { line = y.heard.line; tables = y.tables }) (back_own x hold scrap time k)

acts_are : (acts : List PlainLineAct) (x : Lined) → plain_run_line (plain x) acts ≡ plain (run_line x (line_acts_of acts))
unfolding plain_run_line run_line line_acts_of
acts_are [] x = refl
acts_are (a ∷ acts) x = ap (λ (z : HeldLine). plain_run_line z acts) (act_is x a) ∙ acts_are acts (after_line x (line_act_of a))

pub is_line_run : C.IsLineRun
unfolding bit
is_line_run limit n acts =
    let e = acts_are acts (new_line limit n) in
    (ap (λ (x : HeldLine). x.line) e, ap (λ (x : HeldLine). x.tables) e)

pub plain_lines_replayed : C.PlainLinesReplayed
plain_lines_replayed limit n acts = (is_line_run limit n acts).1 ∙ P.lines_replayed limit n (line_acts_of acts)

-- mmdh_badge of a line's own numbers
badge_is : (x : Lined) (time : ℕ) → line_says_green (plain x) time ≡ is_green (state_on x) time
badge_is x time = ap (λ (k : ℕ). eqb k 1) (plain_badge_lem x.line.feed time)

green_is : (limit : ℕ) (n : Sizes) (acts : List PlainLineAct) (time : ℕ)
    → line_says_green (plain_run_line (plain_new_line limit n) acts) time ≡ is_green (state_on (end_line limit n (line_acts_of acts))) time
unfolding bit
green_is limit n acts time = ap (λ (x : HeldLine). line_says_green x time) (acts_are acts (new_line limit n)) ∙ badge_is (end_line limit n (line_acts_of acts)) time

pub plain_lines_green : C.PlainLinesGreen
plain_lines_green limit n acts time = green_is limit n acts time ∙ P.lines_green limit n (line_acts_of acts) time

pub plain_lines_none_left_out : C.PlainLinesNoneLeftOut
plain_lines_none_left_out limit n acts time g = P.lines_none_left_out limit n (line_acts_of acts) time (sym (green_is limit n acts time) ∙ g)

-- the morning
back_any : (x : Lined) (hold scrap : List ℕ) (k time : ℕ) → hears_back (plain_line x.line) x.tables hold scrap k time ≡ plain_hears (scrapped x hold scrap k time)
back_any x hold scrap zero time = unfold hears_back first through bit in refl
back_any x hold scrap (suc k) time = back_own x hold scrap time k

act_none : (x : Lined) (a : PlainLineAct) → T (not (is_linked (plain x) a)) → T (all (λ p. not (connects p)) (trace (state_on x) (line_events x (line_act_of a))))
act_none x (LinksBy hold resuming time) h =
    unfold line_act_of in (P.link_none x hold (link_of resuming) time
    (λ z. subst (λ (n : ℕ). T (not (eqb n 0)))
    (ap (λ (r : MmdhLinked). r.answer) (links_back_lem x hold resuming time) ∙ answer_back (plain_line x.line) (links (linked x hold (link_of resuming) time) x.line hold) ∙ z)
    (unfold is_linked in h)))
act_none x (HearsBy hold scrap allowed time) h = unfold line_act_of in (P.scrap_none x hold scrap allowed time)

none_linked_lem : (acts : List PlainLineAct) (x : Lined) → T (none_linked (plain x) acts) → NoConnect x (line_acts_of acts)
unfolding none_linked line_acts_of
none_linked_lem [] x h = unfold written_line trace all in tt
none_linked_lem (a ∷ acts) x h =
    let k = two (not (is_linked (plain x) a)) (none_linked (plain_after_line (plain x) a) acts) h in
    P.none_on x (line_act_of a) (line_acts_of acts) (act_none x a k.0) (none_linked_lem acts (after_line x (line_act_of a)) (subst (λ (y : HeldLine). T (none_linked y acts)) (act_is x a) k.1))

pub plain_line_stays_dark : C.PlainLineStaysDark
unfolding bit after_line line_act_of run_line line_acts_of
plain_line_stays_dark limit n acts hold scrap allowed moment more time h c =
    let x : Lined = end_line limit n (line_acts_of acts) in
    let lost : PlainLineAct = HearsBy hold scrap allowed moment in
    let e = acts_are acts (new_line limit n) in
    let y : Lined = after_line x (line_act_of lost) in
    let f : plain_after_line (plain_run_line (plain_new_line limit n) acts) lost ≡ plain y = ap (λ (z : HeldLine). plain_after_line z lost) e ∙ act_is x lost in
    let h' : T (one_of (scrapped x hold scrap allowed moment).heard.answer ending) =
    subst (λ (z : PlainHearing). T (one_of z.heard.answer ending)) (ap (λ (z : HeldLine). hears_back z.line z.tables hold scrap allowed moment) e ∙ back_any x hold scrap allowed moment) h in
    let c' : NoConnect y (line_acts_of more) = none_linked_lem more y (subst (λ (z : HeldLine). T (none_linked z more)) f c) in
    ap (λ (z : HeldLine). line_says_green (plain_run_line z more) time) f
    ∙ ap (λ (z : HeldLine). line_says_green z time) (acts_are more y)
    ∙ badge_is (run_line y (line_acts_of more)) time
    ∙ sym (ap (λ (z : Lined). is_green (state_on z) time) (P.runs_on (line_acts_of acts) (line_act_of lost ∷ line_acts_of more) (new_line limit n)))
    ∙ P.line_stays_dark limit n (line_acts_of acts) hold scrap allowed moment (line_acts_of more) time h' c'
