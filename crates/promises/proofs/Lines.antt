-- Runs of a line's calls, proved: each is named as its statement in specs/Scraps, with a small letter. Assumes nothing.
use Prim.Native.Nat.{ℕ, zero, suc, ◌+◌}
use native.Mathlib.Omega.{arith}
use mathlib.Core.Path.{◌≡◌, refl, sym, ap, ◌∙◌, subst}
use mathlib.Core.Bool.{Bool, true, false, cond, not, ◌&&◌, ◌||◌, true≢false}
use mathlib.Core.List.{List, [], ◌∷◌, ◌++◌}
use lib.ListN.{length, take, drop}
use lib.Dec.{T, ltb, leb, eqb}
use borrow.Author.Tests.{ne_eqb}
use Rattle.ground.specs.Choice.{one_of, all, first}
use Rattle.ground.proofs.Bools.{no_second, two, pair, both, of_T, is_T, split}
use Rattle.ground.proofs.Choices.{each_has, all_parts}
use Rattle.wire.specs.Number.{bytes_only}
use Rattle.ladder.proofs.Keeps.{bytes_drop}
use Rattle.ladder.proofs.Orders.{all_append, all_take, all_drop}
use Rattle.feed.specs.Feeds.{badge, badge_no, badge_of, listed_limit, colour}
use Rattle.feed.specs.Events.{Tables, State, Event, Connect, Arrive, News, news, time_of}
use Rattle.feed.specs.Answers.{reply}
use Rattle.feed.specs.Steps.{accepted, state_of, act, taken, handed, outcome}
use Rattle.feed.specs.declared.Feed.{Feed}
use Rattle.feed.specs.declared.Badge.TheVariants.{Stale}
use Rattle.feed.specs.Answers.{Answer}
use Rattle.feed.specs.Answers.{Keep, Lose, Spoil, Skip, Take}
use Rattle.feed.specs.declared.Given.{Given}
use Rattle.feed.specs.declared.Link.{Link}
use Rattle.lines.specs.Looks.{look}
use Rattle.lines.specs.Scraps.{Holding, Hearing, behind, laid, gathered, settled, looked, once, goes_on, onward, through, links}
use Rattle.lines.specs.declared.Look.{Look}
use Rattle.lines.specs.declared.Look.TheVariants.{Waits, TooLong, Finished}
use Rattle.lines.specs.declared.Line.{Line}
use Rattle.lines.specs.declared.Linked.{Linked}
use Rattle.promises.specs.Refusals.{answers_to, ending, feed_refused}
use Rattle.promises.specs.Runs.{zeroed, start, after, run, answer_of, trace, end_of, tale, is_green, green, replay}
use Rattle.promises.specs.Ledger.{up_to, last_of}
use Rattle.promises.specs.Frames.{answers_in}
use Rattle.promises.specs.NoHole.{kept}
use Rattle.promises.specs.Demands.{Bytes, hands_bytes, is_connect, connects}
use Rattle.promises.specs.Scraps as S
use Rattle.promises.specs.Scraps.{Lined, state_on, lined_in, opens, scrapped, due_events, turn_events, units, scrap_events, linked, LineAct, Links, Hears, after_line, run_line, line_events, written_line, new_line, line_bytes, refused_since, NoConnect}
use Rattle.promises.proofs.Demands as D
use Rattle.promises.proofs.Soundness.{bytes_two}
use Rattle.promises.proofs.Morning.{run_append}
use Rattle.promises.proofs.NoHole.{none_left_out}
use Rattle.promises.proofs.Frames.{dark_after}
use Rattle.lines.proofs.Courses.{through_on, through_ends}
use Rattle.promises.proofs.Scraps.{silently, with_event, at, TurnAt, QuietAt, SpokeAt, turn_at, quiet_off, quiet_drops, spoke_goes, spoke_state, spoke_taken, spoke_refused, units_quiet, units_on, units_off, scrap_tells, hears_dropped}

-- a connect writes no table
act_tables : (a : Answer) (link : Link) (time : ℕ) (s : State) → (act a time (News.Linked link) s).tables ≡ s.tables
unfolding act taken
act_tables (Keep n) link time s = refl
act_tables (Lose n) link time s = refl
act_tables (Spoil n) link time s = refl
act_tables (Skip n) link time s = refl
act_tables (Take n) link time s = refl

connect_made : (s : State) (link : Link) (time : ℕ) → after s (Connect link time) ≡ state_of (outcome s (Connect link time)).given.feed s.tables
unfolding after outcome handed news time_of
connect_made s link time = λ i. state_of (act (reply s (Connect link time)) time (News.Linked link) s).feed (act_tables (reply s (Connect link time)) link time s i)

-- a connect that is refused leaves the feed as it is
module _ (x : Lined) (hold : List ℕ) (link : Link) (time : ℕ) where
  abbrev g : Given
  g = linked x hold link time

  abbrev event : Event
  event = Connect link time

  pub listed : T (one_of g.answer (10 ∷ 20 ∷ 0 ∷ []))
  unfolding answers_to
  listed = D.listed (state_on x) event

  refused_keeps : accepted g.answer ≡ false → after (state_on x) event ≡ state_on x
  unfolding after
  refused_keeps a =
      let o = D.refused (state_on x) event a in
      let f : feed_refused g.answer x.line.feed ≡ x.line.feed =
      each_has (λ n. accepted n ≡ false → feed_refused n x.line.feed ≡ x.line.feed) (10 ∷ 20 ∷ 0 ∷ [])
      (λ z. unfold feed_refused one_of in refl, (λ z. unfold feed_refused one_of in refl, (λ z. absurd (true≢false z), tt))) g.answer listed a in
      (λ i. state_of (o i).given.feed (o i).tables) ∙ ap (λ (h : Feed). state_of h x.tables) f

  never_22 : g.answer ≡ 22 → ⊥
  never_22 e =
      each_has (λ n. n ≡ 22 → ⊥) (10 ∷ 20 ∷ 0 ∷ [])
      (λ z. let y : ⊥ = omega (arith, z) in y, (λ z. let y : ⊥ = omega (arith, z) in y, (λ z. let y : ⊥ = omega (arith, z) in y, tt))) g.answer listed e

  pub links_refused : accepted g.answer ≡ false → links g x.line hold ≡ record { answer = g.answer; line = x.line }
  unfolding links first
  links_refused a = rw a

  pub links_short : accepted g.answer ≡ true → ltb (length hold) 22 ≡ true → links g x.line hold ≡ record { answer = 22; line = x.line }
  unfolding links first
  links_short a b = rw (a, b)

  pub links_made : accepted g.answer ≡ true → ltb (length hold) 22 ≡ false → links g x.line hold ≡ record { answer = g.answer; line = record { feed = g.feed; held = 0; dropping = false } }
  unfolding links first
  links_made a b = rw (a, b)

  link_written : state_on (after_line x (Links hold link time)) ≡ run (state_on x) (line_events x (Links hold link time))
  unfolding after_line line_events run
  link_written = by (accepted g.answer) refl (ltb (length hold) 22) refl
    where
      by : (a : Bool) → accepted g.answer ≡ a → (b : Bool) → ltb (length hold) 22 ≡ b
          → state_of (links g x.line hold).line.feed x.tables ≡ run (state_on x) (cond (eqb (links g x.line hold).answer 22) [] (event ∷ []))
      by false a b e = rw (links_refused a, ne_eqb g.answer 22 never_22) (sym (refused_keeps a))
      by true a true e = rw (links_short a e)
      by true a false e = rw (links_made a e, ne_eqb g.answer 22 never_22) (sym (connect_made (state_on x) link time))

act_written : (x : Lined) (a : LineAct) → state_on (after_line x a) ≡ run (state_on x) (line_events x a)
act_written x (Links hold link time) = link_written x hold link time
act_written x (Hears hold scrap allowed time) = unfold after_line line_events in (scrap_tells x hold scrap allowed time).0

pub line_written : S.LineWritten
unfolding run_line written_line run
line_written x [] = refl
line_written x (a ∷ acts) =
    line_written (after_line x a) acts
    ∙ ap (λ (t : State). run t (written_line (after_line x a) acts)) (act_written x a)
    ∙ sym (run_append (line_events x a) (written_line (after_line x a) acts) (state_on x))

pub with_lines : S.WithLines
with_lines limit n P h acts = rw (line_written (new_line limit n) acts) (h (written_line (new_line limit n) acts))

pub lines_none_left_out : S.LinesNoneLeftOut
lines_none_left_out limit n acts time =
    with_lines limit n
    (λ es s. is_green s time ≡ true
    → ((kept limit n es).came ≡ (kept limit n es).met)
    × ((kept limit n es).met ≡ up_to (length (kept limit n es).met)))
    (λ es. none_left_out limit n es time) acts

pub lines_replayed : S.LinesReplayed
lines_replayed limit n = with_lines limit n (λ es s. s.tables ≡ replay (tale limit n es).deeds (zeroed n)) (D.replayed limit n)

pub lines_green : S.LinesGreen
lines_green limit n acts time =
    with_lines limit n (λ es s. is_green s time ≡ green (tale limit n es) (start limit n).feed.limit time) (λ es. D.green limit n es time) acts

-- the events of a scrap are of its bytes
due_bytes : (v : Look) (s : List ℕ) (t : ℕ) → T (bytes_only s) → Bytes (due_events v s t)
unfolding due_events all hands_bytes
due_bytes Waits s t h = tt
due_bytes TooLong s t h = tt
due_bytes (Finished n) s t h = pair (bytes_only (take n s)) true (is_T _ (all_take (λ b. ltb b 256) n s (of_T _ h))) tt

turn_bytes : (l : Line) (hold scrap : List ℕ) (t : ℕ) → T (bytes_only hold) → T (bytes_only scrap) → Bytes (turn_events l hold scrap t)
unfolding turn_events all
turn_bytes l hold scrap t h k =
    split Bytes l.dropping _ _ (λ e. tt)
    (λ e. due_bytes _ (behind l.held hold scrap) t
    (is_T _ (all_append (λ b. ltb b 256) (take l.held hold) scrap (all_take (λ b. ltb b 256) l.held hold (of_T _ h)) (of_T _ k))))

-- and so is what a turn leaves in the buffer
abbrev AllBytes : List ℕ → Type 0
AllBytes s = all (λ b. ltb b 256) s ≡ true

laid_bytes : (b h : List ℕ) → AllBytes b → AllBytes h → AllBytes (laid b h)
laid_bytes b h p q = all_append (λ b. ltb b 256) b (drop (length b) h) p (all_drop (λ b. ltb b 256) (length b) h q)

module _ (l : Line) (x : Tables) (h s : List ℕ) (t : ℕ) (p : AllBytes h) (q : AllBytes s) where
  come_bytes : AllBytes (behind l.held h s)
  come_bytes = all_append (λ b. ltb b 256) (take l.held h) s (all_take (λ b. ltb b 256) l.held h p) q

  gathered_bytes : (n : ℕ) → AllBytes (gathered n l.held h s)
  unfolding gathered
  gathered_bytes n =
      split AllBytes (ltb 0 l.held && ltb l.held n) _ _
      (λ e. laid_bytes (take n (behind l.held h s)) h (all_take (λ b. ltb b 256) n (behind l.held h s) come_bytes) p)
      (λ e. p)

  looked_bytes : (v : Look) → AllBytes (looked v l x h s t).hold
  unfolding looked settled
  looked_bytes Waits = laid_bytes (behind l.held h s) h come_bytes p
  looked_bytes TooLong = p
  looked_bytes (Finished n) =
      let g = gathered_bytes n in
      split (λ (k : Holding). AllBytes k.hold) (accepted (outcome (state_of l.feed x) (Arrive (take n (behind l.held h s)) t)).given.answer) _ _
      (λ e. laid_bytes (drop n (take l.held (gathered n l.held h s))) (gathered n l.held h s)
      (all_drop (λ b. ltb b 256) n (take l.held (gathered n l.held h s)) (all_take (λ b. ltb b 256) l.held (gathered n l.held h s) g)) g)
      (λ e. g)

  once_bytes : AllBytes (once l x h s t).hold
  unfolding once
  once_bytes = split (λ (y : Hearing). AllBytes y.hold) l.dropping _ _ (λ e. p) (λ e. looked_bytes (look (length h) l.held (behind l.held h s)))

onward_bytes : (s : List ℕ) (t : ℕ) (y : Hearing) → T (bytes_only y.hold) → T (bytes_only (drop y.heard.used s)) → T (bytes_only (onward s t y).hold)
unfolding onward
onward_bytes s t y h d = is_T _ (once_bytes y.heard.line y.tables y.hold (drop y.heard.used s) t (of_T _ h) (of_T _ d))

units_bytes : (k : ℕ) (s : List ℕ) (t : ℕ) (y : Hearing) → T (bytes_only y.hold) → T (bytes_only s) → Bytes (units k s t y)
unfolding units all
units_bytes zero s t y h b = tt
units_bytes (suc k) s t y h b =
    let d = bytes_drop y.heard.used s b in
    let o = onward_bytes s t y h d in
    bytes_two (turn_events y.heard.line y.hold (drop y.heard.used s) t) _ (turn_bytes y.heard.line y.hold (drop y.heard.used s) t h d)
    (split Bytes (goes_on (onward s t y).heard) _ _ (λ e. units_bytes k s t (onward s t y) o b) (λ e. tt))

act_bytes : (x : Lined) (a : LineAct) → T (line_bytes a) → Bytes (line_events x a)
unfolding line_bytes line_events all hands_bytes
act_bytes x (Links hold link time) h = split Bytes (eqb (links (linked x hold link time) x.line hold).answer 22) _ _ (λ e. tt) (λ e. tt)
act_bytes x (Hears hold scrap allowed time) h =
    let p = two (bytes_only hold) (bytes_only scrap) h in
    units_bytes allowed scrap time (opens x hold) p.0 p.1

pub line_written_bytes : S.LineWrittenBytes
unfolding written_line all
line_written_bytes x [] h = tt
line_written_bytes x (a ∷ acts) h =
    let p = two (line_bytes a) (all line_bytes acts) h in
    bytes_two (line_events x a) (written_line (after_line x a) acts) (act_bytes x a p.0) (line_written_bytes (after_line x a) acts p.1)

pub lines_sound : S.LinesSound
lines_sound limit n acts h =
    let es : List Event = written_line (new_line limit n) acts in
    let w : (state_on (run_line (new_line limit n) acts)).tables ≡ (end_of limit n es).tables = ap (λ (s : State). s.tables) (line_written (new_line limit n) acts) in
    rw w ((D.sound limit n es (line_written_bytes (new_line limit n) acts h)).0, (D.strips_sound limit n es).0)

-- the morning
pub runs_on : (acts more : List LineAct) (x : Lined) → run_line x (acts ++ more) ≡ run_line (run_line x acts) more
unfolding run_line
runs_on [] more x = refl
runs_on (a ∷ acts) more x = runs_on acts more (after_line x a)

one_more : (x : Lined) (hold scrap : List ℕ) (allowed time : ℕ) (more : List LineAct)
    → run_line x (Hears hold scrap allowed time ∷ more) ≡ run_line (lined_in (scrapped x hold scrap allowed time)) more
unfolding run_line after_line
one_more x hold scrap allowed time more = refl

-- an answer of 12 to 18 or 22 is said
said_ending : (x : Lined) (hold scrap : List ℕ) (allowed time : ℕ) → T (one_of (scrapped x hold scrap allowed time).heard.answer ending)
    → (scrapped x hold scrap allowed time).heard.said ≡ true
unfolding one_of
said_ending x hold scrap allowed time h = by (scrapped x hold scrap allowed time).heard.said refl
  where
    by : (b : Bool) → (scrapped x hold scrap allowed time).heard.said ≡ b → (scrapped x hold scrap allowed time).heard.said ≡ true
    by true e = e
    by false e = absurd (subst (λ (k : ℕ). T (one_of k ending)) ((scrap_tells x hold scrap allowed time).3 e) h)

pub line_stays_dark : S.LineStaysDark
line_stays_dark limit n acts hold scrap allowed moment more time h c =
    let x : Lined = run_line (new_line limit n) acts in
    let lost : Hearing = scrapped x hold scrap allowed moment in
    let es : List Event = scrap_events x hold scrap allowed moment in
    let before : List Event = written_line (new_line limit n) acts in
    let rest : List Event = written_line (lined_in lost) more in
    let there : state_on x ≡ end_of limit n before = line_written (new_line limit n) acts in
    let tells = scrap_tells x hold scrap allowed moment in
    let gone : state_on (lined_in lost) ≡ run (end_of limit n before) es = tells.0 ∙ ap (λ (s : State). run s es) there in
    let answers = tells.2 (said_ending x hold scrap allowed moment h) ∙ ap (λ (s : State). last_of 0 (answers_in (trace s es))) there in
    ap (λ (y : Lined). is_green (state_on y) time) (runs_on acts (Hears hold scrap allowed moment ∷ more) (new_line limit n) ∙ one_more x hold scrap allowed moment more)
    ∙ ap (λ (s : State). is_green s time) (line_written (lined_in lost) more ∙ ap (λ (s : State). run s rest) gone)
    ∙ dark_after limit n before es rest time (subst (λ (k : ℕ). T (one_of k ending)) answers h) (subst (λ (s : State). T (all (λ p. not (connects p)) (trace s rest))) gone c)

-- what drops, by events and answers
arrived : (b : Bool) (e : Event) (n : ℕ) (c : Bool) → b ≡ false → is_connect e ≡ false → accepted n ≡ c → cond (is_connect e) (b && not (accepted n)) (b || not (accepted n)) ≡ not c
arrived b e n c p q r = rw (p, q, r)

module _ (s : List ℕ) (t : ℕ) where
  abbrev DropsAt : ℕ → Hearing → Type 0
  DropsAt k y = (through k s t y).heard.line.dropping ≡ refused_since y.heard.line.dropping (trace (at s t y) (units k s t y))

  module _ (k : ℕ) (y : Hearing) where
    drops_quiet : QuietAt s t y → DropsAt (suc k) y
    unfolding refused_since trace
    drops_quiet q =
        ap (λ (z : Hearing). z.heard.line.dropping) (through_ends s t y k (quiet_off s t y q)) ∙ quiet_drops s t y q
        ∙ sym (ap (λ (es : List Event). refused_since y.heard.line.dropping (trace (at s t y) es)) (units_quiet s t k y q))

    drops_spoke : (e : Event) → SpokeAt s t y e → DropsAt k (onward s t y) → (b : Bool) → accepted (answer_of (at s t y) e) ≡ b → DropsAt (suc k) y
    unfolding refused_since trace
    drops_spoke e p rest true a =
        let o = spoke_goes s t y e p ∙ a in
        let f = spoke_taken s t y e p a ∙ sym (arrived y.heard.line.dropping e (answer_of (at s t y) e) true p.going p.arrival a) in
        ap (λ (z : Hearing). z.heard.line.dropping) (through_on s t y k o) ∙ rest
        ∙ (λ i. refused_since (f i) (trace (spoke_state s t y e p i) (units k s t (onward s t y))))
        ∙ sym (ap (λ (es : List Event). refused_since y.heard.line.dropping (trace (at s t y) es)) (units_on s t k y e p o))
    drops_spoke e p rest false a =
        let o = spoke_goes s t y e p ∙ a in
        ap (λ (z : Hearing). z.heard.line.dropping) (through_ends s t y k o) ∙ spoke_refused s t y e p a
        ∙ sym (arrived y.heard.line.dropping e (answer_of (at s t y) e) false p.going p.arrival a)
        ∙ sym (ap (λ (es : List Event). refused_since y.heard.line.dropping (trace (at s t y) es)) (units_off s t k y e p o))

    drops_turn : TurnAt s t y → DropsAt k (onward s t y) → DropsAt (suc k) y
    drops_turn (silently q) rest = drops_quiet q
    drops_turn (with_event e p) rest = drops_spoke e p rest (accepted (answer_of (at s t y) e)) refl

  scrap_drops : (k : ℕ) (y : Hearing) → DropsAt k y
  scrap_drops zero y = unfold through units trace refused_since in refl
  scrap_drops (suc k) y = drops_turn k y (turn_at s t y) (scrap_drops k (onward s t y))

since_two : (p q : List (Event × ℕ)) (b : Bool) → refused_since b (p ++ q) ≡ refused_since (refused_since b p) q
unfolding refused_since
since_two [] q b = refl
since_two (a ∷ p) q b = since_two p q (cond (is_connect a.0) (b && not (accepted a.1)) (b || not (accepted a.1)))

pub trace_two : (es fs : List Event) (s : State) → trace s (es ++ fs) ≡ trace s es ++ trace (run s es) fs
unfolding trace run
trace_two [] fs s = refl
trace_two (e ∷ es) fs s = ap (λ (r : List (Event × ℕ)). (e, answer_of s e) ∷ r) (trace_two es fs (after s e))

and_true : (b : Bool) → (b && true) ≡ b
and_true true = refl
and_true false = refl

-- an accepted connect is answered 0
pub zero_only : (x : Lined) (hold : List ℕ) (link : Link) (time : ℕ) → accepted (linked x hold link time).answer ≡ true → (linked x hold link time).answer ≡ 0
zero_only x hold link time =
    each_has (λ n. accepted n ≡ true → n ≡ 0) (10 ∷ 20 ∷ 0 ∷ [])
    (λ z. absurd (true≢false (sym z)), (λ z. absurd (true≢false (sym z)), (λ z. refl, tt))) (linked x hold link time).answer (listed x hold link time)

-- a connect: refused, refused for its buffer, or accepted
module _ (x : Lined) (hold : List ℕ) (link : Link) (time : ℕ) where
  abbrev event' : Event
  event' = Connect link time

  abbrev g' : Given
  g' = linked x hold link time

  abbrev Cases : Linked → List Event → Type 0
  Cases r es = (r.line.dropping ≡ refused_since x.line.dropping (trace (state_on x) es)) × (T (all (λ p. not (connects p)) (trace (state_on x) es)) → r.line ≡ x.line)

  link_cases : Cases (links g' x.line hold) (cond (eqb (links g' x.line hold).answer 22) [] (event' ∷ []))
  unfolding refused_since trace all connects
  link_cases = by (accepted g'.answer) refl (ltb (length hold) 22) refl
    where
      by : (a : Bool) → accepted g'.answer ≡ a → (b : Bool) → ltb (length hold) 22 ≡ b
          → Cases (links g' x.line hold) (cond (eqb (links g' x.line hold).answer 22) [] (event' ∷ []))
      by false a b e = rw (links_refused x hold link time a, ne_eqb g'.answer 22 (never_22 x hold link time), a) (sym (and_true x.line.dropping), λ h. refl)
      by true a true e = rw (links_short x hold link time a e) (refl, λ h. refl)
      by true a false e =
          rw (links_made x hold link time a e, ne_eqb g'.answer 22 (never_22 x hold link time), a) (sym (no_second x.line.dropping false refl), λ h. absurd h)

act_drops : (x : Lined) (a : LineAct) → (after_line x a).line.dropping ≡ refused_since x.line.dropping (trace (state_on x) (line_events x a))
act_drops x (Links hold link time) = unfold after_line line_events in (link_cases x hold link time).0
act_drops x (Hears hold scrap allowed time) = unfold after_line line_events in scrap_drops scrap time allowed (opens x hold)

pub lines_drop : S.LinesDrop
unfolding run_line written_line
lines_drop x [] = unfold trace refused_since in refl
lines_drop x (a ∷ acts) =
    let rest : List Event = written_line (after_line x a) acts in
    lines_drop (after_line x a) acts
    ∙ (λ i. refused_since (act_drops x a i) (trace (act_written x a i) rest))
    ∙ sym (ap (refused_since x.line.dropping) (trace_two (line_events x a) rest (state_on x)) ∙ since_two (trace (state_on x) (line_events x a)) (trace (run (state_on x) (line_events x a)) rest) x.line.dropping)

act_stays : (x : Lined) (a : LineAct) → x.line.dropping ≡ true → T (all (λ p. not (connects p)) (trace (state_on x) (line_events x a))) → after_line x a ≡ x
act_stays x (Links hold link time) d h = unfold after_line in (λ i. S.lined ((link_cases x hold link time).1 (unfold line_events in h) i) x.tables)
act_stays x (Hears hold scrap allowed time) d h = unfold after_line in hears_dropped x hold scrap allowed time d

abbrev NoneIn : List (Event × ℕ) → Type 0
NoneIn ps = T (all (λ p. not (connects p)) ps)

-- no connect in a scrap, nor where one is not accepted
arrives_none : (es : List Event) → T (all (λ e. not (is_connect e)) es) → (s : State) → NoneIn (trace s es)
unfolding all trace connects
arrives_none [] h s = tt
arrives_none (e ∷ es) h s =
    let k = two (not (is_connect e)) (all (λ e. not (is_connect e)) es) h in
    pair (not (accepted (answer_of s e) && is_connect e)) (all (λ p. not (connects p)) (trace (after s e) es)) (either (accepted (answer_of s e)) (is_connect e) k.0) (arrives_none es k.1 (after s e))
  where
    either : (a b : Bool) → T (not b) → T (not (a && b))
    either true b h = h
    either false b h = tt

units_arrive : (s : List ℕ) (t k : ℕ) (y : Hearing) → T (all (λ e. not (is_connect e)) (units k s t y))
units_arrive s t zero y = unfold units all in tt
units_arrive s t (suc k) y = by (turn_at s t y) (units_arrive s t k (onward s t y))
  where
    Arrivals : List Event → Type 0
    Arrivals es = T (all (λ e. not (is_connect e)) es)

    one : (e : Event) (es : List Event) → is_connect e ≡ false → Arrivals es → Arrivals (e ∷ es)
    one e es p h = unfold all in (pair (not (is_connect e)) (all (λ e. not (is_connect e)) es) (rw p tt) h)

    spoke : (e : Event) → SpokeAt s t y e → Arrivals (units k s t (onward s t y)) → (b : Bool) → goes_on (onward s t y).heard ≡ b → Arrivals (units (suc k) s t y)
    spoke e p h true o = subst Arrivals (sym (units_on s t k y e p o)) (one e (units k s t (onward s t y)) p.arrival h)
    spoke e p h false o = subst Arrivals (sym (units_off s t k y e p o)) (one e [] p.arrival (unfold all in tt))

    by : TurnAt s t y → Arrivals (units k s t (onward s t y)) → Arrivals (units (suc k) s t y)
    by (silently q) h = subst Arrivals (sym (units_quiet s t k y q)) (unfold all in tt)
    by (with_event e p) h = spoke e p h (goes_on (onward s t y).heard) refl

pub scrap_none : (x : Lined) (hold scrap : List ℕ) (allowed time : ℕ) → NoneIn (trace (state_on x) (line_events x (Hears hold scrap allowed time)))
unfolding line_events
scrap_none x hold scrap allowed time = arrives_none (units allowed scrap time (opens x hold)) (units_arrive scrap time allowed (opens x hold)) (state_on x)

pub link_none : (x : Lined) (hold : List ℕ) (link : Link) (time : ℕ) → ((links (linked x hold link time) x.line hold).answer ≡ 0 → ⊥)
    → NoneIn (trace (state_on x) (line_events x (Links hold link time)))
unfolding line_events trace all connects
link_none x hold link time nz = by (accepted (linked x hold link time).answer) refl (ltb (length hold) 22) refl
  where
    r : Linked
    r = links (linked x hold link time) x.line hold

    by : (a : Bool) → accepted (linked x hold link time).answer ≡ a → (b : Bool) → ltb (length hold) 22 ≡ b
        → NoneIn (trace (state_on x) (cond (eqb r.answer 22) [] (Connect link time ∷ [])))
    by false a b e = rw (links_refused x hold link time a, ne_eqb (linked x hold link time).answer 22 (never_22 x hold link time), a) tt
    by true a true e = rw (links_short x hold link time a e) tt
    by true a false e = absurd (nz (ap (λ (r : Linked). r.answer) (links_made x hold link time a e) ∙ zero_only x hold link time a))

pub none_on : (x : Lined) (a : LineAct) (acts : List LineAct) → NoneIn (trace (state_on x) (line_events x a)) → NoConnect (after_line x a) acts → NoConnect x (a ∷ acts)
unfolding written_line
none_on x a acts h k =
    let rest : List Event = written_line (after_line x a) acts in
    subst NoneIn (sym (trace_two (line_events x a) rest (state_on x)))
    (none_both (trace (state_on x) (line_events x a)) (trace (run (state_on x) (line_events x a)) rest) h (subst (λ (s : State). NoneIn (trace s rest)) (act_written x a) k))
  where
    none_both : (p q : List (Event × ℕ)) → NoneIn p → NoneIn q → NoneIn (p ++ q)
    none_both p q h k = is_T _ (all_append (λ p. not (connects p)) p q (of_T _ h) (of_T _ k))

pub drops_all : S.DropsAll
unfolding run_line written_line
drops_all x [] d h = refl
drops_all x (a ∷ acts) d h =
    let rest : List Event = written_line (after_line x a) acts in
    let k = all_parts (λ p. not (connects p)) (trace (state_on x) (line_events x a)) (trace (run (state_on x) (line_events x a)) rest) (subst NoneIn (trace_two (line_events x a) rest (state_on x)) h) in
    let e = act_stays x a d k.0 in
    drops_all (after_line x a) acts (ap (λ (y : Lined). y.line.dropping) e ∙ d) (subst (λ (s : State). NoneIn (trace s rest)) (sym (act_written x a)) k.1) ∙ e

-- what a connect hands back
pub link_tells : S.LinkTells
unfolding after
link_tells x hold link time = by (accepted n) refl (ltb (length hold) 22) refl
  where
    n : ℕ
    n = (linked x hold link time).answer

    r : Linked
    r = links (linked x hold link time) x.line hold

    Tells : Bool → Type 0
    Tells b =
        (r.answer ≡ cond (eqb n 0 && b) 22 n)
        × (r.answer ≡ 0 → r.line ≡ record { feed = (after (state_on x) (Connect link time)).feed; held = 0; dropping = false })
        × ((r.answer ≡ 0 → ⊥) → r.line ≡ x.line)

    by : (a : Bool) → accepted n ≡ a → (b : Bool) → ltb (length hold) 22 ≡ b → Tells (ltb (length hold) 22)
    by false e b f =
        let q = links_refused x hold link time e in
        let z : n ≡ 0 → ⊥ = λ z. true≢false (sym (ap accepted z) ∙ e) in (
          ap (λ (r : Linked). r.answer) q ∙ sym (ap (λ (c : Bool). cond (c && ltb (length hold) 22) 22 n) (ne_eqb n 0 z)),
          λ a. absurd (z (sym (ap (λ (r : Linked). r.answer) q) ∙ a)),
          λ a. ap (λ (r : Linked). r.line) q,
        )
    by true e true f =
        let q = links_short x hold link time e f in
        let z = zero_only x hold link time e in (
          ap (λ (r : Linked). r.answer) q ∙ sym (λ i. cond (eqb (z i) 0 && f i) 22 n),
          λ a. absurd (let y : ⊥ = omega (arith, sym (ap (λ (r : Linked). r.answer) q) ∙ a) in y),
          λ a. ap (λ (r : Linked). r.line) q,
        )
    by true e false f =
        let q = links_made x hold link time e f in
        let z = zero_only x hold link time e in (
          ap (λ (r : Linked). r.answer) q ∙ sym (λ i. cond (eqb (z i) 0 && f i) 22 n),
          λ a. ap (λ (r : Linked). r.line) q,
          λ a. absurd (a (ap (λ (r : Linked). r.answer) q ∙ z)),
        )

-- green at a moment: the limit is one of those listed, and the phase is Live's
module _ (f : Feed) where
  green_parts : (time : ℕ) → eqb (badge_no (badge_of f time)) 1 ≡ true → (listed_limit f.limit ≡ true) × (eqb (badge_no (colour f.phase)) 1 ≡ true)
  unfolding badge
  green_parts time = go (listed_limit f.limit && leb f.heard time && leb time (f.heard + f.limit)) refl
    where
      go : (b : Bool) → (listed_limit f.limit && leb f.heard time && leb time (f.heard + f.limit)) ≡ b → eqb (badge_no (cond b (colour f.phase) Stale)) 1 ≡ true
          → (listed_limit f.limit ≡ true) × (eqb (badge_no (colour f.phase)) 1 ≡ true)
      go true e g = ((both (listed_limit f.limit) (leb f.heard time) (both (listed_limit f.limit && leb f.heard time) (leb time (f.heard + f.limit)) e).0).0, g)
      go false e g = absurd (true≢false (sym g))

  green_when : (moment time : ℕ) → eqb (badge_no (badge_of f moment)) 1 ≡ true → eqb (badge_no (badge_of f time)) 1 ≡ (leb f.heard time && leb time (f.heard + f.limit))
  unfolding badge
  green_when moment time g = let k = green_parts moment g in rw k.0 (go (leb f.heard time) (leb time (f.heard + f.limit)) k.1)
    where
      go : (p q : Bool) → eqb (badge_no (colour f.phase)) 1 ≡ true → eqb (badge_no (cond (p && q) (colour f.phase) Stale)) 1 ≡ (p && q)
      go true true k = k
      go true false k = refl
      go false q k = refl

pub green_to_the_limit : S.GreenToTheLimit
green_to_the_limit x acts moment time d h g = ap (λ (y : Lined). is_green (state_on y) time) (drops_all x acts d h) ∙ green_when x.line.feed moment time g
