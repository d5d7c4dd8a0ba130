-- The good morning, proved. Assumes nothing.
use Prim.Native.Nat.{ℕ, ◌+◌, ◌≤◌}
use native.Mathlib.Omega.{arith}
use mathlib.Core.Path.{◌≡◌, refl, sym, ap, ◌∙◌, subst}
use mathlib.Core.Bool.{Bool, true, false, cond, not, ◌&&◌, ◌||◌, true≢false}
use mathlib.Core.List.{List, [], ◌∷◌, ◌++◌}
use lib.ListN.{length}
use lib.Dec.{T, ltb, leb, eqb}
use borrow.Author.Tests.{not-true, eqb-true, leb-true, le-leb, le-ltb}
use Rattle.ground.specs.Choice.{one_of, pick, first, all}
use Rattle.ground.proofs.Bools.{both, of_T, is_T, two, pair}
use Rattle.ground.proofs.Choices.{all_parts}
use Rattle.slots.specs.Layout as table
use Rattle.slots.specs.Layout.{count_in, cleared_in, with_code}
use Rattle.slots.proofs.Codes as codes
use Rattle.wire.specs.Codes.{security_code, listed_code}
use Rattle.ladder.specs.Message.{has_entries, listed_entry, listed_book, entries}
use Rattle.ladder.specs.Walk.{empty_book, book_after}
use Rattle.books.specs.Table.{books, place_in, none_free, book_in, misfit, no_slot, misfits, books_after}
use Rattle.books.proofs.Frames.{Filled, none_filled, room, no_misfit, books_filled}
use Rattle.strips.specs.Forms.{form_in, listed_field, listed_strip}
use Rattle.strips.specs.Table as strip
use Rattle.strips.specs.Table.{strips, step_of, strips_after}
use Rattle.strips.proofs.Lawful.{lawful}
use Rattle.feed.specs.Messages.{kind, on_market, market, wrong_size, listed, status_of, logon_status}
use Rattle.feed.specs.Feeds.{is, deaf, internal_is, badge_no, badge, badge_of, listed_limit}
use Rattle.feed.specs.Events.{Tables, cleared_tables, State, Event, Connect, News, Linked, More, Heartbeat, TooLong, Message, news, time_of, on_message}
use Rattle.feed.specs.Answers.{number, arrives, lacks_need, is_more, is_too_long, last_seq_num, is_next, allowed, seen, unsound_for, no_slot_for, misfits_for, passed, line_tests, table_tests, tests, answer_to}
use Rattle.feed.specs.Answers.{Answer}
use Rattle.feed.specs.Answers.{Skip, Take}
use Rattle.feed.specs.Steps.{on_feed, cleared, enter_live, logged_on, tables_after, does, advanced, counted, taken, act, accepted, handed, outcome}
use Rattle.feed.specs.declared.Phase.{Phase}
use Rattle.feed.specs.declared.Phase.TheVariants.{WaitKey, WaitLogon, Refreshing, Live}
use Rattle.feed.specs.declared.Kind.{Kind}
use Rattle.feed.specs.declared.Kind.TheVariants.{Session, Market}
use Rattle.feed.specs.declared.Session.{Session as SessionOf}
use Rattle.feed.specs.declared.Session.TheVariants.{SendKey, Logon, Logout, Refresh, Complete, Request}
use Rattle.feed.specs.declared.Datum.{Datum}
use Rattle.feed.specs.declared.Datum.TheVariants.{Book, Strip, Other}
use Rattle.feed.specs.Messages.{Status}
use Rattle.feed.specs.Messages.{Opens, Refills, Stays, Closes, Unlisted}
use Rattle.feed.specs.declared.Feed.{Feed}
use Rattle.feed.specs.declared.Link.TheVariants.{Fresh}
use Rattle.promises.specs.Runs.{Sizes, start, after, run, trace, Deed, Took, History, no_history, note_heard, note_over, note_news, note_status, note_taken, note, recall, history, replay_on}
use Rattle.promises.specs.Demands.{Bytes, hands_bytes, lets_in}
use Rattle.promises.specs.Refusals.{ending}
use Rattle.promises.specs.GoodMorning as G
use Rattle.promises.specs.GoodMorning.{Stage, NeedsKey, NeedsLogon, Fills, Open, stage_no, on, Talk, begins, to_stage, spoken, due, again, fits, good, fair_news, fair, after_logon, told, says, said_news, talk, fairly, slots_of}
use Rattle.promises.proofs.Steps.{Any, any, any_news, noted as no_note, on_step, on_run}
use Rattle.promises.proofs.Badges as B
use Rattle.promises.proofs.Badges.{new_limit, counted_phase}
use Rattle.promises.proofs.Replays.{counted_fresh}
use Rattle.promises.proofs.Soundness as S
use Rattle.promises.proofs.Soundness.{OfBytes, bytes_news}
use Rattle.promises.proofs.Strips as T
use Rattle.promises.proofs.Morning.{sound_row, run_append}
use Rattle.promises.proofs.Ledgers.{does_next, counted_next}

-- the phase of a stage
abbrev phase_for : Stage → Phase
phase_for NeedsKey = WaitKey
phase_for NeedsLogon = WaitLogon
phase_for Fills = Refreshing
phase_for Open = Live

is_key : (g : Stage) → is (phase_for g) WaitKey ≡ on g NeedsKey
unfolding is on
is_key NeedsKey = refl
is_key NeedsLogon = refl
is_key Fills = refl
is_key Open = refl

is_logon_lem : (g : Stage) → is (phase_for g) WaitLogon ≡ on g NeedsLogon
unfolding is on
is_logon_lem NeedsKey = refl
is_logon_lem NeedsLogon = refl
is_logon_lem Fills = refl
is_logon_lem Open = refl

is_fills : (g : Stage) → is (phase_for g) Refreshing ≡ on g Fills
unfolding is on
is_fills NeedsKey = refl
is_fills NeedsLogon = refl
is_fills Fills = refl
is_fills Open = refl

is_open : (g : Stage) → is (phase_for g) Live ≡ on g Open
unfolding is on
is_open NeedsKey = refl
is_open NeedsLogon = refl
is_open Fills = refl
is_open Open = refl

not_deaf : (g : Stage) → deaf (phase_for g) ≡ false
unfolding deaf is
not_deaf NeedsKey = refl
not_deaf NeedsLogon = refl
not_deaf Fills = refl
not_deaf Open = refl

-- a stage is known by its number
stage_of : ℕ → Stage
stage_of n = pick n ((0, NeedsKey) ∷ (1, NeedsLogon) ∷ (2, Fills) ∷ []) Open

stage_back : (g : Stage) → stage_of (stage_no g) ≡ g
unfolding stage_of pick
stage_back NeedsKey = refl
stage_back NeedsLogon = refl
stage_back Fills = refl
stage_back Open = refl

on_same : (g q : Stage) → on g q ≡ true → g ≡ q
unfolding on
on_same g q e = sym (stage_back g) ∙ ap stage_of (eqb-true (stage_no g) (stage_no q) e) ∙ stage_back q

-- what is due is allowed
due_allowed : (k : Kind) (g : Stage) (internal : ℕ) (m : List ℕ) → due k g internal m ≡ true → allowed k (phase_for g) internal ≡ true
unfolding due allowed
due_allowed (Session SendKey) g internal m e = is_key g ∙ e
due_allowed (Session Logon) g internal m e = is_logon_lem g ∙ (both (on g NeedsLogon) _ e).0
due_allowed (Session Refresh) g internal m e = is_fills g ∙ e
due_allowed (Session Complete) g internal m e = is_fills g ∙ e
due_allowed (Session Logout) g internal m e = absurd (true≢false (sym e))
due_allowed (Session Request) g internal m e = absurd (true≢false (sym e))
due_allowed (Market d) g internal m e = rw (is_fills g, is_open g) e

-- both tables have the codes that were said, in their order
abbrev FilledStrips : List ℕ → List ℕ → Type 0
FilledStrips t cs = codes.Filled strips t cs

-- what the feed, the tables and the history have of what was said: before the logon nothing
abbrev Nothing : Talk → Type 0
Nothing w = (w.last ≡ 0) × (w.deeds ≡ []) × (w.codes ≡ []) × (w.stripped ≡ [])

abbrev Said : ℕ → Tables → List Deed → Talk → Type 0
Said i x ds w = (i ≡ w.last) × (ds ≡ w.deeds) × Filled x.books w.codes × FilledStrips x.strips w.stripped

abbrev Told : Stage → ℕ → Tables → List Deed → Talk → Type 0
Told NeedsKey i x ds w = Nothing w
Told NeedsLogon i x ds w = Nothing w
Told Fills i x ds w = Said i x ds w
Told Open i x ds w = Said i x ds w

record Core (f : Feed) (x : Tables) (ds : List Deed) (w : Talk) : Type 0 where
  phase : f.phase ≡ phase_for w.stage
  fresh : f.fresh ≡ true
  told : Told w.stage f.internal x ds w

record Goes (s : State) (h : History) (w : Talk) : Type 0 where
  core : Core s.feed s.tables h.deeds w
  next : s.feed.next ≡ w.next
  heard : s.feed.heard ≡ w.at

-- at a market message the stage is one of two
market_told : (g : Stage) (d : Datum) (internal : ℕ) (m : List ℕ) (i : ℕ) (x : Tables) (ds : List Deed) (w : Talk)
    → due (Market d) g internal m ≡ true → Told g i x ds w → Said i x ds w
unfolding due on
market_told NeedsKey d internal m i x ds w e q = absurd (true≢false (sym e))
market_told NeedsLogon d internal m i x ds w e q = absurd (true≢false (sym e))
market_told Fills d internal m i x ds w e q = q
market_told Open d internal m i x ds w e q = q

market_tells : (g : Stage) (d : Datum) (internal : ℕ) (m : List ℕ) (i : ℕ) (x : Tables) (ds : List Deed) (w : Talk)
    → due (Market d) g internal m ≡ true → Said i x ds w → Told g i x ds w
unfolding due on
market_tells NeedsKey d internal m i x ds w e q = absurd (true≢false (sym e))
market_tells NeedsLogon d internal m i x ds w e q = absurd (true≢false (sym e))
market_tells Fills d internal m i x ds w e q = q
market_tells Open d internal m i x ds w e q = q

-- what was said does not hang on the number and the time of what is said next
retold : (g : Stage) (i : ℕ) (x : Tables) (ds : List Deed) (w : Talk) (next time : ℕ) → Told g i x ds w → Told g i x ds (spoken next time w)
retold NeedsKey i x ds w next time q = q
retold NeedsLogon i x ds w next time q = q
retold Fills i x ds w next time q = q
retold Open i x ds w next time q = q

-- said again is Seen
session_unseen : (f : Feed) (s : SessionOf) (internal : ℕ) → seen f (Session s) internal ≡ false
unfolding seen market on_market
session_unseen f s internal = go (is f.phase Live)
  where
    go : (b : Bool) → (b && false && leb internal f.internal) ≡ false
    go true = refl
    go false = refl

seen_again : (f : Feed) (w : Talk) (d : Datum) (internal : ℕ) → f.phase ≡ phase_for w.stage → f.internal ≡ w.last → seen f (Market d) internal ≡ again w internal
unfolding seen market on_market again
seen_again f w d internal p q = rw (p, q, is_open w.stage) (go (on w.stage Open))
  where
    go : (b : Bool) → (b && true && leb internal w.last) ≡ (b && leb internal w.last)
    go true = refl
    go false = refl

-- the answer to a message whose number is next and which is allowed
answer_open : (f : Feed) (x : Tables) (time seq internal : ℕ) (m : List ℕ) → ltb time f.heard ≡ false → deaf f.phase ≡ false → wrong_size m ≡ false
    → is_next f seq ≡ true → allowed (kind m) f.phase internal ≡ true → seen f (kind m) internal ≡ true
    → answer_to f x time (Message seq internal m) ≡ Skip 1
unfolding tests line_tests table_tests first on_message arrives lacks_need is_too_long is_more
answer_open f x time seq internal m a b c d e g = rw (a, b, c, d, e, g)

answer_taken : (f : Feed) (x : Tables) (time seq internal : ℕ) (m : List ℕ) → ltb time f.heard ≡ false → deaf f.phase ≡ false → wrong_size m ≡ false
    → is_next f seq ≡ true → allowed (kind m) f.phase internal ≡ true → seen f (kind m) internal ≡ false → listed (kind m) m ≡ true
    → unsound_for (kind m) m x ≡ false → no_slot_for (kind m) m x ≡ false → misfits_for (kind m) time m x ≡ false
    → answer_to f x time (Message seq internal m) ≡ cond (passed (kind m)) (Take 2) (Take 0)
unfolding tests line_tests table_tests first on_message arrives lacks_need is_too_long is_more
answer_taken f x time seq internal m a b c d e g l u v z = rw (a, b, c, d, e, g, l, u, v, z)

-- a book message that fits what was said: there is a slot, it fits the table, and the codes are then as told
abbrev Fitting : ℕ → List ℕ → List ℕ → Talk → Type 0
Fitting time m t w = (no_slot m t ≡ false) × (misfits time m t ≡ false) × Filled (books_after time m t) (cond (has_entries m) (with_code (security_code m) w.codes) w.codes)

module _ (slots : Sizes) (time : ℕ) (m t : List ℕ) (w : Talk) (nz : security_code m ≡ 0 → ⊥) (filled : Filled t w.codes) (many : slots.books ≡ count_in books (length t))
    (same : book_in (security_code m) t ≡ replay_on (security_code m) w.deeds empty_book) where
  book_fits : fits slots w time Book m ≡ true → Fitting time m t w
  unfolding fits no_slot misfits books_after
  book_fits f = go (has_entries m) refl (rw many at f)
    where
      go : (b : Bool) → has_entries m ≡ b
          → (not b || (leb (length (with_code (security_code m) w.codes)) (count_in books (length t)) && not (misfit (book_after time m (replay_on (security_code m) w.deeds empty_book))))) ≡ true
          → ((b && none_free (place_in (security_code m) t)) ≡ false) × (misfits time m t ≡ false)
          × Filled (books_after time m t) (cond (has_entries m) (with_code (security_code m) w.codes) w.codes)
      go true e f =
          let q = both (leb (length (with_code (security_code m) w.codes)) (count_in books (length t))) _ f in
          let l = leb-true (length (with_code (security_code m) w.codes)) (count_in books (length t)) q.0 in
          let x : misfits time m t ≡ false = rw same (not-true (misfit (book_after time m (replay_on (security_code m) w.deeds empty_book))) q.1) in
          (room (security_code m) t w.codes filled l, x, books_filled time m t w.codes nz filled x (λ y. l))
      go false e f =
          let x = no_misfit time m t e in
          (refl, x, books_filled time m t w.codes nz filled x (λ y. absurd (true≢false (sym y ∙ e))))

-- a strip message that fits what was said
abbrev FittingStrip : List ℕ → List ℕ → Talk → Type 0
FittingStrip m t w = (strip.no_slot m t ≡ false) × FilledStrips (strips_after m t) (with_code (security_code m) w.stripped)

strip_fits_lem : (slots : Sizes) (time : ℕ) (m t : List ℕ) (w : Talk) → (security_code m ≡ 0 → ⊥) → FilledStrips t w.stripped → slots.strips ≡ count_in strips (length t)
    → fits slots w time Strip m ≡ true → FittingStrip m t w
unfolding fits strip.no_slot strips_after table.misfit
strip_fits_lem slots time m t w nz filled many f =
    let l = leb-true (length (with_code (security_code m) w.stripped)) (count_in strips (length t)) (rw many at f) in
    (codes.room strips (security_code m) t w.stripped filled l, codes.stepped_filled strips lawful (step_of m) t w.stripped filled nz refl (λ y. l))

-- what a message leaves
cleared_said : (x : Tables) (w : Talk) → Nothing w → Said 0 (cleared_tables x) [] w
cleared_said x w q = (
  sym q.0,
  sym q.1,
  subst (λ (cs : List ℕ). Filled (cleared_in books x.books) cs) (sym q.2) (none_filled x.books),
  subst (λ (cs : List ℕ). FilledStrips (cleared_in strips x.strips) cs) (sym q.3) (codes.none_filled strips x.strips),
)

opened : (s : State) (h : History) (w : Talk) (b c : Bool) → b ≡ true → c ≡ true → s.feed.fresh ≡ true → Nothing w
    → Core (enter_live (cond b (cleared s) s).feed) (cond b (cleared s) s).tables (cond c [] h.deeds) (to_stage Open w)
opened s h w true true e f r q = record { phase = refl; fresh = r; told = cleared_said s.tables w q }
opened s h w true false e f r q = absurd (true≢false (sym f))
opened s h w false c e f r q = absurd (true≢false (sym e))

after_logon_lem : (st : Status) (s : State) (h : History) (w : Talk) → lets_in st ≡ true → s.feed.fresh ≡ true → h.fresh ≡ true → Nothing w
    → Core (logged_on st s).feed (logged_on st s).tables (note_status st h).deeds (after_logon st w)
unfolding lets_in logged_on note_status after_logon
after_logon_lem Opens s h w e r f q = opened s h w s.feed.fresh h.fresh r f r q
after_logon_lem Refills s h w e r f q = record { phase = refl; fresh = r; told = cleared_said s.tables w q }
after_logon_lem Stays s h w e r f q = absurd (true≢false (sym e))
after_logon_lem Closes s h w e r f q = absurd (true≢false (sym e))
after_logon_lem Unlisted s h w e r f q = absurd (true≢false (sym e))

counted_last : (f : Feed) (g : Stage) (d : Datum) (internal last : ℕ) → f.phase ≡ phase_for g → f.internal ≡ last
    → (counted (Market d) internal f).internal ≡ cond (on g Open) internal last
unfolding counted market on_market
counted_last f g d internal last p q =
    let e : is f.phase Live ≡ on g Open = ap (λ (p : Phase). is p Live) p ∙ is_open g in
    rw e (go (on g Open))
  where
    go : (b : Bool) → (cond b (internal_is internal f) f).internal ≡ cond b internal last
    go true = refl
    go false = q

module _ (time internal : ℕ) (m : List ℕ) (s : State) (h : History) (w : Talk) (c : Core s.feed s.tables h.deeds w) (hf : h.fresh ≡ true) where
  at_stage : (g : Stage) → on w.stage g ≡ true → Told g s.feed.internal s.tables h.deeds w
  at_stage g e = subst (λ (g : Stage). Told g s.feed.internal s.tables h.deeds w) (on_same w.stage g e) c.told

  said : (d : Datum) → due (Market d) w.stage internal m ≡ true → Said s.feed.internal s.tables h.deeds w
  said d e = market_told w.stage d internal m s.feed.internal s.tables h.deeds w e c.told

  on_market_lem : (d : Datum) (x : Tables) (ds deeds : List Deed) (cs ss : List ℕ) → due (Market d) w.stage internal m ≡ true
      → ds ≡ deeds → Filled x.books cs → FilledStrips x.strips ss
      → Core (counted (Market d) internal s.feed) x ds
      (record { stage = w.stage; next = w.next; last = cond (on w.stage Open) internal w.last; at = w.at; deeds = deeds; codes = cs; stripped = ss })
  on_market_lem d x ds deeds cs ss e same filled strips' =
      record {
        phase = counted_phase (Market d) internal s.feed ∙ c.phase;
        fresh = counted_fresh (Market d) internal s.feed ∙ c.fresh;
        told =
            market_tells w.stage d internal m (counted (Market d) internal s.feed).internal x ds
            (record { stage = w.stage; next = w.next; last = cond (on w.stage Open) internal w.last; at = w.at; deeds = deeds; codes = cs; stripped = ss }) e
            (counted_last s.feed w.stage d internal w.last c.phase (said d e).0, same, filled, strips');
      }

  -- where a message for a table is not said again, it fits
  after_kind : (k : Kind) → due k w.stage internal m ≡ true → (k ≡ Market Book → Filled (books_after time m s.tables.books) (cond (has_entries m) (with_code (security_code m) w.codes) w.codes))
      → (k ≡ Market Strip → FilledStrips (strips_after m s.tables.strips) (with_code (security_code m) w.stripped)) → seen s.feed k internal ≡ false
      → Core (counted k internal (does k time m s).feed) (does k time m s).tables (note_taken k time m h).deeds (says k time internal m w)
  unfolding due does note_taken says told counted market on_market tables_after
  after_kind (Session SendKey) e b p u = record { phase = refl; fresh = c.fresh; told = at_stage NeedsKey e }
  after_kind (Session Logon) e b p u =
      let q = both (on w.stage NeedsLogon) (lets_in (status_of (logon_status m))) e in
      after_logon_lem (status_of (logon_status m)) s h w q.1 c.fresh hf (at_stage NeedsLogon q.0)
  after_kind (Session Logout) e b p u = absurd (true≢false (sym e))
  after_kind (Session Refresh) e b p u = c
  after_kind (Session Complete) e b p u =
      let q : Said s.feed.internal s.tables h.deeds w = at_stage Fills e in
      record { phase = refl; fresh = c.fresh; told = (refl, q.1, q.2, q.3) }
  after_kind (Session Request) e b p u = absurd (true≢false (sym e))
  after_kind (Market Book) e b p u =
      let q = said Book (unfold due in e) in
      rw (sym (seen_again s.feed w Book internal c.phase q.0) ∙ u)
      (on_market_lem Book (record { books = books_after time m s.tables.books; strips = s.tables.strips }) (h.deeds ++ (Took Book time m ∷ [])) (w.deeds ++ (Took Book time m ∷ []))
      (cond (has_entries m) (with_code (security_code m) w.codes) w.codes) w.stripped e (ap (λ (ds : List Deed). ds ++ (Took Book time m ∷ [])) q.1) (b refl) q.3)
  after_kind (Market Strip) e b p u =
      let q = said Strip (unfold due in e) in
      rw (sym (seen_again s.feed w Strip internal c.phase q.0) ∙ u)
      (on_market_lem Strip (record { books = s.tables.books; strips = strips_after m s.tables.strips }) (h.deeds ++ (Took Strip time m ∷ [])) (w.deeds ++ (Took Strip time m ∷ []))
      w.codes (with_code (security_code m) w.stripped) e (ap (λ (ds : List Deed). ds ++ (Took Strip time m ∷ [])) q.1) q.2 (p refl))
  after_kind (Market Other) e b p u =
      let q = said Other (unfold due in e) in
      rw (sym (seen_again s.feed w Other internal c.phase q.0) ∙ u)
      (on_market_lem Other s.tables h.deeds w.deeds w.codes w.stripped e q.1 q.2 q.3)

-- a step that is accepted, and goes as told
abbrev noted : History → News → ℕ → ℕ → History
noted h x time k = cond (one_of k ending) (note_over h) (cond (eqb k 0) (note_news x time h) (cond (accepted k) (note_heard time h) h))

record Stepped (s : State) (h : History) (x : News) (time : ℕ) (w : Talk) : Type 0 where
  fine : accepted (number (answer_to s.feed s.tables time x)) ≡ true
  goes : Goes (act (answer_to s.feed s.tables time x) time x s) (noted h x time (number (answer_to s.feed s.tables time x))) w

by_answer : (s : State) (h : History) (x : News) (time : ℕ) (w : Talk) (a : Answer) → answer_to s.feed s.tables time x ≡ a → accepted (number a) ≡ true
    → Goes (act a time x s) (noted h x time (number a)) w → Stepped s h x time w
by_answer s h x time w a e p g = record {
  fine = subst (λ (a : Answer). accepted (number a) ≡ true) (sym e) p;
  goes = subst (λ (a : Answer). Goes (act a time x s) (noted h x time (number a)) w) (sym e) g;
}

-- what is asked of a table, by the kind that goes to it
slot_for : (k : Kind) (m : List ℕ) (x : Tables) → (k ≡ Market Book → no_slot m x.books ≡ false) → (k ≡ Market Strip → strip.no_slot m x.strips ≡ false) → no_slot_for k m x ≡ false
unfolding no_slot_for
slot_for (Session s) m x a b = refl
slot_for (Market Book) m x a b = a refl
slot_for (Market Strip) m x a b = b refl
slot_for (Market Other) m x a b = refl

fits_for : (k : Kind) (time : ℕ) (m : List ℕ) (x : Tables) → (k ≡ Market Book → misfits time m x.books ≡ false) → misfits_for k time m x ≡ false
unfolding misfits_for
fits_for (Session s) time m x a = refl
fits_for (Market Book) time m x a = a refl
fits_for (Market Strip) time m x a = refl
fits_for (Market Other) time m x a = refl

says_again : (k : Kind) (time internal : ℕ) (m : List ℕ) (f : Feed) (t : Tables) (ds : List Deed) (w : Talk) → Core f t ds w → due k w.stage internal m ≡ true
    → seen f k internal ≡ true → says k time internal m w ≡ w
unfolding says
says_again (Session s) time internal m f t ds w c e q = absurd (true≢false (sym q ∙ session_unseen f s internal))
says_again (Market d) time internal m f t ds w c e q =
    let l = market_told w.stage d internal m f.internal t ds w e c.told in
    rw (sym (seen_again f w d internal c.phase l.0) ∙ q)

not_zero : (c : ℕ) → listed_code c ≡ true → c ≡ 0 → ⊥
unfolding listed_code
not_zero c l z =
    let o : 1 ≤ c = leb-true 1 c (both (leb 1 c) (leb c 99999) l).0 in
    omega (arith, o, z)

book_listed : (k : Kind) (m : List ℕ) → k ≡ Market Book → listed k m ≡ true → security_code m ≡ 0 → ⊥
unfolding listed listed_book
book_listed k m e l = not_zero (security_code m) (both (listed_code (security_code m)) (all listed_entry (entries m)) (rw e at l)).0

strip_listed_lem : (k : Kind) (m : List ℕ) → k ≡ Market Strip → listed k m ≡ true → security_code m ≡ 0 → ⊥
unfolding listed listed_strip
strip_listed_lem k m e l = not_zero (security_code m) (both (listed_code (security_code m)) (all (listed_field m) (form_in m).fields) (rw e at l)).0

-- what every run has: of the books and of the strips
record Run (n : Sizes) (s : State) (h : History) : Type 0 where
  books : S.Inv n s h
  strips : T.Inv n s h

module _ (n : Sizes) (s : State) (h : History) (w : Talk) (k : Run n s h) (i : Goes s h w) (time : ℕ) (late : w.at ≤ time) where
  in_time : ltb time s.feed.heard ≡ false
  in_time = le-ltb time s.feed.heard (rw i.heard late)

  heeds : deaf s.feed.phase ≡ false
  heeds = ap deaf i.core.phase ∙ not_deaf w.stage

  module _ (seq internal : ℕ) (m : List ℕ) (sq : is_next s.feed seq ≡ true) (sz : wrong_size m ≡ false) (ls : listed (kind m) m ≡ true)
      (du : due (kind m) w.stage internal m ≡ true) (gd : good (slots_of n) w time (kind m) internal m ≡ true) where
    abbrev x : News
    x = Message seq internal m

    abbrev w' : Talk
    w' = said_news x time w

    allows : allowed (kind m) s.feed.phase internal ≡ true
    allows = ap (λ (p : Phase). allowed (kind m) p internal) i.core.phase ∙ due_allowed (kind m) w.stage internal m du

    -- said again
    repeated : seen s.feed (kind m) internal ≡ true → Stepped s h x time w'
    unfolding number act said_news one_of
    repeated e =
        by_answer s h x time w' (Skip 1) (answer_open s.feed s.tables time seq internal m in_time heeds sz sq allows e) refl
        (subst (λ (v : Talk). Goes (on_feed (advanced time) s) (note_heard time h) (spoken (w.next + 1) time v))
        (sym (says_again (kind m) time internal m s.feed s.tables h.deeds w i.core du e))
        (record {
          core = record { phase = i.core.phase; fresh = i.core.fresh; told = retold w.stage s.feed.internal s.tables h.deeds w (w.next + 1) time i.core.told };
          next = ap (λ (j : ℕ). j + 1) i.next;
          heard = refl;
        }))

    module _ (un : seen s.feed (kind m) internal ≡ false) where
      -- what was said, and that it fits
      was_said : (d : Datum) → kind m ≡ Market d → Said s.feed.internal s.tables h.deeds w
      was_said d e = market_told w.stage d internal m s.feed.internal s.tables h.deeds w (rw e at du) i.core.told

      does_fit : (d : Datum) → kind m ≡ Market d → fits (slots_of n) w time d m ≡ true
      unfolding good
      does_fit d e =
          let a : again w internal ≡ false = sym (seen_again s.feed w d internal i.core.phase (was_said d e).0) ∙ (rw e at un) in
          let g : (again w internal || fits (slots_of n) w time d m) ≡ true = rw e at gd in
          rw a at g

      fitting : kind m ≡ Market Book → Fitting time m s.tables.books w
      fitting e =
          let nz = book_listed (kind m) m e ls in
          let q = was_said Book e in
          book_fits (slots_of n) time m s.tables.books w nz q.2 (ap (count_in books) (sym k.books.base.ours.books.long))
          (k.books.booked (security_code m) nz ∙ ap (λ (ds : List Deed). replay_on (security_code m) ds empty_book) q.1)
          (does_fit Book e)

      fitting_strip : kind m ≡ Market Strip → FittingStrip m s.tables.strips w
      fitting_strip e =
          strip_fits_lem (slots_of n) time m s.tables.strips w (strip_listed_lem (kind m) m e ls) (was_said Strip e).3
          (ap (count_in strips) (sym k.books.base.ours.strips.long)) (does_fit Strip e)

      core_after : Core (counted (kind m) internal (does (kind m) time m s).feed) (does (kind m) time m s).tables (note_taken (kind m) time m h).deeds (says (kind m) time internal m w)
      core_after =
          after_kind time internal m s h w i.core (sym k.books.base.fresh ∙ i.core.fresh) (kind m) du (λ e. (fitting e).2) (λ e. (fitting_strip e).1) un

      goes_on_lem : (g : History) → g.deeds ≡ (note_taken (kind m) time m h).deeds → Goes (taken time x s) g w'
      unfolding taken said_news
      goes_on_lem g e = record {
        core = record {
          phase = core_after.phase;
          fresh = core_after.fresh;
          told =
              let v : Talk = says (kind m) time internal m w in
              let f : Feed = counted (kind m) internal (does (kind m) time m s).feed in
              let y : Tables = (does (kind m) time m s).tables in
              retold v.stage f.internal y g.deeds v (w.next + 1) time (subst (λ (ds : List Deed). Told v.stage f.internal y ds v) (sym e) core_after.told);
        };
        next = ap (λ (j : ℕ). j + 1) (counted_next (kind m) internal (does (kind m) time m s).feed ∙ does_next (kind m) time m s ∙ i.next);
        heard = refl;
      }

      first_said : Stepped s h x time w'
      unfolding number act note_news one_of
      first_said = go (passed (kind m)) refl
        where
          ans : answer_to s.feed s.tables time x ≡ cond (passed (kind m)) (Take 2) (Take 0)
          ans =
              answer_taken s.feed s.tables time seq internal m in_time heeds sz sq allows un ls (sound_row m s.tables (kind m) k.books.sounds k.strips.kept.0)
              (slot_for (kind m) m s.tables (λ e. (fitting e).0) (λ e. (fitting_strip e).0)) (fits_for (kind m) time m s.tables (λ e. (fitting e).1))

          go : (b : Bool) → passed (kind m) ≡ b → Stepped s h x time w'
          go true e =
              by_answer s h x time w' (Take 2) (ans ∙ ap (λ (b : Bool). cond b (Take 2) (Take 0)) e) refl
              (goes_on_lem (note_heard time h) (ap (λ (g : History). g.deeds) (sym (no_note (kind m) time m h e))))
          go false e = by_answer s h x time w' (Take 0) (ans ∙ ap (λ (b : Bool). cond b (Take 2) (Take 0)) e) refl (goes_on_lem (note_heard time (note_taken (kind m) time m h)) refl)

    message : Stepped s h x time w'
    message = go (seen s.feed (kind m) internal) refl
      where
        go : (b : Bool) → seen s.feed (kind m) internal ≡ b → Stepped s h x time w'
        go true e = repeated e
        go false e = first_said e

  on_news : (x : News) → fair_news (slots_of n) w time x ≡ true → Stepped s h x time (said_news x time w)
  unfolding fair_news said_news number act taken note_news tests line_tests table_tests first on_message arrives lacks_need is_too_long is_more is_next one_of
  on_news (Linked link) f = absurd (true≢false (sym f))
  on_news More f = absurd (true≢false (sym f))
  on_news Heartbeat f =
      by_answer s h Heartbeat time (spoken w.next time w) (Take 0) (rw (in_time, heeds)) refl
      (record {
        core = record { phase = i.core.phase; fresh = i.core.fresh; told = retold w.stage s.feed.internal s.tables h.deeds w w.next time i.core.told };
        next = i.next;
        heard = refl;
      })
  on_news TooLong f = absurd (true≢false (sym f))
  on_news (Message seq internal m) f =
      let a = eqb seq w.next in
      let b = leb seq last_seq_num in
      let c = not (wrong_size m) in
      let d = listed (kind m) m in
      let e = due (kind m) w.stage internal m in
      let p₅ = both (a && b && c && d && e) (good (slots_of n) w time (kind m) internal m) f in
      let p₄ = both (a && b && c && d) e p₅.0 in
      let p₃ = both (a && b && c) d p₄.0 in
      let p₂ = both (a && b) c p₃.0 in
      message seq internal m (rw i.next p₂.0) (not-true (wrong_size m) p₂.1) p₃.1 p₄.1 p₅.1

module _ (limit : ℕ) (n : Sizes) where
  run_on : (s : State) (h : History) (e : Event) → T (hands_bytes e) → Run n s h → Run n (after s e) (note h e (outcome s e).given.answer)
  run_on s h e b k = record {
    books = on_step OfBytes (S.Inv n) (S.keeps n) s h e (bytes_news e b) k.books;
    strips = on_step Any (T.Inv n) (T.keeps n) s h e (any_news (news e)) k.strips;
  }

  on_event : (s : State) (h : History) (w : Talk) (e : Event) → Run n s h → Goes s h w → T (fair limit (slots_of n) w e)
      → (accepted (outcome s e).given.answer ≡ true) × Goes (after s e) (note h e (outcome s e).given.answer) (said_news (news e) (time_of e) w)
  unfolding outcome handed after note fair
  on_event s h w e k i f =
      let p = two (leb w.at (time_of e) && leb (time_of e) (w.at + limit)) (fair_news (slots_of n) w (time_of e) (news e)) f in
      let q = two (leb w.at (time_of e)) (leb (time_of e) (w.at + limit)) p.0 in
      let r = on_news n s h w k i (time_of e) (leb-true w.at (time_of e) (of_T _ q.0)) (news e) (of_T _ p.1) in
      (r.fine, r.goes)

  on_talk : (es : List Event) (s : State) (h : History) (w : Talk) → Run n s h → Goes s h w → Bytes es → T (fairly limit (slots_of n) w es)
      → T (all (λ p. accepted p.1) (trace s es)) × Goes (run s es) (recall h (trace s es)) (talk w es)
  unfolding run trace recall talk fairly all
  on_talk [] s h w k i b f = (tt, i)
  on_talk (e ∷ es) s h w k i b f =
      let c = two (hands_bytes e) (all hands_bytes es) b in
      let p = two (fair limit (slots_of n) w e) (fairly limit (slots_of n) (said_news (news e) (time_of e) w) es) f in
      let r = on_event s h w e k i p.0 in
      let t =
      on_talk es (after s e) (note h e (outcome s e).given.answer) (said_news (news e) (time_of e) w)
      (run_on s h e c.0 k) r.1 c.1 p.1 in
      (pair (accepted (outcome s e).given.answer) _ (is_T _ r.0) t.0, t.1)

  -- a part of it
  part_fair : (es fs : List Event) (w : Talk) → T (fairly limit (slots_of n) w (es ++ fs)) → T (fairly limit (slots_of n) w es)
  unfolding fairly
  part_fair [] fs w f = tt
  part_fair (e ∷ es) fs w f =
      let p = two (fair limit (slots_of n) w e) (fairly limit (slots_of n) (said_news (news e) (time_of e) w) (es ++ fs)) f in
      pair (fair limit (slots_of n) w e) _ p.0 (part_fair es fs (said_news (news e) (time_of e) w) p.1)

-- a fresh connect begins it
begun : (s : State) (h : History) (time : ℕ) → ltb time s.feed.heard ≡ false
    → Goes (after s (Connect Fresh time)) (note h (Connect Fresh time) (outcome s (Connect Fresh time)).given.answer) (begins time)
unfolding after outcome handed news time_of tests line_tests table_tests first on_message arrives lacks_need is_too_long is_more act taken number
begun s h time e = rw e (record { core = record { phase = refl; fresh = refl; told = (refl, refl, refl, refl) }; next = refl; heard = refl })

-- the badge
lit : (s : State) (h : History) (w : Talk) (limit asked : ℕ) → Goes s h w → s.feed.limit ≡ limit → listed_limit limit ≡ true → on w.stage Open ≡ true
    → w.at ≤ asked → asked ≤ w.at + limit → badge_no (badge_of s.feed asked) ≡ 1
unfolding badge
lit s h w limit asked g b l o p q =
    let e : s.feed.phase ≡ Live = g.core.phase ∙ ap phase_for (on_same w.stage Open o) in
    rw (e, b, g.heard, l, le-leb w.at asked p, le-leb asked (w.at + limit) q)

pub good_morning : G.GoodMorning
unfolding run
good_morning limit n es time part rest be bc t f =
    let s : State = run (start limit n) es in
    let h : History = history (start limit n) es in
    let l : ℕ = (start limit n).feed.limit in
    let k : Run n s h = record { books = S.inv_run limit n es be; strips = T.inv_run limit n es } in
    let b = on_run Any (B.Inv l) (B.keeps l) es (start limit n) no_history (any es) (B.inv_start limit n) in
    let s₁ : State = after s (Connect Fresh time) in
    let h₁ : History = note h (Connect Fresh time) (outcome s (Connect Fresh time)).given.answer in
    let k₁ = run_on l n s h (Connect Fresh time) (unfold hands_bytes in tt) k in
    let g₁ = begun s h time (le-ltb time s.feed.heard (rw b.heard t)) in (
      rw (run_append es (Connect Fresh time ∷ []) (start limit n)) (on_talk l n (part ++ rest) s₁ h₁ (begins time) k₁ g₁ bc f).0,
      λ asked o p q.
          rw (run_append es (Connect Fresh time ∷ part) (start limit n))
          (lit (run s₁ part) (recall h₁ (trace s₁ part)) (talk (begins time) part) l asked
          (on_talk l n part s₁ h₁ (begins time) k₁ g₁ (all_parts hands_bytes part rest bc).0 (part_fair l n part rest (begins time) f)).1
          (bound limit n es time part) (new_limit limit) o p q),
    )
  where
    bound : (limit : ℕ) (n : Sizes) (es : List Event) (time : ℕ) (part : List Event) → (run (after (run (start limit n) es) (Connect Fresh time)) part).feed.limit ≡ (start limit n).feed.limit
    bound limit n es time part =
        let l : ℕ = (start limit n).feed.limit in
        ap (λ (x : State). x.feed.limit) (sym (run_append es (Connect Fresh time ∷ part) (start limit n)))
        ∙ (on_run Any (B.Inv l) (B.keeps l) (es ++ (Connect Fresh time ∷ part)) (start limit n) no_history (any (es ++ (Connect Fresh time ∷ part))) (B.inv_start limit n)).bound
