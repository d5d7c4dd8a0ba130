-- The morning of the incident: what a lost message and a quiet line do to the badge; and that 18 never comes in a run. Assumes nothing.
use Prim.Native.Nat.{ℕ, ◌+◌}
use mathlib.Core.Path.{◌≡◌, refl, sym, ap, ◌∙◌, subst}
use mathlib.Core.Bool.{Bool, true, false, not, ◌&&◌, true≢false}
use mathlib.Core.List.{List, [], ◌∷◌, ◌++◌}
use lib.Dec.{T, leb, eqb}
use borrow.Author.Tests.{leb-true, eqb-true}
use Rattle.ground.specs.Choice.{one_of, all}
use Rattle.wire.specs.Units.{unit_of}
use Rattle.wire.specs.declared.Unit.{Unit}
use Rattle.wire.specs.declared.Unit.TheVariants as unit
use Rattle.ground.proofs.Bools.{both, split, two}
use Rattle.ground.proofs.Choices.{first_may, each_has}
use Rattle.books.specs.Table.{unsound}
use Rattle.slots.proofs.Values as values
use Rattle.strips.specs.Table as strip
use Rattle.strips.specs.Table.{strips}
use Rattle.books.proofs.Frames.{AllSound, never_unsound}
use Rattle.wire.specs.Codes.{security_code}
use Rattle.feed.specs.Messages.{kind, status_of, logon_status}
use Rattle.feed.specs.Events.{Tables, State, Event, Connect, Arrive, Cut, Overrun, News, Linked, More, Heartbeat, TooLong, Message, news, cut_from, time_of, on_message}
use Rattle.feed.specs.Answers.{number, arrives, lacks_need, is_more, is_too_long, unsound_for, line_tests, table_tests, tests, answer_to}
use Rattle.feed.specs.Answers.{Take}
use Rattle.feed.specs.Feeds.{badge_no, badge_of}
use Rattle.feed.specs.Steps.{accepted, handed, outcome}
use Rattle.feed.specs.declared.Kind.{Kind}
use Rattle.feed.specs.declared.Kind.TheVariants.{Session, Market}
use Rattle.feed.specs.declared.Session.TheVariants.{SendKey, Logon, Logout, Refresh, Complete, Request}
use Rattle.feed.specs.declared.Datum.TheVariants.{Book, Strip, Other}
use Rattle.feed.specs.Messages.{Status}
use Rattle.feed.specs.Messages.{Opens, Refills, Stays, Closes, Unlisted}
use Rattle.promises.specs.Runs.{Sizes, start, after, run, trace, History, no_history, note_heard, note_over, note_status, note_taken, note_news, note, recall, history, green}
use Rattle.promises.specs.Demands as D
use Rattle.promises.specs.Refusals.{ending}
use Rattle.promises.specs.Demands.{is_connect, connects, lets_in, is_logon, logs_on}
use Rattle.promises.proofs.Steps.{is_not}
use Rattle.promises.proofs.Badges.{badge_green}
use Rattle.promises.proofs.Soundness.{all_sound}
use Rattle.promises.proofs.Strips.{strips_sound_lem}

-- 18 never comes where every slot of both tables is sound
pub sound_row : (m : List ℕ) (x : Tables) (k : Kind) → AllSound x.books → values.AllSound strips x.strips → unsound_for k m x ≡ false
unfolding unsound_for unsound strip.unsound
sound_row m x (Session s) a b = refl
sound_row m x (Market Book) a b = never_unsound (security_code m) x.books a
sound_row m x (Market Strip) a b = values.never_unsound strips x.strips b (security_code m)
sound_row m x (Market Other) a b = refl

no_eighteen : (s : State) (time : ℕ) → AllSound s.tables.books → values.AllSound strips s.tables.strips → (n : News) → T (is_not 18 (answer_to s.feed s.tables time n))
unfolding tests line_tests table_tests all on_message arrives lacks_need is_too_long is_more number
no_eighteen s time a b (Linked link) = first_may (is_not 18) (tests s.feed s.tables time (Linked link)) (Take 0) tt tt
no_eighteen s time a b More = first_may (is_not 18) (tests s.feed s.tables time More) (Take 0) tt tt
no_eighteen s time a b Heartbeat = first_may (is_not 18) (tests s.feed s.tables time Heartbeat) (Take 0) tt tt
no_eighteen s time a b TooLong = first_may (is_not 18) (tests s.feed s.tables time TooLong) (Take 0) tt tt
no_eighteen s time a b (Message seq internal m) =
    first_may (is_not 18) (tests s.feed s.tables time (Message seq internal m)) (Take 0) (rw (sound_row m s.tables (kind m) a b) tt) tt

pub never18 : D.Never18
unfolding outcome handed
never18 limit n es e h q =
    let s : State = run (start limit n) es in
    subst (λ (k : ℕ). T (not (eqb k 18))) q (no_eighteen s (time_of e) (all_sound limit n es h) (strips_sound_lem limit n es) (news e))

-- a run in two parts
pub run_append : (es fs : List Event) (s : State) → run s (es ++ fs) ≡ run (run s es) fs
unfolding run
run_append [] fs s = refl
run_append (e ∷ es) fs s = run_append es fs (after s e)

pub recall_append : (es fs : List Event) (s : State) (h : History) → recall h (trace s (es ++ fs)) ≡ recall (recall h (trace s es)) (trace (run s es) fs)
unfolding recall trace run
recall_append [] fs s h = refl
recall_append (e ∷ es) fs s h = recall_append es fs (after s e) (note h e (outcome s e).given.answer)

-- a property of histories that every note but of some events and answers keeps
kept : (P : History → Type 0) (g : Event × ℕ → Bool) → ((h : History) (e : Event) (n : ℕ) → T (not (g (e, n))) → P h → P (note h e n))
    → (fs : List Event) (s : State) (h : History) → T (all (λ p. not (g p)) (trace s fs)) → P h → P (recall h (trace s fs))
unfolding recall trace all
kept P g k [] s h t p = p
kept P g k (f ∷ fs) s h t p =
    let q = two (not (g (f, (outcome s f).given.answer))) (all (λ p. not (g p)) (trace (after s f) fs)) t in
    kept P g k fs (after s f) (note h f (outcome s f).given.answer) q.1 (k h f (outcome s f).given.answer q.0 p)

-- a note by its number
noted : (P : History → Type 0) (h : History) (e : Event) (n : ℕ) → P (note_over h) → (accepted n ≡ true → P (note_news (news e) (time_of e) h)) → P (note_heard (time_of e) h) → P h → P (note h e n)
unfolding note
noted P h e n a b c d =
    split P (one_of n ending) _ _ (λ t. a) (λ t. split P (eqb n 0) _ _ (λ t. b (rw (eqb-true n 0 t))) (λ t. split P (accepted n) _ _ (λ t. c) (λ t. d)))

-- that it is over stays, as long as no connect comes
Over : History → Type 0
Over h = h.over ≡ true

over_status : (st : Status) (h : History) → Over h → Over (note_status st h)
unfolding Over note_status
over_status Opens h p = p
over_status Refills h p = p
over_status Stays h p = p
over_status Closes h p = p
over_status Unlisted h p = p

over_taken : (k : Kind) (time : ℕ) (m : List ℕ) (h : History) → Over h → Over (note_taken k time m h)
unfolding Over note_taken
over_taken (Session SendKey) time m h p = p
over_taken (Session Logon) time m h p = unfold Over in over_status (status_of (logon_status m)) h p
over_taken (Session Logout) time m h p = refl
over_taken (Session Refresh) time m h p = p
over_taken (Session Complete) time m h p = p
over_taken (Session Request) time m h p = p
over_taken (Market Book) time m h p = p
over_taken (Market Strip) time m h p = p
over_taken (Market Other) time m h p = p

over_cut : (s : List ℕ) (time : ℕ) (h : History) → Over h → (u : Unit) → Over (note_news (cut_from s u) time h)
unfolding Over note_news cut_from
over_cut s time h p unit.More = p
over_cut s time h p unit.Heartbeat = p
over_cut s time h p (unit.Message seq internal size) = over_taken (kind _) time _ h p

over_news : (e : Event) (h : History) → is_connect e ≡ false → Over h → Over (note_news (news e) (time_of e) h)
unfolding news time_of Over note_news
over_news (Connect link time) h t p = absurd (true≢false t)
over_news (Arrive bytes time) h t p = over_cut bytes time h p (unit_of bytes)
over_news (Cut seq internal m time) h t p = over_taken (kind m) time m h p
over_news (Overrun time) h t p = p

-- what a test that failed says, where the answer was accepted
is_no : (b : Bool) → T (not b) → b ≡ false
is_no true h = absurd h
is_no false h = refl

not_second : (a b : Bool) → T (not (a && b)) → a ≡ true → b ≡ false
not_second true b t e = is_no b t
not_second false b t e = absurd (true≢false (sym e))

over_note : (h : History) (e : Event) (n : ℕ) → T (not (connects (e, n))) → Over h → Over (note h e n)
unfolding Over connects
over_note h e n t p = noted Over h e n refl (λ a. over_news e h (not_second (accepted n) (is_connect e) t a) p) p p

-- nor is it up and not over before a logon response
Dark : History → Type 0
Dark h = (h.up && not h.over) ≡ false

and_false : (a : Bool) → (a && false) ≡ false
and_false true = refl
and_false false = refl

dark_status : (st : Status) (h : History) → lets_in st ≡ false → Dark h → Dark (note_status st h)
unfolding Dark note_status lets_in
dark_status Opens h e p = absurd (true≢false e)
dark_status Refills h e p = absurd (true≢false e)
dark_status Stays h e p = p
dark_status Closes h e p = p
dark_status Unlisted h e p = p

dark_taken : (k : Kind) (time : ℕ) (m : List ℕ) (h : History) → is_logon k m ≡ false → Dark h → Dark (note_taken k time m h)
unfolding Dark note_taken is_logon
dark_taken (Session SendKey) time m h e p = p
dark_taken (Session Logon) time m h e p = unfold Dark in dark_status (status_of (logon_status m)) h e p
dark_taken (Session Logout) time m h e p = and_false h.up
dark_taken (Session Refresh) time m h e p = p
dark_taken (Session Complete) time m h e p = p
dark_taken (Session Request) time m h e p = p
dark_taken (Market Book) time m h e p = p
dark_taken (Market Strip) time m h e p = p
dark_taken (Market Other) time m h e p = p

dark_news : (n : News) (time : ℕ) (h : History) → on_message (λ seq internal m. is_logon (kind m) m) n ≡ false → Dark h → Dark (note_news n time h)
unfolding Dark note_news on_message
dark_news (Linked link) time h t p = refl
dark_news More time h t p = p
dark_news Heartbeat time h t p = p
dark_news TooLong time h t p = p
dark_news (Message seq internal m) time h t p = dark_taken (kind m) time m h t p

dark_note : (h : History) (e : Event) (n : ℕ) → T (not (logs_on (e, n))) → Dark h → Dark (note h e n)
unfolding Dark logs_on
dark_note h e n t p = noted Dark h e n (and_false h.up) (λ a. dark_news (news e) (time_of e) h (not_second (accepted n) _ t a) p) p p

-- an arrival answered 12 to 18 or 22 makes it over
late : (h : History) (e : Event) (n : ℕ) → T (one_of n ending) → note h e n ≡ note_over h
unfolding note one_of
late h e n t = each_has (λ (k : ℕ). note h e k ≡ note_over h) ending (refl, (refl, (refl, (refl, (refl, (refl, (refl, (refl, tt)))))))) n t

dark_green : (u o v a b : Bool) → (u && not v) ≡ false → (u && not o && not v && a && b) ≡ false
dark_green false o v a b e = refl
dark_green true true v a b e = refl
dark_green true false true a b e = refl
dark_green true false false a b e = absurd (true≢false e)

not_green : (h : History) (limit time : ℕ) → Dark h → green h limit time ≡ false
unfolding green Dark
not_green h limit time p = dark_green h.up h.owed h.over (leb h.heard time) (leb time (h.heard + limit)) p

over_dark : (h : History) → Over h → Dark h
unfolding Over Dark
over_dark h p = rw p (and_false h.up)

-- the badge after a run in two parts is dark where its history is
dark_badge : (limit : ℕ) (n : Sizes) (es : List Event) (e : Event) (fs : List Event) (time : ℕ)
    → Dark (recall (note (history (start limit n) es) e (outcome (run (start limit n) es) e).given.answer) (trace (after (run (start limit n) es) e) fs))
    → eqb (badge_no (badge_of (run (start limit n) (es ++ (e ∷ fs))).feed time)) 1 ≡ false
unfolding recall trace
dark_badge limit n es e fs time p =
    badge_green limit n (es ++ (e ∷ fs)) time
    ∙ not_green (history (start limit n) (es ++ (e ∷ fs))) (start limit n).feed.limit time
    (subst Dark (sym (recall_append es (e ∷ fs) (start limit n) no_history)) p)

pub lost_stays_dark : D.LostStaysDark
unfolding Over
lost_stays_dark limit n es e fs time t c =
    let s : State = run (start limit n) es in
    dark_badge limit n es e fs time
    (over_dark _ (kept Over connects over_note fs (after s e) (note (history (start limit n) es) e (outcome s e).given.answer) c
    (ap (λ (h : History). h.over) (late (history (start limit n) es) e (outcome s e).given.answer t))))

pub dark_before_logon : D.DarkBeforeLogon
unfolding Dark
dark_before_logon limit n es e fs time t c =
    let s : State = run (start limit n) es in
    dark_badge limit n es e fs time
    (kept Dark logs_on dark_note fs (after s e) (note (history (start limit n) es) e (outcome s e).given.answer) c
    (rw (late (history (start limit n) es) e (outcome s e).given.answer t) (and_false (history (start limit n) es).up)))

pub quiet : D.Quiet
unfolding green
quiet limit n es time q =
    let h : History = history (start limit n) es in
    let g : green h (start limit n).feed.limit time ≡ true = sym (badge_green limit n es time) ∙ q in
    let a = both (h.up && not h.owed && not h.over && leb h.heard time) (leb time (h.heard + (start limit n).feed.limit)) g in
    let b = both (h.up && not h.owed && not h.over) (leb h.heard time) a.0 in
    (leb-true h.heard time b.1, leb-true time (h.heard + (start limit n).feed.limit) a.1)
