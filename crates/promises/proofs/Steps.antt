-- From six facts about an invariant to every run: the cases of events and answers, gone through once. Assumes nothing.
use Prim.Native.Nat.{ℕ}
use mathlib.Core.Path.{◌≡◌, refl, sym, subst}
use mathlib.Core.Bool.{Bool, true, false, cond, not, true≢false}
use mathlib.Core.List.{List, [], ◌∷◌}
use lib.Dec.{T, eqb}
use borrow.Author.Tests.{not-false}
use Rattle.ground.specs.Choice.{one_of, first, all}
use Rattle.ground.proofs.Bools.{of_T}
use Rattle.ground.proofs.Choices.{test_of, none_upto, first_may, first_skips, each_has}
use Rattle.feed.specs.Messages.{kind, on_market, tabled, wrong_size, listed}
use Rattle.feed.specs.Feeds.{in_phase, heard_at, whole_is}
use Rattle.feed.specs.Events.{State, Event, News, Linked, More, Heartbeat, TooLong, Message, news, time_of, on_message}
use Rattle.feed.specs.Answers.{number, arrives, lacks_need, is_more, is_too_long, is_next, allowed, seen, unsound_for, no_slot_for, misfits_for, passed, line_tests, table_tests, tests, answer_to, reply}
use Rattle.feed.specs.Steps.{on_feed, connected, advanced, taken, act, accepted, handed, outcome}
use Rattle.feed.specs.declared.Phase.TheVariants.{Lost}
use Rattle.feed.specs.declared.Kind.{Kind}
use Rattle.feed.specs.declared.Kind.TheVariants.{Session, Market}
use Rattle.feed.specs.declared.Datum.TheVariants.{Book, Strip, Other}
use Rattle.feed.specs.declared.Link.{Link}
use Rattle.feed.specs.Answers.{Answer}
use Rattle.feed.specs.Answers.{Keep, Lose, Spoil, Skip, Take}
use Rattle.feed.proofs.Laws.{numbered, is_take}
use Rattle.promises.specs.Refusals.{keeping, losing, spoiling, ending}
use Rattle.promises.specs.Runs.{after, run, trace, History, note_connect, note_heard, note_over, note_taken, note_news, note, recall}
use Rattle.promises.proofs.Refused.{proper, reply_proper}

-- an answer of another number
abbrev pub is_not : ℕ → Answer → Bool
is_not n a = not (eqb (number a) n)

-- what is known of a message that is accepted and not Seen: the tests that it passed by
pub record Fine (s : State) (time seq internal : ℕ) (m : List ℕ) : Type 0 where
  pub size : wrong_size m ≡ false
  pub next : is_next s.feed seq ≡ true
  pub allow : allowed (kind m) s.feed.phase internal ≡ true
  pub unseen : seen s.feed (kind m) internal ≡ false
  pub fields : listed (kind m) m ≡ true
  pub sound : unsound_for (kind m) m s.tables ≡ false
  pub room : no_slot_for (kind m) m s.tables ≡ false
  pub fit : misfits_for (kind m) time m s.tables ≡ false

pub fine : (s : State) (time seq internal : ℕ) (m : List ℕ) (n : ℕ) → answer_to s.feed s.tables time (Message seq internal m) ≡ Take n → Fine s time seq internal m
unfolding is_take tests line_tests table_tests on_message number
fine s time seq internal m n e =
    let ts : List (Bool × Answer) = tests s.feed s.tables time (Message seq internal m) in
    let h : T (is_take (first ts (Take 0))) = rw e tt in
    let fails : (k : ℕ) → T (none_upto is_take (numbered k) ts) → test_of (numbered k) ts ≡ false =
    λ k z. first_skips is_take (numbered k) ts (Take 0) h z in
    record {
      size = fails 12 tt;
      next = not-false (is_next s.feed seq) (fails 13 tt);
      allow = not-false (allowed (kind m) s.feed.phase internal) (fails 14 tt);
      unseen = fails 1 tt;
      fields = not-false (listed (kind m) m) (fails 15 tt);
      sound = fails 18 tt;
      room = fails 17 tt;
      fit = fails 16 tt;
    }

-- a property of the messages that come
abbrev pub OfNews : (List ℕ → Type 0) → News → Type 0
OfNews P (Linked link) = Unit {0}
OfNews P More = Unit {0}
OfNews P Heartbeat = Unit {0}
OfNews P TooLong = Unit {0}
OfNews P (Message seq internal m) = P m

abbrev pub Each : (List ℕ → Type 0) → List Event → Type 0
Each P [] = Unit {0}
Each P (e ∷ es) = OfNews P (news e) × Each P es

-- any message
abbrev pub Any : List ℕ → Type 0
Any m = Unit {0}

pub any_news : (n : News) → OfNews Any n
any_news (Linked link) = tt
any_news More = tt
any_news Heartbeat = tt
any_news TooLong = tt
any_news (Message seq internal m) = tt

pub any : (es : List Event) → Each Any es
any [] = tt
any (e ∷ es) = (any_news (news e), any es)

-- what to show of an invariant, for messages with a property P
pub record Keeps (P : List ℕ → Type 0) (I : State → History → Type 0) : Type 0 where
  pub lost : (s : State) (h : History) → I s h → I (on_feed (in_phase Lost) s) (note_over h)
  pub spoilt : (s : State) (h : History) → I s h → I (on_feed (λ f. in_phase Lost (whole_is false f)) s) (note_over h)
  pub skipped : (s : State) (h : History) (time : ℕ) → I s h → I (on_feed (advanced time) s) (note_heard time h)
  pub beat : (s : State) (h : History) (time : ℕ) → I s h → I (on_feed (heard_at time) s) (note_heard time h)
  pub link : (s : State) (h : History) (link : Link) (time : ℕ) → I s h → I (on_feed (connected link time) s) (note_connect link time h)
  pub taken : (s : State) (h : History) (time seq internal : ℕ) (m : List ℕ) → P m → Fine s time seq internal m → I s h
      → I (taken time (Message seq internal m) s) (note_heard time (note_taken (kind m) time m h))

-- a market message that is passed over leaves no note but its time
pub noted : (k : Kind) (time : ℕ) (m : List ℕ) (h : History) → passed k ≡ true → note_taken k time m h ≡ h
unfolding passed on_market tabled note_taken
noted (Session s) time m h e = absurd (true≢false (sym e))
noted (Market Book) time m h e = absurd (true≢false (sym e))
noted (Market Strip) time m h e = absurd (true≢false (sym e))
noted (Market Other) time m h e = refl

-- answer 2 is given to messages that are passed over and to nothing else
is_two : Answer → Bool
is_two (Keep n) = false
is_two (Lose n) = false
is_two (Spoil n) = false
is_two (Skip n) = false
is_two (Take n) = eqb n 2

pub two_passed : (s : State) (time : ℕ) (n : News) → answer_to s.feed s.tables time n ≡ Take 2 → T (on_message (λ seq internal m. passed (kind m)) n)
unfolding is_two tests line_tests table_tests all on_message arrives lacks_need is_too_long is_more
two_passed s time (Linked link) e =
    absurd (subst (λ (a : Answer). T (not (is_two a))) e (first_may (λ a. not (is_two a)) (tests s.feed s.tables time (Linked link)) (Take 0) tt tt))
two_passed s time More e = absurd (subst (λ (a : Answer). T (not (is_two a))) e (first_may (λ a. not (is_two a)) (tests s.feed s.tables time More) (Take 0) tt tt))
two_passed s time Heartbeat e =
    absurd (subst (λ (a : Answer). T (not (is_two a))) e (first_may (λ a. not (is_two a)) (tests s.feed s.tables time Heartbeat) (Take 0) tt tt))
two_passed s time TooLong e =
    absurd (subst (λ (a : Answer). T (not (is_two a))) e (first_may (λ a. not (is_two a)) (tests s.feed s.tables time TooLong) (Take 0) tt tt))
two_passed s time (Message seq internal m) e = go (passed (kind m)) refl
  where
    go : (b : Bool) → passed (kind m) ≡ b → T b
    go true q = tt
    go false q =
        absurd (subst (λ (a : Answer). T (not (is_two a))) e
        (first_may (λ a. not (is_two a)) (tests s.feed s.tables time (Message seq internal m)) (Take 0) (rw q tt) tt))

module _ (P : List ℕ → Type 0) (I : State → History → Type 0) (K : Keeps P I) where
  -- what is to be shown of an answer made of a number
  Goes : State → History → ℕ → News → (ℕ → Answer) → ℕ → Type 0
  Goes s h time n made k = I (act (made k) time n s) (cond (one_of k ending) (note_over h) (cond (eqb k 0) (note_news n time h) (cond (accepted k) (note_heard time h) h)))

  on_two : (s : State) (h : History) (time : ℕ) (n : News) → OfNews P n → I s h → answer_to s.feed s.tables time n ≡ Take 2 → I (taken time n s) (note_heard time h)
  unfolding on_message
  on_two s h time (Linked link) p i e = absurd (two_passed s time (Linked link) e)
  on_two s h time More p i e = absurd (two_passed s time More e)
  on_two s h time Heartbeat p i e = absurd (two_passed s time Heartbeat e)
  on_two s h time TooLong p i e = absurd (two_passed s time TooLong e)
  on_two s h time (Message seq internal m) p i e =
      subst (λ (g : History). I (taken time (Message seq internal m) s) (note_heard time g))
      (noted (kind m) time m h (of_T (passed (kind m)) (two_passed s time (Message seq internal m) e)))
      (K.taken s h time seq internal m p (fine s time seq internal m 2 e) i)

  on_zero : (s : State) (h : History) (time : ℕ) (n : News) → OfNews P n → I s h → answer_to s.feed s.tables time n ≡ Take 0 → I (taken time n s) (note_news n time h)
  unfolding taken note_news
  on_zero s h time (Linked link) p i e = K.link s h link time i
  on_zero s h time More p i e = i
  on_zero s h time Heartbeat p i e = K.beat s h time i
  on_zero s h time TooLong p i e = i
  on_zero s h time (Message seq internal m) p i e = K.taken s h time seq internal m p (fine s time seq internal m 0 e) i

  on_answer : (s : State) (h : History) (time : ℕ) (n : News) → OfNews P n → I s h → (a : Answer) → answer_to s.feed s.tables time n ≡ a → T (proper a)
      → I (act a time n s) (cond (one_of (number a) ending) (note_over h) (cond (eqb (number a) 0) (note_news n time h) (cond (accepted (number a)) (note_heard time h) h)))
  unfolding Goes act number proper one_of
  on_answer s h time n p i (Keep k) e q = each_has (Goes s h time n Keep) keeping (i, (i, (i, (i, tt)))) k q
  on_answer s h time n p i (Lose k) e q = let l = K.lost s h i in each_has (Goes s h time n Lose) losing (l, (l, (l, (l, tt)))) k q
  on_answer s h time n p i (Spoil k) e q = let l = K.spoilt s h i in each_has (Goes s h time n Spoil) spoiling (l, (l, (l, (l, tt)))) k q
  on_answer s h time n p i (Skip k) e q = each_has (Goes s h time n Skip) (1 ∷ []) (K.skipped s h time i, tt) k q
  on_answer s h time n p i (Take k) e q =
      each_has (λ (j : ℕ). answer_to s.feed s.tables time n ≡ Take j → Goes s h time n Take j) (2 ∷ 0 ∷ [])
      (λ t. on_two s h time n p i t, (λ t. on_zero s h time n p i t, tt)) k q e

  pub on_step : (s : State) (h : History) (e : Event) → OfNews P (news e) → I s h → I (after s e) (note h e (outcome s e).given.answer)
  unfolding after outcome handed note
  on_step s h e p i = on_answer s h (time_of e) (news e) p i (reply s e) refl (reply_proper s e)

  pub on_run : (es : List Event) (s : State) (h : History) → Each P es → I s h → I (run s es) (recall h (trace s es))
  unfolding run trace recall
  on_run [] s h p i = i
  on_run (e ∷ es) s h p i = on_run es (after s e) (note h e (outcome s e).given.answer) p.1 (on_step s h e p.0 i)
