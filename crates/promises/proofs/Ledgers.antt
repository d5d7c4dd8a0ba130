-- The feed's numbers are those of the ledger, over every run. Assumes nothing.
use Prim.Native.Nat.{ℕ, suc, ◌+◌, ◌<◌}
use native.Mathlib.Omega.{arith}
use mathlib.Core.Path.{◌≡◌, refl, sym, ap, ◌∙◌, subst}
use mathlib.Core.Bool.{Bool, true, false, cond, not, ◌&&◌, true≢false}
use mathlib.Core.List.{List, [], ◌∷◌, ◌++◌}
use lib.ListN.{length, length-append}
use lib.Dec.{T, ltb, eqb}
use borrow.Author.Tests.{not-false, eqb-true, leb-false, lt-ltb}
use Rattle.ground.specs.Choice.{one_of, all}
use Rattle.ground.proofs.Bools.{both, split, of_T}
use Rattle.ground.proofs.Choices.{first_may, first_skips, each_has}
use Rattle.feed.specs.Messages.{kind, on_market, market, status_of, logon_status, last_internal}
use Rattle.feed.specs.Feeds.{is, deaf, in_phase, internal_is, whole_is}
use Rattle.feed.specs.Events.{State, Event, News, Linked, More, Heartbeat, TooLong, Message, news, time_of, on_message}
use Rattle.feed.specs.Answers.{number, arrives, lacks_need, is_more, is_too_long, is_next, allowed, seen, line_tests, table_tests, tests, answer_to, reply}
use Rattle.feed.specs.Answers.{Answer}
use Rattle.feed.specs.Answers.{Keep, Lose, Spoil, Skip, Take}
use Rattle.feed.specs.Steps.{on_feed, cleared, enter_live, logged_on, does, advanced, counted, taken, act, handed, outcome}
use Rattle.feed.specs.declared.Phase.{Phase}
use Rattle.feed.specs.declared.Phase.TheVariants.{Idle, WaitKey, WaitLogon, Refreshing, Live, Lost, Closed}
use Rattle.feed.specs.declared.Kind.{Kind}
use Rattle.feed.specs.declared.Kind.TheVariants.{Session, Market}
use Rattle.feed.specs.declared.Session.TheVariants.{SendKey, Logon, Logout, Refresh, Complete, Request}
use Rattle.feed.specs.declared.Datum.{Datum}
use Rattle.feed.specs.Messages.{Status}
use Rattle.feed.specs.Messages.{Opens, Refills, Stays, Closes, Unlisted}
use Rattle.feed.specs.declared.Feed.{Feed}
use Rattle.feed.proofs.Laws.{numbered}
use Rattle.promises.specs.Refusals.{keeping, losing, spoiling}
use Rattle.promises.specs.Runs.{Sizes, start, after, run, trace, History, no_history, note, recall, history}
use Rattle.promises.specs.Ledger.{Ledger, no_ledger, sees, meets, emptied, enters, spoils, takes, is_live, enter_status, enter_taken, enter_accepted, enter_came, enter, keep, ledger, up_to, rising, last_of}
use Rattle.promises.proofs.Refused.{proper, reply_proper}
use Rattle.promises.proofs.Steps.{Fine, fine, Any, any_news, on_step}
use Rattle.promises.proofs.Badges as B
use Rattle.promises.proofs.Badges.{Agree, is_same, new_feed_lem}
use Rattle.promises.proofs.Replays as R

-- one number more
up_more : (q : List ℕ) (seq : ℕ) → seq ≡ length q + 1 → q ≡ up_to (length q) → q ++ (seq ∷ []) ≡ up_to (length (q ++ (seq ∷ [])))
up_more q seq e g =
    let l : length (q ++ (seq ∷ [])) ≡ suc (length q) = length-append q (seq ∷ []) ∙ (omega arith) in
    let s : seq ≡ suc (length q) = e ∙ (omega arith) in
    (λ i. g i ++ (s i ∷ [])) ∙ more (length q) ∙ ap up_to (sym l)
  where
    more : (k : ℕ) → up_to k ++ (suc k ∷ []) ≡ up_to (suc k)
    more k = unfold up_to in refl

rise_more : (x : ℕ) (xs : List ℕ) (i : ℕ) → T (rising x xs) → last_of x xs < i → T (rising x (xs ++ (i ∷ [])))
unfolding rising last_of
rise_more x [] i h l = rw (lt-ltb x i l) tt
rise_more x (y ∷ ys) i h l = go (ltb x y) h (λ t. rise_more y ys i t l)
  where
    go : (b : Bool) → T (b && rising y ys) → (T (rising y ys) → T (rising y (ys ++ (i ∷ [])))) → T (b && rising y (ys ++ (i ∷ [])))
    go true h k = k h
    go false h k = h

last_more : (x : ℕ) (xs : List ℕ) (i : ℕ) → last_of x (xs ++ (i ∷ [])) ≡ i
unfolding last_of
last_more x [] i = refl
last_more x (y ∷ ys) i = last_more y ys i

-- the feed's last internal number and its whole, by the ledger
pub record Numbered (f : Feed) (l : Ledger) : Type 0 where
  pub last : f.internal ≡ last_of l.base l.numbers
  pub rises : T (rising l.base l.numbers)
  pub whole : f.whole ≡ l.whole

pub record Inv (s : State) (l : Ledger) : Type 0 where
  pub next : s.feed.next ≡ length l.met + 1
  pub gapless : l.met ≡ up_to (length l.met)
  pub heeded : deaf s.feed.phase ≡ false → l.came ≡ l.met
  pub numbered : Numbered s.feed l
  -- nothing is taken in Live before a refresh is complete
  pub empty : is s.feed.phase Refreshing ≡ true → l.numbers ≡ []

-- Live by the phase is Live by the history
live_flags : (p : Phase) (up owed over : Bool) → Agree p up owed over → is p Live ≡ (up && not owed && not over)
unfolding is
live_flags Idle up owed over g = sym g
live_flags WaitKey up owed over g = rw g.0
live_flags WaitLogon up owed over g = rw g.0
live_flags Refreshing up owed over g = rw (g.0, g.1)
live_flags Live up owed over g = rw (g.0, g.1, g.2)
live_flags Lost up owed over g = sym g
live_flags Closed up owed over g = sym g

-- a logon
opens : (s : State) (l : Ledger) (b : Bool) → Numbered s.feed l → Numbered (enter_live (cond b (cleared s) s).feed) (enters (cond b (emptied l) l))
unfolding rising last_of
opens s l true i = record { last = refl; rises = tt; whole = refl }
opens s l false i = record { last = i.last; rises = i.rises; whole = refl }

after_status : (st : Status) (s : State) (h : History) (l : Ledger) → s.feed.fresh ≡ h.fresh → Numbered s.feed l
    → Numbered (logged_on st s).feed (enter_status st h l)
unfolding logged_on enter_status rising last_of
after_status Opens s h l e i =
    subst (λ (b : Bool). Numbered (enter_live (cond s.feed.fresh (cleared s) s).feed) (enters (cond b (emptied l) l))) e (opens s l s.feed.fresh i)
after_status Refills s h l e i = record { last = refl; rises = tt; whole = refl }
after_status Stays s h l e i = i
after_status Closes s h l e i = record { last = i.last; rises = i.rises; whole = i.whole }
after_status Unlisted s h l e i = i

-- a market message in Live, or not
on_market_lem : (f : Feed) (l : Ledger) (internal : ℕ) (b : Bool) → (b ≡ true → f.internal < internal) → Numbered f l
    → Numbered (cond b (internal_is internal f) f) (cond b (takes internal l) l)
on_market_lem f l internal true p i = record {
  last = sym (last_more l.base l.numbers internal);
  rises = rise_more l.base l.numbers internal i.rises (rw i.last at (p refl));
  whole = i.whole;
}
on_market_lem f l internal false p i = i

above : (f : Feed) (d : Datum) (internal : ℕ) → seen f (Market d) internal ≡ false → is f.phase Live ≡ true → f.internal < internal
unfolding seen market on_market
above f d internal u e = leb-false internal f.internal (rw e at u)

after_message : (k : Kind) (time : ℕ) (m : List ℕ) (internal : ℕ) (s : State) (h : History) (l : Ledger) → s.feed.fresh ≡ h.fresh
    → is s.feed.phase Live ≡ is_live h → seen s.feed k internal ≡ false → allowed k s.feed.phase internal ≡ true
    → (is s.feed.phase Refreshing ≡ true → l.numbers ≡ []) → Numbered s.feed l
    → Numbered (counted k internal (does k time m s).feed) (enter_taken k internal m h l)
unfolding counted does enter_taken market on_market allowed
after_message (Session SendKey) time m internal s h l e v u a z i = record { last = i.last; rises = i.rises; whole = i.whole }
after_message (Session Logon) time m internal s h l e v u a z i = after_status (status_of (logon_status m)) s h l e i
after_message (Session Logout) time m internal s h l e v u a z i = record { last = i.last; rises = i.rises; whole = i.whole }
after_message (Session Refresh) time m internal s h l e v u a z i = i
after_message (Session Complete) time m internal s h l e v u a z i = first_of (last_internal m) l.numbers (z a)
  where
    first_of : (x : ℕ) (xs : List ℕ) → xs ≡ [] → Numbered (enter_live (internal_is x s.feed)) (record { came = l.came; met = l.met; base = x; numbers = xs; whole = true })
    first_of x xs q = record { last = subst (λ (ys : List ℕ). x ≡ last_of x ys) (sym q) (unfold last_of in refl); rises = subst (λ (ys : List ℕ). T (rising x ys)) (sym q) (unfold rising in tt); whole = refl }
after_message (Session Request) time m internal s h l e v u a z i = i
after_message (Market d) time m internal s h l e v u a z i =
    subst (λ (b : Bool). Numbered (cond (is s.feed.phase Live) (internal_is internal s.feed) s.feed) (cond b (takes internal l) l)) v
    (on_market_lem s.feed l internal (is s.feed.phase Live) (above s.feed d internal u) i)

-- in Refreshing nothing has been taken in Live
not_live : (p : Phase) → is p Refreshing ≡ true → is p Live ≡ false
not_live p e = subst (λ (q : Phase). is q Live ≡ false) (sym (is_same p Refreshing e)) (unfold is in refl)

empty_status : (st : Status) (s : State) (h : History) (l : Ledger) → (is s.feed.phase Refreshing ≡ true → l.numbers ≡ [])
    → is (logged_on st s).feed.phase Refreshing ≡ true → (enter_status st h l).numbers ≡ []
unfolding logged_on enter_status is
empty_status Opens s h l z e = absurd (true≢false (sym e))
empty_status Refills s h l z e = refl
empty_status Stays s h l z e = z e
empty_status Closes s h l z e = absurd (true≢false (sym e))
empty_status Unlisted s h l z e = z e

empty_kind : (k : Kind) (time : ℕ) (m : List ℕ) (internal : ℕ) (s : State) (h : History) (l : Ledger) → is s.feed.phase Live ≡ is_live h
    → (is s.feed.phase Refreshing ≡ true → l.numbers ≡ []) → is (does k time m s).feed.phase Refreshing ≡ true → (enter_taken k internal m h l).numbers ≡ []
unfolding does enter_taken
empty_kind (Session SendKey) time m internal s h l v z e = absurd (true≢false (sym (unfold is in e)))
empty_kind (Session Logon) time m internal s h l v z e = empty_status (status_of (logon_status m)) s h l z e
empty_kind (Session Logout) time m internal s h l v z e = absurd (true≢false (sym (unfold is in e)))
empty_kind (Session Refresh) time m internal s h l v z e = z e
empty_kind (Session Complete) time m internal s h l v z e = absurd (true≢false (sym (unfold is in e)))
empty_kind (Session Request) time m internal s h l v z e = z e
empty_kind (Market d) time m internal s h l v z e = rw (sym v ∙ not_live s.feed.phase e) (z e)

empty_after : (k : Kind) (time : ℕ) (m : List ℕ) (internal : ℕ) (s : State) (h : History) (l : Ledger) → is s.feed.phase Live ≡ is_live h
    → (is s.feed.phase Refreshing ≡ true → l.numbers ≡ []) → is (counted k internal (does k time m s).feed).phase Refreshing ≡ true → (enter_taken k internal m h l).numbers ≡ []
empty_after k time m internal s h l v z e =
    empty_kind k time m internal s h l v z (subst (λ (p : Phase). is p Refreshing ≡ true) (B.counted_phase k internal (does k time m s).feed) e)

-- what a message does leaves the next SeqNum; what is entered of it, the SeqNums
status_next : (st : Status) (s : State) → (logged_on st s).feed.next ≡ s.feed.next
unfolding logged_on
status_next Opens s = split (λ (x : State). x.feed.next ≡ s.feed.next) s.feed.fresh (cleared s) s (λ e. refl) (λ e. refl)
status_next Refills s = refl
status_next Stays s = refl
status_next Closes s = refl
status_next Unlisted s = refl

pub does_next : (k : Kind) (time : ℕ) (m : List ℕ) (s : State) → (does k time m s).feed.next ≡ s.feed.next
unfolding does
does_next (Session SendKey) time m s = refl
does_next (Session Logon) time m s = status_next (status_of (logon_status m)) s
does_next (Session Logout) time m s = refl
does_next (Session Refresh) time m s = refl
does_next (Session Complete) time m s = refl
does_next (Session Request) time m s = refl
does_next (Market d) time m s = refl

pub counted_next : (k : Kind) (internal : ℕ) (f : Feed) → (counted k internal f).next ≡ f.next
unfolding counted
counted_next k internal f = split (λ (g : Feed). g.next ≡ f.next) (market k && is f.phase Live) (internal_is internal f) f (λ e. refl) (λ e. refl)

abbrev SameSeqs : Ledger → Ledger → Type 0
SameSeqs l k = (l.came ≡ k.came) × (l.met ≡ k.met)

status_seqs : (st : Status) (h : History) (l : Ledger) → SameSeqs (enter_status st h l) l
unfolding enter_status
status_seqs Opens h l = split (λ (x : Ledger). SameSeqs (enters x) l) h.fresh (emptied l) l (λ e. (refl, refl)) (λ e. (refl, refl))
status_seqs Refills h l = (refl, refl)
status_seqs Stays h l = (refl, refl)
status_seqs Closes h l = (refl, refl)
status_seqs Unlisted h l = (refl, refl)

taken_seqs : (k : Kind) (internal : ℕ) (m : List ℕ) (h : History) (l : Ledger) → SameSeqs (enter_taken k internal m h l) l
unfolding enter_taken
taken_seqs (Session SendKey) internal m h l = (refl, refl)
taken_seqs (Session Logon) internal m h l = status_seqs (status_of (logon_status m)) h l
taken_seqs (Session Logout) internal m h l = (refl, refl)
taken_seqs (Session Refresh) internal m h l = (refl, refl)
taken_seqs (Session Complete) internal m h l = (refl, refl)
taken_seqs (Session Request) internal m h l = (refl, refl)
taken_seqs (Market d) internal m h l = split (λ (x : Ledger). SameSeqs x l) (is_live h) (takes internal l) l (λ e. (refl, refl)) (λ e. (refl, refl))

-- a message that is accepted has the next number, and does not come to a deaf feed
is_counted : Answer → Bool
is_counted (Keep n) = false
is_counted (Lose n) = false
is_counted (Spoil n) = false
is_counted (Skip n) = true
is_counted (Take n) = true

counts : (s : State) (time seq internal : ℕ) (m : List ℕ) → T (is_counted (answer_to s.feed s.tables time (Message seq internal m)))
    → (seq ≡ s.feed.next) × (deaf s.feed.phase ≡ false)
unfolding is_counted tests line_tests table_tests all on_message is_next arrives number
counts s time seq internal m h =
    let ts : List (Bool × Answer) = tests s.feed s.tables time (Message seq internal m) in
    let q = both (eqb seq s.feed.next) _ (not-false (is_next s.feed seq) (first_skips is_counted (numbered 13) ts (Take 0) h tt)) in
    (eqb-true seq s.feed.next q.0, first_skips is_counted (numbered 11) ts (Take 0) h tt)

-- the ledger with one SeqNum more, met
met_more : (s : State) (f : Feed) (l k : Ledger) (seq : ℕ) → f.next ≡ s.feed.next + 1 → SameSeqs k l → (seq ≡ s.feed.next) × (deaf s.feed.phase ≡ false)
    → (is f.phase Refreshing ≡ true → k.numbers ≡ []) → Inv s l → Numbered f k → Inv (record { feed = f; tables = s.tables }) (sees seq (meets seq k))
met_more s f l k seq e same c z i n =
    let q : seq ≡ length l.met + 1 = c.0 ∙ i.next in
    let g : length (l.met ++ (seq ∷ [])) ≡ length l.met + 1 = length-append l.met (seq ∷ []) in
    record {
      next = e ∙ ap (λ (x : ℕ). x + 1) (i.next ∙ sym g ∙ ap (λ (x : List ℕ). length (x ++ (seq ∷ []))) (sym same.1));
      gapless = rw same.1 (up_more l.met seq q i.gapless);
      heeded = λ d. ap (λ (x : List ℕ). x ++ (seq ∷ [])) (same.0 ∙ i.heeded c.1 ∙ sym same.1);
      numbered = record { last = n.last; rises = n.rises; whole = n.whole };
      empty = z;
    }

-- what holds besides, by the proofs of the badge and of the table
pub record Known (limit : ℕ) (n : Sizes) (s : State) (h : History) : Type 0 where
  pub badge : B.Inv limit s h
  pub table : R.Inv n s h

-- Seen comes to messages alone
is_skip : Answer → Bool
is_skip (Keep n) = false
is_skip (Lose n) = false
is_skip (Spoil n) = false
is_skip (Skip n) = true
is_skip (Take n) = false

never_skipped : (s : State) (time : ℕ) (x : News) (k : ℕ) → answer_to s.feed s.tables time x ≡ Skip k → T (not (is_skip (answer_to s.feed s.tables time x))) → ⊥
unfolding is_skip
never_skipped s time x k e h = subst (λ (a : Answer). T (not (is_skip a))) e h

-- a message that a feed keeps back without a look at its number comes too early (10) or to a deaf feed
is_early : Answer → Bool
is_early (Keep n) = eqb n 10
is_early (Lose n) = true
is_early (Spoil n) = true
is_early (Skip n) = true
is_early (Take n) = true

early : (s : State) (time seq internal : ℕ) (m : List ℕ) → deaf s.feed.phase ≡ false → T (is_early (answer_to s.feed s.tables time (Message seq internal m)))
unfolding is_early tests line_tests table_tests all on_message arrives lacks_need is_too_long is_more
early s time seq internal m d = first_may is_early (tests s.feed s.tables time (Message seq internal m)) (Take 0) (rw d tt) tt

module _ (limit : ℕ) (n : Sizes) (s : State) (h : History) (l : Ledger) (b : Known limit n s h) (i : Inv s l) (time : ℕ) where
  kept : (x : News) (k : ℕ) → answer_to s.feed s.tables time x ≡ Keep k → Inv s (enter_came k x l)
  unfolding enter_came is_early
  kept (Linked link) k e = i
  kept More k e = i
  kept Heartbeat k e = i
  kept TooLong k e = i
  kept (Message seq internal m) k e = split (Inv s) (eqb k 10) l (sees seq l) (λ t. i) λ t. record {
    next = i.next;
    gapless = i.gapless;
    heeded = λ d. absurd (true≢false (sym (of_T (eqb k 10) (early_is d)) ∙ t));
    numbered = record { last = i.numbered.last; rises = i.numbered.rises; whole = i.numbered.whole };
    empty = i.empty;
  }
    where
      early_is : deaf s.feed.phase ≡ false → T (eqb k 10)
      early_is d = subst (λ (a : Answer). T (is_early a)) e (early s time seq internal m d)

  -- Lost, and not whole or as before, whatever came
  fallen : (f : Feed) (k : Ledger) → f.phase ≡ Lost → f.next ≡ s.feed.next → SameSeqs k l → Numbered f k → (x : News) (j : ℕ)
      → Inv (record { feed = f; tables = s.tables }) (enter_came j x k)
  unfolding enter_came deaf is
  fallen f k p e same d x j = go x
    where
      base : (c : List ℕ) → Inv (record { feed = f; tables = s.tables }) (record { came = c; met = k.met; base = k.base; numbers = k.numbers; whole = k.whole })
      base c = record {
        next = e ∙ i.next ∙ ap (λ (x : List ℕ). length x + 1) (sym same.1);
        gapless = rw same.1 i.gapless;
        heeded = λ q. absurd (true≢false (subst (λ (p : Phase). deaf p ≡ false) p q));
        numbered = record { last = d.last; rises = d.rises; whole = d.whole };
        empty = λ q. absurd (true≢false (sym (subst (λ (p : Phase). is p Refreshing ≡ true) p q)));
      }

      go : (x : News) → Inv (record { feed = f; tables = s.tables }) (enter_came j x k)
      go (Linked link) = base k.came
      go More = base k.came
      go Heartbeat = base k.came
      go TooLong = base k.came
      go (Message seq internal m) = split (Inv (record { feed = f; tables = s.tables })) (eqb j 10) k (sees seq k) (λ t. base k.came) (λ t. base (k.came ++ (seq ∷ [])))

  lost : (x : News) (k : ℕ) → Inv (on_feed (in_phase Lost) s) (enter_came k x l)
  lost x k = fallen (in_phase Lost s.feed) l refl refl (refl, refl) (record { last = i.numbered.last; rises = i.numbered.rises; whole = i.numbered.whole }) x k

  spoilt : (x : News) (k : ℕ) → Inv (on_feed (λ f. in_phase Lost (whole_is false f)) s) (enter_came k x (spoils l))
  spoilt x k = fallen (in_phase Lost (whole_is false s.feed)) (spoils l) refl refl (refl, refl) (record { last = i.numbered.last; rises = i.numbered.rises; whole = refl }) x k

  skipped : (x : News) → answer_to s.feed s.tables time x ≡ Skip 1 → Inv (on_feed (advanced time) s) (enter_came 1 x (enter_accepted true x h l))
  unfolding enter_came enter_accepted is_skip is_counted tests line_tests table_tests all on_message arrives lacks_need is_too_long is_more
  skipped (Linked link) e = absurd (never_skipped s time (Linked link) 1 e (first_may (λ a. not (is_skip a)) (tests s.feed s.tables time (Linked link)) (Take 0) tt tt))
  skipped More e = absurd (never_skipped s time More 1 e (first_may (λ a. not (is_skip a)) (tests s.feed s.tables time More) (Take 0) tt tt))
  skipped Heartbeat e = absurd (never_skipped s time Heartbeat 1 e (first_may (λ a. not (is_skip a)) (tests s.feed s.tables time Heartbeat) (Take 0) tt tt))
  skipped TooLong e = absurd (never_skipped s time TooLong 1 e (first_may (λ a. not (is_skip a)) (tests s.feed s.tables time TooLong) (Take 0) tt tt))
  skipped (Message seq internal m) e =
      met_more s (advanced time s.feed) l l seq refl (refl, refl) (counts s time seq internal m (rw e tt)) i.empty i
      (record { last = i.numbered.last; rises = i.numbered.rises; whole = i.numbered.whole })

  -- what is taken, answered 0 or 2
  took : (k : ℕ) (x : News) → eqb k 10 ≡ false → answer_to s.feed s.tables time x ≡ Take k → Inv (taken time x s) (enter_came k x (enter_accepted false x h l))
  unfolding enter_came enter_accepted taken is_counted up_to
  took k (Linked link) z e = record {
    next = refl;
    gapless = refl;
    heeded = λ d. refl;
    numbered = record { last = i.numbered.last; rises = i.numbered.rises; whole = i.numbered.whole };
    empty = λ q. absurd (true≢false (sym (unfold is in q)));
  }
  took k More z e = i
  took k Heartbeat z e = record {
    next = i.next;
    gapless = i.gapless;
    heeded = i.heeded;
    numbered = record { last = i.numbered.last; rises = i.numbered.rises; whole = i.numbered.whole };
    empty = i.empty;
  }
  took k TooLong z e = i
  took k (Message seq internal m) z e =
      let g : Fine s time seq internal m = fine s time seq internal m k e in
      let f : Feed = counted (kind m) internal (does (kind m) time m s).feed in
      let j : Inv (record { feed = advanced time f; tables = s.tables }) (sees seq (meets seq (enter_taken (kind m) internal m h l))) =
      met_more s (advanced time f) l (enter_taken (kind m) internal m h l) seq
      (ap (λ (x : ℕ). x + 1) (counted_next (kind m) internal (does (kind m) time m s).feed ∙ does_next (kind m) time m s))
      (taken_seqs (kind m) internal m h l) (counts s time seq internal m (rw e tt))
      (empty_after (kind m) time m internal s h l (live_flags s.feed.phase h.up h.owed h.over b.badge.agree) i.empty) i
      (as_heard f (enter_taken (kind m) internal m h l)
      (after_message (kind m) time m internal s h l b.table.fresh
      (live_flags s.feed.phase h.up h.owed h.over b.badge.agree) g.unseen g.allow i.empty i.numbered)) in
      rw z (record { next = j.next; gapless = j.gapless; heeded = j.heeded; numbered = j.numbered; empty = j.empty })
    where
      as_heard : (f : Feed) (k : Ledger) → Numbered f k → Numbered (advanced time f) k
      as_heard f k q = record { last = q.last; rises = q.rises; whole = q.whole }

  on_answer : (x : News) (a : Answer) → answer_to s.feed s.tables time x ≡ a → T (proper a) → Inv (act a time x s) (enter h l x (number a))
  unfolding act number proper one_of enter
  on_answer x (Keep k) e q =
      each_has (λ (k : ℕ). answer_to s.feed s.tables time x ≡ Keep k → Inv (act (Keep k) time x s) (enter h l x k)) keeping
      (kept x 10, (kept x 11, (kept x 20, (kept x 3, tt)))) k q e
  on_answer x (Lose k) e q = each_has (λ (k : ℕ). Inv (act (Lose k) time x s) (enter h l x k)) losing (lost x 12, (lost x 13, (lost x 14, (lost x 22, tt)))) k q
  on_answer x (Spoil k) e q =
      each_has (λ (k : ℕ). Inv (act (Spoil k) time x s) (enter h l x k)) spoiling
      (spoilt x 15, (spoilt x 16, (spoilt x 17, (spoilt x 18, tt)))) k q
  on_answer x (Skip k) e q =
      each_has (λ (k : ℕ). answer_to s.feed s.tables time x ≡ Skip k → Inv (act (Skip k) time x s) (enter h l x k)) (1 ∷ []) (skipped x, tt) k q e
  on_answer x (Take k) e q =
      each_has (λ (k : ℕ). answer_to s.feed s.tables time x ≡ Take k → Inv (act (Take k) time x s) (enter h l x k)) (2 ∷ 0 ∷ [])
      (took 2 x refl, (took 0 x refl, tt)) k q e

module _ (limit : ℕ) (n : Sizes) where
  pub known_step : (s : State) (h : History) (e : Event) → Known limit n s h → Known limit n (after s e) (note h e (outcome s e).given.answer)
  known_step s h e b = record {
    badge = on_step Any (B.Inv limit) (B.keeps limit) s h e (any_news (news e)) b.badge;
    table = on_step Any (R.Inv n) (R.keeps n) s h e (any_news (news e)) b.table;
  }

  one_step : (s : State) (h : History) (l : Ledger) (e : Event) → Known limit n s h → Inv s l → Inv (after s e) (enter h l (news e) (outcome s e).given.answer)
  unfolding after outcome handed
  one_step s h l e b i = on_answer limit n s h l b i (time_of e) (news e) (reply s e) refl (reply_proper s e)

  on_run : (es : List Event) (s : State) (h : History) (l : Ledger) → Known limit n s h → Inv s l
      → Known limit n (run s es) (recall h (trace s es)) × Inv (run s es) (keep h l (trace s es))
  unfolding run trace recall keep
  on_run [] s h l b i = (b, i)
  on_run (e ∷ es) s h l b i =
      on_run es (after s e) (note h e (outcome s e).given.answer) (enter h l (news e) (outcome s e).given.answer) (known_step s h e b) (one_step s h l e b i)

new_ledger : (limit : ℕ) (n : Sizes) → Inv (start limit n) no_ledger
unfolding up_to rising last_of
new_ledger limit n = rw (new_feed_lem limit) (record { next = refl; gapless = refl; heeded = λ d. refl; numbered = record { last = refl; rises = tt; whole = refl }; empty = λ e. refl })

-- of every run
pub on_ledger : (limit : ℕ) (n : Sizes) (es : List Event)
    → Known (start limit n).feed.limit n (run (start limit n) es) (history (start limit n) es) × Inv (run (start limit n) es) (ledger (start limit n) es)
on_ledger limit n es =
    on_run (start limit n).feed.limit n es (start limit n) no_history no_ledger
    (record { badge = B.inv_start limit n; table = R.inv_start limit n }) (new_ledger limit n)
