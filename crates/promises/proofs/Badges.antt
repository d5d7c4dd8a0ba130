-- Demand 3, the badge: it is green exactly when the history says so. Assumes nothing.
use Prim.Native.Nat.{ℕ, ◌+◌}
use mathlib.Core.Path.{◌≡◌, refl, sym, ap, ◌∙◌, subst}
use mathlib.Core.Bool.{Bool, true, false, cond, not, ◌&&◌, true≢false}
use mathlib.Core.List.{List}
use lib.Dec.{leb, eqb}
use borrow.Author.Tests.{eqb-true}
use Rattle.ground.specs.Choice.{pick, first}
use Rattle.ground.proofs.Bools.{split}
use Rattle.feed.specs.Messages.{kind, market, status_of, logon_status}
use Rattle.feed.specs.Feeds.{phase_no, is, phase_of, listed_limit, new_feed, new_given, colour, badge_no, badge, badge_of, internal_is}
use Rattle.feed.specs.Events.{State, Event}
use Rattle.feed.specs.Answers.{allowed}
use Rattle.feed.specs.Steps.{cleared, logged_on, does, counted, taken}
use Rattle.feed.specs.declared.Phase.{Phase}
use Rattle.feed.specs.declared.Phase.TheVariants.{Idle, WaitKey, WaitLogon, Refreshing, Live, Lost, Closed}
use Rattle.feed.specs.declared.Kind.{Kind}
use Rattle.feed.specs.declared.Kind.TheVariants.{Session, Market}
use Rattle.feed.specs.declared.Session.TheVariants.{SendKey, Logon, Logout, Refresh, Complete, Request}
use Rattle.feed.specs.declared.Datum.TheVariants.{Book, Strip, Other}
use Rattle.feed.specs.Messages.{Status}
use Rattle.feed.specs.Messages.{Opens, Refills, Stays, Closes, Unlisted}
use Rattle.feed.specs.declared.Feed.{Feed}
use Rattle.feed.specs.declared.Given.{Given}
use Rattle.promises.specs.Runs.{Sizes, start, run, History, no_history, note_status, note_taken, history, green}
use Rattle.promises.proofs.Steps.{Any, any, Keeps, on_run}

-- a phase is known by its number
phase_back : (p : Phase) → phase_of (phase_no p) ≡ p
unfolding phase_of pick
phase_back Idle = refl
phase_back WaitKey = refl
phase_back WaitLogon = refl
phase_back Refreshing = refl
phase_back Live = refl
phase_back Lost = refl
phase_back Closed = refl

pub is_same : (p q : Phase) → is p q ≡ true → p ≡ q
unfolding is
is_same p q e = sym (phase_back p) ∙ ap phase_of (eqb-true (phase_no p) (phase_no q) e) ∙ phase_back q

-- the flags of the history, as the phase has them
abbrev pub Agree : Phase → Bool → Bool → Bool → Type 0
Agree Idle up owed over = (up && not owed && not over) ≡ false
Agree WaitKey up owed over = (up ≡ false) × (over ≡ false)
Agree WaitLogon up owed over = (up ≡ false) × (over ≡ false)
Agree Refreshing up owed over = (up ≡ true) × (owed ≡ true) × (over ≡ false)
Agree Live up owed over = (up ≡ true) × (owed ≡ false) × (over ≡ false)
Agree Lost up owed over = (up && not owed && not over) ≡ false
Agree Closed up owed over = (up && not owed && not over) ≡ false

pub record Inv (limit : ℕ) (s : State) (h : History) : Type 0 where
  pub agree : Agree s.feed.phase h.up h.owed h.over
  pub heard : s.feed.heard ≡ h.heard
  pub bound : s.feed.limit ≡ limit

and_false : (a : Bool) → (a && false) ≡ false
and_false true = refl
and_false false = refl

-- a logon, by its status
after_status : (st : Status) (s : State) (h : History) → s.feed.phase ≡ WaitLogon → (h.up ≡ false) × (h.over ≡ false)
    → Agree (logged_on st s).feed.phase (note_status st h).up (note_status st h).owed (note_status st h).over
unfolding logged_on note_status
after_status Opens s h e g = (refl, refl, g.1)
after_status Refills s h e g = (refl, refl, g.1)
after_status Stays s h e g = subst (λ (p : Phase). Agree p h.up h.owed h.over) (sym e) g
after_status Closes s h e g = rw g.0
after_status Unlisted s h e g = subst (λ (p : Phase). Agree p h.up h.owed h.over) (sym e) g

-- an allowed message keeps the agreement
after_message : (k : Kind) (time : ℕ) (m : List ℕ) (internal : ℕ) (s : State) (h : History) → allowed k s.feed.phase internal ≡ true
    → Agree s.feed.phase h.up h.owed h.over
    → Agree (does k time m s).feed.phase (note_taken k time m h).up (note_taken k time m h).owed (note_taken k time m h).over
unfolding allowed does note_taken
after_message (Session SendKey) time m internal s h a g =
    subst (λ (p : Phase). Agree p h.up h.owed h.over) (is_same s.feed.phase WaitKey a) g
after_message (Session Logon) time m internal s h a g =
    let e = is_same s.feed.phase WaitLogon a in
    after_status (status_of (logon_status m)) s h e (subst (λ (p : Phase). Agree p h.up h.owed h.over) e g)
after_message (Session Logout) time m internal s h a g = and_false (h.up && not h.owed)
after_message (Session Refresh) time m internal s h a g = g
after_message (Session Complete) time m internal s h a g =
    let q : (h.up ≡ true) × (h.owed ≡ true) × (h.over ≡ false) =
    subst (λ (p : Phase). Agree p h.up h.owed h.over) (is_same s.feed.phase Refreshing a) g in
    (q.0, refl, q.2)
after_message (Session Request) time m internal s h a g = absurd (true≢false (sym a))
after_message (Market Book) time m internal s h a g = g
after_message (Market Strip) time m internal s h a g = g
after_message (Market Other) time m internal s h a g = g

-- neither a message nor its numbers change the limit, nor the numbers the phase
status_limit : (st : Status) (s : State) → (logged_on st s).feed.limit ≡ s.feed.limit
unfolding logged_on
status_limit Opens s = split (λ (x : State). x.feed.limit ≡ s.feed.limit) s.feed.fresh (cleared s) s (λ e. refl) (λ e. refl)
status_limit Refills s = refl
status_limit Stays s = refl
status_limit Closes s = refl
status_limit Unlisted s = refl

does_limit : (k : Kind) (time : ℕ) (m : List ℕ) (s : State) → (does k time m s).feed.limit ≡ s.feed.limit
unfolding does
does_limit (Session SendKey) time m s = refl
does_limit (Session Logon) time m s = status_limit (status_of (logon_status m)) s
does_limit (Session Logout) time m s = refl
does_limit (Session Refresh) time m s = refl
does_limit (Session Complete) time m s = refl
does_limit (Session Request) time m s = refl
does_limit (Market d) time m s = refl

pub counted_phase : (k : Kind) (internal : ℕ) (f : Feed) → (counted k internal f).phase ≡ f.phase
unfolding counted
counted_phase k internal f = split (λ (g : Feed). g.phase ≡ f.phase) (market k && is f.phase Live) (internal_is internal f) f (λ e. refl) (λ e. refl)

counted_limit : (k : Kind) (internal : ℕ) (f : Feed) → (counted k internal f).limit ≡ f.limit
unfolding counted
counted_limit k internal f = split (λ (g : Feed). g.limit ≡ f.limit) (market k && is f.phase Live) (internal_is internal f) f (λ e. refl) (λ e. refl)

pub keeps : (limit : ℕ) → Keeps Any (Inv limit)
unfolding taken
keeps limit = record {
  lost = λ s h i. record { agree = and_false (h.up && not h.owed); heard = i.heard; bound = i.bound };
  spoilt = λ s h i. record { agree = and_false (h.up && not h.owed); heard = i.heard; bound = i.bound };
  skipped = λ s h time i. record { agree = i.agree; heard = refl; bound = i.bound };
  beat = λ s h time i. record { agree = i.agree; heard = refl; bound = i.bound };
  link = λ s h link time i. record { agree = (refl, refl); heard = refl; bound = i.bound };
  taken = λ s h time seq internal m p g i. record {
    agree = rw counted_phase (after_message (kind m) time m internal s h g.allow i.agree);
    heard = refl;
    bound = counted_limit (kind m) internal (does (kind m) time m s).feed ∙ does_limit (kind m) time m s ∙ i.bound;
  };
}

dark : (c : Bool) (p : Phase) → eqb (badge_no (colour p)) 1 ≡ false → eqb (badge_no (cond c (colour p) (colour Lost))) 1 ≡ false
dark true p e = e
dark false p e = refl

lit : (c : Bool) → eqb (badge_no (cond c (colour Live) (colour Lost))) 1 ≡ c
lit true = refl
lit false = refl

-- green by the flags, at a time in reach
shown : (p : Phase) (up owed over a b : Bool) → Agree p up owed over → eqb (badge_no (cond (a && b) (colour p) (colour Lost))) 1 ≡ (up && not owed && not over && a && b)
shown Idle up owed over a b g = rw g (dark (a && b) Idle refl)
shown WaitKey up owed over a b g = rw g.0 (dark (a && b) WaitKey refl)
shown WaitLogon up owed over a b g = rw g.0 (dark (a && b) WaitLogon refl)
shown Refreshing up owed over a b g = rw (g.0, g.1) (dark (a && b) Refreshing refl)
shown Live up owed over a b g = rw (g.0, g.1, g.2) (lit (a && b))
shown Lost up owed over a b g = rw g (dark (a && b) Lost refl)
shown Closed up owed over a b g = rw g (dark (a && b) Closed refl)

green_of : (limit : ℕ) (s : State) (h : History) (time : ℕ) → listed_limit limit ≡ true → Inv limit s h → eqb (badge_no (badge_of s.feed time)) 1 ≡ green h limit time
unfolding badge green
green_of limit s h time l i =
    rw (i.heard, i.bound, l) (shown s.feed.phase h.up h.owed h.over (leb h.heard time) (leb time (h.heard + limit)) i.agree)

-- a new feed has a limit that is listed, and all else as a new feed has it
given : ℕ → Bool → Given
given limit b = cond (not b) (record { answer = 19; used = 0; feed = new_feed 1000; dropped = 0 }) (record { answer = 0; used = 0; feed = new_feed limit; dropped = 0 })

new_given_lem : (limit : ℕ) → new_given limit ≡ given limit (listed_limit limit)
unfolding new_given first given
new_given_lem limit = refl

given_limit : (limit : ℕ) (b : Bool) → listed_limit limit ≡ b → listed_limit (given limit b).feed.limit ≡ true
unfolding given listed_limit
given_limit limit true e = e
given_limit limit false e = refl

given_new : (limit : ℕ) (b : Bool) → (given limit b).feed ≡ new_feed (given limit b).feed.limit
unfolding given
given_new limit true = refl
given_new limit false = refl

pub new_limit : (limit : ℕ) → listed_limit (new_given limit).feed.limit ≡ true
new_limit limit = rw new_given_lem (given_limit limit (listed_limit limit) refl)

pub new_feed_lem : (limit : ℕ) → (new_given limit).feed ≡ new_feed (new_given limit).feed.limit
new_feed_lem limit = rw new_given_lem (given_new limit (listed_limit limit))

pub inv_start : (limit : ℕ) (n : Sizes) → Inv (start limit n).feed.limit (start limit n) no_history
inv_start limit n =
    let e = new_feed_lem limit in
    record {
      agree = subst (λ (f : Feed). Agree f.phase false false false) (sym e) refl;
      heard = ap (λ (f : Feed). f.heard) e;
      bound = refl;
    }

-- DEMAND 3, the badge
pub badge_green : (limit : ℕ) (n : Sizes) (es : List Event) (time : ℕ)
    → eqb (badge_no (badge_of (run (start limit n) es).feed time)) 1 ≡ green (history (start limit n) es) (start limit n).feed.limit time
badge_green limit n es time =
    green_of (start limit n).feed.limit (run (start limit n) es) (history (start limit n) es) time (new_limit limit)
    (on_run Any (Inv (start limit n).feed.limit) (keeps (start limit n).feed.limit) es (start limit n) no_history (any es) (inv_start limit n))
