-- DECISIONS 38 and 104, proved: each is named as its statement in specs/Decisions, with a small letter. Assumes nothing.
use Prim.Native.Nat.{ℕ}
use mathlib.Core.Path.{◌≡◌, refl, sym, ◌∙◌, subst}
use mathlib.Core.Bool.{Bool, true, false, ◌&&◌, true≢false}
use mathlib.Core.List.{List, [], ◌∷◌, ◌++◌}
use lib.Dec.{T}
use Rattle.ground.proofs.Bools.{split}
use Rattle.feed.specs.Messages.{kind, market, status_of, logon_status}
use Rattle.feed.specs.Feeds.{is, internal_is}
use Rattle.feed.specs.Events.{Tables, State, News, Linked, More, Heartbeat, TooLong, Message, news, time_of}
use Rattle.feed.specs.Answers.{no_slot_for, misfits_for, reply}
use Rattle.feed.specs.Answers.{Answer}
use Rattle.feed.specs.Answers.{Keep, Lose, Spoil, Skip, Take}
use Rattle.feed.specs.Steps.{logged_on, does, counted, taken, act, handed, outcome}
use Rattle.feed.specs.declared.Phase.{Phase}
use Rattle.feed.specs.declared.Phase.TheVariants.{Idle, WaitKey, WaitLogon, Refreshing, Live, Lost, Closed}
use Rattle.feed.specs.declared.Kind.{Kind}
use Rattle.feed.specs.declared.Kind.TheVariants.{Session, Market}
use Rattle.feed.specs.declared.Session.TheVariants.{SendKey, Logon, Logout, Refresh, Complete, Request}
use Rattle.feed.specs.declared.Datum.{Datum}
use Rattle.feed.specs.declared.Datum.TheVariants.{Book, Strip, Other}
use Rattle.feed.specs.Messages.{Status}
use Rattle.feed.specs.Messages.{Opens, Refills, Stays, Closes, Unlisted}
use Rattle.feed.specs.declared.Feed.{Feed}
use Rattle.promises.specs.Runs.{Sizes, zeroed, start, run, Deed, Took, History, no_history, note_status, note_taken, perform, replay}
use Rattle.promises.specs.Decisions as D
use Rattle.promises.specs.Decisions.{fits_deed, fitting}
use Rattle.promises.proofs.Steps.{Any, any, Keeps, on_run}
use Rattle.promises.proofs.Badges.{new_feed_lem, counted_phase}
use Rattle.promises.proofs.Replays as R

-- whole by the phase
abbrev Whole : Phase → Bool → Type 0
Whole Idle b = Unit {0}
Whole WaitKey b = Unit {0}
Whole WaitLogon b = Unit {0}
Whole Refreshing b = b ≡ false
Whole Live b = b ≡ true
Whole Lost b = Unit {0}
Whole Closed b = Unit {0}

abbrev Inv : State → History → Type 0
Inv s h = Whole s.feed.phase s.feed.whole

counted_whole : (k : Kind) (internal : ℕ) (f : Feed) → (counted k internal f).whole ≡ f.whole
unfolding counted
counted_whole k internal f = split (λ (g : Feed). g.whole ≡ f.whole) (market k && is f.phase Live) (internal_is internal f) f (λ e. refl) (λ e. refl)

after_status : (st : Status) (s : State) → Whole s.feed.phase s.feed.whole → Whole (logged_on st s).feed.phase (logged_on st s).feed.whole
unfolding logged_on
after_status Opens s i = refl
after_status Refills s i = refl
after_status Stays s i = i
after_status Closes s i = tt
after_status Unlisted s i = i

after_kind : (k : Kind) (time : ℕ) (m : List ℕ) (s : State) → Whole s.feed.phase s.feed.whole → Whole (does k time m s).feed.phase (does k time m s).feed.whole
unfolding does
after_kind (Session SendKey) time m s i = tt
after_kind (Session Logon) time m s i = after_status (status_of (logon_status m)) s i
after_kind (Session Logout) time m s i = tt
after_kind (Session Refresh) time m s i = i
after_kind (Session Complete) time m s i = refl
after_kind (Session Request) time m s i = i
after_kind (Market d) time m s i = i

keeps : Keeps Any Inv
unfolding taken
keeps = record {
  lost = λ s h i. tt;
  spoilt = λ s h i. tt;
  skipped = λ s h time i. i;
  beat = λ s h time i. i;
  link = λ s h link time i. tt;
  taken = λ s h time seq internal m p g i. rw (counted_phase, counted_whole) (after_kind (kind m) time m s i);
}

pub whole_in_live : D.WholeInLive
whole_in_live limit n es =
    let i = on_run Any Inv keeps es (start limit n) no_history (any es) (subst (λ (f : Feed). Whole f.phase f.whole) (sym (new_feed_lem limit)) tt) in
    let f : Feed = (run (start limit n) es).feed in
    (λ e. subst (λ (p : Phase). Whole p f.whole) e i, λ e. subst (λ (p : Phase). Whole p f.whole) e i)

-- what a step makes of a feed that is not whole
abbrev Sets : Feed → Type 0
Sets f = f.whole ≡ true → f.phase ≡ Live

module _ (s : State) (w : s.feed.whole ≡ false) where
  never : s.feed.whole ≡ true → ⊥
  never e = true≢false (sym e ∙ w)

  status_sets : (st : Status) → Sets (logged_on st s).feed
  unfolding logged_on
  status_sets Opens e = refl
  status_sets Refills e = absurd (true≢false (sym e))
  status_sets Stays e = absurd (never e)
  status_sets Closes e = absurd (never e)
  status_sets Unlisted e = absurd (never e)

  kind_sets : (k : Kind) (time : ℕ) (m : List ℕ) → Sets (does k time m s).feed
  unfolding does
  kind_sets (Session SendKey) time m e = absurd (never e)
  kind_sets (Session Logon) time m e = status_sets (status_of (logon_status m)) e
  kind_sets (Session Logout) time m e = absurd (never e)
  kind_sets (Session Refresh) time m e = absurd (never e)
  kind_sets (Session Complete) time m e = refl
  kind_sets (Session Request) time m e = absurd (never e)
  kind_sets (Market d) time m e = absurd (never e)

  act_sets : (a : Answer) (time : ℕ) (x : News) → Sets (act a time x s).feed
  unfolding act taken
  act_sets (Keep n) time x e = absurd (never e)
  act_sets (Lose n) time x e = absurd (never e)
  act_sets (Spoil n) time x e = absurd (true≢false (sym e))
  act_sets (Skip n) time x e = absurd (never e)
  act_sets (Take n) time (Linked link) e = absurd (never e)
  act_sets (Take n) time More e = absurd (never e)
  act_sets (Take n) time Heartbeat e = absurd (never e)
  act_sets (Take n) time TooLong e = absurd (never e)
  act_sets (Take n) time (Message seq internal m) e =
      let f : Feed = (does (kind m) time m s).feed in
      counted_phase (kind m) internal f ∙ kind_sets (kind m) time m (sym (counted_whole (kind m) internal f) ∙ e)

pub only_live_sets : D.OnlyLiveSets
unfolding outcome handed
only_live_sets s e w q = act_sets s w (reply s e) (time_of e) (news e) q

-- 104
fits_more : (ds : List Deed) (d : Deed) (x : Tables) → T (fitting ds x) → T (fits_deed d (replay ds x)) → T (fitting (ds ++ (d ∷ [])) x)
unfolding fitting replay
fits_more [] d x h f = pair (fits_deed d x) f
  where
    pair : (b : Bool) → T b → T (b && true)
    pair true t = tt
    pair false t = t
fits_more (e ∷ ds) d x h f = go (fits_deed e x) h (λ t. fits_more ds d (perform e x) t f)
  where
    go : (b : Bool) → T (b && fitting ds (perform e x)) → (T (fitting ds (perform e x)) → T (fitting (ds ++ (d ∷ [])) (perform e x))) → T (b && fitting (ds ++ (d ∷ [])) (perform e x))
    go true h k = k h
    go false h k = h

record Fits (n : Sizes) (s : State) (h : History) : Type 0 where
  base : R.Inv n s h
  fits : T (fitting h.deeds (zeroed n))

fits_status : (n : Sizes) (st : Status) (h : History) → T (fitting h.deeds (zeroed n)) → T (fitting (note_status st h).deeds (zeroed n))
unfolding note_status fitting
fits_status n Opens h f = split (λ (ds : List Deed). T (fitting ds (zeroed n))) h.fresh [] h.deeds (λ e. tt) (λ e. f)
fits_status n Refills h f = tt
fits_status n Stays h f = f
fits_status n Closes h f = f
fits_status n Unlisted h f = f

-- a deed more
fits_deed_lem : (n : Sizes) (d : Datum) (time : ℕ) (m : List ℕ) (s : State) (h : History) → no_slot_for (Market d) m s.tables ≡ false
    → misfits_for (Market d) time m s.tables ≡ false → s.tables ≡ replay h.deeds (zeroed n) → T (fitting h.deeds (zeroed n))
    → T (fitting (h.deeds ++ (Took d time m ∷ [])) (zeroed n))
unfolding fits_deed
fits_deed_lem n d time m s h a b t f = fits_more h.deeds (Took d time m) (zeroed n) f (subst (λ (x : Tables). T (fits_deed (Took d time m) x)) t (rw (a, b) tt))

fits_kind : (n : Sizes) (k : Kind) (time : ℕ) (m : List ℕ) (s : State) (h : History) → no_slot_for k m s.tables ≡ false
    → misfits_for k time m s.tables ≡ false → s.tables ≡ replay h.deeds (zeroed n) → T (fitting h.deeds (zeroed n))
    → T (fitting (note_taken k time m h).deeds (zeroed n))
unfolding note_taken
fits_kind n (Session SendKey) time m s h a b t f = f
fits_kind n (Session Logon) time m s h a b t f = fits_status n (status_of (logon_status m)) h f
fits_kind n (Session Logout) time m s h a b t f = f
fits_kind n (Session Refresh) time m s h a b t f = f
fits_kind n (Session Complete) time m s h a b t f = f
fits_kind n (Session Request) time m s h a b t f = f
fits_kind n (Market Book) time m s h a b t f = fits_deed_lem n Book time m s h a b t f
fits_kind n (Market Strip) time m s h a b t f = fits_deed_lem n Strip time m s h a b t f
fits_kind n (Market Other) time m s h a b t f = f

fits_keeps : (n : Sizes) → Keeps Any (Fits n)
fits_keeps n =
    let K = R.keeps n in
    record {
      lost = λ s h i. record { base = K.lost s h i.base; fits = i.fits };
      spoilt = λ s h i. record { base = K.spoilt s h i.base; fits = i.fits };
      skipped = λ s h time i. record { base = K.skipped s h time i.base; fits = i.fits };
      beat = λ s h time i. record { base = K.beat s h time i.base; fits = i.fits };
      link = λ s h link time i. record { base = K.link s h link time i.base; fits = i.fits };
      taken = λ s h time seq internal m p g i. record {
        base = K.taken s h time seq internal m tt g i.base;
        fits = fits_kind n (kind m) time m s h g.room g.fit i.base.table i.fits;
      };
    }

pub replay_fits : D.ReplayFits
unfolding fitting
replay_fits limit n es = (on_run Any (Fits n) (fits_keeps n) es (start limit n) no_history (any es) (record { base = R.inv_start limit n; fits = tt })).fits
