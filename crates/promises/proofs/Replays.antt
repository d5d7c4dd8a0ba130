-- Demand 3, the tables: they are the replay, from empty, of the book messages and strip messages taken since the last clearing. Assumes nothing.
use Prim.Native.Nat.{ℕ}
use mathlib.Core.Path.{◌≡◌, refl, sym, ap, ◌∙◌, subst}
use mathlib.Core.Bool.{Bool, true, false, cond, ◌&&◌}
use mathlib.Core.List.{List, [], ◌∷◌, ◌++◌}
use Rattle.ground.proofs.Bools.{split}
use Rattle.slots.proofs.Ours.{Ours, ours_start, clear_ours, stepped_ours}
use Rattle.books.specs.Table.{books}
use Rattle.books.proofs.Frames.{books_ours}
use Rattle.strips.specs.Table.{strips, step_of, strips_after}
use Rattle.strips.proofs.Lawful.{lawful}
use Rattle.feed.specs.Messages.{kind, market, status_of, logon_status}
use Rattle.feed.specs.Feeds.{is, internal_is}
use Rattle.feed.specs.Events.{Tables, cleared_tables, State, Event}
use Rattle.feed.specs.Steps.{on_feed, cleared, enter_live, logged_on, tables_after, does, counted, taken}
use Rattle.feed.specs.declared.Phase.TheVariants.{Live}
use Rattle.feed.specs.declared.Kind.{Kind}
use Rattle.feed.specs.declared.Kind.TheVariants.{Session, Market}
use Rattle.feed.specs.declared.Session.TheVariants.{SendKey, Logon, Logout, Refresh, Complete, Request}
use Rattle.feed.specs.declared.Datum.TheVariants.{Book, Strip, Other}
use Rattle.feed.specs.Messages.{Status}
use Rattle.feed.specs.Messages.{Opens, Refills, Stays, Closes, Unlisted}
use Rattle.feed.specs.declared.Feed.{Feed}
use Rattle.promises.specs.Runs.{Sizes, zeroed, start, run, Deed, Took, History, no_history, note_logon, note_status, note_taken, history, perform, replay}
use Rattle.promises.proofs.Steps.{Any, any, Keeps, on_run}
use Rattle.promises.proofs.Badges.{new_feed_lem}

pub replay_snoc : (ds : List Deed) (d : Deed) (x : Tables) → replay (ds ++ (d ∷ [])) x ≡ perform d (replay ds x)
unfolding replay
replay_snoc [] d x = refl
replay_snoc (e ∷ ds) d x = replay_snoc ds d (perform e x)

-- tables of so many words, of which those behind the slots are zero
pub record Sized (n : Sizes) (x : Tables) : Type 0 where
  pub books : Ours books n.books x.books
  pub strips : Ours strips n.strips x.strips

pub record Inv (n : Sizes) (s : State) (h : History) : Type 0 where
  pub fresh : s.feed.fresh ≡ h.fresh
  pub table : s.tables ≡ replay h.deeds (zeroed n)
  pub ours : Sized n s.tables

sized_start : (n : Sizes) → Sized n (zeroed n)
sized_start n = record { books = ours_start books n.books; strips = ours_start strips n.strips }

clear_all : (n : Sizes) (x : Tables) → Sized n x → cleared_tables x ≡ zeroed n
clear_all n x o = λ i. record { books = clear_ours books n.books x.books o.books i; strips = clear_ours strips n.strips x.strips o.strips i }

-- a clearing, done or not
opened : (n : Sizes) (s : State) (h : History) (refresh : Bool) → Inv n s h → (b : Bool) → (f : Feed) → f.fresh ≡ s.feed.fresh
    → Inv n (record { feed = f; tables = (cond b (cleared s) s).tables }) (note_logon refresh b h)
unfolding replay
opened n s h refresh i true f e =
    let c = clear_all n s.tables i.ours in
    record { fresh = e ∙ i.fresh; table = c; ours = subst (Sized n) (sym c) (sized_start n) }
opened n s h refresh i false f e = record { fresh = e ∙ i.fresh; table = i.table; ours = i.ours }

live_fresh : (s : State) → (enter_live (cond s.feed.fresh (cleared s) s).feed).fresh ≡ s.feed.fresh
live_fresh s = split (λ (x : State). (enter_live x.feed).fresh ≡ s.feed.fresh) s.feed.fresh (cleared s) s (λ e. refl) (λ e. refl)

after_status : (n : Sizes) (st : Status) (s : State) (h : History) → Inv n s h → Inv n (logged_on st s) (note_status st h)
unfolding logged_on note_status
after_status n Opens s h i =
    subst (λ (b : Bool). Inv n (on_feed enter_live (cond s.feed.fresh (cleared s) s)) (note_logon false b h)) i.fresh
    (opened n s h false i s.feed.fresh (enter_live (cond s.feed.fresh (cleared s) s).feed) (live_fresh s))
after_status n Refills s h i = opened n s h true i true (logged_on Refills s).feed refl
after_status n Stays s h i = i
after_status n Closes s h i = record { fresh = i.fresh; table = i.table; ours = i.ours }
after_status n Unlisted s h i = i

after_message : (n : Sizes) (k : Kind) (time : ℕ) (m : List ℕ) (s : State) (h : History) → Inv n s h → Inv n (does k time m s) (note_taken k time m h)
unfolding does note_taken tables_after perform
after_message n (Session SendKey) time m s h i = record { fresh = i.fresh; table = i.table; ours = i.ours }
after_message n (Session Logon) time m s h i = after_status n (status_of (logon_status m)) s h i
after_message n (Session Logout) time m s h i = record { fresh = i.fresh; table = i.table; ours = i.ours }
after_message n (Session Refresh) time m s h i = i
after_message n (Session Complete) time m s h i = record { fresh = i.fresh; table = i.table; ours = i.ours }
after_message n (Session Request) time m s h i = i
after_message n (Market Book) time m s h i = record {
  fresh = i.fresh;
  table = ap (perform (Took Book time m)) i.table ∙ sym (replay_snoc h.deeds (Took Book time m) (zeroed n));
  ours = record { books = books_ours time m s.tables.books n.books i.ours.books; strips = i.ours.strips };
}
after_message n (Market Strip) time m s h i = record {
  fresh = i.fresh;
  table = ap (perform (Took Strip time m)) i.table ∙ sym (replay_snoc h.deeds (Took Strip time m) (zeroed n));
  ours = record { books = i.ours.books; strips = unfold strips_after in stepped_ours strips lawful n.strips (step_of m) s.tables.strips i.ours.strips };
}
after_message n (Market Other) time m s h i = record { fresh = i.fresh; table = i.table; ours = i.ours }

pub counted_fresh : (k : Kind) (internal : ℕ) (f : Feed) → (counted k internal f).fresh ≡ f.fresh
unfolding counted
counted_fresh k internal f = split (λ (g : Feed). g.fresh ≡ f.fresh) (market k && is f.phase Live) (internal_is internal f) f (λ e. refl) (λ e. refl)

pub keeps : (n : Sizes) → Keeps Any (Inv n)
unfolding taken
keeps n = record {
  lost = λ s h i. record { fresh = i.fresh; table = i.table; ours = i.ours };
  spoilt = λ s h i. record { fresh = i.fresh; table = i.table; ours = i.ours };
  skipped = λ s h time i. record { fresh = i.fresh; table = i.table; ours = i.ours };
  beat = λ s h time i. record { fresh = i.fresh; table = i.table; ours = i.ours };
  link = λ s h link time i. record { fresh = refl; table = i.table; ours = i.ours };
  taken = λ s h time seq internal m p g i.
      let j = after_message n (kind m) time m s h i in
      record { fresh = counted_fresh (kind m) internal (does (kind m) time m s).feed ∙ j.fresh; table = j.table; ours = j.ours };
}

pub inv_start : (limit : ℕ) (n : Sizes) → Inv n (start limit n) no_history
unfolding replay
inv_start limit n = record { fresh = ap (λ (f : Feed). f.fresh) (new_feed_lem limit); table = refl; ours = sized_start n }

-- DEMAND 3, the tables
pub table_replayed : (limit : ℕ) (n : Sizes) (es : List Event) → (run (start limit n) es).tables ≡ replay (history (start limit n) es).deeds (zeroed n)
table_replayed limit n es = (on_run Any (Inv n) (keeps n) es (start limit n) no_history (any es) (inv_start limit n)).table
