-- Demand 3 book by book: every slot is sound at every moment, and each code's book is what its own messages make of an empty one. Assumes nothing.
use Prim.Native.Nat.{ℕ}
use mathlib.Core.Path.{◌≡◌, refl, sym, ap, ◌∙◌, subst}
use mathlib.Core.Bool.{Bool, true, false, cond}
use mathlib.Core.List.{List, [], ◌∷◌, ◌++◌}
use lib.Dec.{T}
use lib.ListN.{drop, replicate}
use Rattle.ground.specs.Choice.{all}
use Rattle.ground.proofs.Bools.{of_T, is_T, two, pair}
use Rattle.wire.specs.Number.{bytes_only}
use Rattle.wire.specs.Units.{unit_of}
use Rattle.wire.specs.declared.Unit.{Unit}
use Rattle.wire.specs.declared.Unit.TheVariants as unit
use Rattle.slots.specs.Layout.{cleared_in}
use Rattle.slots.proofs.Ours.{ours_start, clear_ours}
use Rattle.ladder.specs.Walk as Walk
use Rattle.ladder.proofs.Orders.{all_take, all_drop}
use Rattle.books.specs.Table.{books, book_in}
use Rattle.books.proofs.Frames.{AllSound, books_sound, books_each, cleared_sound, cleared_empty}
use Rattle.feed.specs.Messages.{kind, status_of, logon_status}
use Rattle.feed.specs.Events.{State, Event, Connect, Arrive, Cut, Overrun, news, cut_from}
use Rattle.feed.specs.Answers.{unsound_for, no_slot_for, misfits_for}
use Rattle.feed.specs.Steps.{cleared, logged_on, tables_after, does, taken}
use Rattle.feed.specs.declared.Kind.{Kind}
use Rattle.feed.specs.declared.Kind.TheVariants.{Session, Market}
use Rattle.feed.specs.declared.Session.TheVariants.{SendKey, Logon, Logout, Refresh, Complete, Request}
use Rattle.feed.specs.declared.Datum.TheVariants.{Book, Strip, Other}
use Rattle.feed.specs.Messages.{Status}
use Rattle.feed.specs.Messages.{Opens, Refills, Stays, Closes, Unlisted}
use Rattle.promises.specs.Runs.{Sizes, start, run, Deed, Took, History, no_history, note_logon, note_status, note_taken, history, perform_on, replay_on}
use Rattle.promises.specs.Demands.{hands_bytes, Bytes}
use Rattle.promises.proofs.Steps.{OfNews, Each, Keeps, on_run}
use Rattle.promises.proofs.Replays as R

-- every code's book, after the deeds ds
abbrev pub Booked : List ℕ → List Deed → Type 0
Booked t ds = (c : ℕ) → (c ≡ 0 → ⊥) → book_in c t ≡ replay_on c ds Walk.empty_book

replay_on_snoc : (c : ℕ) (ds : List Deed) (d : Deed) (b : Walk.Book) → replay_on c (ds ++ (d ∷ [])) b ≡ perform_on c d (replay_on c ds b)
unfolding replay_on
replay_on_snoc c [] d b = refl
replay_on_snoc c (e ∷ ds) d b = replay_on_snoc c ds d (perform_on c e b)

pub record Inv (n : Sizes) (s : State) (h : History) : Type 0 where
  pub base : R.Inv n s h
  pub sounds : AllSound s.tables.books
  pub booked : Booked s.tables.books h.deeds

-- a clearing, done or not
opened : (n : Sizes) (s : State) (h : History) (refresh : Bool) → Inv n s h → (b : Bool)
    → AllSound (cond b (cleared s) s).tables.books × Booked (cond b (cleared s) s).tables.books (note_logon refresh b h).deeds
unfolding replay_on
opened n s h refresh i true = (cleared_sound s.tables.books, λ c z. cleared_empty c s.tables.books z)
opened n s h refresh i false = (i.sounds, i.booked)

abbrev Kept : State → History → Type 0
Kept s h = AllSound s.tables.books × Booked s.tables.books h.deeds

after_status : (n : Sizes) (st : Status) (s : State) (h : History) → Inv n s h → Kept (logged_on st s) (note_status st h)
unfolding logged_on note_status
after_status n Opens s h i =
    subst (λ (b : Bool). AllSound (cond s.feed.fresh (cleared s) s).tables.books × Booked (cond s.feed.fresh (cleared s) s).tables.books (note_logon false b h).deeds) i.base.fresh
    (opened n s h false i s.feed.fresh)
after_status n Refills s h i = opened n s h true i true
after_status n Stays s h i = (i.sounds, i.booked)
after_status n Closes s h i = (i.sounds, i.booked)
after_status n Unlisted s h i = (i.sounds, i.booked)

after_message : (n : Sizes) (k : Kind) (time : ℕ) (m : List ℕ) (s : State) (h : History) → T (bytes_only m) → unsound_for k m s.tables ≡ false
    → no_slot_for k m s.tables ≡ false → misfits_for k time m s.tables ≡ false → Inv n s h → Kept (does k time m s) (note_taken k time m h)
unfolding does note_taken tables_after unsound_for no_slot_for misfits_for perform_on
after_message n (Session SendKey) time m s h b x y z i = (i.sounds, i.booked)
after_message n (Session Logon) time m s h b x y z i = after_status n (status_of (logon_status m)) s h i
after_message n (Session Logout) time m s h b x y z i = (i.sounds, i.booked)
after_message n (Session Refresh) time m s h b x y z i = (i.sounds, i.booked)
after_message n (Session Complete) time m s h b x y z i = (i.sounds, i.booked)
after_message n (Session Request) time m s h b x y z i = (i.sounds, i.booked)
after_message n (Market Book) time m s h b x y z i = (
  books_sound time m s.tables.books b i.sounds,
  λ c nz. books_each time m s.tables.books x y z c nz ∙ ap (perform_on c (Took Book time m)) (i.booked c nz) ∙ sym (replay_on_snoc c h.deeds (Took Book time m) Walk.empty_book),
)
after_message n (Market Strip) time m s h b x y z i = (i.sounds, λ c nz. i.booked c nz ∙ sym (replay_on_snoc c h.deeds (Took Strip time m) Walk.empty_book))
after_message n (Market Other) time m s h b x y z i = (i.sounds, i.booked)

abbrev pub OfBytes : List ℕ → Type 0
OfBytes m = T (bytes_only m)

pub keeps : (n : Sizes) → Keeps OfBytes (Inv n)
unfolding taken
keeps n =
    let K = R.keeps n in
    record {
      lost = λ s h i. record { base = K.lost s h i.base; sounds = i.sounds; booked = i.booked };
      spoilt = λ s h i. record { base = K.spoilt s h i.base; sounds = i.sounds; booked = i.booked };
      skipped = λ s h time i. record { base = K.skipped s h time i.base; sounds = i.sounds; booked = i.booked };
      beat = λ s h time i. record { base = K.beat s h time i.base; sounds = i.sounds; booked = i.booked };
      link = λ s h link time i. record { base = K.link s h link time i.base; sounds = i.sounds; booked = i.booked };
      taken = λ s h time seq internal m p g i.
          let k = after_message n (kind m) time m s h p g.sound g.room g.fit i in
          record { base = K.taken s h time seq internal m tt g i.base; sounds = k.0; booked = k.1 };
    }

-- bytes that arrive have a message of bytes
bytes_cut : (s : List ℕ) → T (bytes_only s) → (u : Unit) → OfNews OfBytes (cut_from s u)
unfolding cut_from
bytes_cut s h unit.More = tt
bytes_cut s h unit.Heartbeat = tt
bytes_cut s h (unit.Message seq internal size) = is_T _ (all_take _ size (drop 20 s) (all_drop _ 20 s (of_T _ h)))

pub bytes_news : (e : Event) → T (hands_bytes e) → OfNews OfBytes (news e)
unfolding hands_bytes news
bytes_news (Connect link time) h = tt
bytes_news (Arrive bytes time) h = bytes_cut bytes h (unit_of bytes)
bytes_news (Cut seq internal m time) h = h
bytes_news (Overrun time) h = tt

pub bytes_each : (es : List Event) → Bytes es → Each OfBytes es
unfolding all
bytes_each [] h = tt
bytes_each (e ∷ es) h =
    let p = two (hands_bytes e) (all hands_bytes es) h in
    (bytes_news e p.0, bytes_each es p.1)

-- events behind others
pub bytes_two : (es fs : List Event) → Bytes es → Bytes fs → Bytes (es ++ fs)
unfolding all
bytes_two [] fs h k = k
bytes_two (e ∷ es) fs h k =
    let p = two (hands_bytes e) (all hands_bytes es) h in
    pair (hands_bytes e) (all hands_bytes (es ++ fs)) p.0 (bytes_two es fs p.1 k)

zeros_cleared : (n : ℕ) → replicate n 0 ≡ cleared_in books (replicate n 0)
zeros_cleared n = sym (clear_ours books n (replicate n 0) (ours_start books n))

inv_start : (limit : ℕ) (n : Sizes) → Inv n (start limit n) no_history
unfolding replay_on
inv_start limit n = record {
  base = R.inv_start limit n;
  sounds = subst AllSound (sym (zeros_cleared n.books)) (cleared_sound (replicate n.books 0));
  booked = λ c z. subst (λ (t : List ℕ). book_in c t ≡ Walk.empty_book) (sym (zeros_cleared n.books)) (cleared_empty c (replicate n.books 0) z);
}

pub inv_run : (limit : ℕ) (n : Sizes) (es : List Event) → Bytes es → Inv n (run (start limit n) es) (history (start limit n) es)
inv_run limit n es h = on_run OfBytes (Inv n) (keeps n) es (start limit n) no_history (bytes_each es h) (inv_start limit n)

-- DEMAND 3, soundness, and the books one by one
pub all_sound : (limit : ℕ) (n : Sizes) (es : List Event) → Bytes es → AllSound (run (start limit n) es).tables.books
all_sound limit n es h = (inv_run limit n es h).sounds

pub book_replayed : (limit : ℕ) (n : Sizes) (es : List Event) → Bytes es → (c : ℕ) → (c ≡ 0 → ⊥) → book_in c (run (start limit n) es).tables.books ≡ replay_on c (history (start limit n) es).deeds Walk.empty_book
book_replayed limit n es h = (inv_run limit n es h).booked
