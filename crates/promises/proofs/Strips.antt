-- Demand 3 strip by strip: every strip is sound at every moment, and each code's strip is what its own messages make of an empty one, whatever is
-- handed in. Assumes nothing.
use Prim.Native.Nat.{ℕ}
use mathlib.Core.Path.{◌≡◌, refl, sym, ap, ◌∙◌, subst}
use mathlib.Core.Bool.{Bool, true, false, cond}
use mathlib.Core.List.{List, [], ◌∷◌, ◌++◌}
use lib.ListN.{replicate}
use Rattle.slots.specs.Layout.{misfit, cleared_in, value_after}
use Rattle.slots.proofs.Ours.{ours_start, clear_ours}
use Rattle.slots.proofs.Values as values
use Rattle.slots.proofs.Steps as steps
use Rattle.strips.specs.Words.{empty_strip}
use Rattle.strips.specs.Table as strip
use Rattle.strips.specs.Table.{strips, strip_in, step_of, strips_after}
use Rattle.strips.specs.declared.Strip.{Strip as StripOf}
use Rattle.strips.proofs.Lawful.{lawful}
use Rattle.strips.proofs.Keeps.{step_fits, step_keeps, step_modest}
use Rattle.feed.specs.Messages.{kind, listed, status_of, logon_status}
use Rattle.feed.specs.Events.{State, Event}
use Rattle.feed.specs.Answers.{unsound_for, no_slot_for}
use Rattle.feed.specs.Steps.{cleared, logged_on, tables_after, does, taken}
use Rattle.feed.specs.declared.Kind.{Kind}
use Rattle.feed.specs.declared.Kind.TheVariants.{Session, Market}
use Rattle.feed.specs.declared.Session.TheVariants.{SendKey, Logon, Logout, Refresh, Complete, Request}
use Rattle.feed.specs.declared.Datum.TheVariants.{Book, Strip, Other}
use Rattle.feed.specs.Messages.{Status}
use Rattle.feed.specs.Messages.{Opens, Refills, Stays, Closes, Unlisted}
use Rattle.promises.specs.Runs.{Sizes, start, run, Deed, Took, History, no_history, note_logon, note_status, note_taken, history, perform_strip, replay_strip}
use Rattle.promises.proofs.Steps.{Any, any, Keeps, on_run}
use Rattle.promises.proofs.Replays as R

abbrev AllSound : List ℕ → Type 0
AllSound t = values.AllSound strips t

-- every code's strip, after the deeds ds
abbrev Stripped : List ℕ → List Deed → Type 0
Stripped t ds = (c : ℕ) → (c ≡ 0 → ⊥) → strip_in c t ≡ replay_strip c ds empty_strip

replay_strip_snoc : (c : ℕ) (ds : List Deed) (d : Deed) (s : StripOf) → replay_strip c (ds ++ (d ∷ [])) s ≡ perform_strip c d (replay_strip c ds s)
unfolding replay_strip
replay_strip_snoc c [] d s = refl
replay_strip_snoc c (e ∷ ds) d s = replay_strip_snoc c ds d (perform_strip c e s)

abbrev Kept : State → History → Type 0
Kept s h = AllSound s.tables.strips × Stripped s.tables.strips h.deeds

pub record Inv (n : Sizes) (s : State) (h : History) : Type 0 where
  pub base : R.Inv n s h
  pub kept : Kept s h

-- a clearing, done or not
opened : (n : Sizes) (s : State) (h : History) (refresh : Bool) → Inv n s h → (b : Bool)
    → AllSound (cond b (cleared s) s).tables.strips × Stripped (cond b (cleared s) s).tables.strips (note_logon refresh b h).deeds
unfolding replay_strip
opened n s h refresh i true = (values.cleared_sound strips lawful s.tables.strips, λ c z. values.cleared_empty strips c s.tables.strips z)
opened n s h refresh i false = i.kept

after_status : (n : Sizes) (st : Status) (s : State) (h : History) → Inv n s h → Kept (logged_on st s) (note_status st h)
unfolding logged_on note_status
after_status n Opens s h i =
    subst (λ (b : Bool). AllSound (cond s.feed.fresh (cleared s) s).tables.strips × Stripped (cond s.feed.fresh (cleared s) s).tables.strips (note_logon false b h).deeds) i.base.fresh
    (opened n s h false i s.feed.fresh)
after_status n Refills s h i = opened n s h true i true
after_status n Stays s h i = i.kept
after_status n Closes s h i = i.kept
after_status n Unlisted s h i = i.kept

-- a strip message that is taken
module _ (m t : List ℕ) (a : strip.unsound m t ≡ false) (b : strip.no_slot m t ≡ false) where
  pub accepts : steps.Accepts strips (step_of m) t
  unfolding strip.unsound strip.no_slot misfit
  accepts = record { sound = a; room = b; fits = refl }

  strip_each : (c : ℕ) → (c ≡ 0 → ⊥) → strip_in c (strips_after m t) ≡ value_after c (step_of m) (strip_in c t)
  unfolding strips_after
  strip_each = steps.stepped_each strips (step_of m) t lawful (step_fits m) (step_modest m) accepts

after_message : (n : Sizes) (k : Kind) (time : ℕ) (m : List ℕ) (s : State) (h : History) → listed k m ≡ true → unsound_for k m s.tables ≡ false
    → no_slot_for k m s.tables ≡ false → Inv n s h → Kept (does k time m s) (note_taken k time m h)
unfolding does note_taken tables_after listed unsound_for no_slot_for perform_strip
after_message n (Session SendKey) time m s h l a b i = i.kept
after_message n (Session Logon) time m s h l a b i = after_status n (status_of (logon_status m)) s h i
after_message n (Session Logout) time m s h l a b i = i.kept
after_message n (Session Refresh) time m s h l a b i = i.kept
after_message n (Session Complete) time m s h l a b i = i.kept
after_message n (Session Request) time m s h l a b i = i.kept
after_message n (Market Book) time m s h l a b i = (i.kept.0, λ c nz. i.kept.1 c nz ∙ sym (replay_strip_snoc c h.deeds (Took Book time m) empty_strip))
after_message n (Market Strip) time m s h l a b i = (
  unfold strips_after in steps.stepped_sound strips (step_of m) s.tables.strips lawful (step_keeps m l) i.kept.0,
  λ c nz. strip_each m s.tables.strips a b c nz ∙ ap (perform_strip c (Took Strip time m)) (i.kept.1 c nz) ∙ sym (replay_strip_snoc c h.deeds (Took Strip time m) empty_strip),
)
after_message n (Market Other) time m s h l a b i = i.kept

pub keeps : (n : Sizes) → Keeps Any (Inv n)
unfolding taken
keeps n =
    let K = R.keeps n in
    record {
      lost = λ s h i. record { base = K.lost s h i.base; kept = i.kept };
      spoilt = λ s h i. record { base = K.spoilt s h i.base; kept = i.kept };
      skipped = λ s h time i. record { base = K.skipped s h time i.base; kept = i.kept };
      beat = λ s h time i. record { base = K.beat s h time i.base; kept = i.kept };
      link = λ s h link time i. record { base = K.link s h link time i.base; kept = i.kept };
      taken = λ s h time seq internal m p g i.
          record { base = K.taken s h time seq internal m tt g i.base; kept = after_message n (kind m) time m s h g.fields g.sound g.room i };
    }

zeros_cleared : (n : ℕ) → replicate n 0 ≡ cleared_in strips (replicate n 0)
zeros_cleared n = sym (clear_ours strips n (replicate n 0) (ours_start strips n))

inv_start : (limit : ℕ) (n : Sizes) → Inv n (start limit n) no_history
unfolding replay_strip
inv_start limit n = record {
  base = R.inv_start limit n;
  kept = subst (λ (t : List ℕ). AllSound t × Stripped t []) (sym (zeros_cleared n.strips))
      (values.cleared_sound strips lawful (replicate n.strips 0), λ c z. values.cleared_empty strips c (replicate n.strips 0) z);
}

pub inv_run : (limit : ℕ) (n : Sizes) (es : List Event) → Inv n (run (start limit n) es) (history (start limit n) es)
inv_run limit n es = on_run Any (Inv n) (keeps n) es (start limit n) no_history (any es) (inv_start limit n)

-- DEMAND 3, soundness of the strips, and the strips one by one
pub strips_sound_lem : (limit : ℕ) (n : Sizes) (es : List Event) → AllSound (run (start limit n) es).tables.strips
strips_sound_lem limit n es = (inv_run limit n es).kept.0

pub strip_replayed : (limit : ℕ) (n : Sizes) (es : List Event) (c : ℕ) → (c ≡ 0 → ⊥)
    → strip_in c (run (start limit n) es).tables.strips ≡ replay_strip c (history (start limit n) es).deeds empty_strip
strip_replayed limit n es = (inv_run limit n es).kept.1
