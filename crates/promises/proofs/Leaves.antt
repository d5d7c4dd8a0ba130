-- What a call leaves alone, proved: each is named as its statement in specs/Leaves, with a small letter. Assumes nothing.
use Prim.Native.Nat.{ℕ}
use mathlib.Core.Path.{◌≡◌, refl, sym, ap, ◌∙◌, subst}
use mathlib.Core.Bool.{Bool, true, false, cond, ◌||◌, true≢false}
use mathlib.Core.List.{List, [], ◌∷◌}
use lib.Dec.{T}
use Rattle.ground.specs.Choice.{one_of}
use Rattle.ground.proofs.Bools.{split, of_T}
use Rattle.ground.proofs.Choices.{each_has}
use Rattle.slots.proofs.Zeros.{length_cleared, slots_cleared, tail_cleared}
use Rattle.slots.specs.Layout.{Layout, cleared_in}
use Rattle.slots.proofs.Steps as steps
use Rattle.books.specs.Table.{books}
use Rattle.strips.specs.Table.{strips, step_of, strips_after}
use Rattle.strips.proofs.Lawful.{lawful}
use Rattle.books.proofs.Frames.{books_codes}
use Rattle.feed.specs.Messages.{kind, on_market, tabled, status_of, logon_status}
use Rattle.feed.specs.Events.{Tables, cleared_tables, State, Event, News, Linked, More, Heartbeat, TooLong, Message, news, time_of, on_message}
use Rattle.feed.specs.Answers.{number, passed, answer_to, reply}
use Rattle.feed.specs.Answers.{Answer}
use Rattle.feed.specs.Answers.{Keep, Lose, Spoil, Skip, Take}
use Rattle.feed.specs.Steps.{clears_on, clears, cleared, logged_on, tables_after, does, taken, act, handed, outcome}
use Rattle.feed.specs.declared.Kind.{Kind}
use Rattle.feed.specs.declared.Kind.TheVariants.{Session, Market}
use Rattle.feed.specs.declared.Session.TheVariants.{SendKey, Logon, Logout, Refresh, Complete, Request}
use Rattle.feed.specs.declared.Datum.TheVariants.{Book, Strip, Other}
use Rattle.feed.specs.Messages.{Status}
use Rattle.feed.specs.Messages.{Opens, Refills, Stays, Closes, Unlisted}
use Rattle.promises.specs.Leaves as L
use Rattle.promises.specs.Leaves.{wipes, clearing, writing}
use Rattle.promises.proofs.Refused.{proper, reply_proper}
use Rattle.promises.proofs.Steps.{two_passed}
use Rattle.promises.proofs.Demands.{zero_take}

-- the tables after a message that is taken: as they were, cleared, or after a message for one of them
after_status : (st : Status) (s : State) → (logged_on st s).tables ≡ cond (clears_on st s.feed.fresh) (cleared_tables s.tables) s.tables
unfolding logged_on clears_on
after_status Opens s = go s.feed.fresh
  where
    go : (b : Bool) → (cond b (cleared s) s).tables ≡ cond b (cleared_tables s.tables) s.tables
    go true = refl
    go false = refl
after_status Refills s = refl
after_status Stays s = refl
after_status Closes s = refl
after_status Unlisted s = refl

-- the tables after a message of a kind, where it goes to one
written : Kind → ℕ → List ℕ → Tables → Tables
written (Session s) time m x = x
written (Market d) time m x = tables_after d time m x

after_kind : (k : Kind) (time : ℕ) (m : List ℕ) (s : State) → (does k time m s).tables
    ≡ cond (on_market tabled k) (written k time m s.tables) (cond (wipes s.feed.fresh k m) (cleared_tables s.tables) s.tables)
unfolding does on_market tabled wipes clears tables_after written
after_kind (Session SendKey) time m s = refl
after_kind (Session Logon) time m s = after_status (status_of (logon_status m)) s
after_kind (Session Logout) time m s = refl
after_kind (Session Refresh) time m s = refl
after_kind (Session Complete) time m s = refl
after_kind (Session Request) time m s = refl
after_kind (Market Book) time m s = refl
after_kind (Market Strip) time m s = refl
after_kind (Market Other) time m s = refl

-- what is passed over is neither
passed_leaves : (k : Kind) (fresh : Bool) (m : List ℕ) → passed k ≡ true → (on_market tabled k || wipes fresh k m) ≡ false
unfolding passed on_market tabled wipes
passed_leaves (Session s) fresh m e = absurd (true≢false (sym e))
passed_leaves (Market Book) fresh m e = absurd (true≢false (sym e))
passed_leaves (Market Strip) fresh m e = absurd (true≢false (sym e))
passed_leaves (Market Other) fresh m e = refl

neither : (a b : Bool) → a ≡ true → (a || b) ≡ false → ⊥
neither true b f o = true≢false o
neither false b f o = true≢false (sym f)

neither_second : (a b : Bool) → b ≡ true → (a || b) ≡ false → ⊥
neither_second true b f o = true≢false o
neither_second false b f o = true≢false (sym f ∙ o)

-- one property of the tables, shown for each way
module _ (P : Tables → Type 0) (s : State) (time : ℕ) where
  by_message : (k : Kind) (m : List ℕ) → (on_market tabled k ≡ true → P (written k time m s.tables))
      → (wipes s.feed.fresh k m ≡ true → P (cleared_tables s.tables)) → P s.tables → P (does k time m s).tables
  by_message k m b c p = rw (after_kind k time m s) (split P (on_market tabled k) _ _ b (λ e. split P (wipes s.feed.fresh k m) _ _ c (λ f. p)))

  by_answer : (x : News) (a : Answer) → answer_to s.feed s.tables time x ≡ a → T (proper a)
      → ((seq internal : ℕ) (m : List ℕ) → x ≡ Message seq internal m → a ≡ Take 0 → on_market tabled (kind m) ≡ true → P (written (kind m) time m s.tables))
      → ((seq internal : ℕ) (m : List ℕ) → x ≡ Message seq internal m → a ≡ Take 0 → wipes s.feed.fresh (kind m) m ≡ true → P (cleared_tables s.tables))
      → P s.tables → P (act a time x s).tables
  unfolding act taken proper one_of on_message
  by_answer x (Keep k) e q b c p = p
  by_answer x (Lose k) e q b c p = p
  by_answer x (Spoil k) e q b c p = p
  by_answer x (Skip k) e q b c p = p
  by_answer (Linked link) (Take k) e q b c p = p
  by_answer More (Take k) e q b c p = p
  by_answer Heartbeat (Take k) e q b c p = p
  by_answer TooLong (Take k) e q b c p = p
  by_answer (Message seq internal m) (Take k) e q b c p =
      each_has (λ (j : ℕ). k ≡ j → answer_to s.feed s.tables time (Message seq internal m) ≡ Take j → P (does (kind m) time m s).tables) (2 ∷ 0 ∷ []) (
        λ z t.
            let o = passed_leaves (kind m) s.feed.fresh m (of_T (passed (kind m)) (two_passed s time (Message seq internal m) t)) in
            by_message (kind m) m (λ f. absurd (neither _ _ f o)) (λ f. absurd (neither_second (on_market tabled (kind m)) _ f o)) p,
        (λ z t. by_message (kind m) m (λ f. b seq internal m refl (ap Take z) f) (λ f. c seq internal m refl (ap Take z) f) p, tt),
      ) k q refl e

-- what an answer of 0 is known by
zero_is : (a : Answer) → a ≡ Take 0 → number a ≡ 0
zero_is a e = ap number e ∙ (unfold number in refl)

-- the same of a call
by_call : (P : Tables → Type 0) (s : State) (e : Event)
    → ((seq internal : ℕ) (m : List ℕ) → news e ≡ Message seq internal m → (outcome s e).given.answer ≡ 0 → on_market tabled (kind m) ≡ true → P (written (kind m) (time_of e) m s.tables))
    → ((seq internal : ℕ) (m : List ℕ) → news e ≡ Message seq internal m → (outcome s e).given.answer ≡ 0 → wipes s.feed.fresh (kind m) m ≡ true → P (cleared_tables s.tables))
    → P s.tables → P (outcome s e).tables
unfolding outcome handed
by_call P s e b c p =
    by_answer P s (time_of e) (news e) (reply s e) refl (reply_proper s e)
    (λ seq internal m x z. b seq internal m x (zero_is (reply s e) z)) (λ seq internal m x z. c seq internal m x (zero_is (reply s e) z)) p

pub leaves : L.Leaves
unfolding writing on_message
leaves s e h =
    by_call (λ (x : Tables). x ≡ s.tables) s e
    (λ seq internal m x z f. absurd (neither _ _ f (subst (λ (n : News). on_message (λ seq internal m. on_market tabled (kind m) || wipes s.feed.fresh (kind m) m) n ≡ false) x (h z))))
    (λ seq internal m x z f. absurd (neither_second (on_market tabled (kind m)) _ f (subst (λ (n : News). on_message (λ seq internal m. on_market tabled (kind m) || wipes s.feed.fresh (kind m) m) n ≡ false) x (h z))))
    refl

-- a clearing is one
clear_news : (x : News) (fresh : Bool) → on_message (λ seq internal m. wipes fresh (kind m) m) x ≡ true → (time : ℕ) (s : State) → s.feed.fresh ≡ fresh
    → (taken time x s).tables ≡ cleared_tables s.tables
unfolding on_message taken
clear_news (Linked link) fresh e time s f = absurd (true≢false (sym e))
clear_news More fresh e time s f = absurd (true≢false (sym e))
clear_news Heartbeat fresh e time s f = absurd (true≢false (sym e))
clear_news TooLong fresh e time s f = absurd (true≢false (sym e))
clear_news (Message seq internal m) fresh e time s f =
    after_kind (kind m) time m s ∙ rw (not_book (kind m) fresh m e, f, e)
  where
    not_book : (k : Kind) (fresh : Bool) (m : List ℕ) → wipes fresh k m ≡ true → on_market tabled k ≡ false
    not_book (Session s) fresh m e = unfold on_market in refl
    not_book (Market d) fresh m e = absurd (true≢false (sym (unfold wipes in e)))

clear_call : (s : State) (e : Event) → (outcome s e).given.answer ≡ 0 → clearing s e ≡ true → (outcome s e).tables ≡ cleared_tables s.tables
unfolding outcome handed clearing act
clear_call s e z c = rw (zero_take (reply s e) (reply_proper s e) z) (clear_news (news e) s.feed.fresh c (time_of e) s refl)

wiped : {A : Type 0} (K : Layout A) (t : List ℕ) → L.Wiped K t (cleared_in K t)
wiped K t = (slots_cleared K.most K.width t, tail_cleared K.most K.width t, length_cleared K.most K.width t)

pub wipes_slots : L.WipesSlots
wipes_slots s e z c = rw (clear_call s e z c) (wiped books s.tables.books, wiped strips s.tables.strips)

-- both tables keep their codes
abbrev KeepsBoth : Tables → Tables → Type 0
KeepsBoth x y = L.Keeps books x.books y.books × L.Keeps strips x.strips y.strips

written_keeps : (k : Kind) (time : ℕ) (m : List ℕ) (x : Tables) → KeepsBoth x (written k time m x)
unfolding written tables_after strips_after
written_keeps (Session s) time m x = (λ j nz. refl, λ j nz. refl)
written_keeps (Market Book) time m x = (λ j nz. books_codes time m x.books j nz, λ j nz. refl)
written_keeps (Market Strip) time m x = (λ j nz. refl, λ j nz. steps.stepped_codes strips (step_of m) x.strips lawful j nz)
written_keeps (Market Other) time m x = (λ j nz. refl, λ j nz. refl)

pub keeps_slots : L.KeepsSlots
unfolding clearing on_message
keeps_slots s e h =
    by_call (KeepsBoth s.tables) s e
    (λ seq internal m x z f. written_keeps (kind m) (time_of e) m s.tables)
    (λ seq internal m x z f. absurd (true≢false (sym f ∙ subst (λ (n : News). on_message (λ seq internal m. wipes s.feed.fresh (kind m) m) n ≡ false) x (h z))))
    (λ j nz. refl, λ j nz. refl)
