-- The customer's demands, proved: each is named as its statement in specs/Demands, with a small letter. Assumes nothing.
use Prim.Native.Nat.{ℕ}
use mathlib.Core.Path.{◌≡◌, refl, sym, ap, ◌∙◌, subst}
use mathlib.Core.Bool.{Bool, true, false, cond, not}
use mathlib.Core.Logic.{◌⊎◌, inl, inr, ⊎_elim}
use mathlib.Core.List.{List, [], ◌∷◌}
use mathlib.Core.Option.{Option, some}
use lib.Dec.{T, leb, eqb}
use borrow.Author.Tests.{not-false, eqb-true, leb-true}
use Rattle.ground.specs.Choice.{one_of, first, all}
use Rattle.ground.proofs.Bools.{both, join, split, is_T}
use Rattle.ground.proofs.Choices.{first_may, first_skips}
use Rattle.slots.specs.Layout.{or_as_it_was, place_in as place_of, unsound_at}
use Rattle.slots.proofs.Steps as steps
use Rattle.slots.proofs.Values as values
use Rattle.slots.specs.declared.Slot.TheVariants.{Held}
use Rattle.wire.specs.Codes.{security_code, listed_code}
use Rattle.ladder.specs.Message.{has_entries, listed_side, listed_rank, listed_book}
use Rattle.ladder.specs.Words.{sound as sound_words}
use Rattle.books.specs.Table.{place_in, block, book_in, unsound, no_slot, misfits, books_after}
use Rattle.books.proofs.Frames.{no_misfit, books_own, books_slots, books_other, books_length, books_tail, book_sound_in}
use Rattle.books.proofs.Emptying.{emptied_held, emptied_none, looks_empty_lem}
use Rattle.ladder.proofs.Orders.{price_once}
use Rattle.ladder.specs.Walk.{Book, empty_book, book_after}
use Rattle.ladder.specs.declared.Way.TheVariants.{Bid, Offer}
use Rattle.books.specs.Reading.{read_answer, read_row}
use Rattle.books.specs.Reading.{RowRead}
use Rattle.strips.specs.Table as strip
use Rattle.strips.specs.Table.{strips, strips_after}
use Rattle.strips.specs.Words.{empty_strip}
use Rattle.strips.specs.Reading as reading
use Rattle.strips.specs.Reading.{read_strip}
use Rattle.strips.specs.declared.Strip.{Strip as StripOf}
use Rattle.strips.specs.Reading.{StripRead}
use Rattle.strips.proofs.Lawful.{lawful}
use Rattle.strips.proofs.Keeps.{step_fits, step_modest}
use Rattle.feed.specs.Messages.{kind, on_market, tabled, listed as listed_of}
use Rattle.feed.specs.Feeds.{listed_limit, new_feed, new_given}
use Rattle.feed.specs.Events.{Tables, State, Event, News, Message, time_of, on_message}
use Rattle.feed.specs.Answers.{number, arrives, lacks_need, is_more, is_too_long, is_next, line_tests, table_tests, tests, answer_to, reply, unsound_for, no_slot_for, misfits_for, passed}
use Rattle.feed.specs.Steps.{tables_after, does, taken, act, accepted, handed, outcome}
use Rattle.feed.specs.declared.Kind.{Kind}
use Rattle.feed.specs.declared.Kind.TheVariants.{Market}
use Rattle.feed.specs.declared.Datum.{Datum}
use Rattle.feed.specs.declared.Datum.TheVariants.{Book as BookMessage, Strip}
use Rattle.feed.specs.Answers.{Answer}
use Rattle.feed.specs.Answers.{Keep, Lose, Spoil, Skip, Take}
use Rattle.feed.proofs.Laws.{numbered}
use Rattle.promises.specs.Refusals.{keeping, losing, spoiling}
use Rattle.feed.specs.declared.Given.{Given}
use Rattle.feed.proofs.Following as A
use Rattle.promises.specs.Runs.{start, after, run}
use Rattle.promises.specs.Demands as D
use Rattle.promises.proofs.Refused as F
use Rattle.promises.proofs.Refused.{proper, reply_proper}
use Rattle.promises.proofs.Steps.{is_not, Fine, fine}
use Rattle.promises.proofs.Badges.{badge_green}
use Rattle.promises.proofs.Replays.{table_replayed}
use Rattle.promises.proofs.Soundness.{all_sound, book_replayed}
use Rattle.promises.proofs.Strips.{accepts, strips_sound_lem, strip_replayed}

-- DEMAND 1
pub listed : D.Listed
listed = F.answer_listed

pub new_listed : D.NewListed
unfolding new_given one_of all
new_listed limit = go (listed_limit limit)
  where
    go : (b : Bool) → T (one_of (first {A = Given} ((not b, record { answer = 19; used = 0; feed = new_feed 1000; dropped = 0 }) ∷ []) (record { answer = 0; used = 0; feed = new_feed limit; dropped = 0 })).answer (19 ∷ 0 ∷ []))
    go true = unfold first in tt
    go false = unfold first in tt

pub read_listed : D.ReadListed
unfolding read_row
read_listed code side rank t =
    split (λ (r : RowRead). T (one_of r.answer (15 ∷ 4 ∷ 18 ∷ 0 ∷ []))) (eqb (read_answer code side rank t) 0) _ _ (λ e. unfold one_of in tt) (λ e. answers)
  where
    answers : T (one_of (read_answer code side rank t) (15 ∷ 4 ∷ 18 ∷ 0 ∷ []))
    answers = unfold read_answer all one_of in first_may (λ n. one_of n (15 ∷ 4 ∷ 18 ∷ 0 ∷ [])) _ 0 tt tt

pub strip_listed : D.StripListed
unfolding read_strip
strip_listed code t =
    split (λ (r : StripRead). T (one_of r.answer (15 ∷ 4 ∷ 18 ∷ 0 ∷ []))) (eqb (reading.read_answer code t) 0) _ _ (λ e. unfold one_of in tt) (λ e. answers)
  where
    answers : T (one_of (reading.read_answer code t) (15 ∷ 4 ∷ 18 ∷ 0 ∷ []))
    answers = unfold reading.read_answer all one_of in first_may (λ n. one_of n (15 ∷ 4 ∷ 18 ∷ 0 ∷ [])) _ 0 tt tt

-- the answer is the reading's own, and 0 tells that the code's strip is sound
is_zero : ℕ → Bool
is_zero n = eqb n 0

read_zero : (code : ℕ) (t : List ℕ) → (read_strip code t).answer ≡ 0 → reading.read_answer code t ≡ 0
unfolding read_strip
read_zero code t e = go (eqb (reading.read_answer code t) 0) refl e
  where
    go : (b : Bool) → eqb (reading.read_answer code t) 0 ≡ b
        → (cond b (reading.strip_shown (strip.strip_in code t)) (reading.strip_refused (reading.read_answer code t))).answer ≡ 0 → reading.read_answer code t ≡ 0
    go true h q = eqb-true (reading.read_answer code t) 0 h
    go false h q = q

read_sound : (code : ℕ) (t : List ℕ) → reading.read_answer code t ≡ 0 → unsound_at strips (place_of strips code t) t ≡ false
unfolding reading.read_answer is_zero
read_sound code t z =
    let ts : List (Bool × ℕ) =
    (not (listed_code code), 15) ∷ (reading.no_strip (place_of strips code t), 4) ∷ (unsound_at strips (place_of strips code t) t, 18) ∷ [] in
    first_skips is_zero (λ n. eqb n 18) ts 0 (subst (λ (n : ℕ). T (is_zero n)) (sym z) tt) tt

pub strip_shown : D.StripShown
unfolding read_strip
strip_shown code t e =
    let z = read_zero code t e in
    (rw z, (values.value_well strips lawful (place_of strips code t) t (read_sound code t z)).1)

-- a list of rows tells what the first that passes says, and nothing else
tells : (ts : List (Bool × Answer)) (n : ℕ) → number (first ts (Take 0)) ≡ n → D.Tells ts n
unfolding first number
tells [] n e = sym e
tells (t ∷ ts) n e = go t.0 refl e (tells ts n)
  where
    go : (b : Bool) → t.0 ≡ b → number (cond b t.1 (first ts (Take 0))) ≡ n → (number (first ts (Take 0)) ≡ n → D.Tells ts n)
        → ((t.0 ≡ true) × (n ≡ number t.1)) ⊎ ((t.0 ≡ false) × D.Tells ts n)
    go true q e r = inl (q, sym e)
    go false q e r = inr (q, r e)

told : (ts : List (Bool × Answer)) (n : ℕ) → D.Tells ts n → number (first ts (Take 0)) ≡ n
unfolding first number
told [] n e = sym e
told (t ∷ ts) n h = ⊎_elim (λ a. rw a.0 (sym a.1)) (λ a. rw a.0 (told ts n a.1)) h

pub exactly : D.Exactly
unfolding outcome handed
exactly s e n = (tells (D.rows_for s e) n, told (D.rows_for s e) n)

pub refused : D.Refused
refused = F.refused

pub behind : D.Behind
behind = A.pieces

-- DEMAND 2
is_accepted : Answer → Bool
is_accepted a = accepted (number a)

next_is_lem : (s : State) (time seq internal : ℕ) (m : List ℕ) → accepted (number (answer_to s.feed s.tables time (Message seq internal m))) ≡ true → is_next s.feed seq ≡ true
unfolding is_accepted tests line_tests table_tests on_message number
next_is_lem s time seq internal m h =
    not-false (is_next s.feed seq) (first_skips is_accepted (numbered 13) (tests s.feed s.tables time (Message seq internal m)) (Take 0) (is_T _ h) tt)

pub next : D.Next
unfolding outcome handed is_next
next s e seq internal m b h =
    let q = both (eqb seq s.feed.next) (leb seq 4294967295) (next_is_lem s (time_of e) seq internal m (rw b at h)) in
    (eqb-true seq s.feed.next q.0, leb-true seq 4294967295 q.1)

-- an answer of 0 is Taken
pub zero_take : (a : Answer) → T (proper a) → number a ≡ 0 → a ≡ Take 0
unfolding proper number one_of
zero_take (Keep n) p e = absurd (subst (λ (k : ℕ). T (one_of k keeping)) e p)
zero_take (Lose n) p e = absurd (subst (λ (k : ℕ). T (one_of k losing)) e p)
zero_take (Spoil n) p e = absurd (subst (λ (k : ℕ). T (one_of k spoiling)) e p)
zero_take (Skip n) p e = absurd (subst (λ (k : ℕ). T (one_of k (1 ∷ []))) e p)
zero_take (Take n) p e = ap Take e

module _ (d : Datum) (s : State) (e : Event) (m : List ℕ) (t : D.TakenAs d s e m) where
  reply_zero : reply s e ≡ Take 0
  unfolding outcome handed
  reply_zero = zero_take (reply s e) (reply_proper s e) t.zero

  known : Fine s (time_of e) t.seq t.internal m
  known = fine s (time_of e) t.seq t.internal m 0 (subst (λ (n : News). answer_to s.feed s.tables (time_of e) n ≡ Take 0) t.brings reply_zero)

  tables_after_lem : (after s e).tables ≡ tables_after d (time_of e) m s.tables
  unfolding after outcome handed act taken does
  tables_after_lem = rw (reply_zero, t.brings, t.of)

  sound_for : unsound_for (Market d) m s.tables ≡ false
  sound_for = rw t.of at known.sound

  room_for : no_slot_for (Market d) m s.tables ≡ false
  room_for = rw t.of at known.room

  fit_for : misfits_for (Market d) (time_of e) m s.tables ≡ false
  fit_for = rw t.of at known.fit

module _ (s : State) (e : Event) (m : List ℕ) (t : D.Taken s e m) where
  table_after : (after s e).tables.books ≡ books_after (time_of e) m s.tables.books
  unfolding tables_after
  table_after = ap (λ (x : Tables). x.books) (tables_after_lem BookMessage s e m t)

  strips_kept : (after s e).tables.strips ≡ s.tables.strips
  unfolding tables_after
  strips_kept = ap (λ (x : Tables). x.strips) (tables_after_lem BookMessage s e m t)

  code_listed : listed_book m ≡ true
  code_listed = unfold listed_of in (rw t.of at (known BookMessage s e m t).fields)

  sound_known : unsound m s.tables.books ≡ false
  unfolding unsound_for
  sound_known = sound_for BookMessage s e m t

  held_sound : (k : ℕ) → place_in (security_code m) s.tables.books ≡ Held k → sound_words (block k s.tables.books) ≡ true
  unfolding unsound unsound_at
  held_sound k h = not-false (sound_words (block k s.tables.books)) (rw h at sound_known)

  room_known : no_slot m s.tables.books ≡ false
  unfolding no_slot_for
  room_known = room_for BookMessage s e m t

  fit_known : misfits (time_of e) m s.tables.books ≡ false
  unfolding misfits_for
  fit_known = fit_for BookMessage s e m t

pub whole : D.Whole
whole s e m t = rw (table_after s e m t) (books_own (time_of e) m s.tables.books (sound_known s e m t) (room_known s e m t) (fit_known s e m t))

pub others : D.Others
others s e m t = (
  λ j h f. rw (table_after s e m t) (books_slots (time_of e) m s.tables.books j h f),
  λ c n z. rw (table_after s e m t) (books_other (time_of e) m s.tables.books c n z),
  rw (table_after s e m t) (books_length (time_of e) m s.tables.books),
  rw (table_after s e m t) (books_tail (time_of e) m s.tables.books),
  strips_kept s e m t,
)

-- strip messages
module _ (s : State) (e : Event) (m : List ℕ) (t : D.TakenStrip s e m) where
  strips_are_lem : (after s e).tables.strips ≡ strips_after m s.tables.strips
  unfolding tables_after
  strips_are_lem = ap (λ (x : Tables). x.strips) (tables_after_lem Strip s e m t)

  books_kept : (after s e).tables.books ≡ s.tables.books
  unfolding tables_after
  books_kept = ap (λ (x : Tables). x.books) (tables_after_lem Strip s e m t)

  strip_accepts : steps.Accepts strips (strip.step_of m) s.tables.strips
  unfolding unsound_for no_slot_for
  strip_accepts = accepts m s.tables.strips (sound_for Strip s e m t) (room_for Strip s e m t)

pub strip_whole : D.StripWhole
unfolding strips_after or_as_it_was
strip_whole s e m t =
    let own = steps.stepped_own strips (strip.step_of m) s.tables.strips lawful (step_fits m) (step_modest m) (strip_accepts s e m t) in
    rw (strips_are_lem s e m t) (ap (λ (r : Option StripOf). or_as_it_was r empty_strip) (sym own))

pub strip_others : D.StripOthers
unfolding strips_after
strip_others s e m t =
    let q = strip.step_of m in
    let u : List ℕ = s.tables.strips in (
      λ j h f. rw (strips_are_lem s e m t) (steps.stepped_slots strips q u lawful j h f),
      λ c n z. rw (strips_are_lem s e m t) (steps.stepped_other strips q u lawful c n z),
      rw (strips_are_lem s e m t) (steps.stepped_length strips q u lawful),
      rw (strips_are_lem s e m t) (steps.stepped_tail strips q u lawful),
      books_kept s e m t,
    )

pub strip_fits : D.StripFits
unfolding outcome handed tests line_tests table_tests all on_message arrives lacks_need is_too_long is_more number
strip_fits s e seq internal m b k =
    let ts : List (Bool × Answer) = tests s.feed s.tables (time_of e) (Message seq internal m) in
    let fit : misfits_for (kind m) (time_of e) m s.tables ≡ false = unfold misfits_for in rw k in
    let goes : passed (kind m) ≡ false = unfold passed on_market tabled in rw k in (
      λ q. subst (λ (k : ℕ). T (not (eqb k 16))) q (rw b (first_may (is_not 16) ts (Take 0) (rw fit tt) tt)),
      λ q. subst (λ (k : ℕ). T (not (eqb k 2))) q (rw b (first_may (is_not 2) ts (Take 0) (rw goes tt) tt)),
    )

-- a message with no entries
pub emptied : D.Emptied
unfolding or_as_it_was
emptied s e m t none =
    let own : some empty_book ≡ some (book_in (security_code m) (D.behind s e)) = rw (book_after, none) at (whole s e m t) in (
      ap (λ (r : Option Book). or_as_it_was r empty_book) (sym own),
      λ k h. (held_sound s e m t k h, table_after s e m t ∙ emptied_held (time_of e) m s.tables.books none k h),
      λ n. table_after s e m t ∙ emptied_none (time_of e) m s.tables.books none n,
    )

pub looks_empty : D.LooksEmpty
unfolding listed_book
looks_empty s e m t none side rank a b =
    let code = (both (listed_code (security_code m)) _ (code_listed s e m t)).0 in
    ap (read_row (security_code m) side rank) (table_after s e m t)
    ∙ looks_empty_lem (time_of e) m s.tables.books none side rank (join _ (listed_rank rank) (join (listed_code (security_code m)) (listed_side side) code a) b)

empty_slot : (k : Kind) (m : List ℕ) (x : Tables) → k ≡ Market BookMessage → has_entries m ≡ false → no_slot_for k m x ≡ false
unfolding no_slot_for no_slot
empty_slot k m x e none = rw (e, none)

empty_fit : (k : Kind) (time : ℕ) (m : List ℕ) (x : Tables) → k ≡ Market BookMessage → has_entries m ≡ false → misfits_for k time m x ≡ false
unfolding misfits_for
empty_fit k time m x e none = rw e (no_misfit time m x.books none)

pub empty_fits : D.EmptyFits
unfolding outcome handed tests line_tests table_tests all on_message arrives lacks_need is_too_long is_more number
empty_fits s e seq internal m b k none =
    let ts : List (Bool × Answer) = tests s.feed s.tables (time_of e) (Message seq internal m) in
    let room : no_slot_for (kind m) m s.tables ≡ false = empty_slot (kind m) m s.tables k none in
    let fit : misfits_for (kind m) (time_of e) m s.tables ≡ false = empty_fit (kind m) (time_of e) m s.tables k none in (
      λ q. subst (λ (k : ℕ). T (not (eqb k 17))) q (rw b (first_may (is_not 17) ts (Take 0) (rw room tt) tt)),
      λ q. subst (λ (k : ℕ). T (not (eqb k 16))) q (rw b (first_may (is_not 16) ts (Take 0) (rw fit tt) tt)),
    )

-- DEMAND 3
pub replayed : D.Replayed
replayed = table_replayed

pub book_by_book : D.BookByBook
book_by_book = book_replayed

pub strip_by_strip : D.StripByStrip
strip_by_strip = strip_replayed

pub sound : D.Sound
sound limit n es h =
    let a = all_sound limit n es h in
    (a, λ c. book_sound_in c (run (start limit n) es).tables.books a)

pub strips_sound : D.StripsSound
strips_sound limit n es =
    let a = strips_sound_lem limit n es in
    (a, λ c. (values.well_in strips lawful c (run (start limit n) es).tables.strips a).1)

pub once : D.Once
once limit n es h c =
    let b = (sound limit n es h).1 c in
    let book : Book = book_in c (run (start limit n) es).tables.books in (
      λ i j ne x y. price_once Bid book.bids i j b.bids.best x y ne,
      λ i j ne x y. price_once Offer book.offers i j b.offers.best x y ne,
    )

pub green : D.Green
green = badge_green
