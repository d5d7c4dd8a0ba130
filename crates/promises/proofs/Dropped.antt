-- Rows that fall off, proved: each is named as its statement in specs/Dropped, with a small letter. Assumes nothing.
use Prim.Native.Nat.{ℕ, ◌+◌, ◌-◌, ◌≤◌}
use native.Mathlib.Nat.{add_assoc}
use native.Mathlib.Omega.{arith}
use native.Mathlib.Decide.{dec_le}
use mathlib.Core.Path.{◌≡◌, refl, sym, ap, ◌∙◌, subst}
use mathlib.Core.Bool.{Bool, true, false, cond, not, ◌&&◌, ◌||◌, true≢false}
use mathlib.Core.List.{List, [], ◌∷◌, ◌++◌, append-nil, append_assoc}
use mathlib.Core.Option.{Option, none, some, map, bind}
use lib.ListN.{length, take, drop, get_or, length-append, length-take, length-drop}
use lib.Seq.{take-suc, take_all}
use lib.Dec.{T, leb, eqb}
use borrow.Author.Tests.{le-leb, lt-leb, leb-true, eq-eqb, ne_eqb, eqb-true, not-false}
use Rattle.ground.specs.Choice.{pick, all}
use Rattle.ground.proofs.Bools.{both, of_T}
use Rattle.ground.proofs.Choices.{first_may, all_at}
use Rattle.wire.specs.Codes.{security_code}
use Rattle.slots.specs.Layout as layout
use Rattle.slots.specs.Layout.{or_as_it_was, misfit}
use Rattle.slots.specs.declared.Slot.{Slot}
use Rattle.slots.specs.declared.Slot.TheVariants.{Held, Free, Full}
use Rattle.ladder.specs.Message.{depth, has_entries, entries}
use Rattle.ladder.specs.Sides.{no_row, has, row_at, moved_down, new_rows, pushed_out, fits, rows_after, fell_from, was_dropped, on_side}
use Rattle.ladder.specs.Walk.{Book, empty_book, with_bids, with_offers, on_book, walk, fell_off, dropped, book_after}
use Rattle.ladder.specs.Code.Arrays.{drops_tenth}
use Rattle.ladder.specs.Words.{bounded}
use Rattle.ladder.specs.declared.Way.{Way}
use Rattle.ladder.specs.declared.Way.TheVariants.{Bid, Offer}
use Rattle.ladder.specs.declared.Row.{Row}
use Rattle.ladder.specs.declared.Entry.{Entry}
use Rattle.ladder.proofs.Fits.{fell_is}
use Rattle.ladder.proofs.Walks.{Few, FewIn, few_on}
use Rattle.ladder.proofs.Tells.{book_of_sound}
use Rattle.books.specs.Table.{block, place_in, unsound_at, book_at, book_in, unsound, misfits}
use Rattle.feed.specs.Messages.{kind, on_market, tabled}
use Rattle.feed.specs.Events.{State, Event, time_of, News, Linked, More, Heartbeat, TooLong, Message, news, on_message}
use Rattle.feed.specs.Answers.{number, unsound_for, misfits_for, passed, line_tests, table_tests, tests, answer_to, reply}
use Rattle.feed.specs.Steps.{drops, news_drops, dropped_on, handed, outcome}
use Rattle.feed.specs.declared.Kind.{Kind}
use Rattle.feed.specs.declared.Kind.TheVariants.{Session, Market}
use Rattle.feed.specs.declared.Datum.TheVariants.{Book as Books, Strip, Other}
use Rattle.feed.specs.Answers.{Answer}
use Rattle.feed.specs.Answers.{Keep, Lose, Spoil, Skip, Take}
use Rattle.lines.specs.Scraps.{Hearing}
use Rattle.promises.specs.Runs.{after, run, trace}
use Rattle.promises.specs.Frames.{dropped_in}
use Rattle.promises.specs.Scraps.{Lined, state_on, lined_in, scrapped, scrap_events, scrap_said, View, scraps, one_piece}
use Rattle.promises.specs.Dropped as D
use Rattle.promises.specs.Dropped.{as_rows, side_for, meets_ten, tens_met, tens_of, tens_brought, dropped_by_all}
use Rattle.promises.proofs.Steps.{Fine, fine, two_passed}
use Rattle.promises.proofs.Scraps.{scrap_tells}
use Rattle.promises.proofs.Cuts.{any_scraps}
use Rattle.promises.proofs.Lines.{trace_two}

-- THE ROW
pub no_row_lost : D.NoRowLost
unfolding new_rows pushed_out has
no_row_lost p r s h = go (dec_le 11 (length x))
  where
    x : List Row
    x = moved_down p r s

    long : length x ≡ length s + 1
    long = rw (length-append (take (p - 1) s) (r ∷ drop (p - 1) s), length-take (p - 1) s, length-drop) (omega arith)

    go : Dec (11 ≤ length x) → take 10 x ++ as_rows (cond (leb 11 (length x)) (some (get_or x 10 no_row)) none) ≡ x
    go (yes t) = rw (le-leb 11 (length x) t) (sym (take-suc x 10 no_row (omega arith)) ∙ take_all 11 x (omega (arith, long)))
    go (no t) = rw (lt-leb 11 (length x) (omega arith)) (append-nil (take 10 x) ∙ take_all 10 x (omega arith))

ten_is : (n : ℕ) → n ≤ depth → leb depth n ≡ eqb n depth
ten_is n h = go (dec_le depth n)
  where
    go : Dec (depth ≤ n) → leb depth n ≡ eqb n depth
    go (yes t) = rw (le-leb depth n t, eq-eqb n depth (omega arith))
    go (no t) = rw (lt-leb depth n (omega arith), ne_eqb n depth (λ e. omega arith))

pub old_tenth : D.OldTenth
unfolding drops_tenth
old_tenth w e s few f =
    fell_is w e s f ∙ ap (λ (b : Bool). cond (eqb e.action 0 && b) (some (row_at s depth)) none) (ten_is (length s) few)

pub clear_drops_none : D.ClearDropsNone
unfolding fell_off
clear_drops_none e b a = rw (eq-eqb e.action 74 a)

pub can_be_shown : D.CanBeShown
unfolding drops_tenth was_dropped or_as_it_was
can_be_shown w e s r sound f q = go (drops_tenth e.action (length s)) refl (sym (fell_is w e s f) ∙ q)
  where
    go : (b : Bool) → drops_tenth e.action (length s) ≡ b → cond b (some (row_at s depth)) none ≡ some r → bounded r ≡ true
    go true d h =
        let full : depth ≤ length s = leb-true depth (length s) (both (eqb e.action 0) (leb depth (length s)) d).1 in
        subst (λ (x : Row). bounded x ≡ true) (ap (λ (o : Option Row). or_as_it_was o no_row) h) (all_at bounded s 9 no_row sound.words (omega arith))
    go false d h = absurd (true≢false (sym (ap was_dropped h)))

-- THE NUMBER
-- an entry that fits one side of a book
told : (w : Way) (e : Entry) (s : List Row) → length s ≤ depth → fits w e s ≡ true → was_dropped (fell_from e s) ≡ (eqb e.action 0 && eqb (length s) depth)
unfolding was_dropped
told w e s few f = ap was_dropped (old_tenth w e s few f) ∙ go (eqb e.action 0 && eqb (length s) depth)
  where
    go : (b : Bool) → was_dropped (cond b (some (row_at s depth)) none) ≡ b
    go true = refl
    go false = refl

-- an entry of any action and side that fits a book
fits_of : (w : Way) (e : Entry) (s : List Row) (make : List Row → Book) (c : Book) → map make (on_side w e s) ≡ some c → fits w e s ≡ true
unfolding on_side misfit
fits_of w e s make c h = go (fits w e s) refl h
  where
    go : (x : Bool) → fits w e s ≡ x → map make (cond x (some (rows_after e s)) none) ≡ some c → fits w e s ≡ true
    go true q h = q
    go false q h = absurd (true≢false (ap misfit h))

one_told : (time : ℕ) (e : Entry) (b c : Book) → Few b → on_book time e b ≡ some c → was_dropped (fell_off e b) ≡ meets_ten e b
unfolding on_book fell_off meets_ten side_for pick was_dropped misfit
one_told time e b c few h = by (eqb e.action 74) refl (eqb e.side 0) (eqb e.side 1) h
  where
    by : (x : Bool) → eqb e.action 74 ≡ x → (y z : Bool)
        → cond x (some empty_book) (cond y (map (with_bids b) (on_side Bid e b.bids)) (cond z (map (with_offers b) (on_side Offer e b.offers)) none)) ≡ some c
        → was_dropped (cond x none (cond y (fell_from e b.bids) (cond z (fell_from e b.offers) none)))
        ≡ (eqb e.action 0 && eqb (length (cond y b.bids (cond z b.offers []))) depth)
    by true q y z h =
        let a : e.action ≡ 74 = eqb-true e.action 74 q in
        sym (ap (λ (k : Bool). k && eqb (length (cond y b.bids (cond z b.offers []))) depth) (ne_eqb e.action 0 (λ n. omega (arith, a, n))))
    by false q true z h = told Bid e b.bids few.0 (fits_of Bid e b.bids (with_bids b) c h)
    by false q false true h = told Offer e b.offers few.1 (fits_of Offer e b.offers (with_offers b) c h)
    by false q false false h = absurd (true≢false (ap misfit h))

pub counts_tens : D.CountsTens
unfolding walk dropped tens_met or_as_it_was bind misfit
counts_tens time [] b b' few h = refl
counts_tens time (e ∷ es) b b' few h = go (on_book time e b) refl (few_on time e b few) h (counts_tens time es)
  where
    go : (o : Option Book) → on_book time e b ≡ o → FewIn o → bind o (walk time es) ≡ some b'
        → ((c c' : Book) → Few c → walk time es c ≡ some c' → dropped time es c ≡ tens_met time es c)
        → cond (was_dropped (fell_off e b)) 1 0 + dropped time es (or_as_it_was o b) ≡ cond (meets_ten e b) 1 0 + tens_met time es (or_as_it_was o b)
    go none q f h rest = absurd (true≢false (ap misfit h))
    go (some c) q f h rest = λ i. cond (one_told time e b c few q i) 1 0 + rest c b' f h i

-- OF EVERY CALL
-- the book that a message meets where it is not unsound
few_at : (p : Slot) (t : List ℕ) → unsound_at p t ≡ false → Few (book_at p t)
unfolding layout.unsound_at layout.value_at
few_at (Held k) t h = let b = book_of_sound (block k t) (not-false _ h) in (b.bids.few, b.offers.few)
few_at (Free k) t h = (omega arith, omega arith)
few_at Full t h = (omega arith, omega arith)

message_tens : (s : State) (time seq internal : ℕ) (m : List ℕ) → Fine s time seq internal m → drops (kind m) time m s.tables ≡ tens_of (kind m) time m s
unfolding drops tens_of unsound_for misfits_for unsound misfits misfit
message_tens s time seq internal m f = go (kind m) refl
  where
    met : Book
    met = book_in (security_code m) s.tables.books

    go : (k : Kind) → kind m ≡ k → drops k time m s.tables ≡ tens_of k time m s
    go (Session k) e = refl
    go (Market Books) e = by (has_entries m) refl
      where
        fit : misfit (book_after time m met) ≡ false
        fit = rw e at f.fit

        few : Few met
        few = few_at (place_in (security_code m) s.tables.books) s.tables.books (rw e at f.sound)

        walked : (o : Option Book) → walk time (entries m) met ≡ o → misfit o ≡ false → dropped time (entries m) met ≡ tens_met time (entries m) met
        walked none q h = absurd (true≢false h)
        walked (some b) q h = counts_tens time (entries m) met b few q

        by : (x : Bool) → has_entries m ≡ x → cond x (dropped time (entries m) met) 0 ≡ cond x (tens_met time (entries m) met) 0
        by true q = walked (walk time (entries m) met) refl (rw q at fit)
        by false q = refl
    go (Market Strip) e = refl
    go (Market Other) e = refl

news_tens : (s : State) (time : ℕ) (n : News) (k : ℕ) → answer_to s.feed s.tables time n ≡ Take k → news_drops time n s.tables ≡ tens_brought time n s
unfolding news_drops tens_brought
news_tens s time (Linked link) k q = refl
news_tens s time More k q = refl
news_tens s time Heartbeat k q = refl
news_tens s time TooLong k q = refl
news_tens s time (Message seq internal m) k q = message_tens s time seq internal m (fine s time seq internal m k q)

-- what is passed over brings none
passed_tens : (s : State) (time : ℕ) (n : News) → T (on_message (λ seq internal m. passed (kind m)) n) → tens_brought time n s ≡ 0
unfolding tens_brought tens_of on_message passed on_market tabled
passed_tens s time (Linked link) h = refl
passed_tens s time More h = refl
passed_tens s time Heartbeat h = refl
passed_tens s time TooLong h = refl
passed_tens s time (Message seq internal m) h = go (kind m) h
  where
    go : (k : Kind) → T (passed k) → tens_of k time m s ≡ 0
    go (Session k) h = refl
    go (Market Books) h = absurd h
    go (Market Strip) h = refl
    go (Market Other) h = refl

-- 0 is given to what is taken alone, and besides it is given 2
takes_zero : Answer → Bool
takes_zero (Keep n) = not (eqb n 0)
takes_zero (Lose n) = not (eqb n 0)
takes_zero (Spoil n) = not (eqb n 0)
takes_zero (Skip n) = not (eqb n 0)
takes_zero (Take n) = eqb n 0 || eqb n 2

take_zero : (s : State) (time : ℕ) (n : News) → T (takes_zero (answer_to s.feed s.tables time n))
unfolding takes_zero tests line_tests table_tests all
take_zero s time n = first_may takes_zero (tests s.feed s.tables time n) (Take 0) tt tt

pub number_told : D.NumberTold
unfolding outcome handed dropped_on number takes_zero
number_told s e = go (reply s e) refl (take_zero s (time_of e) (news e))
  where
    here : ℕ
    here = tens_brought (time_of e) (news e) s

    not_zero : (b : Bool) → T (not b) → 0 ≡ cond b here 0
    not_zero true t = absurd t
    not_zero false t = refl

    by : (n : ℕ) → reply s e ≡ Take n → (b : Bool) → eqb n 0 ≡ b → T (b || eqb n 2) → here ≡ cond b here 0
    by n q true z t = refl
    by n q false z t =
        let two : n ≡ 2 = eqb-true n 2 (of_T (eqb n 2) t) in
        passed_tens s (time_of e) (news e) (two_passed s (time_of e) (news e) (q ∙ ap Take two))

    go : (a : Answer) → reply s e ≡ a → T (takes_zero a) → dropped_on a (time_of e) (news e) s.tables ≡ cond (eqb (number a) 0) here 0
    go (Keep n) q t = not_zero (eqb n 0) t
    go (Lose n) q t = not_zero (eqb n 0) t
    go (Spoil n) q t = not_zero (eqb n 0) t
    go (Skip n) q t = not_zero (eqb n 0) t
    go (Take n) q t = news_tens s (time_of e) (news e) n q ∙ by n q (eqb n 0) refl t

-- SUMS
dropped_two : (es fs : List Event) (s : State) → dropped_in s (es ++ fs) ≡ dropped_in s es + dropped_in (run s es) fs
unfolding dropped_in run
dropped_two [] fs s = omega arith
dropped_two (e ∷ es) fs s =
    ap (λ (k : ℕ). (outcome s e).given.dropped + k) (dropped_two es fs (after s e))
    ∙ sym (add_assoc (outcome s e).given.dropped (dropped_in (after s e) es) (dropped_in (run (after s e) es) fs))

-- scraps one after the other: their events, the rows that these drop, and what is said
all_events : Lined → List ℕ → List (List ℕ) → ℕ → ℕ → List Event
all_events x hold [] allowed time = []
all_events x hold (s ∷ ss) allowed time =
    let y : Hearing = scrapped x hold s allowed time in
    scrap_events x hold s allowed time ++ all_events (lined_in y) y.hold ss allowed time

all_dropped : (ss : List (List ℕ)) (x : Lined) (hold : List ℕ) (allowed time : ℕ) → dropped_by_all x hold ss allowed time ≡ dropped_in (state_on x) (all_events x hold ss allowed time)
unfolding dropped_by_all all_events dropped_in
all_dropped [] x hold allowed time = refl
all_dropped (s ∷ ss) x hold allowed time =
    let y : Hearing = scrapped x hold s allowed time in
    let es : List Event = scrap_events x hold s allowed time in
    let rest : List Event = all_events (lined_in y) y.hold ss allowed time in
    let t = scrap_tells x hold s allowed time in
    (λ i. t.4 i + all_dropped ss (lined_in y) y.hold allowed time i)
    ∙ ap (λ (z : State). dropped_in (state_on x) es + dropped_in z rest) t.0
    ∙ sym (dropped_two es rest (state_on x))

all_said : (ss : List (List ℕ)) (S : List (Event × ℕ)) (x : Lined) (hold : List ℕ) (allowed time : ℕ)
    → (scraps S x hold ss allowed time).said ≡ S ++ trace (state_on x) (all_events x hold ss allowed time)
unfolding scraps all_events trace
all_said [] S x hold allowed time = sym (append-nil S)
all_said (s ∷ ss) S x hold allowed time =
    let y : Hearing = scrapped x hold s allowed time in
    let es : List Event = scrap_events x hold s allowed time in
    let rest : List Event = all_events (lined_in y) y.hold ss allowed time in
    all_said ss (S ++ scrap_said x hold s allowed time) (lined_in y) y.hold allowed time
    ∙ append_assoc S (trace (state_on x) es) (trace (state_on (lined_in y)) rest)
    ∙ ap (λ (z : State). S ++ (trace (state_on x) es ++ trace z rest)) (scrap_tells x hold s allowed time).0
    ∙ ap (λ (r : List (Event × ℕ)). S ++ r) (sym (trace_two es rest (state_on x)))

-- events come back from what was said
events_in : List (Event × ℕ) → List Event
events_in [] = []
events_in (p ∷ ps) = p.0 ∷ events_in ps

events_back : (es : List Event) (s : State) → events_in (trace s es) ≡ es
unfolding events_in trace
events_back [] s = refl
events_back (e ∷ es) s = ap (λ (r : List Event). e ∷ r) (events_back es (after s e))

events_said : (ss : List (List ℕ)) (x : Lined) (hold : List ℕ) (allowed time : ℕ) → all_events x hold ss allowed time ≡ events_in (scraps [] x hold ss allowed time).said
events_said ss x hold allowed time = sym (ap events_in (all_said ss [] x hold allowed time) ∙ events_back (all_events x hold ss allowed time) (state_on x))

pub any_scraps_drop : D.AnyScrapsDrop
any_scraps_drop x hold s ss allowed time h =
    let whole : List (List ℕ) = one_piece (s ∷ ss) ∷ [] in
    all_dropped (s ∷ ss) x hold allowed time
    ∙ ap (dropped_in (state_on x))
    (events_said (s ∷ ss) x hold allowed time ∙ ap (λ (v : View). events_in v.said) (any_scraps x hold s ss allowed time h) ∙ sym (events_said whole x hold allowed time))
    ∙ sym (all_dropped whole x hold allowed time)
