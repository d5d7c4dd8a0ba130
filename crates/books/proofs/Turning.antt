-- What the code of a book message comes to, return by return (specs/Turns, specs/Table). Assumes nothing.
use Prim.Native.Nat.{ℕ, ◌+◌, ◌-◌, ◌*◌, ◌<◌}
use native.Mathlib.Omega.{arith}
use mathlib.Core.Path.{◌≡◌, refl, sym, ap, ◌∙◌}
use mathlib.Core.Bool.{Bool, true, false, cond, not}
use mathlib.Core.List.{List, [], ◌∷◌}
use mathlib.Core.Option.{Option, none, some}
use lib.ListN.{length, take, drop, get_or}
use lib.Dec.{eqb}
use borrow.Author.Rules.{rules}
use borrow.Author.Tests.{lt-ltb, le-ltb}
use borrow.Rule.Slice.PartMut.{put_mid}
use Rattle.ground.specs.Choice.{first, all}
use Rattle.wire.specs.Number.{field}
use Rattle.slots.specs.Layout.{landed, count_in, answer, turn}
use Rattle.slots.specs.Layout as layout
use Rattle.slots.specs.Code.Turns.{ready, start_of, settled_in, slot_turn, within, place_turn, held_turn}
use Rattle.slots.proofs.Turning as slotted
use Rattle.slots.proofs.Turning.{slotting, turn_is, held_is}
use Rattle.slots.specs.declared.Slot.{Slot}
use Rattle.slots.specs.declared.Slot.TheVariants.{Held, Free, Full}
use Rattle.ground.proofs.Bools.{cond_same}
use Rattle.wire.specs.Codes.{security_code, listed_code}
use Rattle.ladder.specs.Message.{no_entries, has_entries, entries_from, entries, listed_entry, listed_book}
use Rattle.ladder.specs.Walk.{Book, empty_book, walk, book_after, dropped, dropped_by}
use Rattle.ladder.specs.Words.{book_width, book_of, sound, words_of}
use Rattle.ladder.specs.Code.Arrays as arrays
use Rattle.ladder.specs.Code.Arrays.{Sides}
use Rattle.ladder.specs.Code.Loading.{settled, rows_in}
use Rattle.ladder.specs.declared.Entry.{Entry}
use Rattle.ladder.specs.declared.Row.{Row}
use Rattle.ladder.proofs.Walks.{empty_sides}
use Rattle.ladder.proofs.Tells.{sides_padded}
use Rattle.books.specs.Table.{books, place_in, block, step_of, book_at, misfit, unsound_at, none_free, unsound, no_slot, misfits, book_answer, books_after, rows_dropped}
use Rattle.books.specs.Code.Turns.{start_rows, start_counts, empties, book_turn, slot_drops, place_drops}
use Rattle.books.proofs.Frames.{no_slot_lem}

-- a code's own slot
pub own_ready : (own b : Bool) (w : List ℕ) → own ≡ true → b ≡ sound w → b ≡ ready books own w
own_ready own b w y e = rw y e

pub own_rows : (own : Bool) (w : List ℕ) (rows : List (List Row)) → own ≡ true → rows ≡ rows_in w → rows ≡ start_rows own w
own_rows own w rows y e = rw y e

pub own_counts : (own : Bool) (w : List ℕ) → own ≡ true → get_or w 1 0 ∷ get_or w 2 0 ∷ [] ≡ start_counts own w
own_counts own w y = rw y

-- a slot that is ready
settled_in_lem : (c : ℕ) (r : Option Book) (w : List ℕ) → settled c r w ≡ settled_in books c r w
settled_in_lem c none w = refl
settled_in_lem c (some b) w = refl

module _ (own t : Bool) (w : List ℕ) (rows : List (List Row)) (counts : List ℕ)
    (e : t ≡ ready books own w) (y : t ≡ true) (r : rows ≡ start_rows own w) (k : counts ≡ start_counts own w) where
  pub start_sides : Sides rows counts
  start_sides = rw (r, k) (go own (sym e ∙ y))
    where
      go : (o : Bool) → ready books o w ≡ true → Sides (start_rows o w) (start_counts o w)
      go true q = sides_padded w q
      go false q = empty_sides

  pub ready_turn : (u : List ℕ) (c time x : ℕ) (es : List Entry) → landed x u ≡ settled c (walk time es (arrays.as_book rows counts)) w
      → landed x u ≡ slot_turn books own c (walk time es) w
  unfolding slot_turn
  ready_turn u c time x es h =
      h ∙ settled_in_lem c (walk time es (arrays.as_book rows counts)) w ∙ rw (r, k, go own, sym e ∙ y)
    where
      go : (o : Bool) → arrays.as_book (start_rows o w) (start_counts o w) ≡ start_of books o w
      go true = refl
      go false = refl

  -- how many rows its entries drop
  pub ready_drops : (d time : ℕ) (es : List Entry) → d ≡ dropped_by time es (arrays.as_book rows counts) → d ≡ slot_drops own time es w
  unfolding slot_drops
  ready_drops d time es h = h ∙ rw (r, k, go own, sym e ∙ y)
    where
      go : (o : Bool) → arrays.as_book (start_rows o w) (start_counts o w) ≡ start_of books o w
      go true = refl
      go false = refl

-- one that is not
pub unready_turn : (own r : Bool) (w : List ℕ) (c : ℕ) (step : Book → Option Book) → r ≡ ready books own w → r ≡ false → landed 18 w ≡ slot_turn books own c step w
unfolding slot_turn
unready_turn own r w c step e n = rw (sym e ∙ n)

pub unready_drops : (own r : Bool) (w : List ℕ) (time : ℕ) (es : List Entry) → r ≡ ready books own w → r ≡ false → 0 ≡ slot_drops own time es w
unfolding slot_drops
unready_drops own r w time es e n = rw (sym e ∙ n)

-- a code's own slot, emptied
pub emptied_words : (b : Bool) (w u : List ℕ) (c : ℕ) → b ≡ sound w → b ≡ true → u ≡ words_of c empty_book → landed 0 u ≡ slot_turn books true c empties w
unfolding slot_turn
emptied_words b w u c s y e = rw (sym s ∙ y, e)

-- its part of the table, lent on
pub slot_turn_lem : (own : Bool) (k : ℕ) (t u : List ℕ) (c r : ℕ) (step : Book → Option Book) → k < count_in books (length t)
    → landed r u ≡ slot_turn books own c step (take (book_width * k + book_width - book_width * k) (drop (book_width * k) t))
    → landed r (put_mid (book_width * k) (book_width * k + book_width - book_width * k) t u) ≡ within books k t (slot_turn books own c step (block k t))
slot_turn_lem = slotted.slot_turn_lem books

pub slot_drops_lem : (own : Bool) (k : ℕ) (t : List ℕ) (d time : ℕ) (es : List Entry) → k < count_in books (length t)
    → d ≡ slot_drops own time es (take (book_width * k + book_width - book_width * k) (drop (book_width * k) t)) → d ≡ slot_drops own time es (block k t)
slot_drops_lem own k t d time es h e = e ∙ ap (slot_drops own time es) (slotted.part_is books k t h)

-- by the slot that was found
module _ (c time : ℕ) (es : List Entry) (t : List ℕ) (f : Slot) (e : f ≡ place_in c t) where
  pub held_drops : (k d : ℕ) → f ≡ Held k → d ≡ slot_drops true time es (block k t) → d ≡ place_drops (place_in c t) time es t
  unfolding place_drops
  held_drops k d h q = q ∙ rw (sym e ∙ h)

  pub free_drops : (k d : ℕ) → f ≡ Free k → d ≡ slot_drops false time es (block k t) → d ≡ place_drops (place_in c t) time es t
  unfolding place_drops
  free_drops k d h q = q ∙ rw (sym e ∙ h)

  pub full_drops : f ≡ Full → 0 ≡ place_drops (place_in c t) time es t
  unfolding place_drops
  full_drops h = rw (sym e ∙ h)

drops_at : (p : Slot) (time : ℕ) (es : List Entry) (t : List ℕ)
    → place_drops p time es t ≡ cond (eqb (first ((unsound_at p t, 18) ∷ (none_free p, 17) ∷ (misfit (walk time es (book_at p t)), 16) ∷ []) 0) 0) (dropped time es (book_at p t)) 0
unfolding place_drops slot_drops first layout.unsound_at layout.none_free layout.value_at
drops_at (Held k) time es t = go (sound (block k t)) (misfit (walk time es (book_of (block k t)))) (dropped time es (book_of (block k t)))
  where
    go : (x y : Bool) (n : ℕ) → cond x (cond y 0 n) 0 ≡ cond (eqb (cond (not x) 18 (cond y 16 0)) 0) n 0
    go true true n = refl
    go true false n = refl
    go false y n = refl
drops_at (Free k) time es t = go (misfit (walk time es empty_book)) (dropped time es empty_book)
  where
    go : (y : Bool) (n : ℕ) → cond y 0 n ≡ cond (eqb (cond y 16 0) 0) n 0
    go true n = refl
    go false n = refl
drops_at Full time es t = refl

-- the same on the table
table_turn : (time : ℕ) (m t : List ℕ) → turn books (step_of time m) t ≡ book_turn time m t
unfolding book_answer books_after unsound no_slot misfits answer
table_turn time m t = refl

-- a book message is listed where its code is and all its entries are
module _ (m : List ℕ) (c : ℕ) (a : Bool) (ec : c ≡ field 4 4 m) (ea : a ≡ listed_code c) where
  pub bad_code : a ≡ false → false ≡ listed_book m
  unfolding listed_book
  bad_code n =
      let f : listed_code (field 4 4 m) ≡ false = ap listed_code (sym ec) ∙ sym ea ∙ n in
      rw f

  pub good_code : (part : List ℕ) (k : ℕ) (b : Bool) → a ≡ true → k ≡ field 11 1 m → part ≡ drop 12 m → b ≡ all listed_entry (entries_from k 0 part) → b ≡ listed_book m
  unfolding listed_book
  good_code part k b y ek ep eb = rw (← ek, ← ec, ← ep, ← ea, y) eb

-- with no entries, and with some
module _ (time : ℕ) (m t : List ℕ) (k c r : ℕ) (u : List ℕ) (ek : k ≡ field 11 1 m) (ec : c ≡ field 4 4 m) where
  -- what the message makes of a book, by whether it has entries
  abbrev makes_by : Bool → Book → Option Book
  makes_by more b = cond more (walk time (entries m) b) (some empty_book)

  pub emptied_turn : landed r u ≡ held_turn books (place_in c t) c empties t → k ≡ 0 → landed r u ≡ book_turn time m t
  emptied_turn q z =
      let none : has_entries m ≡ false = le-ltb 0 (no_entries m) (omega (arith, ek, z)) in
      let makes : book_after time m ≡ empties = ap makes_by none in
      q ∙ rw (ec, ← makes) (held_is books (step_of time m) t (no_slot_lem time m) none) ∙ table_turn time m t

  pub placed_turn : (part : List ℕ) → part ≡ drop 12 m → landed r u ≡ place_turn books (place_in c t) c (walk time (entries_from k 0 part)) t
      → (k ≡ 0 → ⊥) → landed r u ≡ book_turn time m t
  placed_turn part ep q nz =
      let more : has_entries m ≡ true = lt-ltb 0 (no_entries m) (omega (arith, ek, nz)) in
      let makes : book_after time m ≡ walk time (entries m) = ap makes_by more in
      (rw (ec, ek, ep) at q) ∙ rw (← makes) (turn_is books (step_of time m) t more) ∙ table_turn time m t

  pub emptied_drops : (d : ℕ) → d ≡ 0 → k ≡ 0 → d ≡ rows_dropped time m t
  unfolding rows_dropped
  emptied_drops d y z =
      let none : has_entries m ≡ false = le-ltb 0 (no_entries m) (omega (arith, ek, z)) in
      y ∙ rw none (sym (cond_same (eqb (book_answer time m t) 0) 0))

  pub placed_drops : (part : List ℕ) (d : ℕ) → part ≡ drop 12 m → d ≡ place_drops (place_in c t) time (entries_from k 0 part) t → (k ≡ 0 → ⊥) → d ≡ rows_dropped time m t
  unfolding rows_dropped book_answer unsound no_slot misfits
  placed_drops part d ep q nz =
      let more : has_entries m ≡ true = lt-ltb 0 (no_entries m) (omega (arith, ek, nz)) in
      (rw (ec, ek, ep) at q) ∙ drops_at (place_in (security_code m) t) time (entries m) t ∙ rw more

pub ruleset turning = (
  rules,
  slotting,
  own_ready,
  own_rows,
  own_counts,
  start_sides,
  ready_turn,
  slot_turn_lem,
  bad_code,
  good_code,
  emptied_words,
  emptied_turn,
  placed_turn,
  ready_drops,
  unready_turn,
  unready_drops,
  slot_drops_lem,
  held_drops,
  free_drops,
  full_drops,
  emptied_drops,
  placed_drops,
)
