-- What a book message that is taken leaves: its own book whole, every other slot and book, the words behind the slots; and what a clearing
-- leaves (slots/proofs/Values, Steps, Ours, Codes, of books). Assumes nothing.
use Prim.Native.Nat.{ℕ, ◌*◌, ◌≤◌}
use mathlib.Core.Path.{◌≡◌}
use mathlib.Core.Bool.{true, false, cond}
use mathlib.Core.List.{List, []}
use mathlib.Core.Option.{some}
use lib.Dec.{T}
use lib.ListN.{length, drop}
use Rattle.wire.specs.Number.{bytes_only}
use Rattle.slots.specs.Slots.{code_of}
use Rattle.slots.specs.Layout.{Step, misfit, count_in, cleared_in, with_code, value_after}
use Rattle.slots.specs.declared.Slot.TheVariants.{Held, Free}
use Rattle.slots.proofs.Values as values
use Rattle.slots.proofs.Steps as steps
use Rattle.slots.proofs.Steps.{Modest}
use Rattle.slots.proofs.Codes as codes
use Rattle.slots.proofs.Ours.{Ours, stepped_ours}
use Rattle.wire.specs.Codes.{security_code}
use Rattle.ladder.specs.Message.{has_entries}
use Rattle.ladder.specs.Walk.{Book, empty_book, book_after}
use Rattle.ladder.specs.Words.{book_width, SoundBook}
use Rattle.ladder.proofs.Walks.{book_few}
use Rattle.ladder.proofs.Keeps.{book_sound}
use Rattle.books.specs.Table.{books, place_in, block, unsound_at, none_free, book_in, step_of, book_step, unsound, no_slot, misfits, books_after}
use Rattle.books.proofs.Lawful.{lawful}

-- every slot is sound; the slots have these codes, in their order, and the others are free
abbrev pub AllSound : List ℕ → Type 0
AllSound t = values.AllSound books t

abbrev pub Filled : List ℕ → List ℕ → Type 0
Filled t cs = codes.Filled books t cs

-- a message with no entries leaves an empty book empty, and fits every book
pub no_slot_lem : (time : ℕ) (m : List ℕ) → Modest books (step_of time m)
no_slot_lem time m e = rw (book_after, e)

pub no_misfit : (time : ℕ) (m t : List ℕ) → has_entries m ≡ false → misfits time m t ≡ false
unfolding misfits misfit
no_misfit time m t e = rw (book_after, e)

module _ (time : ℕ) (m t : List ℕ) where
  -- the message's code, what it asks of the table, and the table after it
  abbrev c : ℕ
  c = security_code m

  abbrev asks : Step Book
  asks = step_of time m

  abbrev after : List ℕ
  after = books_after time m t

  pub books_length : length after ≡ length t
  unfolding books_after
  books_length = steps.stepped_length books asks t lawful

  pub books_tail : drop (book_width * count_in books (length t)) after ≡ drop (book_width * count_in books (length t)) t
  unfolding books_after
  books_tail = steps.stepped_tail books asks t lawful

  -- every slot but the one that the code has or takes
  pub books_slots : (j : ℕ) → (place_in c t ≡ Held j → ⊥) → (place_in c t ≡ Free j → ⊥) → block j after ≡ block j t
  unfolding books_after
  books_slots j nh nf = steps.stepped_slots books asks t lawful j nh nf

  -- no slot is freed
  pub books_codes : (j : ℕ) → (code_of (block j t) ≡ 0 → ⊥) → code_of (block j after) ≡ code_of (block j t)
  unfolding books_after
  books_codes j nz = steps.stepped_codes books asks t lawful j nz

  pub books_other : (d : ℕ) → (c ≡ d → ⊥) → (d ≡ 0 → ⊥) → book_in d after ≡ book_in d t
  unfolding books_after
  books_other d ne nz = steps.stepped_other books asks t lawful d ne nz

  -- n words of which those behind the slots are zero stay so
  pub books_ours : (n : ℕ) → Ours books n t → Ours books n after
  unfolding books_after
  books_ours n o = stepped_ours books lawful n asks t o

  -- codes take the slots in the order in which they come
  pub books_filled : (cs : List ℕ) → (c ≡ 0 → ⊥) → Filled t cs → misfits time m t ≡ false
      → (has_entries m ≡ true → length (with_code c cs) ≤ count_in books (length t)) → Filled after (cond (has_entries m) (with_code c cs) cs)
  unfolding books_after misfits
  books_filled cs nz f x l = codes.stepped_filled books lawful asks t cs f nz x l

  -- every slot stays sound after a message of bytes
  pub books_sound : T (bytes_only m) → AllSound t → AllSound after
  unfolding books_after
  books_sound bytes a = steps.stepped_sound books asks t lawful (λ b b' s e. book_sound time m b b' bytes s e) a

  -- a message that is taken: its book is then what it makes of it
  module _ (s : unsound m t ≡ false) (f : no_slot m t ≡ false) (g : misfits time m t ≡ false) where
    pub books_own : book_step time m t ≡ some (book_in c after)
    unfolding books_after unsound no_slot misfits
    books_own = steps.stepped_own books asks t lawful (book_few time m) (no_slot_lem time m) (record { sound = s; room = f; fits = g })

    -- and so is every code's book, by the message alone and with no table
    pub books_each : (d : ℕ) → (d ≡ 0 → ⊥) → book_in d after ≡ value_after d asks (book_in d t)
    books_each = steps.each_value books asks t after books_own books_other

-- where every slot is sound, so is every code's book, and 18 is not given
pub book_sound_in : (c : ℕ) (t : List ℕ) → AllSound t → SoundBook (book_in c t)
book_sound_in c t a = values.well_in books lawful c t a

pub never_unsound : (c : ℕ) (t : List ℕ) → AllSound t → unsound_at (place_in c t) t ≡ false
never_unsound c t a = values.never_unsound books t a c

-- where there is room for a code among those that have come, there is a slot
pub room : (c : ℕ) (t cs : List ℕ) → Filled t cs → length (with_code c cs) ≤ count_in books (length t) → none_free (place_in c t) ≡ false
room c t cs f l = codes.room books c t cs f l

-- a cleared table: every slot is sound, and no code has a slot or a book
pub cleared_sound : (t : List ℕ) → AllSound (cleared_in books t)
cleared_sound t = values.cleared_sound books lawful t

pub none_filled : (t : List ℕ) → Filled (cleared_in books t) []
none_filled t = codes.none_filled books t

pub cleared_empty : (c : ℕ) (t : List ℕ) → (c ≡ 0 → ⊥) → book_in c (cleared_in books t) ≡ empty_book
cleared_empty c t nz = values.cleared_empty books c t nz
