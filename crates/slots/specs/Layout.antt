-- A table of anything that has a code, by the layout of its slots: where a code's value is, and what a message makes of it.
-- (Document 01 says it of books, in "The book table".) Assumes nothing.
use Rattle.std.specs.Prelude.{ℕ, ◌≡◌, Bool, true, false, cond, not, ◌&&◌, List, [], ◌∷◌, ◌++◌, get_or, eqb}
use Rattle.std.proofs.Math.Option.{Option, none, some}
use Rattle.ground.specs.Choice.{one_of, first}
use Rattle.slots.specs.Slots.{slot_count, slots_of, place, put, cleared}
use Rattle.slots.specs.declared.Slot.{Slot}
use Rattle.slots.specs.declared.Slot.TheVariants.{Held, Free, Full}

-- how the slots of a table are laid out
pub record Layout (A : Type 0) : Type 0 where
  -- how many words a slot has, and how many slots a table has at most
  pub width : ℕ
  pub most : ℕ
  -- whether a block can be worked on, and the value that it then holds
  pub sound : List ℕ → Bool
  pub read : List ℕ → A
  -- the whole block of a code with a value
  pub words : ℕ → A → List ℕ
  -- the value of a code that has no slot
  pub empty : A

-- what a message asks of a table
pub record Step (A : Type 0) : Type 0 where
  -- its code, and whether a code that has no slot takes one (document 02, request 1: an emptied book's message takes none)
  pub code : ℕ
  pub takes : Bool
  -- what it makes of the code's value, and none where it does not fit
  pub makes : A → Option A

-- an answer, and the words afterwards
pub record Landed : Type 0 where
  pub answer : ℕ
  pub words : List ℕ

abbrev pub landed : ℕ → List ℕ → Landed
landed answer words = record { answer = answer; words = words }

-- 17: "code has no book and no slot is free"
unfoldable pub none_free : Slot → Bool
none_free (Held k) = false
none_free (Free k) = false
none_free Full = true

-- 16: what a message makes of a value does not fit
unfoldable pub misfit : {A : Type 0} → Option A → Bool
misfit none = true
misfit (some a) = false

-- what is made of a value, and the value itself where nothing is
unfoldable pub or_as_it_was : {A : Type 0} → Option A → A → A
or_as_it_was none a = a
or_as_it_was (some b) a = b

module _ {A : Type 0} (L : Layout A) where
  -- how many slots a table of so many words has
  abbrev pub count_in : ℕ → ℕ
  count_in len = slot_count L.most L.width len

  -- the slots of a table
  abbrev pub slots_in : List ℕ → List (List ℕ)
  slots_in t = slots_of L.most L.width t

  -- the words of slot k
  abbrev pub block : ℕ → List ℕ → List ℕ
  block k t = get_or (slots_in t) k []

  -- "Clearing zeroes all slots"
  abbrev pub cleared_in : List ℕ → List ℕ
  cleared_in t = cleared L.most L.width t

  -- where a code's value is, or would be
  abbrev pub place_in : ℕ → List ℕ → Slot
  place_in c t = place c (slots_in t)

  -- 18: "that code's book not sound"
  unfoldable pub unsound_at : Slot → List ℕ → Bool
  unsound_at (Held k) t = not (L.sound (block k t))
  unsound_at (Free k) t = false
  unsound_at Full t = false

  -- the value at a place, empty where the code has none (a free slot's other words may be anything)
  unfoldable pub value_at : Slot → List ℕ → A
  value_at (Held k) t = L.read (block k t)
  value_at (Free k) t = L.empty
  value_at Full t = L.empty

  abbrev pub value_in : ℕ → List ℕ → A
  value_in c t = value_at (place_in c t) t

  -- the table with a code's value written to its slot: "A code without one takes the lowest free slot, and the whole block is written"
  unfoldable pub written : Bool → Slot → ℕ → Option A → List ℕ → List ℕ
  written takes p c none t = t
  written takes (Held k) c (some a) t = put L.width k (L.words c a) t
  written takes (Free k) c (some a) t = cond takes (put L.width k (L.words c a) t) t
  written takes Full c (some a) t = t

  -- what a step is answered, 18, 17, 16 or 0, in that order
  unfoldable pub answer : Step A → List ℕ → ℕ
  answer q t =
      first
      ((unsound_at (place_in q.code t) t, 18)
      ∷ (q.takes && none_free (place_in q.code t), 17)
      ∷ (misfit (q.makes (value_in q.code t)), 16)
      ∷ [])
      0

  -- the table after one that is taken
  unfoldable pub stepped : Step A → List ℕ → List ℕ
  stepped q t = written q.takes (place_in q.code t) q.code (q.makes (value_in q.code t)) t

  -- the answer, and every word afterwards: only with 0 is anything written
  abbrev pub turn : Step A → List ℕ → Landed
  turn q t = landed (answer q t) (cond (eqb (answer q t) 0) (stepped q t) t)

-- the codes that have come, in their order, with one more
unfoldable pub with_code : ℕ → List ℕ → List ℕ
with_code c cs = cond (one_of c cs) cs (cs ++ (c ∷ []))

-- steps one after the other: the table after them, and one code's value with no table
unfoldable pub turns : {A : Type 0} → Layout A → List (Step A) → List ℕ → List ℕ
turns L [] t = t
turns L (q ∷ qs) t = turns L qs (turn L q t).words

-- each of them is answered 0
abbrev pub AllTaken : {A : Type 0} → Layout A → List (Step A) → List ℕ → Type 0
AllTaken L [] t = Unit {0}
AllTaken L (q ∷ qs) t = (answer L q t ≡ 0) × AllTaken L qs (turn L q t).words

unfoldable pub value_after : {A : Type 0} → ℕ → Step A → A → A
value_after c q a = cond (eqb q.code c) (or_as_it_was (q.makes a) a) a

unfoldable pub values_after : {A : Type 0} → ℕ → List (Step A) → A → A
values_after c [] a = a
values_after c (q ∷ qs) a = values_after c qs (value_after c q a)
