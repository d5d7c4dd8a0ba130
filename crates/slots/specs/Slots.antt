-- A lent table as slots of w words (document 01, "The book table"). The width and the most slots are arguments: books and later tables share all of this. Assumes nothing.
use Rattle.std.specs.Prelude.{ℕ, zero, suc, ◌*◌, ◌/◌, min, cond, List, [], ◌∷◌, ◌++◌, length, take, drop, get_or, replicate, ltb, eqb}
use Rattle.slots.specs.declared.Slot.{Slot}
use Rattle.slots.specs.declared.Slot.TheVariants.{Held, Free, Full}

-- "slots are whole blocks .., at most 4,096", of books and of what works as they do
abbrev pub max_slots : ℕ
max_slots = 4096

-- how many slots a table of so many words has, at most so many of w words
abbrev pub slot_count : ℕ → ℕ → ℕ → ℕ
slot_count most w len = min most (len / w)

-- the first n blocks of w words
unfoldable pub blocks : ℕ → ℕ → List ℕ → List (List ℕ)
blocks w zero t = []
blocks w (suc n) t = take w t ∷ blocks w n (drop w t)

-- the slots of a table; the words behind them are in none
abbrev pub slots_of : ℕ → ℕ → List ℕ → List (List ℕ)
slots_of most w t = blocks w (slot_count most w (length t)) t

-- "word 0 the code (0 = free)"
abbrev pub code_of : List ℕ → ℕ
code_of b = get_or b 0 0

-- the lowest of the slots with the code, or how many slots there are
unfoldable pub lowest : ℕ → List (List ℕ) → ℕ
lowest c [] = 0
lowest c (b ∷ bs) = cond (eqb (code_of b) c) 0 (suc (lowest c bs))

-- "The lowest slot with the code is that code's book. A code without one takes the lowest free slot"
unfoldable pub place : ℕ → List (List ℕ) → Slot
place c bs =
    cond (ltb (lowest c bs) (length bs)) (Held (lowest c bs))
    (cond (ltb (lowest 0 bs) (length bs)) (Free (lowest 0 bs))
    Full)

-- the table with the whole block of slot k replaced by b ("Slot k starts at word 64 x k")
abbrev pub put : ℕ → ℕ → List ℕ → List ℕ → List ℕ
put w k b t = take (w * k) t ++ (b ++ drop w (drop (w * k) t))

-- the words of blocks, one after the other
unfoldable pub flat : List (List ℕ) → List ℕ
flat [] = []
flat (b ∷ bs) = b ++ flat bs

-- "Clearing zeroes all slots": the words behind them stay
unfoldable pub cleared : ℕ → ℕ → List ℕ → List ℕ
cleared most w t = replicate (w * slot_count most w (length t)) 0 ++ drop (w * slot_count most w (length t)) t
