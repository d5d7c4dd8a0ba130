-- A message for a code by slots, as the code goes about it: one slot's words are lent on, and no other word can be reached. Assumes nothing.
use Rattle.std.specs.Prelude.{ℕ, Bool, true, false, cond, List, length, ltb, Some, None}
use Rattle.std.specs.declared.option.Option.{Option as MayBe}
use Rattle.std.proofs.Math.Option.{Option, none, some}
use Rattle.slots.specs.Slots.{lowest, put}
use Rattle.slots.specs.Layout.{Layout, Landed, landed, block}
use Rattle.slots.specs.declared.Slot.{Slot}
use Rattle.slots.specs.declared.Slot.TheVariants.{Held, Free, Full}

-- the lowest of the slots with the code, if there is one
abbrev pub found : ℕ → List (List ℕ) → MayBe ℕ
found c bs = cond (ltb (lowest c bs) (length bs)) (Some (lowest c bs)) None

module _ {A : Type 0} (L : Layout A) where
  -- a code's own slot has to be sound; a free slot's value starts empty
  abbrev pub ready : Bool → List ℕ → Bool
  ready own w = cond own (L.sound w) true

  abbrev pub start_of : Bool → List ℕ → A
  start_of own w = cond own (L.read w) L.empty

  -- a slot's words after a step: 16 and as they were, or 0 and all of them written
  abbrev pub settled_in : ℕ → Option A → List ℕ → Landed
  settled_in c none w = landed 16 w
  settled_in c (some a) w = landed 0 (L.words c a)

  -- the words of one slot after a message: 18 where it is not ready
  unfoldable pub slot_turn : Bool → ℕ → (A → Option A) → List ℕ → Landed
  slot_turn own c step w = cond (ready own w) (settled_in c (step (start_of own w)) w) (landed 18 w)

  -- the same in the table
  abbrev pub within : ℕ → List ℕ → Landed → Landed
  within k t x = landed x.answer (put L.width k x.words t)

  unfoldable pub place_turn : Slot → ℕ → (A → Option A) → List ℕ → Landed
  place_turn (Held k) c step t = within k t (slot_turn true c step (block L k t))
  place_turn (Free k) c step t = within k t (slot_turn false c step (block L k t))
  place_turn Full c step t = landed 17 t

  -- and of a message that takes no slot
  unfoldable pub held_turn : Slot → ℕ → (A → Option A) → List ℕ → Landed
  held_turn (Held k) c step t = within k t (slot_turn true c step (block L k t))
  held_turn (Free k) c step t = landed 0 t
  held_turn Full c step t = landed 0 t
