-- A code's block written to its slot, held or free: what the table then has of this code and of every other. Assumes nothing.
use mathlib.Core.Path.{◌≡◌, sym, ◌∙◌}
use mathlib.Core.Logic.{◌⊎◌, ⊎_elim}
use mathlib.Core.List.{List, []}
use Prim.Native.Nat.{ℕ, ◌≤◌, ◌<◌}
use native.Mathlib.Omega.{arith}
use lib.ListN.{length, get_or}
use Rattle.slots.specs.Slots.{slot_count, slots_of, code_of, lowest, place, put}
use Rattle.slots.specs.declared.Slot.TheVariants.{Held, Free}
use Rattle.slots.proofs.Blocks.{length_blocks, slots_put}
use Rattle.slots.proofs.Lookup.{code_at, held_is, free_is, held_code, free_code, lowest_other, place_other, place_own}

-- k is the slot that the code holds or takes
abbrev pub Lands : ℕ → List (List ℕ) → ℕ → Type 0
Lands c bs k = (place c bs ≡ Held k) ⊎ (place c bs ≡ Free k)

-- such a slot is one of the blocks, and no block before it has the code
lands_is : (c : ℕ) (bs : List (List ℕ)) (k : ℕ) → Lands c bs k → (k < length bs) × (k ≤ lowest c bs)
lands_is c bs k =
    ⊎_elim (λ f. let i = held_is c bs k f in (i.1, omega arith)) (λ f. let i = free_is c bs k f in (i.1.1, omega arith))

-- it is no other code's
not_other : (c d : ℕ) (bs : List (List ℕ)) (k : ℕ) → (c ≡ d → ⊥) → (d ≡ 0 → ⊥) → Lands c bs k → code_at bs k ≡ d → ⊥
not_other c d bs k ne nz f e = ⊎_elim (λ f. ne (sym (held_code c bs k f) ∙ e)) (λ f. nz (sym e ∙ free_code c bs k f)) f

module _ (most w c k : ℕ) (t : List ℕ) (f : Lands c (slots_of most w t) k) where
  -- it is one of the table's slots
  pub lands_fits : k < slot_count most w (length t)
  lands_fits = rw length_blocks at (lands_is c (slots_of most w t) k f).0

  module _ (b : List ℕ) (lb : length b ≡ w) (cb : code_of b ≡ c) where
    -- the written code is found at that slot, with what was written
    pub write_own : (place c (slots_of most w (put w k b t)) ≡ Held k) × (get_or (slots_of most w (put w k b t)) k [] ≡ b)
    write_own =
        let i = lands_is c (slots_of most w t) k f in
        rw (slots_put most w k b t lands_fits lb) (place_own c (slots_of most w t) k b i.0 i.1 cb)

    module _ (d : ℕ) (ne : c ≡ d → ⊥) (nz : d ≡ 0 → ⊥) where
      -- FRAME: every other code is found where it was, or still nowhere
      pub write_lowest : lowest d (slots_of most w (put w k b t)) ≡ lowest d (slots_of most w t)
      write_lowest =
          rw (slots_put most w k b t lands_fits lb)
          (lowest_other d (slots_of most w t) k b (not_other c d (slots_of most w t) k ne nz f) (λ e. ne (sym cb ∙ e)))

      -- FRAME: every other code that has a slot keeps it, and its block
      pub write_other : (j : ℕ) → place d (slots_of most w t) ≡ Held j
          → (place d (slots_of most w (put w k b t)) ≡ Held j) × (get_or (slots_of most w (put w k b t)) j [] ≡ get_or (slots_of most w t) j [])
      write_other j g =
          rw (slots_put most w k b t lands_fits lb)
          (place_other d (slots_of most w t) k j b (not_other c d (slots_of most w t) k ne nz f) (λ e. ne (sym cb ∙ e)) g)
