-- A cleared table: every slot is zeros, the words behind the slots are as they were. Assumes nothing.
use mathlib.Core.Path.{◌≡◌, refl, sym, ap, ◌∙◌}
use mathlib.Core.List.{List, ◌∷◌, ◌++◌, append_assoc}
use Prim.Native.Nat.{ℕ, zero, suc, ◌*◌}
use native.Mathlib.Nat.{mul-suc, add_comm}
use native.Mathlib.Omega.{arith}
use lib.ListN.{length, drop, replicate, length-append, length-drop, length-replicate, replicate-append-replicate}
use lib.Seq.{drop_at}
use borrow.Author.Tests.{ne_eqb}
use Rattle.slots.specs.Slots.{slot_count, blocks, slots_of, code_of, lowest, cleared}
use Rattle.slots.proofs.Blocks.{slots_fit, blocks_cons}

-- the blocks of zeros are zeros
pub blocks_zero : (w n : ℕ) (t : List ℕ) → blocks w n (replicate (w * n) 0 ++ t) ≡ replicate n (replicate w 0)
blocks_zero w zero t = unfold blocks in refl
blocks_zero w (suc n) t =
    ap (λ (l : List ℕ). blocks w (suc n) (l ++ t))
    (ap (λ (m : ℕ). replicate m 0) (mul-suc w n ∙ add_comm (w * n) w) ∙ sym (replicate-append-replicate w (w * n) 0))
    ∙ ap (blocks w (suc n)) (append_assoc (replicate w 0) (replicate (w * n) 0) t)
    ∙ blocks_cons w n (replicate w 0) (replicate (w * n) 0 ++ t) (length-replicate w 0)
    ∙ ap (λ (l : List (List ℕ)). replicate w 0 ∷ l) (blocks_zero w n t)

-- a block of zeros has no code
pub code_zero : (w : ℕ) → code_of (replicate w 0) ≡ 0
code_zero zero = refl
code_zero (suc w) = refl

-- none of them has a code
lowest_zero : (w n c : ℕ) → (c ≡ 0 → ⊥) → lowest c (replicate n (replicate w 0)) ≡ n
unfolding lowest
lowest_zero w zero c nz = refl
lowest_zero w (suc n) c nz = rw (ne_eqb (code_of (replicate w 0)) c (λ e. nz (sym e ∙ code_zero w))) (ap suc (lowest_zero w n c nz))

module _ (most w : ℕ) (t : List ℕ) where
  -- a table keeps its length
  pub length_cleared : length (cleared most w t) ≡ length t
  unfolding cleared
  length_cleared = let f = slots_fit most w (length t) in simp (length-append, length-replicate, length-drop) (omega arith)

  -- and its number of slots
  same_count : slot_count most w (length (cleared most w t)) ≡ slot_count most w (length t)
  same_count = ap (slot_count most w) length_cleared

  -- every slot is zeros
  pub slots_cleared : slots_of most w (cleared most w t) ≡ replicate (slot_count most w (length t)) (replicate w 0)
  unfolding cleared
  slots_cleared =
      ap (λ (n : ℕ). blocks w n (cleared most w t)) same_count
      ∙ blocks_zero w (slot_count most w (length t)) (drop (w * slot_count most w (length t)) t)

  -- the words behind the slots stay
  pub tail_cleared : drop (w * slot_count most w (length t)) (cleared most w t) ≡ drop (w * slot_count most w (length t)) t
  unfolding cleared
  tail_cleared =
      let n = slot_count most w (length t) in
      drop_at (replicate (w * n) 0) (drop (w * n) t) (w * n) (length-replicate (w * n) 0)

  -- no code has a slot
  pub lowest_cleared : (c : ℕ) → (c ≡ 0 → ⊥) → lowest c (slots_of most w (cleared most w t)) ≡ slot_count most w (length t)
  lowest_cleared c nz = ap (lowest c) slots_cleared ∙ lowest_zero w (slot_count most w (length t)) c nz
