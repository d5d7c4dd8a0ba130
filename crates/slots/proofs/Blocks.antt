-- A table of words as a list of blocks, over every width w, and a block put in place of another. Assumes nothing.
use mathlib.Core.Path.{◌≡◌, refl, sym, ap, ◌∙◌}
use mathlib.Core.List.{List, [], ◌∷◌, ◌++◌, append_assoc}
use Prim.Native.Nat.{ℕ, zero, suc, ◌+◌, ◌*◌, ◌/◌, ◌≤◌, ◌<◌}
use native.Mathlib.Nat.{zero-add, add-zero, add_comm, suc-add, mul-zero, mul-suc, mul-le-mul_left, mul-div-le, le_trans, min-le_right, le_of_suc-le-suc, not-suc-le-zero}
use native.Mathlib.Omega.{arith}
use lib.ListN.{length, take, drop, get_or, set, length-append, length-take, length-drop, take-append-drop}
use lib.Seq.{drop-drop, take_at, drop_at, length-take-le, take-add, get_or-take, get_or-drop, set_comm}
use Rattle.slots.specs.Slots.{slot_count, blocks, slots_of, code_of, put, flat}

-- the slots lie within the table
pub slots_fit : (most w len : ℕ) → w * slot_count most w len ≤ len
slots_fit most w len = le_trans (mul-le-mul_left w (min-le_right most (len / w))) (mul-div-le len w)

-- so slot k ends within it
pub slot_fits : (w n k len : ℕ) → k < n → w * n ≤ len → w * k + w ≤ len
slot_fits w n k len h f = le_trans (rw (← mul-suc) (mul-le-mul_left w h)) f

module _ (w : ℕ) where
  -- past one block more
  skip : (n : ℕ) (t : List ℕ) → drop (w * suc n) t ≡ drop (w * n) (drop w t)
  skip n t = ap (λ (m : ℕ). drop m t) (mul-suc w n ∙ add_comm (w * n) w) ∙ sym (drop-drop (w * n) w t)

  -- behind the first block there is room for the others
  rest : (n : ℕ) (t : List ℕ) → w * suc n ≤ length t → w * n ≤ length (drop w t)
  rest n t f = let e : w * suc n ≡ w * n + w = mul-suc w n in simp length-drop (omega arith)

  -- the first block is whole
  first : (n : ℕ) (t : List ℕ) → w * suc n ≤ length t → length (take w t) ≡ w
  first n t f = let e : w * suc n ≡ w * n + w = mul-suc w n in length-take-le w t (omega arith)

  -- there are n blocks
  pub length_blocks : (n : ℕ) (t : List ℕ) → length (blocks w n t) ≡ n
  unfolding blocks
  length_blocks zero t = refl
  length_blocks (suc n) t = ap suc (length_blocks n (drop w t))

  -- block k is the w words from w * k on
  pub block_at : (n k : ℕ) (t : List ℕ) → k < n → get_or (blocks w n t) k [] ≡ take w (drop (w * k) t)
  unfolding blocks
  block_at zero k t h = absurd (not-suc-le-zero h)
  block_at (suc n) zero t h = rw mul-zero
  block_at (suc n) (suc k) t h = block_at n k (drop w t) (le_of_suc-le-suc h) ∙ ap (take w) (sym (skip k t))

  -- its code is the word at w * k
  pub code_at_lem : (n k : ℕ) (t : List ℕ) → 0 < w → k < n → code_of (get_or (blocks w n t) k []) ≡ get_or t (w * k) 0
  code_at_lem n k t p h = rw (block_at n k t h, get_or-take, get_or-drop, add-zero)

  -- one block in front
  pub blocks_cons : (n : ℕ) (b t : List ℕ) → length b ≡ w → blocks w (suc n) (b ++ t) ≡ b ∷ blocks w n t
  unfolding blocks
  blocks_cons n b t e = λ i. take_at b t w e i ∷ blocks w n (drop_at b t w e i)

  -- the words are the blocks one after the other, and what follows them
  pub join : (n : ℕ) (t : List ℕ) → flat (blocks w n t) ++ drop (w * n) t ≡ t
  unfolding blocks flat
  join zero t = rw mul-zero
  join (suc n) t =
      append_assoc (take w t) (flat (blocks w n (drop w t))) (drop (w * suc n) t)
      ∙ ap (λ (l : List ℕ). take w t ++ (flat (blocks w n (drop w t)) ++ l)) (skip n t)
      ∙ ap (λ (l : List ℕ). take w t ++ l) (join n (drop w t)) ∙ take-append-drop w t

  -- two tables with the same blocks and the same words behind them are the same
  pub table_ext : (n : ℕ) (t u : List ℕ) → blocks w n t ≡ blocks w n u → drop (w * n) t ≡ drop (w * n) u → t ≡ u
  table_ext n t u p q = sym (join n t) ∙ (λ i. flat (p i) ++ q i) ∙ join n u

  -- a block put first
  put_zero : (b t : List ℕ) → put w zero b t ≡ b ++ drop w t
  put_zero b t = rw mul-zero

  -- a block put behind the first
  put_suc : (k : ℕ) (b t : List ℕ) → put w (suc k) b t ≡ take w t ++ put w k b (drop w t)
  put_suc k b t =
      (λ i. (ap (λ (m : ℕ). take m t) (mul-suc w k ∙ add_comm (w * k) w) ∙ take-add w (w * k) t) i ++ (b ++ drop w (skip k t i)))
      ∙ append_assoc (take w t) (take (w * k) (drop w t)) (b ++ drop w (drop (w * k) (drop w t)))

  -- a table keeps its length
  pub length_put : (n k : ℕ) (b t : List ℕ) → k < n → w * n ≤ length t → length b ≡ w → length (put w k b t) ≡ length t
  length_put n k b t h f e = let g : w * k + w ≤ length t = slot_fits w n k (length t) h f in simp (length-append, length-take, length-drop) (omega arith)

  -- block k alone is another
  pub blocks_put : (n k : ℕ) (b t : List ℕ) → k < n → w * n ≤ length t → length b ≡ w → blocks w n (put w k b t) ≡ set (blocks w n t) k b
  unfolding blocks
  blocks_put zero k b t h f e = absurd (not-suc-le-zero h)
  blocks_put (suc n) zero b t h f e = ap (blocks w (suc n)) (put_zero b t) ∙ blocks_cons n b (drop w t) e
  blocks_put (suc n) (suc k) b t h f e =
      ap (blocks w (suc n)) (put_suc k b t) ∙ blocks_cons n (take w t) (put w k b (drop w t)) (first n t f)
      ∙ ap (λ (l : List (List ℕ)). take w t ∷ l) (blocks_put n k b (drop w t) (le_of_suc-le-suc h) (rest n t f) e)

  -- the words behind the blocks stay
  pub tail_put : (n k : ℕ) (b t : List ℕ) → k < n → w * n ≤ length t → length b ≡ w → drop (w * n) (put w k b t) ≡ drop (w * n) t
  tail_put zero k b t h f e = absurd (not-suc-le-zero h)
  tail_put (suc n) zero b t h f e =
      skip n (put w zero b t) ∙ ap (λ (l : List ℕ). drop (w * n) (drop w l)) (put_zero b t)
      ∙ ap (drop (w * n)) (drop_at b (drop w t) w e) ∙ sym (skip n t)
  tail_put (suc n) (suc k) b t h f e =
      skip n (put w (suc k) b t) ∙ ap (λ (l : List ℕ). drop (w * n) (drop w l)) (put_suc k b t)
      ∙ ap (drop (w * n)) (drop_at (take w t) (put w k b (drop w t)) w (first n t f))
      ∙ tail_put n k b (drop w t) (le_of_suc-le-suc h) (rest n t f) e ∙ sym (skip n t)

  -- blocks put at two places may change places
  pub put_comm : (n j k : ℕ) (a b t : List ℕ) → j < n → k < n → (j ≡ k → ⊥) → w * n ≤ length t → length a ≡ w → length b ≡ w
      → put w k b (put w j a t) ≡ put w j a (put w k b t)
  put_comm n j k a b t hj hk ne f ea eb =
      let fa : w * n ≤ length (put w j a t) = rw (length_put n j a t hj f ea) f in
      let fb : w * n ≤ length (put w k b t) = rw (length_put n k b t hk f eb) f in
      table_ext n (put w k b (put w j a t)) (put w j a (put w k b t))
      (blocks_put n k b (put w j a t) hk fa eb ∙ ap (λ (l : List (List ℕ)). set l k b) (blocks_put n j a t hj f ea)
      ∙ set_comm (blocks w n t) j k a b ne
      ∙ sym (blocks_put n j a (put w k b t) hj fb ea ∙ ap (λ (l : List (List ℕ)). set l j a) (blocks_put n k b t hk f eb)))
      (tail_put n k b (put w j a t) hk fa eb ∙ tail_put n j a t hj f ea ∙ sym (tail_put n j a (put w k b t) hj fb ea ∙ tail_put n k b t hk f eb))

  -- every block has w words
  abbrev pub Wide : List (List ℕ) → Type 0
  Wide [] = Unit {0}
  Wide (b ∷ bs) = (length b ≡ w) × Wide bs

  -- the blocks of a table do
  pub wide_blocks : (n : ℕ) (t : List ℕ) → w * n ≤ length t → Wide (blocks w n t)
  unfolding blocks
  wide_blocks zero t h = tt
  wide_blocks (suc n) t h = (first n t h, wide_blocks n (drop w t) (rest n t h))

  -- such blocks in front of words are their first blocks
  pub blocks_join : (m : ℕ) (bs : List (List ℕ)) (t : List ℕ) → Wide bs → blocks w (length bs + m) (flat bs ++ t) ≡ bs ++ blocks w m t
  unfolding flat
  blocks_join m [] t p = ap (λ (n : ℕ). blocks w n t) (zero-add m)
  blocks_join m (b ∷ bs) t p =
      (λ i. blocks w (suc-add (length bs) m i) (append_assoc b (flat bs) t i))
      ∙ blocks_cons (length bs + m) b (flat bs ++ t) p.0
      ∙ ap (λ (l : List (List ℕ)). b ∷ l) (blocks_join m bs t p.1)

module _ (most w : ℕ) where
  -- there are as many slots as blocks, and no more than `most`
  pub length_slots : (t : List ℕ) → length (slots_of most w t) ≡ slot_count most w (length t)
  length_slots t = length_blocks w (slot_count most w (length t)) t

  -- a slot has w words
  pub length_slot : (k : ℕ) (t : List ℕ) → k < slot_count most w (length t) → length (get_or (slots_of most w t) k []) ≡ w
  length_slot k t h =
      let f : w * k + w ≤ length t = slot_fits w (slot_count most w (length t)) k (length t) h (slots_fit most w (length t)) in
      ap length (block_at w (slot_count most w (length t)) k t h) ∙ length-take-le w (drop (w * k) t) (rw length-drop (omega arith))

  -- a slot written with its own words stays
  pub put_same : (k : ℕ) (t : List ℕ) → k < slot_count most w (length t) → put w k (get_or (slots_of most w t) k []) t ≡ t
  put_same k t h = rw (block_at w (slot_count most w (length t)) k t h, take-append-drop w (drop (w * k) t), take-append-drop (w * k) t)

  -- a block put in one of the slots
  module _ (k : ℕ) (b t : List ℕ) (h : k < slot_count most w (length t)) (e : length b ≡ w) where
    -- a table keeps its length
    pub same_length : length (put w k b t) ≡ length t
    same_length = length_put w (slot_count most w (length t)) k b t h (slots_fit most w (length t)) e

    -- slot k alone is another
    pub slots_put : slots_of most w (put w k b t) ≡ set (slots_of most w t) k b
    slots_put =
        ap (λ (l : ℕ). blocks w (slot_count most w l) (put w k b t)) same_length
        ∙ blocks_put w (slot_count most w (length t)) k b t h (slots_fit most w (length t)) e

    -- the words behind the slots stay
    pub same_tail : drop (w * slot_count most w (length t)) (put w k b t) ≡ drop (w * slot_count most w (length t)) t
    same_tail = tail_put w (slot_count most w (length t)) k b t h (slots_fit most w (length t)) e

  -- blocks put in two of the slots may change places
  pub slots_comm : (j k : ℕ) (a b t : List ℕ) → j < slot_count most w (length t) → k < slot_count most w (length t) → (j ≡ k → ⊥)
      → length a ≡ w → length b ≡ w → put w k b (put w j a t) ≡ put w j a (put w k b t)
  slots_comm j k a b t hj hk ne = put_comm w (slot_count most w (length t)) j k a b t hj hk ne (slots_fit most w (length t))
