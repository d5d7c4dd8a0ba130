-- What a search of the blocks finds, and what a block set at one place leaves of it. Assumes nothing.
use mathlib.Core.Path.{◌≡◌, refl, sym, ap, ◌∙◌}
use mathlib.Core.Logic.{◌⊎◌, inl, inr, ⊎_elim}
use mathlib.Core.Bool.{Bool, true, false, cond}
use mathlib.Core.List.{List, [], ◌∷◌}
use Prim.Native.Nat.{ℕ, zero, suc, ◌*◌, ◌≤◌, ◌<◌, zero-le, suc-le-suc}
use native.Mathlib.Nat.{le_of_suc-le-suc, not-suc-le-zero}
use native.Mathlib.Omega.{arith}
use lib.ListN.{length, get_or, set, length-set}
use lib.Dec.{eqb, ltb}
use lib.Seq.{get_or-set_same, get_or-set_other}
use borrow.Author.Tests.{eqb-true, eqb-false, eq-eqb, ne_eqb, lt-ltb, le-ltb, ltb-true, ltb-false}
use Rattle.slots.specs.Slots.{blocks, code_of, lowest, place}
use Rattle.slots.specs.declared.Slot.TheVariants.{Held, Free, Full}
use Rattle.slots.proofs.Blocks.{length_blocks, code_at_lem}

-- the code of block k
abbrev pub code_at : List (List ℕ) → ℕ → ℕ
code_at bs k = code_of (get_or bs k [])

-- k is the answer where no block before it has the code, and it has the code or is the end
pub lowest_is : (c : ℕ) (bs : List (List ℕ)) (k : ℕ) → k ≤ length bs → ((j : ℕ) → j < k → code_at bs j ≡ c → ⊥)
    → (k < length bs → code_at bs k ≡ c) → lowest c bs ≡ k
unfolding lowest
lowest_is c [] zero h p q = refl
lowest_is c [] (suc k) h p q = absurd (not-suc-le-zero h)
lowest_is c (b ∷ bs) zero h p q = rw (eq-eqb (code_of b) c (q (suc-le-suc zero-le)))
lowest_is c (b ∷ bs) (suc k) h p q =
    rw (ne_eqb (code_of b) c (p 0 (suc-le-suc zero-le)))
    (ap suc (lowest_is c bs k (le_of_suc-le-suc h) (λ j l. p (suc j) (suc-le-suc l)) (λ l. q (suc-le-suc l))))

-- the same said of the words of a table
pub lowest_words : (w n c : ℕ) (t : List ℕ) (k : ℕ) → 0 < w → k ≤ n → ((j : ℕ) → j < k → get_or t (w * j) 0 ≡ c → ⊥)
    → (k < n → get_or t (w * k) 0 ≡ c) → lowest c (blocks w n t) ≡ k
lowest_words w n c t k p h none here =
    lowest_is c (blocks w n t) k (rw length_blocks h)
    (λ j l e. none j l (sym (code_at_lem w n j t p (omega arith)) ∙ e))
    (λ l. let m : k < n = rw length_blocks at l in code_at_lem w n k t p m ∙ here m)

-- the answer is at most the number of blocks
pub lowest_le : (c : ℕ) (bs : List (List ℕ)) → lowest c bs ≤ length bs
unfolding lowest
lowest_le c [] = zero-le
lowest_le c (b ∷ bs) = go (eqb (code_of b) c) (lowest_le c bs)
  where
    go : (t : Bool) → lowest c bs ≤ length bs → cond t 0 (suc (lowest c bs)) ≤ suc (length bs)
    go true h = zero-le
    go false h = suc-le-suc h

-- a block that is found has the code
pub lowest_hit : (c : ℕ) (bs : List (List ℕ)) → lowest c bs < length bs → code_at bs (lowest c bs) ≡ c
unfolding lowest
lowest_hit c [] h = absurd (not-suc-le-zero h)
lowest_hit c (b ∷ bs) h = go (eqb (code_of b) c) refl (lowest_hit c bs) h
  where
    go : (t : Bool) → eqb (code_of b) c ≡ t → (lowest c bs < length bs → code_at bs (lowest c bs) ≡ c)
        → cond t 0 (suc (lowest c bs)) < suc (length bs) → code_at (b ∷ bs) (cond t 0 (suc (lowest c bs))) ≡ c
    go true e f l = eqb-true (code_of b) c e
    go false e f l = f (le_of_suc-le-suc l)

-- no block before the answer has the code
pub lowest_before : (c : ℕ) (bs : List (List ℕ)) (j : ℕ) → j < lowest c bs → code_at bs j ≡ c → ⊥
unfolding lowest
lowest_before c [] j h p = not-suc-le-zero h
lowest_before c (b ∷ bs) j h p = go (eqb (code_of b) c) refl (lowest_before c bs) j h p
  where
    go : (t : Bool) → eqb (code_of b) c ≡ t → ((j : ℕ) → j < lowest c bs → code_at bs j ≡ c → ⊥)
        → (j : ℕ) → j < cond t 0 (suc (lowest c bs)) → code_at (b ∷ bs) j ≡ c → ⊥
    go true e f j l p = not-suc-le-zero l
    go false e f zero l p = eqb-false (code_of b) c e p
    go false e f (suc j) l p = f j (le_of_suc-le-suc l) p

-- a block set where the test of the code gives what it gave
keep : (c : ℕ) (bs : List (List ℕ)) (k : ℕ) (b : List ℕ) → eqb (code_of b) c ≡ eqb (code_at bs k) c → lowest c (set bs k b) ≡ lowest c bs
unfolding lowest
keep c [] k b e = refl
keep c (x ∷ bs) zero b e = ap (λ (t : Bool). cond t 0 (suc (lowest c bs))) e
keep c (x ∷ bs) (suc k) b e = ap (λ (n : ℕ). cond (eqb (code_of x) c) 0 (suc n)) (keep c bs k b e)

-- FRAME: a block set over one of the same code leaves where each code is found
pub lowest_same : (c : ℕ) (bs : List (List ℕ)) (k : ℕ) (b : List ℕ) → code_of b ≡ code_at bs k → lowest c (set bs k b) ≡ lowest c bs
lowest_same c bs k b e = keep c bs k b (ap (λ (x : ℕ). eqb x c) e)

-- FRAME: so does a block set where neither it nor the one before has the code
pub lowest_other : (c : ℕ) (bs : List (List ℕ)) (k : ℕ) (b : List ℕ) → (code_at bs k ≡ c → ⊥) → (code_of b ≡ c → ⊥)
    → lowest c (set bs k b) ≡ lowest c bs
lowest_other c bs k b p q = keep c bs k b (ne_eqb (code_of b) c q ∙ sym (ne_eqb (code_at bs k) c p))

-- a code that has a block has the lowest
pub place_held : (c : ℕ) (bs : List (List ℕ)) → lowest c bs < length bs → place c bs ≡ Held (lowest c bs)
unfolding place
place_held c bs h = rw (lt-ltb _ _ h)

-- a code that has none belongs in the lowest free block
pub place_free : (c : ℕ) (bs : List (List ℕ)) → length bs ≤ lowest c bs → lowest 0 bs < length bs → place c bs ≡ Free (lowest 0 bs)
unfolding place
place_free c bs h g = rw (le-ltb _ _ h, lt-ltb _ _ g)

-- and nowhere where none is free
pub place_full : (c : ℕ) (bs : List (List ℕ)) → length bs ≤ lowest c bs → length bs ≤ lowest 0 bs → place c bs ≡ Full
unfolding place
place_full c bs h g = rw (le-ltb _ _ h, le-ltb _ _ g)

-- found before the end, or not at all
found_or_not : (c : ℕ) (bs : List (List ℕ)) → (lowest c bs < length bs) ⊎ (lowest c bs ≡ length bs)
found_or_not c bs = go (ltb (lowest c bs) (length bs)) refl
  where
    go : (t : Bool) → ltb (lowest c bs) (length bs) ≡ t → (lowest c bs < length bs) ⊎ (lowest c bs ≡ length bs)
    go true e = inl (ltb-true (lowest c bs) (length bs) e)
    go false e = inr (omega (arith, ltb-false (lowest c bs) (length bs) e, lowest_le c bs))

-- each answer with what it tells
answers : (c : ℕ) (bs : List (List ℕ))
    → ((place c bs ≡ Held (lowest c bs)) × (lowest c bs < length bs))
    ⊎ (((place c bs ≡ Free (lowest 0 bs)) × ((lowest c bs ≡ length bs) × (lowest 0 bs < length bs)))
    ⊎ ((place c bs ≡ Full) × ((lowest c bs ≡ length bs) × (lowest 0 bs ≡ length bs))))
answers c bs =
    ⊎_elim (λ h. inl (place_held c bs h, h))
    (λ e. inr (⊎_elim (λ h. inl (place_free c bs (omega arith) h, (e, h))) (λ g. inr (place_full c bs (omega arith) (omega arith), (e, g))) (found_or_not 0 bs)))
    (found_or_not c bs)

-- two answers at once are never given
never : {A : Type 0} → ◌≡◌ {A = ℕ} 0 1 → A
never z = absurd (omega arith)

-- what the answer Held tells
pub held_is : (c : ℕ) (bs : List (List ℕ)) (k : ℕ) → place c bs ≡ Held k → (lowest c bs ≡ k) × (k < length bs)
held_is c bs k f =
    ⊎_elim (λ a. let p = a.0 in let q : lowest c bs ≡ k = cc in (q, rw q at a.1))
    (⊎_elim (λ a. let p = a.0 in never (cc)) (λ a. let p = a.0 in never (cc)))
    (answers c bs)

-- what the answer Free tells
pub free_is : (c : ℕ) (bs : List (List ℕ)) (k : ℕ) → place c bs ≡ Free k → (lowest c bs ≡ length bs) × ((lowest 0 bs ≡ k) × (k < length bs))
free_is c bs k f =
    ⊎_elim (λ a. let p = a.0 in never (cc))
    (⊎_elim (λ a. let p = a.0 in let q : lowest 0 bs ≡ k = cc in (a.1.0, (q, rw q at a.1.1))) (λ a. let p = a.0 in never (cc)))
    (answers c bs)

-- what the answer Full tells
pub full_is : (c : ℕ) (bs : List (List ℕ)) → place c bs ≡ Full → (lowest c bs ≡ length bs) × (lowest 0 bs ≡ length bs)
full_is c bs f =
    ⊎_elim (λ a. let p = a.0 in never (cc))
    (⊎_elim (λ a. let p = a.0 in never (cc)) (λ a. a.1))
    (answers c bs)

-- the slot that a code holds has the code
pub held_code : (c : ℕ) (bs : List (List ℕ)) (k : ℕ) → place c bs ≡ Held k → code_at bs k ≡ c
held_code c bs k f = let i = held_is c bs k f in rw i.0 at (lowest_hit c bs (rw i.0 i.1))

-- the slot that a code takes has the code 0
pub free_code : (c : ℕ) (bs : List (List ℕ)) (k : ℕ) → place c bs ≡ Free k → code_at bs k ≡ 0
free_code c bs k f = let i = free_is c bs k f in rw i.1.0 at (lowest_hit 0 bs (rw i.1.0 i.1.1))

-- FRAME: a code whose block stands elsewhere keeps its place and its block
pub place_other : (c : ℕ) (bs : List (List ℕ)) (k j : ℕ) (b : List ℕ) → (code_at bs k ≡ c → ⊥) → (code_of b ≡ c → ⊥)
    → place c bs ≡ Held j → (place c (set bs k b) ≡ Held j) × (get_or (set bs k b) j [] ≡ get_or bs j [])
place_other c bs k j b p q f =
    let i = held_is c bs j f in
    let e : lowest c (set bs k b) ≡ j = lowest_other c bs k b p q ∙ i.0 in
    (place_held c (set bs k b) (rw (e, length-set) i.1) ∙ ap Held e, get_or-set_other bs k j b [] (λ s. p (ap (code_at bs) (sym s) ∙ held_code c bs j f)))

-- FRAME: a block set over one of the same code leaves the place of every code
pub place_same : (c : ℕ) (bs : List (List ℕ)) (k : ℕ) (b : List ℕ) → code_of b ≡ code_at bs k → place c (set bs k b) ≡ place c bs
unfolding place
place_same c bs k b e = rw (lowest_same c bs k b e, lowest_same 0 bs k b e, length-set)

-- a block of the code set at or before its place: the code is then found there
pub place_own : (c : ℕ) (bs : List (List ℕ)) (k : ℕ) (b : List ℕ) → k < length bs → k ≤ lowest c bs → code_of b ≡ c
    → (place c (set bs k b) ≡ Held k) × (get_or (set bs k b) k [] ≡ b)
place_own c bs k b h l e =
    let same : get_or (set bs k b) k [] ≡ b = get_or-set_same bs k b [] h in
    let s : lowest c (set bs k b) ≡ k =
    lowest_is c (set bs k b) k (rw length-set (omega arith))
    (λ j m p. lowest_before c bs j (omega arith) (ap code_of (sym (get_or-set_other bs k j b [] (λ q. omega arith))) ∙ p))
    (λ _. rw same e) in
    (place_held c (set bs k b) (rw (s, length-set) h) ∙ ap Held s, same)
