-- From a cleared table on, codes take the slots in the order in which they come, so there is room for as many codes as slots.
-- Over any lawful layout. Assumes nothing.
use Prim.Native.Nat.{ℕ, zero, suc, ◌+◌, ◌≤◌, ◌<◌, zero-le}
use native.Mathlib.Nat.{not-suc-le-zero, le_of_suc-le-suc}
use native.Mathlib.Omega.{arith}
use native.Mathlib.Decide.{ℕ_discrete, dec_lt}
use mathlib.Core.Path.{◌≡◌, refl, sym, ap, ◌∙◌}
use mathlib.Core.Logic.{inl, inr}
use mathlib.Core.Bool.{Bool, true, false, cond, ◌||◌, true≢false}
use mathlib.Core.List.{List, [], ◌∷◌, ◌++◌}
use mathlib.Core.Option.{Option, none, some}
use lib.ListN.{length, get_or, set, replicate, length-append, get_or-append, get_or-eq_default}
use lib.Seq.{get_or-set_same, get_or-set_other, get_or-append_seam}
use lib.Dec.{eqb}
use borrow.Author.Tests.{eqb-true, eq-eqb}
use Rattle.ground.specs.Choice.{one_of}
use Rattle.slots.specs.Slots.{code_of, lowest}
use Rattle.slots.specs.Layout.{Layout, Step, none_free, misfit, count_in, slots_in, cleared_in, place_in, value_in, written, stepped, with_code}
use Rattle.slots.proofs.Lawful.{Lawful}
use Rattle.slots.specs.declared.Slot.{Slot}
use Rattle.slots.specs.declared.Slot.TheVariants.{Held, Free, Full}
use Rattle.slots.proofs.Lookup.{code_at, free_is, full_is, held_code, free_code, lowest_before}
use Rattle.slots.proofs.Frame.{Lands}
use Rattle.slots.proofs.Zeros.{code_zero, slots_cleared}
use Rattle.slots.proofs.Values.{length_in, lands_in, wrote, wrote_length, wrote_slots}

-- a number among those listed stands somewhere, and the other way round
one_at : (c : ℕ) (cs : List ℕ) → one_of c cs ≡ true → ((j : ℕ) → j < length cs → get_or cs j 0 ≡ c → ⊥) → ⊥
unfolding one_of
one_at c [] e k = true≢false (sym e)
one_at c (x ∷ xs) e k = go (eqb c x) refl e (λ t. one_at c xs t (λ j l f. k (suc j) (omega arith) f))
  where
    go : (b : Bool) → eqb c x ≡ b → (b || one_of c xs) ≡ true → (one_of c xs ≡ true → ⊥) → ⊥
    go true q e r = k 0 (omega arith) (sym (eqb-true c x q))
    go false q e r = r e

or-true : (b : Bool) → (b || true) ≡ true
or-true true = refl
or-true false = refl

at_one : (c : ℕ) (cs : List ℕ) (j : ℕ) → j < length cs → get_or cs j 0 ≡ c → one_of c cs ≡ true
unfolding one_of
at_one c [] j l e = absurd (not-suc-le-zero l)
at_one c (x ∷ xs) zero l e = rw (eq-eqb c x (sym e))
at_one c (x ∷ xs) (suc j) l e = rw (at_one c xs j (le_of_suc-le-suc l) e) (or-true (eqb c x))

-- no slot of a cleared table has a code
zero_codes : (w n j : ℕ) → code_at (replicate n (replicate w 0)) j ≡ 0
zero_codes w zero j = refl
zero_codes w (suc n) zero = code_zero w
zero_codes w (suc n) (suc j) = zero_codes w n j

module _ {A : Type 0} (L : Layout A) where
  -- the slots of a table have these codes, in their order, and the others are free
  pub record Filled (t cs : List ℕ) : Type 0 where
    pub fit : length cs ≤ count_in L (length t)
    pub here : (j : ℕ) → code_at (slots_in L t) j ≡ get_or cs j 0
    pub named : (j : ℕ) → j < length cs → get_or cs j 0 ≡ 0 → ⊥

  pub none_filled : (t : List ℕ) → Filled (cleared_in L t) []
  none_filled t = record {
    fit = zero-le;
    here = λ j. ap (λ (bs : List (List ℕ)). code_at bs j) (slots_cleared L.most L.width t) ∙ zero_codes L.width (count_in L (length t)) j;
    named = λ j l. absurd (not-suc-le-zero l);
  }

  module _ (c : ℕ) (t cs : List ℕ) (f : Filled t cs) where
    slots : length (slots_in L t) ≡ count_in L (length t)
    slots = length_in L t

    -- where there is room for the code among the codes, there is a slot
    not_full : length (with_code c cs) ≤ count_in L (length t) → place_in L c t ≡ Full → ⊥
    unfolding with_code
    not_full l p = go (one_of c cs) refl l
      where
        go : (b : Bool) → one_of c cs ≡ b → length (cond b cs (cs ++ (c ∷ []))) ≤ count_in L (length t) → ⊥
        go true e l =
            one_at c cs e λ j k q.
            lowest_before c (slots_in L t) j (omega (arith, k, f.fit, slots, (full_is c (slots_in L t) p).0)) (f.here j ∙ q)
        go false e l =
            lowest_before 0 (slots_in L t) (length cs) (omega (arith, rw (length-append cs (c ∷ [])) at l, slots, (full_is c (slots_in L t) p).1))
            (f.here (length cs) ∙ get_or-eq_default cs 0 (omega arith))

    pub room : length (with_code c cs) ≤ count_in L (length t) → none_free (place_in L c t) ≡ false
    unfolding none_free
    room l = go (place_in L c t) refl
      where
        go : (p : Slot) → place_in L c t ≡ p → none_free p ≡ false
        go (Held k) e = refl
        go (Free k) e = refl
        go Full e = absurd (not_full l e)

    -- a code that has a slot is among the codes
    held : (k : ℕ) → (c ≡ 0 → ⊥) → place_in L c t ≡ Held k → one_of c cs ≡ true
    held k nz p =
        let q : get_or cs k 0 ≡ c = sym (f.here k) ∙ held_code c (slots_in L t) k p in
        go k q (dec_lt k (length cs))
      where
        go : (k : ℕ) → get_or cs k 0 ≡ c → Dec (k < length cs) → one_of c cs ≡ true
        go k q (yes l) = at_one c cs k l q
        go k q (no l) = absurd (nz (sym q ∙ get_or-eq_default cs 0 (omega (arith, l))))

    -- the free slot that is taken is the one behind the codes
    free_end : (k : ℕ) → place_in L c t ≡ Free k → k ≡ length cs
    free_end k p =
        let i = free_is c (slots_in L t) k p in
        let z : get_or cs k 0 ≡ 0 = sym (f.here k) ∙ free_code c (slots_in L t) k p in
        go (dec_lt k (length cs)) (dec_lt (length cs) k) z i.1.0
      where
        go : Dec (k < length cs) → Dec (length cs < k) → get_or cs k 0 ≡ 0 → lowest 0 (slots_in L t) ≡ k → k ≡ length cs
        go (yes l) d z e = absurd (f.named k l z)
        go (no l) (yes g) z e =
            absurd (lowest_before 0 (slots_in L t) (length cs) (rw e g) (f.here (length cs) ∙ get_or-eq_default cs 0 (omega arith)))
        go (no l) (no g) z e = omega (arith, l, g)

    not_among : (k : ℕ) → place_in L c t ≡ Free k → (b : Bool) → one_of c cs ≡ b → b ≡ false
    not_among k p false e = refl
    not_among k p true e =
        absurd (one_at c cs e λ j l q.
        lowest_before c (slots_in L t) j (omega (arith, l, f.fit, slots, (free_is c (slots_in L t) k p).0)) (f.here j ∙ q))

    module _ {Fit Well : A → Type 0} (laws : Lawful L Fit Well) (nz : c ≡ 0 → ⊥) (a : A) where
      -- a value of the code written to the slot that it has or takes
      put_filled : (k : ℕ) → Lands c (slots_in L t) k → (ds : List ℕ) → length ds ≤ count_in L (length t) → get_or ds k 0 ≡ c
          → ((j : ℕ) → (j ≡ k → ⊥) → get_or ds j 0 ≡ get_or cs j 0) → ((j : ℕ) → j < length ds → get_or ds j 0 ≡ 0 → ⊥)
          → Filled (wrote L c k a t) ds
      put_filled k h ds l same other named = record {
        fit = rw (wrote_length L laws c k t h a) l;
        here = λ j. ap (λ (bs : List (List ℕ)). code_at bs j) (wrote_slots L laws c k t h a) ∙ go j (ℕ_discrete j k);
        named = named;
      }
        where
          go : (j : ℕ) → Dec (j ≡ k) → code_at (set (slots_in L t) k (L.words c a)) j ≡ get_or ds j 0
          go j (yes e) =
              let there = get_or-set_same (slots_in L t) k (L.words c a) [] (rw slots (lands_in L c k t h)) in
              rw e (ap code_of there ∙ laws.opens c a ∙ sym same)
          go j (no e) = ap code_of (get_or-set_other (slots_in L t) k j (L.words c a) [] e) ∙ f.here j ∙ sym (other j e)

      write_held : (k : ℕ) → place_in L c t ≡ Held k → Filled (wrote L c k a t) cs
      write_held k p =
          let same : get_or cs k 0 ≡ c = sym (f.here k) ∙ held_code c (slots_in L t) k p in
          put_filled k (inl p) cs f.fit same (λ j e. refl) f.named

      write_free : (k : ℕ) → place_in L c t ≡ Free k → Filled (wrote L c k a t) (with_code c cs)
      unfolding with_code
      write_free k p =
          let e : k ≡ length cs = free_end k p in
          let h : k < count_in L (length t) = lands_in L c k t (inr p) in
          let w : length (cs ++ (c ∷ [])) ≡ length cs + 1 = length-append cs (c ∷ []) in
          rw (not_among k p (one_of c cs) refl)
          (put_filled k (inr p) (cs ++ (c ∷ [])) (omega (arith, w, e, h)) (rw e (get_or-append_seam cs c [] 0))
          (λ j ne. go j e ne (dec_lt j (length cs))) (λ j l. named_more j (dec_lt j (length cs)) (omega (arith, w, l))))
        where
          go : (j : ℕ) → k ≡ length cs → (j ≡ k → ⊥) → Dec (j < length cs) → get_or (cs ++ (c ∷ [])) j 0 ≡ get_or cs j 0
          go j e ne (yes l) = get_or-append cs (c ∷ []) 0 j l
          go j e ne (no l) =
              let g : length (cs ++ (c ∷ [])) ≤ j = omega (arith, length-append cs (c ∷ []), ne, e, l) in
              get_or-eq_default (cs ++ (c ∷ [])) 0 g ∙ sym (get_or-eq_default cs 0 (omega (arith, l)))

          named_more : (j : ℕ) → Dec (j < length cs) → j < length cs + 1 → get_or (cs ++ (c ∷ [])) j 0 ≡ 0 → ⊥
          named_more j (yes l) m z = f.named j l (sym (get_or-append cs (c ∷ []) 0 j l) ∙ z)
          named_more j (no l) m z =
              let e : j ≡ length cs = omega (arith, l, m) in
              nz (sym (get_or-append_seam cs c [] 0) ∙ sym (ap (λ (x : ℕ). get_or (cs ++ (c ∷ [])) x 0) e) ∙ z)

  -- a step that fits, where there is room for its code if it takes a slot
  module _ {Fit Well : A → Type 0} (laws : Lawful L Fit Well) (q : Step A) (t cs : List ℕ) (f : Filled t cs) (nz : q.code ≡ 0 → ⊥) where
    pub stepped_filled : misfit (q.makes (value_in L q.code t)) ≡ false → (q.takes ≡ true → length (with_code q.code cs) ≤ count_in L (length t))
        → Filled (stepped L q t) (cond q.takes (with_code q.code cs) cs)
    unfolding stepped written misfit with_code
    stepped_filled x l = go (place_in L q.code t) refl (q.makes (value_in L q.code t)) x q.takes l
      where
        go : (p : Slot) → place_in L q.code t ≡ p → (r : Option A) → misfit r ≡ false
            → (b : Bool) → (b ≡ true → length (with_code q.code cs) ≤ count_in L (length t))
            → Filled (written L b p q.code r t) (cond b (with_code q.code cs) cs)
        go p e none x b l = absurd (true≢false x)
        go (Held k) e (some a) x true l = rw (held q.code t cs f k nz e) (write_held q.code t cs f laws nz a k e)
        go (Held k) e (some a) x false l = write_held q.code t cs f laws nz a k e
        go (Free k) e (some a) x true l = write_free q.code t cs f laws nz a k e
        go Full e (some a) x true l = absurd (not_full q.code t cs f (l refl) e)
        go (Free k) e (some a) x false l = f
        go Full e (some a) x false l = f
