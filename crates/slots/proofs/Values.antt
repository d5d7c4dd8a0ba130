-- The values of a table's codes, over any lawful layout: what a value written to its code's slot leaves, and a clearing. Assumes nothing.
use Prim.Native.Nat.{ℕ, zero, suc, ◌*◌, ◌<◌}
use native.Mathlib.Decide.{ℕ_discrete, dec_lt}
use native.Mathlib.Omega.{arith}
use mathlib.Core.Path.{◌≡◌, refl, sym, ap, ◌∙◌}
use mathlib.Core.Logic.{inl, inr}
use mathlib.Core.Bool.{Bool, true, false}
use mathlib.Core.List.{List, []}
use mathlib.Core.Option.{Option, none, some}
use lib.Dec.{ltb}
use lib.ListN.{length, drop, set, replicate}
use lib.Seq.{get_or-set_same, get_or-set_other}
use borrow.Author.Tests.{le-ltb, not-false}
use Rattle.ground.specs.Choice.{all}
use Rattle.ground.proofs.Bools.{join, split}
use Rattle.ground.proofs.Choices.{all_at, all_set}
use Rattle.slots.specs.Slots.{code_of, lowest, place, put}
use Rattle.slots.specs.Layout.{Layout, count_in, slots_in, block, cleared_in, place_in, unsound_at, value_at, value_in, written}
use Rattle.slots.proofs.Lawful.{Lawful}
use Rattle.slots.specs.declared.Slot.{Slot}
use Rattle.slots.specs.declared.Slot.TheVariants.{Held, Free, Full}
use Rattle.slots.proofs.Blocks.{length_slots, same_length, same_tail, slots_put}
use Rattle.slots.proofs.Lookup.{place_held, held_code, free_code}
use Rattle.slots.proofs.Frame.{Lands, lands_fits, write_own, write_lowest, write_other}
use Rattle.slots.proofs.Zeros.{length_cleared, slots_cleared, lowest_cleared}

-- every slot is sound
abbrev pub AllSound : {A : Type 0} → Layout A → List ℕ → Type 0
AllSound L t = all L.sound (slots_in L t) ≡ true

-- the table with a code's value written to slot k
abbrev pub wrote : {A : Type 0} → Layout A → ℕ → ℕ → A → List ℕ → List ℕ
wrote L c k a t = put L.width k (L.words c a) t

module _ {A : Type 0} (L : Layout A) where
  -- how many slots there are; the one that a code has or takes is among them
  pub length_in : (t : List ℕ) → length (slots_in L t) ≡ count_in L (length t)
  length_in t = length_slots L.most L.width t

  pub lands_in : (c k : ℕ) (t : List ℕ) → Lands c (slots_in L t) k → k < count_in L (length t)
  lands_in c k t f = lands_fits L.most L.width c k t f

  -- a code without a slot has the empty value
  pub no_place : (d : ℕ) (t : List ℕ) → (lowest d (slots_in L t) < length (slots_in L t) → ⊥) → value_in L d t ≡ L.empty
  unfolding value_at place
  no_place d t n =
      let free : Bool = ltb (lowest 0 (slots_in L t)) (length (slots_in L t)) in
      rw (le-ltb (lowest d (slots_in L t)) (length (slots_in L t)) (omega (arith, n)))
      (split (λ (p : Slot). value_at L p t ≡ L.empty) free _ Full (λ e. refl) (λ e. refl))

  -- a slot with the same words has the same value
  pub same_value : (j : ℕ) (u t : List ℕ) → block L j u ≡ block L j t → value_at L (Held j) u ≡ value_at L (Held j) t
  unfolding value_at
  same_value j u t e = ap L.read e

  -- where every slot is sound
  module _ (t : List ℕ) (a : AllSound L t) where
    sound_at : (j : ℕ) → j < count_in L (length t) → L.sound (block L j t) ≡ true
    sound_at j h = all_at L.sound (slots_in L t) j [] a (rw (length_in t) h)

    -- 18 is not given
    pub never_unsound : (c : ℕ) → unsound_at L (place_in L c t) t ≡ false
    unfolding unsound_at
    never_unsound c = go (place_in L c t) refl
      where
        go : (p : Slot) → place_in L c t ≡ p → unsound_at L p t ≡ false
        go (Held k) e = rw (sound_at k (lands_in c k t (inl e)))
        go (Free k) e = refl
        go Full e = refl

  module _ {Fit Well : A → Type 0} (laws : Lawful L Fit Well) where
    -- a value that is not unsound fits, and of one that is sound every word is right
    pub value_fits : (p : Slot) (t : List ℕ) → unsound_at L p t ≡ false → Fit (value_at L p t)
    unfolding unsound_at value_at
    value_fits (Held k) t e = laws.fit (block L k t) (not-false (L.sound (block L k t)) e)
    value_fits (Free k) t e = laws.fit_empty
    value_fits Full t e = laws.fit_empty

    pub value_well : (p : Slot) (t : List ℕ) → unsound_at L p t ≡ false → Well (value_at L p t)
    unfolding unsound_at value_at
    value_well (Held k) t e = laws.well (block L k t) (not-false (L.sound (block L k t)) e)
    value_well (Free k) t e = laws.well_empty
    value_well Full t e = laws.well_empty

    -- where every slot is sound, so is every code's value
    pub well_in : (c : ℕ) (t : List ℕ) → AllSound L t → Well (value_in L c t)
    well_in c t a = value_well (place_in L c t) t (never_unsound t a c)

    -- a value written to the slot that its code has or takes
    module _ (c k : ℕ) (t : List ℕ) (h : Lands c (slots_in L t) k) (a : A) where
      room : k < count_in L (length t)
      room = lands_in c k t h

      pub wrote_slots : slots_in L (wrote L c k a t) ≡ set (slots_in L t) k (L.words c a)
      wrote_slots = slots_put L.most L.width k (L.words c a) t room (laws.whole c a)

      -- the table keeps its length, and the words behind the slots
      pub wrote_length : length (wrote L c k a t) ≡ length t
      wrote_length = same_length L.most L.width k (L.words c a) t room (laws.whole c a)

      pub wrote_tail : drop (L.width * count_in L (length t)) (wrote L c k a t) ≡ drop (L.width * count_in L (length t)) t
      wrote_tail = same_tail L.most L.width k (L.words c a) t room (laws.whole c a)

      -- every other slot
      pub wrote_block : (j : ℕ) → (j ≡ k → ⊥) → block L j (wrote L c k a t) ≡ block L j t
      wrote_block j n = rw wrote_slots (get_or-set_other (slots_in L t) k j (L.words c a) [] n)

      -- a slot that has a code keeps it
      pub wrote_codes : (j : ℕ) → (code_of (block L j t) ≡ 0 → ⊥) → code_of (block L j (wrote L c k a t)) ≡ code_of (block L j t)
      wrote_codes j nz = go (ℕ_discrete j k) h
        where
          go : Dec (j ≡ k) → Lands c (slots_in L t) k → code_of (block L j (wrote L c k a t)) ≡ code_of (block L j t)
          go (no e) h = ap code_of (wrote_block j e)
          go (yes e) (inl f) =
              let same = get_or-set_same (slots_in L t) k (L.words c a) [] (rw (length_in t) room) in
              rw (e, wrote_slots, same) (laws.opens c a ∙ sym (held_code c (slots_in L t) k f))
          go (yes e) (inr f) = absurd (nz (rw e (free_code c (slots_in L t) k f)))

      -- the code's own value is then what was written
      pub wrote_own : Fit a → value_in L c (wrote L c k a t) ≡ a
      unfolding value_at
      wrote_own f =
          let w = write_own L.most L.width c k t h (L.words c a) (laws.whole c a) (laws.opens c a) in
          ap (λ (p : Slot). value_at L p (wrote L c k a t)) w.0 ∙ ap L.read w.1 ∙ laws.back c a f

      -- FRAME: every other code is found where it was, with the same words, or still nowhere
      pub lowest_as : (d : ℕ) → (c ≡ d → ⊥) → (d ≡ 0 → ⊥) → lowest d (slots_in L (wrote L c k a t)) ≡ lowest d (slots_in L t)
      lowest_as d ne nz = write_lowest L.most L.width c k t h (L.words c a) (laws.whole c a) (laws.opens c a) d ne nz

      pub held_as : (d : ℕ) → (c ≡ d → ⊥) → (d ≡ 0 → ⊥) → (j : ℕ) → place_in L d t ≡ Held j
          → (place_in L d (wrote L c k a t) ≡ Held j) × (block L j (wrote L c k a t) ≡ block L j t)
      held_as d ne nz j e = write_other L.most L.width c k t h (L.words c a) (laws.whole c a) (laws.opens c a) d ne nz j e

      -- so its value is as it was
      pub wrote_other : (d : ℕ) → (c ≡ d → ⊥) → (d ≡ 0 → ⊥) → value_in L d (wrote L c k a t) ≡ value_in L d t
      wrote_other d ne nz = go (dec_lt (lowest d (slots_in L t)) (length (slots_in L t)))
        where
          u : List ℕ
          u = wrote L c k a t

          same : length (slots_in L u) ≡ length (slots_in L t)
          same = length_in u ∙ ap (count_in L) wrote_length ∙ sym (length_in t)

          go : Dec (lowest d (slots_in L t) < length (slots_in L t)) → value_in L d u ≡ value_in L d t
          go (yes l) =
              let j = lowest d (slots_in L t) in
              let e : place_in L d t ≡ Held j = place_held d (slots_in L t) l in
              let w = held_as d ne nz j e in
              ap (λ (p : Slot). value_at L p u) w.0 ∙ same_value j u t w.1 ∙ ap (λ (p : Slot). value_at L p t) (sym e)
          go (no l) =
              let w = lowest_as d ne nz in
              no_place d u (λ x. l (omega (arith, x, w, same))) ∙ sym (no_place d t l)

      -- every slot stays sound
      pub wrote_sound : Well a → AllSound L t → AllSound L (wrote L c k a t)
      wrote_sound w s = rw wrote_slots (all_set L.sound k (L.words c a) (slots_in L t) (laws.sounds c a w) s)

    -- a table after a value is written, or nothing: it is as it was, or has the value in the slot that the code has or takes
    pub either : (P : List ℕ → Type 0) (takes : Bool) (c : ℕ) (t : List ℕ) (r : Option A) → P t
        → ((k : ℕ) (a : A) → Lands c (slots_in L t) k → r ≡ some a → P (wrote L c k a t)) → P (written L takes (place_in L c t) c r t)
    unfolding written
    either P takes c t r same new = go (place_in L c t) refl r refl
      where
        go : (p : Slot) → place_in L c t ≡ p → (q : Option A) → r ≡ q → P (written L takes p c q t)
        go p e none f = same
        go (Held k) e (some a) f = new k a (inl e) f
        go (Free k) e (some a) f = split P takes (wrote L c k a t) t (λ y. new k a (inr e) f) (λ n. same)
        go Full e (some a) f = same

    -- a cleared table: every slot is sound, and no code has a value
    pub cleared_sound : (t : List ℕ) → AllSound L (cleared_in L t)
    unfolding all
    cleared_sound t = rw (slots_cleared L.most L.width t) (go (count_in L (length t)))
      where
        go : (n : ℕ) → all L.sound (replicate n (replicate L.width 0)) ≡ true
        go zero = refl
        go (suc n) = join (L.sound (replicate L.width 0)) _ laws.zeros (go n)

  pub cleared_empty : (c : ℕ) (t : List ℕ) → (c ≡ 0 → ⊥) → value_in L c (cleared_in L t) ≡ L.empty
  cleared_empty c t nz =
      no_place c (cleared_in L t)
      (λ h.
      let same = length_cleared L.most L.width t in
      omega (arith, h, lowest_cleared L.most L.width t c nz, length_in (cleared_in L t), ap (count_in L) same))
