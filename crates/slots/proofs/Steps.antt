-- A step on a table, over any lawful layout: what it leaves of every slot, word and value, and what many leave. Assumes nothing.
use Prim.Native.Nat.{ℕ, ◌*◌}
use mathlib.Core.Path.{◌≡◌, refl, sym, ap, ◌∙◌}
use mathlib.Core.Logic.{inl, inr, ⊎_elim}
use mathlib.Core.Bool.{Bool, true, false, cond, ◌&&◌, true≢false}
use mathlib.Core.List.{List, [], ◌∷◌}
use mathlib.Core.Option.{Option, none, some}
use native.Mathlib.Omega.{arith}
use lib.Dec.{eqb}
use lib.ListN.{length, drop}
use borrow.Author.Tests.{eqb-true, eqb-false}
use Rattle.ground.specs.Choice.{first}
use Rattle.ground.proofs.Bools.{split}
use Rattle.slots.specs.Slots.{code_of}
use Rattle.slots.specs.Layout.{Layout, Step, none_free, misfit, or_as_it_was, count_in, slots_in, block, place_in, unsound_at, value_at, value_in, written}
use Rattle.slots.specs.Layout.{answer, stepped, turn, turns, AllTaken, value_after, values_after}
use Rattle.slots.proofs.Lawful.{Lawful}
use Rattle.slots.specs.declared.Slot.{Slot}
use Rattle.slots.specs.declared.Slot.TheVariants.{Held, Free, Full}
use Rattle.slots.proofs.Frame.{Lands}
use Rattle.slots.proofs.Values as values
use Rattle.slots.proofs.Values.{AllSound, wrote, value_fits, well_in, either}

-- what is made of a value keeps a property
abbrev pub Preserves : {A : Type 0} → (A → Type 0) → (A → Option A) → Type 0
Preserves {A} P makes = (a b : A) → P a → makes a ≡ some b → P b

-- a step that takes no slot leaves the empty value as it is
abbrev pub Modest : {A : Type 0} → Layout A → Step A → Type 0
Modest L q = q.takes ≡ false → q.makes L.empty ≡ some L.empty

module _ {A : Type 0} (L : Layout A) (q : Step A) (t : List ℕ) where
  -- the code, where it is, what is made of its value, and the table after the step
  abbrev c : ℕ
  c = q.code

  abbrev here : Slot
  here = place_in L c t

  abbrev made : Option A
  made = q.makes (value_in L c t)

  abbrev after : List ℕ
  after = stepped L q t

  -- neither 18 nor 17 nor 16 is given
  pub record Accepts : Type 0 where
    pub sound : unsound_at L here t ≡ false
    pub room : (q.takes && none_free here) ≡ false
    pub fits : misfit (made) ≡ false

  -- what the answer 0 tells
  pub zero_tells : answer L q t ≡ 0 → Accepts
  unfolding answer first
  zero_tells e =
      let p = go (unsound_at L here t) (q.takes && none_free here) (misfit (made)) e in
      record { sound = p.0; room = p.1; fits = p.2 }
    where
      go : (x y z : Bool) → ◌≡◌ {A = ℕ} (cond x 18 (cond y 17 (cond z 16 0))) 0 → (x ≡ false) × (y ≡ false) × (z ≡ false)
      go true y z e = absurd (omega arith)
      go false true z e = absurd (omega arith)
      go false false true e = absurd (omega arith)
      go false false false e = (refl, refl, refl)

  -- and then the step is made
  pub zero_steps : answer L q t ≡ 0 → (turn L q t).words ≡ after
  zero_steps e = rw e

  -- answered 0 or not, what holds of the table before it and after it holds then
  pub turned : (P : List ℕ → Type 0) → P after → P t → P (turn L q t).words
  turned P new same = split P (eqb (answer L q t) 0) after t (λ e. new) (λ e. same)

  -- where the code's own value is what was made of it and all others stay, each is what the step makes of it with no table
  pub each_value : (u : List ℕ) → made ≡ some (value_in L c u)
      → ((d : ℕ) → (c ≡ d → ⊥) → (d ≡ 0 → ⊥) → value_in L d u ≡ value_in L d t)
      → (d : ℕ) → (d ≡ 0 → ⊥) → value_in L d u ≡ value_after d q (value_in L d t)
  unfolding value_after or_as_it_was
  each_value u own others d nz = go (eqb c d) refl
    where
      go : (b : Bool) → eqb c d ≡ b → value_in L d u ≡ cond b (or_as_it_was (q.makes (value_in L d t)) (value_in L d t)) (value_in L d t)
      go true e =
          let same : c ≡ d = eqb-true c d e in
          rw (← same, own)
      go false e = others d (eqb-false c d e) nz

  module _ {Fit Well : A → Type 0} (laws : Lawful L Fit Well) where
    -- the table is as it was, or has one value written to the slot that the code has or takes
    either_way : (P : List ℕ → Type 0) → P t → ((k : ℕ) (a : A) → Lands c (slots_in L t) k → made ≡ some a → P (wrote L c k a t))
        → P after
    unfolding stepped
    either_way P = either L laws P q.takes c t (made)

    -- it keeps its length, and the words behind the slots
    pub stepped_length : length after ≡ length t
    stepped_length = either_way (λ u. length u ≡ length t) refl (λ k a h e. values.wrote_length L laws c k t h a)

    pub stepped_tail : drop (L.width * count_in L (length t)) after ≡ drop (L.width * count_in L (length t)) t
    stepped_tail =
        let n : ℕ = L.width * count_in L (length t) in
        either_way (λ u. drop n u ≡ drop n t) refl (λ k a h e. values.wrote_tail L laws c k t h a)

    -- FRAME: every slot but the one that the code has or takes, and every other code's value
    pub stepped_slots : (j : ℕ) → (here ≡ Held j → ⊥) → (here ≡ Free j → ⊥) → block L j after ≡ block L j t
    stepped_slots j nh nf =
        either_way (λ u. block L j u ≡ block L j t) refl
        (λ k a h e. values.wrote_block L laws c k t h a j (λ s. ⊎_elim (λ g. nh (rw s g)) (λ g. nf (rw s g)) h))

    pub stepped_other : (d : ℕ) → (c ≡ d → ⊥) → (d ≡ 0 → ⊥) → value_in L d after ≡ value_in L d t
    stepped_other d ne nz = either_way (λ u. value_in L d u ≡ value_in L d t) refl (λ k a h e. values.wrote_other L laws c k t h a d ne nz)

    -- no slot is freed
    pub stepped_codes : (j : ℕ) → (code_of (block L j t) ≡ 0 → ⊥) → code_of (block L j after) ≡ code_of (block L j t)
    stepped_codes j nz = either_way (λ u. code_of (block L j u) ≡ code_of (block L j t)) refl (λ k a h e. values.wrote_codes L laws c k t h a j nz)

    -- every slot stays sound
    pub stepped_sound : Preserves Well q.makes → AllSound L t → AllSound L after
    stepped_sound w s =
        either_way (AllSound L) s (λ k a h e. values.wrote_sound L laws c k t h a (w (value_in L c t) a (well_in L laws c t s) e) s)

    -- the code's own value is then what was made of it
    module _ (keeps : Preserves Fit q.makes) (modest : Modest L q) (ok : Accepts) where
      pub stepped_own : made ≡ some (value_in L c after)
      unfolding stepped written value_at none_free misfit
      stepped_own = go here refl (made) refl ok.fits q.takes refl ok.room
        where
          fit : (a : A) → made ≡ some a → Fit a
          fit a e = keeps (value_in L c t) a (value_fits L laws here t ok.sound) e

          -- a code that has no slot and takes none: its value was empty, and is
          stays : (p : Slot) → here ≡ p → value_at L p t ≡ L.empty → q.takes ≡ false → (r : Option A) → made ≡ r → r ≡ some (value_in L c t)
          stays p e v n r m =
              let none_here : value_in L c t ≡ L.empty = rw e v in
              sym m ∙ ap q.makes none_here ∙ modest n ∙ ap some (sym none_here)

          go : (p : Slot) → here ≡ p → (r : Option A) → made ≡ r → misfit r ≡ false → (b : Bool) → q.takes ≡ b → (b && none_free p) ≡ false
              → r ≡ some (value_in L c (written L b p c r t))
          go p e none m x b y f = absurd (true≢false x)
          go (Held k) e (some a) m x b y f = ap some (sym (values.wrote_own L laws c k t (inl e) a (fit a m)))
          go (Free k) e (some a) m x true y f = ap some (sym (values.wrote_own L laws c k t (inr e) a (fit a m)))
          go (Free k) e (some a) m x false y f = stays (Free k) e refl y (some a) m
          go Full e (some a) m x true y f = absurd (true≢false f)
          go Full e (some a) m x false y f = stays Full e refl y (some a) m

      pub stepped_each : (d : ℕ) → (d ≡ 0 → ⊥) → value_in L d after ≡ value_after d q (value_in L d t)
      stepped_each = each_value after stepped_own stepped_other

-- THE FOLD: after steps that are all taken, a code's value is what its own steps make of it, with no table
module _ {A : Type 0} (L : Layout A) {Fit Well : A → Type 0} (laws : Lawful L Fit Well) where
  abbrev pub AllPreserve : List (Step A) → Type 0
  AllPreserve [] = Unit {0}
  AllPreserve (q ∷ qs) = Preserves Fit q.makes × Modest L q × AllPreserve qs

  pub turns_value : (d : ℕ) → (d ≡ 0 → ⊥) → (qs : List (Step A)) (t : List ℕ) → AllPreserve qs → AllTaken L qs t
      → value_in L d (turns L qs t) ≡ values_after d qs (value_in L d t)
  unfolding turns values_after
  turns_value d nz [] t p z = refl
  turns_value d nz (q ∷ qs) t p z =
      let ok = zero_tells L q t z.0 in
      let one = ap (value_in L d) (zero_steps L q t z.0) ∙ stepped_each L q t laws p.0 p.1 ok d nz in
      turns_value d nz qs (turn L q t).words p.2 z.1 ∙ ap (values_after d qs) one
