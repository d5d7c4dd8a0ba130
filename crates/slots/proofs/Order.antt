-- Steps of two codes, over any lawful layout: in either order the same words, and neither changes the other's answer. Assumes nothing.
use Prim.Native.Nat.{ℕ}
use native.Mathlib.Omega.{arith}
use mathlib.Core.Path.{◌≡◌, refl, sym, ap, ◌∙◌}
use mathlib.Core.Logic.{inl, inr, ⊎_elim}
use mathlib.Core.Bool.{Bool, true, false, cond}
use mathlib.Core.List.{List}
use mathlib.Core.Option.{Option, none, some}
use lib.Dec.{eqb}
use Rattle.slots.specs.Slots.{place}
use Rattle.slots.specs.Layout.{Layout, Step, slots_in, block, place_in, unsound_at, value_at, value_in, written, answer, stepped, turn}
use Rattle.slots.proofs.Lawful.{Lawful}
use Rattle.slots.specs.declared.Slot.{Slot}
use Rattle.slots.specs.declared.Slot.TheVariants.{Held, Free, Full}
use Rattle.slots.proofs.Blocks.{slots_comm}
use Rattle.slots.proofs.Lookup.{code_at, held_code, free_code, place_same}
use Rattle.slots.proofs.Frame.{Lands}
use Rattle.slots.proofs.Steps.{turned}
use Rattle.slots.proofs.Values.{lands_in, wrote, wrote_slots, wrote_block, held_as, either}

-- a code finds the same place, with the same words if it has a slot
record Sees {A : Type 0} (L : Layout A) (d : ℕ) (u t : List ℕ) : Type 0 where
  found : place_in L d u ≡ place_in L d t
  words : (k : ℕ) → place_in L d t ≡ Held k → block L k u ≡ block L k t

module _ {A : Type 0} (L : Layout A) (d : ℕ) (u t : List ℕ) (s : Sees L d u t) where
  -- so it finds the same value, sound or not
  same_value : value_in L d u ≡ value_in L d t
  unfolding value_at
  same_value = ap (λ (p : Slot). value_at L p u) s.found ∙ go (place_in L d t) refl
    where
      go : (p : Slot) → place_in L d t ≡ p → value_at L p u ≡ value_at L p t
      go (Held k) e = ap L.read (s.words k e)
      go (Free k) e = refl
      go Full e = refl

  same_unsound : unsound_at L (place_in L d u) u ≡ unsound_at L (place_in L d t) t
  unfolding unsound_at
  same_unsound = ap (λ (p : Slot). unsound_at L p u) s.found ∙ go (place_in L d t) refl
    where
      go : (p : Slot) → place_in L d t ≡ p → unsound_at L p u ≡ unsound_at L p t
      go (Held k) e = rw (s.words k e)
      go (Free k) e = refl
      go Full e = refl

-- its step is answered the same, and writes the same
module _ {A : Type 0} (L : Layout A) (q : Step A) (u t : List ℕ) (s : Sees L q.code u t) where
  same_answer : answer L q u ≡ answer L q t
  unfolding answer
  same_answer = rw (same_unsound L q.code u t s, same_value L q.code u t s, s.found)

  same_turn : (turn L q u).words ≡ cond (eqb (answer L q t) 0) (written L q.takes (place_in L q.code t) q.code (q.makes (value_in L q.code t)) u) u
  unfolding stepped
  same_turn = rw (same_answer, same_value L q.code u t s, s.found)

-- steps of two different codes, of which one has a slot
module _ {A : Type 0} (L : Layout A) {Fit Well : A → Type 0} (laws : Lawful L Fit Well) (x y : Step A) (t : List ℕ) (j : ℕ)
    (held : place_in L x.code t ≡ Held j) (ne : x.code ≡ y.code → ⊥) (nz : x.code ≡ 0 → ⊥) where
  abbrev c : ℕ
  c = x.code

  abbrev d : ℕ
  d = y.code

  -- the table after the step of the one, and of the other
  abbrev one : List ℕ
  one = (turn L x t).words

  abbrev other : List ℕ
  other = (turn L y t).words

  -- the slot of the one is not the slot of the other
  apart : (k : ℕ) → Lands d (slots_in L t) k → j ≡ k → ⊥
  apart k f e =
      let here : code_at (slots_in L t) k ≡ c = ap (code_at (slots_in L t)) (sym e) ∙ held_code c (slots_in L t) j held in
      ⊎_elim (λ p. ne (sym here ∙ held_code d (slots_in L t) k p)) (λ p. nz (sym here ∙ free_code d (slots_in L t) k p)) f

  -- a slot that is held is where the code lands
  only : (k : ℕ) → Lands c (slots_in L t) k → j ≡ k
  only k (inl e) = cc
  only k (inr e) = let z : ◌≡◌ {A = ℕ} 0 1 = cc in absurd (omega arith)

  -- after a step the table is as it was, or has one value written
  turn_either : (P : List ℕ → Type 0) (q : Step A) → P t → ((k : ℕ) (a : A) → Lands q.code (slots_in L t) k → P (wrote L q.code k a t))
      → P (turn L q t).words
  unfolding stepped
  turn_either P q same new = turned L q t P (either L laws P q.takes q.code t (q.makes (value_in L q.code t)) same (λ k a f e. new k a f)) same

  sees_one : Sees L d one t
  sees_one = turn_either (λ u. Sees L d u t) x (record { found = refl; words = λ k e. refl }) wrote_one
    where
      wrote_one : (k : ℕ) (a : A) → Lands c (slots_in L t) k → Sees L d (wrote L c k a t) t
      wrote_one k a f =
          let code = laws.opens c a ∙ sym (held_code c (slots_in L t) j held) ∙ ap (code_at (slots_in L t)) (only k f) in
          record {
            found = ap (place d) (wrote_slots L laws c k t f a) ∙ place_same d (slots_in L t) k (L.words c a) code;
            words = λ i e. wrote_block L laws c k t f a i (λ q. apart i (inl e) (only k f ∙ sym q));
          }

  sees_other : Sees L c other t
  sees_other = turn_either (λ u. Sees L c u t) y (record { found = refl; words = λ k e. refl }) wrote_other
    where
      wrote_other : (k : ℕ) (a : A) → Lands d (slots_in L t) k → Sees L c (wrote L d k a t) t
      wrote_other k a f = record {
        found = (held_as L laws d k t f a c (λ e. ne (sym e)) nz j held).0 ∙ sym held;
        words = λ i e. wrote_block L laws d k t f a i (λ q. apart k f (only i (inl e) ∙ q));
      }

  -- neither step changes what the other is answered
  pub answer_after_one : answer L y one ≡ answer L y t
  answer_after_one = same_answer L y one t sees_one

  pub answer_after_other : answer L x other ≡ answer L x t
  answer_after_other = same_answer L x other t sees_other

  -- what they write may change places
  both_written : (k : ℕ) → Lands d (slots_in L t) k → (a b : A) → wrote L d k b (wrote L c j a t) ≡ wrote L c j a (wrote L d k b t)
  both_written k f a b =
      slots_comm L.most L.width j k (L.words c a) (L.words d b) t (lands_in L c j t (inl held)) (lands_in L d k t f) (apart k f)
      (laws.whole c a) (laws.whole d b)

  written_comm : (r q : Option A) (p : Slot) → place_in L d t ≡ p → (v w : Bool)
      → written L w p d q (written L v (Held j) c r t) ≡ written L v (Held j) c r (written L w p d q t)
  unfolding written
  written_comm none q p e v w = refl
  written_comm (some a) none p e v w = refl
  written_comm (some a) (some b) (Held k) e v w = both_written k (inl e) a b
  written_comm (some a) (some b) (Free k) e v true = both_written k (inr e) a b
  written_comm (some a) (some b) (Free k) e v false = refl
  written_comm (some a) (some b) Full e v w = refl

  -- what each writes, in any table
  abbrev F : List ℕ → List ℕ
  F u = written L x.takes (place_in L c t) c (x.makes (value_in L c t)) u

  abbrev G : List ℕ → List ℕ
  G u = written L y.takes (place_in L d t) d (y.makes (value_in L d t)) u

  -- in either order the same words
  pub turns_comm : (turn L y one).words ≡ (turn L x other).words
  unfolding stepped
  turns_comm =
      same_turn L y one t sees_one
      ∙ swap (eqb (answer L x t) 0) (eqb (answer L y t) 0)
      ∙ sym (same_turn L x other t sees_other)
    where
      swap : (v w : Bool) → cond w (G (cond v (F t) t)) (cond v (F t) t) ≡ cond v (F (cond w (G t) t)) (cond w (G t) t)
      swap true true = rw held (written_comm (x.makes (value_at L (Held j) t)) (y.makes (value_in L d t)) (place_in L d t) refl x.takes y.takes)
      swap true false = refl
      swap false true = refl
      swap false false = refl
