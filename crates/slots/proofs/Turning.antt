-- A message by slots (specs/Turns), return by return, and that it is the message on the table (specs/Layout). Assumes nothing.
use Prim.Native.Nat.{ℕ, ◌+◌, ◌-◌, ◌*◌, ◌<◌}
use native.Mathlib.Omega.{arith}
use mathlib.Core.Path.{◌≡◌, refl, sym, ap, ◌∙◌}
use mathlib.Core.Logic.{inl, inr}
use mathlib.Core.Bool.{Bool, true, false, cond}
use mathlib.Core.List.{List, [], ◌∷◌}
use mathlib.Core.Option.{Option, none, some}
use types.Run
use denote.Enum.Declared
use lib.ListN.{length, take, drop}
use borrow.Rule.Slice.PartMut.{put_mid}
use Rattle.ground.specs.Choice.{first}
use Rattle.ground.proofs.Bools.{no_second}
use Rattle.slots.specs.Slots.{slot_count, slots_of, place}
use Rattle.slots.specs.Layout.{Layout, Step, Landed, landed, none_free, misfit, count_in, block, place_in, unsound_at, value_at, written}
use Rattle.slots.specs.Layout.{answer, stepped, turn}
use Rattle.slots.specs.Code.Turns.{ready, settled_in, slot_turn, within, place_turn, held_turn}
use Rattle.slots.specs.declared.Slot.{Slot}
use Rattle.slots.specs.declared.Slot.TheVariants.{Held, Free, Full}
use Rattle.slots.specs.contracts.Slot as slot'
use Rattle.slots.proofs.Blocks.{block_at, put_same}
use Rattle.slots.proofs.Frame.{lands_fits}
use Rattle.slots.proofs.Values.{lands_in, wrote}
use Rattle.slots.proofs.Steps.{Modest}

-- the slot that was found is one of the slots
pub held_fits : (most w c k : ℕ) (t : List ℕ) (f : Slot) → f ≡ place c (slots_of most w t) → f ≡ Held k → k < slot_count most w (length t)
held_fits most w c k t f e h = lands_fits most w c k t (inl (sym e ∙ h))

pub free_fits : (most w c k : ℕ) (t : List ℕ) (f : Slot) → f ≡ place c (slots_of most w t) → f ≡ Free k → k < slot_count most w (length t)
free_fits most w c k t f e h = lands_fits most w c k t (inr (sym e ∙ h))

module _ {A : Type 0} (L : Layout A) where
  -- a slot that is not ready
  pub unready_turn : (own r : Bool) (w : List ℕ) (c : ℕ) (step : A → Option A) → r ≡ ready L own w → r ≡ false
      → landed 18 w ≡ slot_turn L own c step w
  unfolding slot_turn
  unready_turn own r w c step e n = rw (sym e ∙ n)

  -- a slot's part of the table, lent on
  pub part_is : (k : ℕ) (t : List ℕ) → k < count_in L (length t) → take (L.width * k + L.width - L.width * k) (drop (L.width * k) t) ≡ block L k t
  part_is k t h =
      let e : L.width * k + L.width - L.width * k ≡ L.width = omega arith in
      rw e (sym (block_at L.width (count_in L (length t)) k t h))

  pub slot_turn_lem : (own : Bool) (k : ℕ) (t u : List ℕ) (c r : ℕ) (step : A → Option A) → k < count_in L (length t)
      → landed r u ≡ slot_turn L own c step (take (L.width * k + L.width - L.width * k) (drop (L.width * k) t))
      → landed r (put_mid (L.width * k) (L.width * k + L.width - L.width * k) t u) ≡ within L k t (slot_turn L own c step (block L k t))
  slot_turn_lem own k t u c r step h e =
      let s : L.width * k + L.width - L.width * k ≡ L.width = omega arith in
      rw s (ap (within L k t) (e ∙ ap (slot_turn L own c step) (part_is k t h)))

  -- by the slot that was found
  module _ (c : ℕ) (step : A → Option A) (t : List ℕ) (f : Slot) (e : f ≡ place_in L c t) where
    pub held_turn_lem : (k : ℕ) (x : Landed) → f ≡ Held k → x ≡ within L k t (slot_turn L true c step (block L k t))
        → x ≡ place_turn L (place_in L c t) c step t
    unfolding place_turn
    held_turn_lem k x h q = q ∙ rw (sym e ∙ h)

    pub free_turn : (k : ℕ) (x : Landed) → f ≡ Free k → x ≡ within L k t (slot_turn L false c step (block L k t))
        → x ≡ place_turn L (place_in L c t) c step t
    unfolding place_turn
    free_turn k x h q = q ∙ rw (sym e ∙ h)

    pub full_turn : f ≡ Full → landed 17 t ≡ place_turn L (place_in L c t) c step t
    unfolding place_turn
    full_turn h = rw (sym e ∙ h)

    -- of a message that takes no slot
    pub held_only : (k : ℕ) (x : Landed) → f ≡ Held k → x ≡ within L k t (slot_turn L true c step (block L k t))
        → x ≡ held_turn L (place_in L c t) c step t
    unfolding held_turn
    held_only k x h q = q ∙ rw (sym e ∙ h)

    pub not_held : Run.OneOf (1 ∷ 2 ∷ []) (Declared.tag_of slot'.the_type f) → landed 0 t ≡ held_turn L (place_in L c t) c step t
    unfolding held_turn
    not_held o = go f o ∙ ap (λ (p : Slot). held_turn L p c step t) e
      where
        go : (p : Slot) → Run.OneOf (1 ∷ 2 ∷ []) (Declared.tag_of slot'.the_type p) → landed 0 t ≡ held_turn L p c step t
        go (Held k) o = absurd (Run.miss (1 ∷ 2 ∷ []) 0 tt o)
        go (Free k) o = refl
        go Full o = refl

  module _ (q : Step A) (t : List ℕ) where
    abbrev c : ℕ
    c = q.code

    -- the slot that the code holds or takes is ready
    settles : (k : ℕ) → k < count_in L (length t) → (p : Slot) → place_in L c t ≡ p → (r : Option A) → q.makes (value_at L p t) ≡ r
        → unsound_at L p t ≡ false → none_free p ≡ false → ((a : A) → written L q.takes p c (some a) t ≡ wrote L c k a t)
        → within L k t (settled_in L c r (block L k t)) ≡ turn L q t
    unfolding answer stepped written misfit first
    settles k h p e none m s f w = rw (e, s, no_second q.takes (none_free p) f, m) (ap (landed 16) (put_same L.most L.width k t h))
    settles k h p e (some a) m s f w = rw (e, s, no_second q.takes (none_free p) f, m) (sym (ap (landed 0) (w a)))

    own : (k : ℕ) → k < count_in L (length t) → place_in L c t ≡ Held k → (y : Bool) → L.sound (block L k t) ≡ y
        → within L k t (cond y (settled_in L c (q.makes (L.read (block L k t))) (block L k t)) (landed 18 (block L k t))) ≡ turn L q t
    unfolding value_at unsound_at none_free written answer first
    own k h e true y = settles k h (Held k) e (q.makes (L.read (block L k t))) refl (rw y) refl (λ a. refl)
    own k h e false y = rw (e, y) (ap (landed 18) (put_same L.most L.width k t h))

    -- a step that takes a slot
    at_slot : (p : Slot) → place_in L c t ≡ p → q.takes ≡ true → place_turn L p c q.makes t ≡ turn L q t
    unfolding place_turn slot_turn value_at unsound_at none_free written answer first
    at_slot (Held k) e y = own k (lands_in L c k t (inl e)) e (L.sound (block L k t)) refl
    at_slot (Free k) e y = settles k (lands_in L c k t (inr e)) (Free k) e (q.makes L.empty) refl refl refl (λ a. rw y)
    at_slot Full e y = rw (e, y)

    pub turn_is : q.takes ≡ true → place_turn L (place_in L c t) c q.makes t ≡ turn L q t
    turn_is y = at_slot (place_in L c t) refl y

    -- a step that takes none, and leaves the empty value as it is
    if_held : Modest L q → (p : Slot) → place_in L c t ≡ p → q.takes ≡ false → held_turn L p c q.makes t ≡ turn L q t
    unfolding held_turn slot_turn value_at unsound_at none_free misfit written answer stepped first
    if_held m (Held k) e n = own k (lands_in L c k t (inl e)) e (L.sound (block L k t)) refl
    if_held m (Free k) e n = rw (e, n, m n)
    if_held m Full e n = rw (e, n, m n)

    pub held_is : Modest L q → q.takes ≡ false → held_turn L (place_in L c t) c q.makes t ≡ turn L q t
    held_is m n = if_held m (place_in L c t) refl n

pub ruleset slotting = (held_fits, free_fits, unready_turn, slot_turn_lem, held_turn_lem, free_turn, full_turn, held_only, not_held)
