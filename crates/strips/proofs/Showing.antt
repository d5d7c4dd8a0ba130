-- What the code of reading a strip comes to, return by return (specs/Reading). Assumes nothing.
use Prim.Native.Nat.{ℕ, zero, suc, ◌+◌, ◌<◌}
use native.Mathlib.Nat.{zero-add}
use native.Mathlib.Omega.{arith}
use mathlib.Core.Path.{◌≡◌, refl, sym, ap, ◌∙◌}
use mathlib.Core.Bool.{Bool, true, false, cond}
use mathlib.Core.List.{List, [], ◌∷◌}
use types.Run
use denote.Enum.Declared
use lib.Dec.{ltb, eqb}
use lib.IntN.{ℤ, pos, sub_ℕ}
use lib.ListN.{length, get_or}
use borrow.Author.Tests.{ltb-true}
use Rattle.std.specs.Prelude.{Result, Ok, Err}
use Rattle.ground.specs.Choice.{first}
use Rattle.ground.specs.Refusals.{refusal_no}
use Rattle.ground.specs.declared.Refusal.{Refusal}
use Rattle.ground.specs.declared.Refusal.TheVariants.{Unsound}
use Rattle.ground.proofs.Bools.{both}
use Rattle.wire.specs.Number.{bias, word32}
use Rattle.wire.specs.Codes.{listed_code}
use Rattle.slots.specs.Layout as table
use Rattle.slots.specs.Layout.{count_in, block, place_in}
use Rattle.slots.specs.declared.Slot.{Slot}
use Rattle.slots.specs.declared.Slot.TheVariants.{Held, Free, Full}
use Rattle.slots.specs.contracts.Slot as slot'
use Rattle.strips.specs.Forms.{fields_of, sorts}
use Rattle.strips.specs.Words.{value_count, strip_of, come, value, legal, sound_value, sound_from, sound_strip, sound}
use Rattle.strips.specs.Table.{strips}
use Rattle.strips.specs.Reading.{no_strip, read_answer, price_shown, strip_shown, strip_refused, read_as, read_strip}
use Rattle.strips.specs.Code.Shapes.{PriceAt, sound_strip_of}
use Rattle.strips.specs.declared.Sort.{Sort}
use Rattle.strips.specs.declared.Sort.TheVariants.{Price}
use Rattle.strips.specs.declared.Strip.{Strip}
use Rattle.strips.specs.declared.Shown.{Shown}
use Rattle.slots.proofs.Turning.{held_fits}

-- a price
module _ (k : ℕ) (s : Strip) (b : Bool) (e : b ≡ come k s) where
  pub price_below : b ≡ true → PriceAt k s → get_or s.values k 0 < word32
  price_below y p = p.below (sym e ∙ y)

  pub price_come : (p : ℤ) → b ≡ true → p ≡ sub_ℕ (get_or s.values k 0) bias → p ≡ price_shown k s
  unfolding price_shown
  price_come p y h = h ∙ rw (sym e ∙ y)

  pub price_none : b ≡ false → pos 0 ≡ price_shown k s
  unfolding price_shown
  price_none n = rw (sym e ∙ n)

-- of a sound strip each price that has come is one
sound_at : (i : ℕ) (qs : List Sort) (s : Strip) → sound_from i qs s ≡ true → (j : ℕ) → j < length qs → sound_value (get_or qs j Price) (i + j) s ≡ true
unfolding sound_from
sound_at i [] s h j l = absurd (omega (arith, l))
sound_at i (q ∷ qs) s h zero l =
    let e : i + 0 ≡ i = omega arith in
    rw e (both (sound_value q i s) (sound_from (i + 1) qs s) h).0
sound_at i (q ∷ qs) s h (suc j) l =
    let e : i + suc j ≡ i + 1 + j = omega arith in
    rw e (sound_at (i + 1) qs s (both (sound_value q i s) (sound_from (i + 1) qs s) h).1 j (omega (arith, l)))

pub price_at : (k : ℕ) (s : Strip) → sound_strip s ≡ true → k < value_count → get_or sorts k Price ≡ Price → PriceAt k s
unfolding sound_strip fields_of legal
price_at k s h l e =
    let p : sound_value Price k s ≡ true = rw (zero-add k, e) at (sound_at 0 sorts s (both (ltb s.flags 512) (sound_from 0 sorts s) h).1 k l) in
    record { below = λ y. ltb-true (value k s) word32 (rw y at p) }

-- the strip in a slot's words is sound where it is found
pub sound_found : (w : List ℕ) (o : Result Strip Refusal) (s : Strip) → o ≡ sound_strip_of w → o ≡ Ok s → sound_strip s ≡ true
unfolding sound
sound_found w o s = go (sound w) refl
  where
    go : (b : Bool) → sound w ≡ b → o ≡ cond b (Ok (strip_of w)) (Err Unsound) → o ≡ Ok s → sound_strip s ≡ true
    go true y h e =
        let f : s ≡ strip_of w = (cc) in
        ap sound_strip f ∙ (both (eqb (get_or w 11 0) 0) (sound_strip (strip_of w)) y).1
    go false n h e = absurd (cc)

-- by the slot that was found for a code
module _ (c : ℕ) (t : List ℕ) (a : Bool) (ea : a ≡ listed_code c) where
  pub read_unlisted : a ≡ false → strip_refused 15 ≡ read_strip c t
  unfolding read_strip read_answer first
  read_unlisted n = rw (sym ea ∙ n)

  module _ (y : a ≡ true) where
    without : (p : Slot) → place_in strips c t ≡ p → no_strip p ≡ true → strip_refused 4 ≡ read_strip c t
    unfolding read_strip read_answer first
    without p e n = rw (sym ea ∙ y, e, n)

    pub read_none : (f : Slot) → f ≡ place_in strips c t → Run.OneOf (1 ∷ 2 ∷ []) (Declared.tag_of slot'.the_type f) → strip_refused 4 ≡ read_strip c t
    unfolding no_strip
    read_none (Held k) e o = absurd (Run.miss (1 ∷ 2 ∷ []) 0 tt o)
    read_none (Free k) e o = without (Free k) (sym e) refl
    read_none Full e o = without Full (sym e) refl

    module _ (k : ℕ) (f : Slot) (w : List ℕ) (e : f ≡ place_in strips c t) (h : f ≡ Held k) (ew : w ≡ block strips k t) where
      pub read_held : (o : Result Strip Refusal) (s : Strip) (x : Shown) → o ≡ sound_strip_of w → o ≡ Ok s → read_as x ≡ strip_shown s → read_as x ≡ read_strip c t
      unfolding read_strip read_answer no_strip table.unsound_at table.value_at first
      read_held o s x g eo q = go (sound (block strips k t)) refl (g ∙ ap sound_strip_of ew)
        where
          go : (b : Bool) → sound (block strips k t) ≡ b → o ≡ cond b (Ok (strip_of (block strips k t))) (Err Unsound) → read_as x ≡ read_strip c t
          go true z j =
              let i : s ≡ strip_of (block strips k t) = (cc) in
              q ∙ ap strip_shown i ∙ rw (sym ea ∙ y, sym e ∙ h, z)
          go false z j = absurd (cc)

      pub read_unsound : (o : Result Strip Refusal) (r : Refusal) → o ≡ sound_strip_of w → o ≡ Err r → strip_refused (refusal_no r) ≡ read_strip c t
      unfolding read_strip read_answer no_strip table.unsound_at table.value_at first
      read_unsound o r g eo = go (sound (block strips k t)) refl (g ∙ ap sound_strip_of ew)
        where
          go : (b : Bool) → sound (block strips k t) ≡ b → o ≡ cond b (Ok (strip_of (block strips k t))) (Err Unsound) → strip_refused (refusal_no r) ≡ read_strip c t
          go true z j = absurd (cc)
          go false z j =
              let i : r ≡ Unsound = (cc) in
              rw (i, sym ea ∙ y, sym e ∙ h, z)

pub ruleset priced = (price_below, price_come, price_none)

pub ruleset showing = (held_fits, sound_found, read_unlisted, read_none, read_held, read_unsound)
