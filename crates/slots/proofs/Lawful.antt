-- What has to be known of a layout before the laws of its table hold (proofs/Values, Turns, ..). Assumes nothing.
use Prim.Native.Nat.{ℕ, ◌<◌}
use mathlib.Core.Path.{◌≡◌}
use mathlib.Core.Bool.{true}
use mathlib.Core.List.{List}
use lib.ListN.{length, replicate}
use Rattle.slots.specs.Slots.{code_of}
use Rattle.slots.specs.Layout.{Layout}

-- Fit: the values that are read back as they were written; Well: the values whose blocks are sound
pub record Lawful {A : Type 0} (L : Layout A) (Fit Well : A → Type 0) : Type 0 where
  -- a slot has a word for its code
  pub wide : 0 < L.width
  -- what is written is a whole block, and opens with the code
  pub whole : (c : ℕ) (a : A) → length (L.words c a) ≡ L.width
  pub opens : (c : ℕ) (a : A) → code_of (L.words c a) ≡ c
  -- it is read back, and it is sound
  pub back : (c : ℕ) (a : A) → Fit a → L.read (L.words c a) ≡ a
  pub sounds : (c : ℕ) (a : A) → Well a → L.sound (L.words c a) ≡ true
  -- what is read from a sound block, and the empty value, are both
  pub fit : (w : List ℕ) → L.sound w ≡ true → Fit (L.read w)
  pub well : (w : List ℕ) → L.sound w ≡ true → Well (L.read w)
  pub fit_empty : Fit L.empty
  pub well_empty : Well L.empty
  -- a block of zeros is sound (and free)
  pub zeros : L.sound (replicate L.width 0) ≡ true
