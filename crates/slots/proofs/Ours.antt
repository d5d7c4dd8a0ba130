-- A table of n words, of which those behind the slots are zero: n zero words are one, a step keeps it so, a clearing gives the zero words again.
-- Over any lawful layout. Assumes nothing.
use Prim.Native.Nat.{ℕ, zero, suc, ◌+◌, ◌-◌, ◌*◌}
use native.Mathlib.Omega.{arith}
use mathlib.Core.Path.{◌≡◌, ap, ◌∙◌}
use mathlib.Core.List.{List}
use lib.ListN.{length, drop, replicate, length-replicate, replicate-append-replicate}
use Rattle.slots.specs.Slots.{cleared}
use Rattle.slots.specs.Layout.{Layout, Step, count_in, cleared_in, stepped}
use Rattle.slots.proofs.Lawful.{Lawful}
use Rattle.slots.proofs.Blocks.{slots_fit}
use Rattle.slots.proofs.Steps.{stepped_length, stepped_tail}

-- zeros behind zeros
drop_zeros : (k n : ℕ) → drop k (replicate {A = ℕ} n 0) ≡ replicate (n - k) 0
drop_zeros zero n = let e : n - 0 ≡ n = omega arith in rw e
drop_zeros (suc k) zero = let e : 0 - suc k ≡ 0 = omega arith in rw e
drop_zeros (suc k) (suc n) = let e : suc n - suc k ≡ n - k = omega arith in rw e (drop_zeros k n)

module _ {A : Type 0} (L : Layout A) where
  -- how many of n words are in slots
  abbrev slotted : ℕ → ℕ
  slotted n = L.width * count_in L n

  pub record Ours (n : ℕ) (t : List ℕ) : Type 0 where
    pub long : length t ≡ n
    pub rest : drop (slotted n) t ≡ replicate (n - slotted n) 0

  -- n zero words
  pub ours_start : (n : ℕ) → Ours n (replicate n 0)
  ours_start n = record { long = length-replicate n 0; rest = drop_zeros (slotted n) n }

  -- a clearing gives them again
  pub clear_ours : (n : ℕ) (t : List ℕ) → Ours n t → cleared_in L t ≡ replicate n 0
  unfolding cleared
  clear_ours n t o =
      rw (o.long, o.rest, replicate-append-replicate)
      (ap (λ (k : ℕ). replicate k 0) (let e : slotted n + (n - slotted n) ≡ n = omega (arith, slots_fit L.most L.width n) in e))

  -- a step keeps it so
  pub stepped_ours : {Fit Well : A → Type 0} → Lawful L Fit Well → (n : ℕ) (q : Step A) (t : List ℕ) → Ours n t → Ours n (stepped L q t)
  stepped_ours laws n q t o = record {
    long = stepped_length L q t laws ∙ o.long;
    rest = rw (← o.long) (stepped_tail L q t laws ∙ rw o.long o.rest);
  }
