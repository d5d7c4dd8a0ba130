-- A value that comes sets its own bit of the flags and no other, and is the value at its place alone (specs/Words). Assumes nothing.
use Prim.Native.Nat.{ℕ, zero, suc, ◌/◌, ◌%◌, ◌^◌, ◌<◌}
use native.Mathlib.Nat.{pow-suc, div-one, div_self, div-eq_of_lt, mul-div-mul_right}
use native.Mathlib.Omega.{arith}
use mathlib.Core.Path.{◌≡◌, refl, ap}
use mathlib.Core.Bool.{true}
use lib.Bits.{bit_or, or_shr, or_step}
use lib.Dec.{eqb, lit<}
use lib.ListN.{length}
use lib.Pow.{pow_pos, pow-lt}
use lib.Seq.{get_or-set_same, get_or-set_other}
use borrow.Author.Tests.{eq-eqb}
use Rattle.strips.specs.Words.{come, value, stored}
use Rattle.strips.specs.declared.Strip.{Strip}

-- bit j of 2 ^ k
other_bit : (j k : ℕ) → (j ≡ k → ⊥) → 2 ^ k / 2 ^ j % 2 ≡ 0
other_bit zero zero n = absurd (n refl)
other_bit zero (suc k) n = rw (div-one (2 ^ suc k), pow-suc 2 k) (omega arith)
other_bit (suc j) zero n = rw (div-eq_of_lt (pow-lt {i = 0} {j = suc j} (omega arith)))
other_bit (suc j) (suc k) n =
    rw (pow-suc 2 k, pow-suc 2 j, mul-div-mul_right (2 ^ k) (2 ^ j) (lit< {m = 0} {n = 2} tt)) (other_bit j k (λ e. n (ap suc e)))

-- of an OR
low_bit : (a b : ℕ) → b % 2 ≡ 1 → bit_or a b % 2 ≡ 1
low_bit a b e = rw (or_step a b) (omega (arith, e))

same_bit : (a b : ℕ) → b % 2 ≡ 0 → bit_or a b % 2 ≡ a % 2
same_bit a b e = rw (or_step a b) (omega (arith, e))

module _ (k v : ℕ) (s : Strip) where
  -- the value that came has come, and what came is it
  pub come_own : come k (stored k v s) ≡ true
  unfolding come stored
  come_own =
      rw (or_shr s.flags (2 ^ k) k, div_self (pow_pos k)) (eq-eqb (bit_or (s.flags / 2 ^ k) 1 % 2) 1 (low_bit (s.flags / 2 ^ k) 1 refl))

  pub value_own : k < length s.values → value k (stored k v s) ≡ v
  unfolding stored
  value_own h = get_or-set_same s.values k v 0 h

  -- any other is as it was
  pub come_other : (j : ℕ) → (j ≡ k → ⊥) → come j (stored k v s) ≡ come j s
  unfolding come stored
  come_other j n =
      rw (or_shr s.flags (2 ^ k) j) (ap (λ (b : ℕ). eqb b 1) (same_bit (s.flags / 2 ^ j) (2 ^ k / 2 ^ j) (other_bit j k n)))

  pub value_other : (j : ℕ) → (j ≡ k → ⊥) → value j (stored k v s) ≡ value j s
  unfolding stored
  value_other j n = get_or-set_other s.values k j v 0 n
