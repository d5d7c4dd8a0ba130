-- Laws of the numbers in bytes (specs/Number). Assumes nothing.
use Prim.Native.Nat.{ℕ, zero, suc, ◌+◌, ◌^◌, ◌≤◌, ◌<◌}
use native.Mathlib.Nat.{pow-succ'}
use native.Mathlib.Omega.{arith}
use mathlib.Core.Path.{◌≡◌, refl}
use mathlib.Core.List.{List, [], ◌∷◌, ◌++◌}
use lib.Dec.{T, ltb, ltb→lt, lit<}
use lib.ListN.{length, get_or, drop, get_or-eq_default, get_or-append}
use lib.Seq.{get_or-drop}
use Rattle.ground.specs.Choice.{all}
use Rattle.ground.proofs.Bools.{two}
use Rattle.wire.specs.Number.{field, bytes_only}

-- every number of a list of bytes is below 256, and so is the 0 beyond its end
pub byte_below : (s : List ℕ) (i : ℕ) → T (bytes_only s) → get_or s i 0 < 256
unfolding all
byte_below [] i h = lit< tt
byte_below (x ∷ s) zero h = ltb→lt x 256 (two (ltb x 256) (bytes_only s) h).0
byte_below (x ∷ s) (suc i) h = byte_below s i (two (ltb x 256) (bytes_only s) h).1

-- n bytes hold a number below 256 ^ n
pub field_below : (at n : ℕ) (s : List ℕ) → T (bytes_only s) → field at n s < 256 ^ n
unfolding field
field_below at zero s h = lit< tt
field_below at (suc n) s h = omega (arith, pow-succ' 256 n, byte_below s at h, field_below (at + 1) n s h)

-- what is read behind the first k bytes is read k further on
pub field_drop : (at n k : ℕ) (s : List ℕ) → field at n (drop k s) ≡ field (k + at) n s
unfolding field
field_drop at zero k s = refl
field_drop at (suc n) k s =
    let e : k + (at + 1) ≡ k + at + 1 = omega arith in
    rw (get_or-drop k s at 0, field_drop (at + 1) n k s, e)

-- bytes that follow do not change a number that is all there
pub field_append : (at n : ℕ) (a b : List ℕ) → at + n ≤ length a → field at n (a ++ b) ≡ field at n a
unfolding field
field_append at zero a b h = refl
field_append at (suc n) a b h = rw (get_or-append a b 0 at (omega arith), field_append (at + 1) n a b (omega arith))

-- where the bytes end behind k of n, the number is that of the k
pub field_clip : (at n k : ℕ) (s : List ℕ) → k ≤ n → length s ≤ at + k → field at n s ≡ field at k s
unfolding field
field_clip at zero zero s h l = refl
field_clip at zero (suc k) s h l = absurd (let z : ⊥ = omega arith in z)
field_clip at (suc n) zero s h l =
    let b : length s ≤ at = omega arith in
    rw (get_or-eq_default s 0 b, field_clip (at + 1) n 0 s (omega arith) (omega arith))
field_clip at (suc n) (suc k) s h l = rw (field_clip (at + 1) n k s (omega arith) (omega arith))
