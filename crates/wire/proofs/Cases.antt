-- What each place of the code asks, from what its tests and calls told. Assumes nothing.
use Prim.Native.Nat.{ℕ, suc, ◌+◌, ◌-◌, ◌*◌, ◌^◌, ◌≤◌, ◌<◌}
use native.Mathlib.Nat.{sub_self, lt_of_lt_of_le, pow-le-pow_right, pow-succ'}
use native.Mathlib.Omega.{arith}
use mathlib.Core.Path.{◌≡◌, ◌∙◌}
use mathlib.Core.List.{List}
use lib.Dec.{lit<}
use lib.ListN.{get_or, drop}
use mir.Syntax.{w64}
use mir.Val.{Fits}
use borrow.Author.Rules.{rules}
use Rattle.wire.specs.Number.{field}
use Rattle.wire.proofs.Fields.{field_drop}

-- the number so far is that of the last n - i bytes
pub record Read (s : List ℕ) (at n v i : ℕ) : Type 0 where
  pub upto : i ≤ n
  pub few : n ≤ 8
  pub so_far : v ≡ field (at + i) (n - i) s
  pub below : v < 256 ^ (n - i)

-- no byte is read yet
pub read_none : (s : List ℕ) (at n : ℕ) → n ≤ 8 → Read s at n 0 n
unfolding field
read_none s at n h = record { upto = omega arith; few = h; so_far = rw (sub_self n); below = rw (sub_self n) (lit< tt) }

-- at most seven bytes leave room for one more in 64 bits
room : (s : List ℕ) (at n v i b : ℕ) → Read s at n v i → 0 < i → b < 256 → v * 256 + b < 18446744073709551616
room s at n v i b r h l =
    let k : n - i ≤ 7 = omega arith in
    omega (arith, lt_of_lt_of_le r.below (pow-le-pow_right {n = 256} (lit< tt) k))

pub room_times : (s : List ℕ) (at n v i : ℕ) → Read s at n v i → 0 < i → Fits w64 (v * 256)
room_times s at n v i r h = record { fits = omega (arith, room s at n v i 0 r h (lit< tt)) }

pub room_plus : (s : List ℕ) (at n v i b : ℕ) → Read s at n v i → 0 < i → b < 256 → Fits w64 (v * 256 + b)
room_plus s at n v i b r h l = record { fits = room s at n v i b r h l }

-- one byte more, below
pub read_more : (s : List ℕ) (at n v i b : ℕ) → Read s at n v i → 0 < i → b ≡ get_or s (at + (i - 1)) 0 → b < 256
    → Read s at n (v * 256 + b) (i - 1)
unfolding field
read_more s at n v i b r h e l =
    let p : n - (i - 1) ≡ suc (n - i) = omega arith in
    let q : at + (i - 1) + 1 ≡ at + i = omega arith in
    record {
      upto = omega arith;
      few = r.few;
      so_far = rw (p, field, q, ← r.so_far, ← e) (omega arith);
      below = rw (p, pow-succ' 256 (n - i)) (omega (arith, r.below));
    }

pub read_first : (s : List ℕ) (n v i b : ℕ) → Read s 0 n v i → 0 < i → b ≡ get_or s (i - 1) 0 → b < 256 → Read s 0 n (v * 256 + b) (i - 1)
read_first s n v i b r h e l =
    let z : 0 + (i - 1) ≡ i - 1 = omega arith in
    read_more s 0 n v i b r h (rw z e) l

-- the last byte is read
pub read_is : (s : List ℕ) (at n v i : ℕ) → Read s at n v i → i ≤ 0 → v ≡ field at n s
read_is s at n v i r h =
    let p : n - i ≡ n = omega arith in
    let q : at + i ≡ at = omega arith in
    rw (p, q) at r.so_far

pub read_below : (s : List ℕ) (at n v i : ℕ) → Read s at n v i → i ≤ 0 → v < 256 ^ n
read_below s at n v i r h =
    let p : n - i ≡ n = omega arith in
    rw p at r.below

-- two bytes and four, straight out
pub two_bytes : (s : List ℕ) (at a b : ℕ) → a ≡ get_or s at 0 → a < 256 → b ≡ get_or s (at + 1) 0 → b < 256 → (a + 256 * b ≡ field at 2 s) × (a + 256 * b < 65536)
unfolding field
two_bytes s at a b p h q k = (rw (← p, ← q) (omega arith), omega arith)

pub four_bytes : (s : List ℕ) (at a b c d : ℕ) → a ≡ get_or s at 0 → a < 256 → b ≡ get_or s (at + 1) 0 → b < 256 → c ≡ get_or s (at + 2) 0 → c < 256
    → d ≡ get_or s (at + 3) 0 → d < 256
    → (a + 256 * b + 65536 * c + 16777216 * d ≡ field at 4 s) × (a + 256 * b + 65536 * c + 16777216 * d < 4294967296)
unfolding field
four_bytes s at a b c d p h q k r l t m =
    let y : at + 1 + 1 ≡ at + 2 = omega arith in
    let z : at + 2 + 1 ≡ at + 3 = omega arith in
    (rw (y, z, ← p, ← q, ← r, ← t) (omega arith), omega arith)

-- eight bytes, straight out
pub eight_bytes : (s : List ℕ) (at a b c d e f g h r : ℕ)
    → r ≡ a + 256 * b + 65536 * c + 16777216 * d + 4294967296 * e + 1099511627776 * f + 281474976710656 * g + 72057594037927936 * h
    → a ≡ get_or s at 0 → a < 256 → b ≡ get_or s (at + 1) 0 → b < 256 → c ≡ get_or s (at + 2) 0 → c < 256 → d ≡ get_or s (at + 3) 0 → d < 256
    → e ≡ get_or s (at + 4) 0 → e < 256 → f ≡ get_or s (at + 5) 0 → f < 256 → g ≡ get_or s (at + 6) 0 → g < 256 → h ≡ get_or s (at + 7) 0 → h < 256
    → (r ≡ field at 8 s) × (r < 18446744073709551616)
unfolding field
eight_bytes s at a b c d e f g h r sum a₀ a₁ b₀ b₁ c₀ c₁ d₀ d₁ e₀ e₁ f₀ f₁ g₀ g₁ h₀ h₁ =
    let two : at + 1 + 1 ≡ at + 2 = omega arith in
    let three : at + 2 + 1 ≡ at + 3 = omega arith in
    let four : at + 3 + 1 ≡ at + 4 = omega arith in
    let five : at + 4 + 1 ≡ at + 5 = omega arith in
    let six : at + 5 + 1 ≡ at + 6 = omega arith in
    let seven : at + 6 + 1 ≡ at + 7 = omega arith in
    (rw (two, three, four, five, six, seven, ← a₀, ← b₀, ← c₀, ← d₀, ← e₀, ← f₀, ← g₀, ← h₀) (omega arith), omega arith)

-- and of the bytes behind a place
pub rest_is : (s r : List ℕ) (at n v i : ℕ) → r ≡ drop at s → Read r 0 n v i → i ≤ 0 → v ≡ field at n s
rest_is s r at n v i e h z =
    let a : at + 0 ≡ at = omega arith in
    read_is r 0 n v i h z ∙ rw (e, field_drop 0 n at s, a)

pub ruleset cases = (rules, read_none, room_times, room_plus, read_more, read_is, read_below)
