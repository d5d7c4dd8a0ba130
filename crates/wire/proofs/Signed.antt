-- The signed price that a word is kept for. Assumes nothing.
use Prim.Native.Nat.{ℕ, suc, ◌+◌, ◌-◌, ◌<◌}
use native.Mathlib.Omega.{arith}
use mathlib.Core.Path.{◌≡◌, refl}
use mathlib.Core.Bool.{Bool, true, false, cond}
use lib.Dec.{ltb}
use lib.IntN.{pos, negsuc, sub_ℕ}
use lib.Signed.{mag}
use mir.Syntax.{w32, w64}
use mir.Val.{SFits, to_z}
use mir.Facts.{to_z_pos}
use borrow.Author.Tests.{ltb-true, ltb-false, lt-ltb, le-ltb}
use Rattle.wire.specs.Number.{word32, bias, biased}

-- a word of 32 bits is its own signed value in 64
pub word_is : (w : ℕ) → w < word32 → to_z w64 w ≡ pos w
word_is w h = to_z_pos w64 (omega arith)

by_sign : (w : ℕ) (b : Bool) → ltb w bias ≡ b → w < word32 → mag (cond b (negsuc (bias - suc w)) (pos (w - bias))) < 9223372036854775808
by_sign w true e h = omega arith
by_sign w false e h = omega arith

-- a price fits 64 bits
pub price_fits : (w : ℕ) → w < word32 → SFits w64 (sub_ℕ w bias)
price_fits w h = record { sfits = by_sign w (ltb w bias) refl h }

back : (raw : ℕ) (b : Bool) → ltb raw bias ≡ b → raw < word32 → sub_ℕ (biased raw) bias ≡ to_z w32 raw
unfolding biased
back raw true e h =
    let l = ltb-true raw bias e in
    let p : biased raw ≡ raw + bias = omega arith in
    let q : raw + bias - bias ≡ raw = omega arith in
    rw (p, le-ltb (raw + bias) bias (omega arith), q, lt-ltb raw bias l)
back raw false e h =
    let l = ltb-false raw bias e in
    let p : biased raw ≡ raw - bias = omega arith in
    let q : bias - suc (raw - bias) ≡ word32 - suc raw = omega arith in
    rw (p, lt-ltb (raw - bias) bias (omega arith), q, le-ltb raw bias l)

-- the price that comes back is the one that was sent, in two's complement
pub sent : (raw : ℕ) → raw < word32 → sub_ℕ (biased raw) bias ≡ to_z w32 raw
sent raw h = back raw (ltb raw bias) refl h
