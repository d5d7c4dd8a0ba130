-- What copying leaves in a holding buffer. Assumes nothing.
use Prim.Native.Nat.{ℕ, ◌+◌, ◌-◌, ◌≤◌, ◌<◌}
use native.Mathlib.Omega.{arith}
use mathlib.Core.Path.{◌≡◌, refl, sym, ap, ◌∙◌}
use mathlib.Core.Bool.{Bool, true, false, cond, ◌&&◌}
use mathlib.Core.List.{List, ◌++◌}
use lib.ListN.{length, take, drop, length-drop, length-append, drop_of_length-le}
use lib.Seq.{paste, length-take-le, take_all, take_at, drop_at, take-add, take-take, take-append-le, take-append-add, length_paste_head}
use lib.Dec.{ltb}
use borrow.Rule.Slice.PartMut.{put_mid}
use borrow.Author.Tests.{lt-ltb, le-ltb, ltb-false}
use Rattle.std.proofs.lemmas.Slice.{put_mid-paste}
use Rattle.lines.specs.Scraps.{behind, laid, gathered, moved_up}

-- the bytes that wait, and those of a scrap behind them
module _ (w : ℕ) (h s : List ℕ) (a : w ≤ length h) where
  pub behind_length : length (behind w h s) ≡ w + length s
  behind_length = rw (length-append (take w h) s, length-take-le w h a)

  pub behind_take : (n : ℕ) → w ≤ n → take n (behind w h s) ≡ take w h ++ take (n - w) s
  behind_take n l =
      let e : n ≡ length (take w h) + (n - w) = rw (length-take-le w h a) (omega arith) in
      ap (λ (k : ℕ). take k (behind w h s)) e ∙ take-append-add (take w h) s (n - w)

  -- what is copied behind them lies at the front with them
  placed : (k : ℕ) (u : List ℕ) → length u ≡ k → put_mid w k h u ≡ laid (take w h ++ u) h
  placed k u z =
      let t = take_all k u (omega (arith, z)) in
      let l = rw t at (length_paste_head h w u k a (omega (arith, z))) in
      put_mid-paste w k h u u k refl refl (sym z) ∙ rw (t, l)

  pub put_behind : (k : ℕ) (u : List ℕ) → k ≡ length s → u ≡ s → put_mid w k h u ≡ laid (behind w h s) h
  put_behind k u e f = rw f (placed k s (sym e))

  module _ (n : ℕ) where
    pub gather_whole : n ≤ w → h ≡ gathered n w h s
    unfolding gathered
    gather_whole l = rw (le-ltb w n l, no_second (ltb 0 w))
      where
        no_second : (b : Bool) → (b && false) ≡ false
        no_second true = refl
        no_second false = refl

    pub gather_part : (u : List ℕ) → 0 < w → w < n → n ≤ w + length s → u ≡ take (n - w) s → put_mid w (n - w) h u ≡ gathered n w h s
    unfolding gathered
    gather_part u z l k e =
        rw (lt-ltb 0 w z, lt-ltb w n l, e)
        (placed (n - w) (take (n - w) s) (length-take-le (n - w) s (omega arith)) ∙ ap (λ (r : List ℕ). laid r h) (sym (behind_take n (omega arith))))

    -- what lies at the front of the buffer then is the unit
    pub gathered_front : (g : List ℕ) → (w ≡ 0 → ⊥) → n ≤ w + length s → g ≡ gathered n w h s → take n g ≡ take n (behind w h s)
    unfolding gathered
    gathered_front g z k e = ap (take n) (rw (lt-ltb 0 w (omega (arith, z))) at e) ∙ go (ltb w n) refl
      where
        go : (b : Bool) → ltb w n ≡ b → take n (cond b (laid (take n (behind w h s)) h) h) ≡ take n (behind w h s)
        go true c =
            take_at (take n (behind w h s)) (drop (length (take n (behind w h s))) h) n (length-take-le n (behind w h s) (rw behind_length k))
        go false c =
            let l = ltb-false w n c in
            sym (take-append-le n (take w h) s (rw (length-take-le w h a) l) ∙ take-take n w h l)

    pub gathered_long : n ≤ length h → n ≤ w + length s → length (gathered n w h s) ≡ length h
    unfolding gathered
    gathered_long k l = go (ltb 0 w && ltb w n)
      where
        go : (b : Bool) → length (cond b (laid (take n (behind w h s)) h) h) ≡ length h
        go true =
            let e : length (take n (behind w h s)) ≡ n = length-take-le n (behind w h s) (rw behind_length l) in
            length-append (take n (behind w h s)) (drop (length (take n (behind w h s))) h) ∙ rw (e, length-drop n h) (omega arith)
        go false = refl

-- what waits behind a unit
module _ (w n : ℕ) (h : List ℕ) (a : w ≤ length h) where
  pub moved_none : w ≤ n → h ≡ moved_up n w h
  moved_none l = rw (drop_of_length-le (take w h) {i = n} (rw (length-take-le w h a) l))

  rest_is : n < w → drop n (take w h) ≡ take (w - n) (drop n h)
  rest_is l =
      let e : w ≡ n + (w - n) = omega arith in
      ap (λ (k : ℕ). drop n (take k h)) e
      ∙ ap (drop n) (take-add n (w - n) h)
      ∙ drop_at (take n h) (take (w - n) (drop n h)) n (length-take-le n h (omega arith))

  pub moved_up_lem : (g : List ℕ) → n < w → g ≡ paste h 0 (drop n h) (w - n) → g ≡ moved_up n w h
  moved_up_lem g l e =
      let k : length (drop n (take w h)) ≡ 0 + (w - n) = rw (length-drop n (take w h), length-take-le w h a) (omega arith) in
      e ∙ rw (k, rest_is l)
