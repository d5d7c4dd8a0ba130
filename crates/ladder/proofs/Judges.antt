-- A book's soundness as the code tests it, by two counts a side and one OR (specs/Words, specs/Loading). Assumes nothing.
use Prim.Native.Nat.{ℕ, zero, suc, ◌+◌, ◌-◌, ◌*◌, ◌≤◌, ◌<◌}
use mathlib.Core.Path.{◌≡◌, refl, ap, sym, ◌∙◌}
use mathlib.Core.Bool.{Bool, true, false, cond, ◌&&◌, false≢true}
use mathlib.Core.List.{List, [], ◌∷◌}
use native.Mathlib.Decide.{dec_le, dec_lt}
use native.Mathlib.Numerals.{add-one}
use native.Mathlib.Nat.{add-zero, zero-add}
use native.Mathlib.Omega.{arith}
use lib.Bits.{bit_or, or_lt, or_add_and, and_le_l, and_le_r}
use lib.Dec.{ltb, leb, eqb}
use lib.ListN.{length, take, drop, get_or, length-drop, drop_of_length-le}
use lib.Seq.{drop-cons, get_or-take, get_or-drop, length-take-le}
use borrow.Author.Rules.{rules}
use borrow.Author.Tests.{lt-ltb, ltb-true, le-leb, lt-leb, leb-true, eq-eqb, eqb-true}
use Rattle.ground.specs.Choice.{all}
use Rattle.wire.specs.Number.{word32}
use Rattle.ground.proofs.Bools.{both, join, split}
use Rattle.ladder.specs.Sides.{better, no_row}
use Rattle.ladder.specs.Words.{row_width, side_width, row_of, rows_from, best_first, bounded, zero_row, sound_side}
use Rattle.ladder.specs.Code.Loading.{rows_at, in_order, used_of, lows_of, sound_words}
use Rattle.ladder.specs.declared.Way.{Way}
use Rattle.ladder.specs.declared.Row.{Row}
use Rattle.ladder.proofs.Loads.{rows_ten, row_is}
use Rattle.ladder.proofs.Tells.{all_of, bounded_is, side_few, unused_zero, used_bounded, side_rows}
use Rattle.ladder.specs.Message.{depth}

-- two tests that tell the same, and one that cannot pass
same_test : (a b : Bool) → (a ≡ true → b ≡ true) → (b ≡ true → a ≡ true) → a ≡ b
same_test true b p q = sym (p refl)
same_test false true p q = q refl
same_test false false p q = refl

fails : (b : Bool) → (b ≡ true → ⊥) → false ≡ b
fails true p = absurd (p refl)
fails false p = refl

-- an OR is at least what it is made of
or_left : (a b : ℕ) → a ≤ bit_or a b
or_left a b = omega (arith, or_add_and a b, and_le_r a b)

or_right : (a b : ℕ) → b ≤ bit_or a b
or_right a b = omega (arith, or_add_and a b, and_le_l a b)

-- the OR of a row's words is zero where they are
zero_told : (r : Row) → eqb (bit_or (bit_or r.price r.orders) r.quantity) 0 ≡ zero_row r
unfolding zero_row
zero_told r = same_test (eqb any 0) (eqb r.price 0 && eqb r.quantity 0 && eqb r.orders 0) to from
  where
    low : ℕ
    low = bit_or r.price r.orders

    any : ℕ
    any = bit_or low r.quantity

    to : eqb any 0 ≡ true → (eqb r.price 0 && eqb r.quantity 0 && eqb r.orders 0) ≡ true
    to e =
        let z : any ≡ 0 = eqb-true any 0 e in
        let l : low ≡ 0 = omega (arith, or_left low r.quantity, z) in
        join (eqb r.price 0 && eqb r.quantity 0) (eqb r.orders 0)
        (join (eqb r.price 0) (eqb r.quantity 0)
        (eq-eqb r.price 0 (omega (arith, or_left r.price r.orders, l)))
        (eq-eqb r.quantity 0 (omega (arith, or_right low r.quantity, z))))
        (eq-eqb r.orders 0 (omega (arith, or_right r.price r.orders, l)))

    from : (eqb r.price 0 && eqb r.quantity 0 && eqb r.orders 0) ≡ true → eqb any 0 ≡ true
    from e =
        let p = both (eqb r.price 0 && eqb r.quantity 0) (eqb r.orders 0) e in
        let q = both (eqb r.price 0) (eqb r.quantity 0) p.0 in
        eq-eqb any 0 (λ i. bit_or (bit_or (eqb-true r.price 0 q.0 i) (eqb-true r.orders 0 p.1 i)) (eqb-true r.quantity 0 q.1 i))

-- how many rows go strictly on
module _ (w : Way) where
  some_order : (x : Row) (l : List Row) → 1 ≤ in_order w (x ∷ l)
  unfolding in_order
  some_order x [] = omega arith
  some_order x (y ∷ l) = split (λ (n : ℕ). 1 ≤ n) (better w x.price y.price) _ _ (λ e. omega arith) (λ e. omega arith)

  order_fits : (l : List Row) → in_order w l ≤ length l
  unfolding in_order
  order_fits [] = omega arith
  order_fits (x ∷ []) = omega arith
  order_fits (x ∷ y ∷ l) = split (λ (n : ℕ). n ≤ suc (suc (length l))) (better w x.price y.price) _ _ (λ e. omega (arith, order_fits (y ∷ l))) (λ e. omega arith)

  -- as many rows are in order, and no more
  order_best : (n : ℕ) (l : List Row) → n ≤ in_order w l → best_first w (take n l) ≡ true
  unfolding in_order best_first
  order_best zero l h = refl
  order_best (suc n) [] h = refl
  order_best (suc zero) (x ∷ l) h = refl
  order_best (suc (suc n)) (x ∷ []) h = refl
  order_best (suc (suc n)) (x ∷ y ∷ l) h = go (better w x.price y.price) h (λ k. order_best (suc n) (y ∷ l) k)
    where
      go : (b : Bool) → suc (suc n) ≤ cond b (suc (in_order w (y ∷ l))) 1 → (suc n ≤ in_order w (y ∷ l) → best_first w (y ∷ take n l) ≡ true) → b && best_first w (y ∷ take n l) ≡ true
      go true k f = f (omega arith)
      go false k f = absurd (omega arith)

  best_order : (n : ℕ) (l : List Row) → n ≤ length l → best_first w (take n l) ≡ true → n ≤ in_order w l
  unfolding in_order best_first
  best_order zero l h e = omega arith
  best_order (suc n) [] h e = absurd (omega arith)
  best_order (suc zero) (x ∷ l) h e = some_order x l
  best_order (suc (suc n)) (x ∷ []) h e = absurd (omega arith)
  best_order (suc (suc n)) (x ∷ y ∷ l) h e =
      let t = both (better w x.price y.price) (best_first w (y ∷ take n l)) e in
      rw t.0 (omega (arith, best_order (suc n) (y ∷ l) (omega arith) t.1))

-- how far down rows are used
module _ (rows : List Row) (n : ℕ) where
  used_zero : (m : ℕ) → used_of m rows ≤ n → (j : ℕ) → n ≤ j → j < m → zero_row (get_or rows j no_row) ≡ true
  unfolding used_of
  used_zero zero h j a b = absurd (omega arith)
  used_zero (suc m) h j a b = go (zero_row (get_or rows m no_row)) refl h (dec_lt j m) (λ k t. used_zero m k j a t)
    where
      go : (z : Bool) → zero_row (get_or rows m no_row) ≡ z → cond z (used_of m rows) (suc m) ≤ n → Dec (j < m) → (used_of m rows ≤ n → j < m → zero_row (get_or rows j no_row) ≡ true) → zero_row (get_or rows j no_row) ≡ true
      go true e k (yes t) f = f k t
      go true e k (no t) f =
          let q : j ≡ m = omega arith in
          ap (λ (i : ℕ). zero_row (get_or rows i no_row)) q ∙ e
      go false e k d f = absurd (omega arith)

  zero_used : (m : ℕ) → ((j : ℕ) → n ≤ j → j < m → zero_row (get_or rows j no_row) ≡ true) → used_of m rows ≤ n
  unfolding used_of
  zero_used zero f = omega arith
  zero_used (suc m) f =
      split (λ (k : ℕ). k ≤ n) (zero_row (get_or rows m no_row)) _ _ (λ e. zero_used m (λ j a b. f j a (omega arith))) (λ e. go e (dec_le (suc m) n))
    where
      go : zero_row (get_or rows m no_row) ≡ false → Dec (suc m ≤ n) → suc m ≤ n
      go e (yes t) = t
      go e (no t) = absurd (false≢true (sym e ∙ f m (omega arith) (omega arith)))

-- the OR of all price and orders words
module _ (rows : List Row) where
  low_bounded : (r : Row) → bit_or r.price r.orders < word32 → bounded r ≡ true
  unfolding bounded
  low_bounded r h =
      join (ltb r.price word32) (ltb r.orders word32)
      (lt-ltb r.price word32 (omega (arith, or_left r.price r.orders)))
      (lt-ltb r.orders word32 (omega (arith, or_right r.price r.orders)))

  lows_bounded : (m : ℕ) → lows_of m rows < word32 → (j : ℕ) → j < m → bounded (get_or rows j no_row) ≡ true
  unfolding lows_of
  lows_bounded zero h j b = absurd (omega arith)
  lows_bounded (suc m) h j b =
      let r : Row = get_or rows m no_row in
      let low : ℕ = bit_or r.price r.orders in
      go (dec_lt j m) (lows_bounded m (omega (arith, or_left (lows_of m rows) low, h)) j) (low_bounded r (omega (arith, or_right (lows_of m rows) low, h)))
    where
      go : Dec (j < m) → (j < m → bounded (get_or rows j no_row) ≡ true) → bounded (get_or rows m no_row) ≡ true → bounded (get_or rows j no_row) ≡ true
      go (yes t) f e = f t
      go (no t) f e =
          let q : j ≡ m = omega arith in
          ap (λ (i : ℕ). bounded (get_or rows i no_row)) q ∙ e

  bounded_lows : (m : ℕ) → ((j : ℕ) → j < m → bounded (get_or rows j no_row) ≡ true) → lows_of m rows < word32
  unfolding lows_of
  bounded_lows zero f = omega arith
  bounded_lows (suc m) f =
      let r : Row = get_or rows m no_row in
      let b = bounded_is r (f m (omega arith)) in
      or_lt 32 (lows_of m rows) (bit_or r.price r.orders) (bounded_lows m (λ j a. f j (omega arith))) (or_lt 32 r.price r.orders b.0 b.1)

-- a side is sound where its count is at most the rows in order, at least the rows used, and the OR is small
module _ (w : Way) (n : ℕ) (rows : List Row) (ten : length rows ≡ depth) where
  sound_order : sound_side w n rows ≡ true → n ≤ in_order w rows
  sound_order s = best_order w n rows (omega (arith, side_few w n rows s, ten)) (side_rows w n rows s ten).best

  sound_words_lem : sound_side w n rows ≡ true → sound_words n rows ≡ true
  unfolding sound_words
  sound_words_lem s =
      join (leb (used_of depth rows) n) (ltb (lows_of depth rows) word32)
      (le-leb (used_of depth rows) n (zero_used rows n depth (λ j a b. ap zero_row (unused_zero w n rows s ten j a b) ∙ zero)))
      (lt-ltb (lows_of depth rows) word32 (bounded_lows rows depth (λ j b. go j b (dec_lt j n))))
    where
      zero : zero_row no_row ≡ true
      zero = unfold zero_row in refl

      small : bounded no_row ≡ true
      small = unfold bounded in refl

      go : (j : ℕ) → j < depth → Dec (j < n) → bounded (get_or rows j no_row) ≡ true
      go j b (yes t) = used_bounded w n rows s ten j t
      go j b (no t) = ap bounded (unused_zero w n rows s ten j (omega arith) b) ∙ small

  words_sound : n ≤ in_order w rows → sound_words n rows ≡ true → sound_side w n rows ≡ true
  unfolding sound_words sound_side
  words_sound h e =
      let p = both (leb (used_of depth rows) n) (ltb (lows_of depth rows) word32) e in
      let few : n ≤ depth = omega (arith, order_fits w rows, ten) in
      join (leb n depth && all zero_row (drop n rows) && all bounded (take n rows)) (best_first w (take n rows))
      (join (leb n depth && all zero_row (drop n rows)) (all bounded (take n rows))
      (join (leb n depth) (all zero_row (drop n rows)) (le-leb n depth few)
      (all_of zero_row (drop n rows) no_row (λ i t.
      let u : i < depth - n = rw (length-drop, ten) at t in
      ap zero_row (get_or-drop n rows i no_row) ∙ used_zero rows n depth (leb-true (used_of depth rows) n p.0) (n + i) (omega arith) (omega arith))))
      (all_of bounded (take n rows) no_row (λ i t.
      let u : i < n = omega (arith, length-take-le n rows (omega (arith, ten))) in
      ap bounded (get_or-take n rows i no_row u) ∙ lows_bounded rows depth (ltb-true (lows_of depth rows) word32 p.1) i (omega arith))))
      (order_best w n rows h)

module _ (base : ℕ) (w : List ℕ) where
  -- a row's price is its first word
  price_at : (i : ℕ) → i < depth → (get_or (rows_from base w) i no_row).price ≡ get_or w (base + row_width * i) 0
  price_at i h = ap (λ (r : Row). r.price) (row_is base w i h) ∙ get_or-drop (base + row_width * i) w 0 0 ∙ ap (λ (k : ℕ). get_or w k 0) (add-zero (base + row_width * i))

  -- the rows from the i-th on are counted
  pub record Ordering (way : Way) (found i : ℕ) : Type 0 where
    pub room : base + side_width ≤ length w
    pub under : i ≤ 9
    pub same : found ≡ i + in_order way (drop i (rows_from base w))

  pub order_starts : (way : Way) → base + side_width ≤ length w → Ordering way depth 9
  unfolding in_order
  order_starts way h = record {
    room = h;
    under = omega arith;
    same = rw (drop-cons (rows_from base w) 9 no_row (omega (arith, rows_ten base w)), drop_of_length-le (rows_from base w) {i = depth} (omega (arith, rows_ten base w)));
  }

  pub order_goes : (way : Way) (found i x : ℕ) (fine : Bool) → Ordering way found i → 0 < i → fine ≡ better way (get_or w (base + row_width * i - row_width) 0) (get_or w (base + row_width * i) 0) → x ≡ cond fine found i
      → Ordering way x (i - 1)
  unfolding in_order
  order_goes way found i x fine p h e q =
      let rows : List Row = rows_from base w in
      let j : ℕ = i - 1 in
      let up : suc j ≡ i = omega arith in
      let back : base + row_width * i - row_width ≡ base + row_width * j = omega arith in
      let top : drop j rows ≡ get_or rows j no_row ∷ drop i rows = drop-cons rows j no_row (omega (arith, rows_ten base w, p.under)) ∙ ap (λ (k : ℕ). get_or rows j no_row ∷ drop k rows) up in
      let next : drop i rows ≡ get_or rows i no_row ∷ drop (suc i) rows = drop-cons rows i no_row (omega (arith, rows_ten base w, p.under)) in
      let b : fine ≡ better way (get_or rows j no_row).price (get_or rows i no_row).price = e ∙ rw (back, price_at j (omega (arith, p.under)), price_at i (omega (arith, p.under))) in
      let c : in_order way (drop j rows) ≡ cond fine (suc (in_order way (drop i rows))) 1 = ap (in_order way) (top ∙ ap (λ (l : List Row). get_or rows j no_row ∷ l) next) ∙ rw (← b, next) in
      record { room = p.room; under = omega (arith, p.under); same = q ∙ go fine c }
    where
      go : (b : Bool) → in_order way (drop (i - 1) (rows_from base w)) ≡ cond b (suc (in_order way (drop i (rows_from base w)))) 1 → cond b found i ≡ (i - 1) + in_order way (drop (i - 1) (rows_from base w))
      go true c = omega (arith, c, p.same)
      go false c = omega (arith, c)

  pub order_ends : (way : Way) (found i : ℕ) → base ≡ rows_at way → Ordering way found i → i ≤ 0 → found ≡ in_order way (rows_from (rows_at way) w)
  order_ends way found i e p h =
      let z : i ≡ 0 = omega arith in
      p.same ∙ rw (z, zero-add, e)

  -- the first i rows are looked at
  pub record Looking (used lows i : ℕ) : Type 0 where
    pub room : base + side_width ≤ length w
    pub upto : i ≤ depth
    pub far : used ≡ used_of i (rows_from base w)
    pub low : lows ≡ lows_of i (rows_from base w)

  pub look_starts : base + side_width ≤ length w → Looking 0 0 0
  unfolding used_of lows_of
  look_starts h = record { room = h; upto = omega arith; far = refl; low = refl }

  pub look_goes : (used lows i x : ℕ) (r : Row) → Looking used lows i → i < depth → r ≡ row_of (drop (base + row_width * i) w)
      → x ≡ cond (eqb (bit_or (bit_or r.price r.orders) r.quantity) 0) used (i + 1) → Looking x (bit_or lows (bit_or r.price r.orders)) (i + 1)
  unfolding used_of lows_of
  look_goes used lows i x r p h e q =
      let s : r ≡ get_or (rows_from base w) i no_row = e ∙ sym (row_is base w i h) in
      record {
        room = p.room;
        upto = omega arith;
        far = q ∙ rw (zero_told r, add-one i) (λ k. cond (zero_row (s k)) (p.far k) (suc i));
        low = rw (add-one i) (λ k. bit_or (p.low k) (bit_or (s k).price (s k).orders));
      }

  pub look_far : (way : Way) (used lows i n : ℕ) → base ≡ rows_at way → Looking used lows i → depth ≤ i → n < used → leb used n ≡ sound_words n (rows_from (rows_at way) w)
  unfolding sound_words
  look_far way used lows i n e p h t =
      let z : i ≡ depth = omega (arith, p.upto) in
      let f : used ≡ used_of depth (rows_from base w) = p.far ∙ ap (λ (k : ℕ). used_of k (rows_from base w)) z in
      rw (← e, lt-leb used n t, lt-leb (used_of depth (rows_from base w)) n (omega (arith, f)))

  pub look_low : (way : Way) (used lows i n : ℕ) → base ≡ rows_at way → Looking used lows i → depth ≤ i → used ≤ n → ltb lows word32 ≡ sound_words n (rows_from (rows_at way) w)
  unfolding sound_words
  look_low way used lows i n e p h t =
      let z : i ≡ depth = omega (arith, p.upto) in
      let f : used ≡ used_of depth (rows_from base w) = p.far ∙ ap (λ (k : ℕ). used_of k (rows_from base w)) z in
      let g : lows ≡ lows_of depth (rows_from base w) = p.low ∙ ap (λ (k : ℕ). lows_of k (rows_from base w)) z in
      rw (← e, le-leb (used_of depth (rows_from base w)) n (omega (arith, f)), g)

  -- the two tests of a side
  pub side_unordered : (way : Way) (n o : ℕ) → o ≡ in_order way (rows_from base w) → o < n → false ≡ sound_side way n (rows_from base w)
  side_unordered way n o e h = fails (sound_side way n (rows_from base w)) (λ s. omega (arith, e, sound_order way n (rows_from base w) (rows_ten base w) s))

  pub side_ordered : (way : Way) (n o : ℕ) (b : Bool) → o ≡ in_order way (rows_from base w) → n ≤ o → b ≡ sound_words n (rows_from base w) → b ≡ sound_side way n (rows_from base w)
  side_ordered way n o b e h q =
      let rows : List Row = rows_from base w in
      q ∙ same_test (sound_words n rows) (sound_side way n rows) (words_sound way n rows (rows_ten base w) (omega (arith, e))) (sound_words_lem way n rows (rows_ten base w))

pub ruleset judges = (rules, order_starts, order_goes, order_ends, look_starts, look_goes, look_far, look_low, side_unordered, side_ordered)
