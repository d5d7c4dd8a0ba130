-- Rows best first, and bounded rows, after a row is put in, replaced or taken out. Assumes nothing.
use Prim.Native.Nat.{ℕ, zero, suc, ◌-◌, ◌≤◌, ◌<◌}
use mathlib.Core.Path.{◌≡◌, refl, sym}
use mathlib.Core.Bool.{Bool, true}
use mathlib.Core.List.{List, [], ◌∷◌, ◌++◌}
use native.Mathlib.Decide.{dec_lt}
use native.Mathlib.Omega.{arith}
use lib.ListN.{length, take, drop, get_or, set}
use borrow.Author.Tests.{lt-ltb, ltb-true}
use Rattle.ground.specs.Choice.{all}
use Rattle.ground.proofs.Bools.{both, join}
use Rattle.ladder.specs.Sides.{better, no_row}
use Rattle.ladder.specs.Words.{best_first}
use Rattle.ladder.specs.declared.Way.{Way}
use Rattle.ladder.specs.declared.Way.TheVariants.{Bid, Offer}
use Rattle.ladder.specs.declared.Row.{Row}
use Rattle.ladder.proofs.Shift.{ins, del}

-- better than what is better is better
pub better_trans : (w : Way) (a b c : ℕ) → better w a b ≡ true → better w b c ≡ true → better w a c ≡ true
unfolding better
better_trans Bid a b c p q = lt-ltb c a (omega (arith, ltb-true b a p, ltb-true c b q))
better_trans Offer a b c p q = lt-ltb a c (omega (arith, ltb-true a b p, ltb-true b c q))

-- a better price is another price
pub better_apart : (w : Way) (a b : ℕ) → better w a b ≡ true → a ≡ b → ⊥
unfolding better
better_apart Bid a b p e = omega (arith, ltb-true b a p)
better_apart Offer a b p e = omega (arith, ltb-true a b p)

module _ (w : Way) where
  -- the first row is better than the next, and the others are best first
  best_next : (a b : Row) (l : List Row) → best_first w (a ∷ b ∷ l) ≡ true → (better w a.price b.price ≡ true) × (best_first w (b ∷ l) ≡ true)
  unfolding best_first
  best_next a b l e = both (better w a.price b.price) (best_first w (b ∷ l)) e

  -- a better row in front
  best_more : (a b : Row) (l : List Row) → better w a.price b.price ≡ true → best_first w (b ∷ l) ≡ true → best_first w (a ∷ b ∷ l) ≡ true
  unfolding best_first
  best_more a b l p q = join (better w a.price b.price) (best_first w (b ∷ l)) p q

  -- one row, and none
  best_one : (a : Row) → best_first w (a ∷ []) ≡ true
  unfolding best_first
  best_one a = refl

  best_none : best_first w [] ≡ true
  unfolding best_first
  best_none = refl

  -- the rows behind the first
  best_tail : (a : Row) (l : List Row) → best_first w (a ∷ l) ≡ true → best_first w l ≡ true
  best_tail a [] e = best_none
  best_tail a (b ∷ l) e = (best_next a b l e).1

  -- the first n rows
  pub best_take : (n : ℕ) (l : List Row) → best_first w l ≡ true → best_first w (take n l) ≡ true
  best_take zero l e = best_none
  best_take (suc n) [] e = best_none
  best_take (suc zero) (a ∷ l) e = best_one a
  best_take (suc (suc n)) (a ∷ []) e = e
  best_take (suc (suc n)) (a ∷ b ∷ l) e =
      let t = best_next a b l e in
      best_more a b (take n l) t.0 (best_take (suc n) (b ∷ l) t.1)

  -- a row put in at k between its neighbours
  pub best_ins : (k : ℕ) (r : Row) (l : List Row) → k ≤ length l → best_first w l ≡ true
      → (0 < k → better w (get_or l (k - 1) no_row).price r.price ≡ true) → (k < length l → better w r.price (get_or l k no_row).price ≡ true) → best_first w (ins k r l) ≡ true
  best_ins zero r [] h e above below = best_one r
  best_ins zero r (a ∷ l) h e above below = best_more r a l (below (omega arith)) e
  best_ins (suc k) r [] h e above below = absurd (omega arith)
  best_ins (suc zero) r (a ∷ []) h e above below = best_more a r [] (above (omega arith)) (best_one r)
  best_ins (suc zero) r (a ∷ b ∷ l) h e above below =
      best_more a r (b ∷ l) (above (omega arith)) (best_more r b l (below (omega arith)) (best_next a b l e).1)
  best_ins (suc (suc k)) r (a ∷ []) h e above below = absurd (omega arith)
  best_ins (suc (suc k)) r (a ∷ b ∷ l) h e above below =
      let t = best_next a b l e in
      let up : suc (suc k) - 1 ≡ suc k = omega arith in
      let down : suc k - 1 ≡ k = omega arith in
      best_more a b (take k l ++ (r ∷ drop k l)) t.0 (best_ins (suc k) r (b ∷ l) (omega arith) t.1 (λ q. rw down (rw up at (above (omega arith)))) (λ q. below (omega arith)))

  -- a row replaced by one of the same price
  pub best_set : (k : ℕ) (r : Row) (l : List Row) → (get_or l k no_row).price ≡ r.price → best_first w l ≡ true → best_first w (set l k r) ≡ true
  unfolding best_first
  best_set k r [] h e = e
  best_set zero r (a ∷ []) h e = refl
  best_set zero r (a ∷ b ∷ l) h e = rw (← h) e
  best_set (suc k) r (a ∷ []) h e = refl
  best_set (suc zero) r (a ∷ b ∷ l) h e =
      let t = best_next a b l e in
      join (better w a.price r.price) (best_first w (r ∷ l)) (rw (← h) t.0) (best_set zero r (b ∷ l) h t.1)
  best_set (suc (suc k)) r (a ∷ b ∷ l) h e =
      let t = best_next a b l e in
      best_more a b (set l k r) t.0 (best_set (suc k) r (b ∷ l) h t.1)

  -- a row taken out
  pub best_del : (k : ℕ) (l : List Row) → best_first w l ≡ true → best_first w (del k l) ≡ true
  best_del zero [] e = e
  best_del zero (a ∷ l) e = best_tail a l e
  best_del (suc k) [] e = e
  best_del (suc k) (a ∷ []) e = go k
    where
      go : (k : ℕ) → best_first w (a ∷ del k []) ≡ true
      go zero = best_one a
      go (suc k) = best_one a
  best_del (suc zero) (a ∷ b ∷ []) e = best_one a
  best_del (suc zero) (a ∷ b ∷ c ∷ l) e =
      let t = best_next a b (c ∷ l) e in
      let u = best_next b c l t.1 in
      best_more a c l (better_trans w a.price b.price c.price t.0 u.0) u.1
  best_del (suc (suc k)) (a ∷ b ∷ l) e =
      let t = best_next a b l e in
      best_more a b (del k l) t.0 (best_del (suc k) (b ∷ l) t.1)

  -- of two rows the upper is better
  pub best_better : (l : List Row) (i j : ℕ) → best_first w l ≡ true → i < j → j < length l → better w (get_or l i no_row).price (get_or l j no_row).price ≡ true
  best_better [] i j e h t = absurd (omega arith)
  best_better (a ∷ l) i zero e h t = absurd (omega arith)
  best_better (a ∷ []) i (suc j) e h t = absurd (omega arith)
  best_better (a ∷ b ∷ l) zero (suc zero) e h t = (best_next a b l e).0
  best_better (a ∷ b ∷ l) zero (suc (suc j)) e h t =
      let n = best_next a b l e in
      better_trans w a.price b.price (get_or l j no_row).price n.0 (best_better (b ∷ l) zero (suc j) n.1 (omega arith) (omega arith))
  best_better (a ∷ b ∷ l) (suc i) (suc j) e h t = best_better (b ∷ l) i j (best_next a b l e).1 (omega arith) (omega arith)

  -- no price stands twice in a side
  pub price_once : (l : List Row) (i j : ℕ) → best_first w l ≡ true → i < length l → j < length l → (i ≡ j → ⊥) → (get_or l i no_row).price ≡ (get_or l j no_row).price → ⊥
  price_once l i j e hi hj ne = go (dec_lt i j)
    where
      go : Dec (i < j) → (get_or l i no_row).price ≡ (get_or l j no_row).price → ⊥
      go (yes t) q = better_apart w (get_or l i no_row).price (get_or l j no_row).price (best_better l i j e t hj) q
      go (no t) q = better_apart w (get_or l j no_row).price (get_or l i no_row).price (best_better l j i e (omega arith) hi) (sym q)

-- a test that passes at every element
module _ {A : Type 0} (f : A → Bool) where
  -- of two lists
  pub all_append : (l m : List A) → all f l ≡ true → all f m ≡ true → all f (l ++ m) ≡ true
  unfolding all
  all_append [] m p q = q
  all_append (a ∷ l) m p q =
      let t = both (f a) (all f l) p in
      join (f a) (all f (l ++ m)) t.0 (all_append l m t.1 q)

  -- of the first n
  pub all_take : (n : ℕ) (l : List A) → all f l ≡ true → all f (take n l) ≡ true
  unfolding all
  all_take zero l e = refl
  all_take (suc n) [] e = refl
  all_take (suc n) (a ∷ l) e =
      let t = both (f a) (all f l) e in
      join (f a) (all f (take n l)) t.0 (all_take n l t.1)

  -- of those behind the first n
  pub all_drop : (n : ℕ) (l : List A) → all f l ≡ true → all f (drop n l) ≡ true
  unfolding all
  all_drop zero l e = e
  all_drop (suc n) [] e = refl
  all_drop (suc n) (a ∷ l) e = all_drop n l (both (f a) (all f l) e).1

  -- where one is put in
  pub all_ins : (k : ℕ) (r : A) (l : List A) → f r ≡ true → all f l ≡ true → all f (ins k r l) ≡ true
  unfolding all
  all_ins k r l p e = all_append (take k l) (r ∷ drop k l) (all_take k l e) (join (f r) (all f (drop k l)) p (all_drop k l e))

  -- where one is taken out
  pub all_del : (k : ℕ) (l : List A) → all f l ≡ true → all f (del k l) ≡ true
  all_del k l e = all_append (take k l) (drop (suc k) l) (all_take k l e) (all_drop (suc k) l e)
