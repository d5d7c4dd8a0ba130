-- Laws of the lists of specs/Choice. Assumes nothing.
use Prim.Native.Nat.{ℕ, zero, suc, ◌+◌, ◌<◌}
use native.Mathlib.Nat.{le_of_suc-le-suc, not-suc-le-zero}
use native.Mathlib.Numerals.{add-one}
use native.Mathlib.Omega.{arith}
use mathlib.Core.Path.{◌≡◌, refl, sym, ap, subst}
use mathlib.Core.Bool.{Bool, true, false, cond, not, ◌&&◌, ◌||◌, false≢true}
use mathlib.Core.List.{List, [], ◌∷◌, ◌++◌}
use lib.Dec.{T, eqb, eqb→eq}
use lib.ListN.{length, drop, get_or, set}
use lib.Seq.{drop-cons}
use borrow.Author.Tests.{eqb-true, eq-eqb}
use Rattle.ground.specs.Choice.{one_of, pick, first, all, any, same}
use Rattle.ground.proofs.Bools.{both, join, or_second, two, pair}

-- tests in order, each of which has the property beside it or does not pass: what is picked has the property
pub first_may : {A : Type 0} (g : A → Bool) (ts : List (Bool × A)) (other : A)
    → T (all (λ t. g t.1 || not t.0) ts) → T (g other) → T (g (first ts other))
unfolding first all
first_may g [] other h z = z
first_may {A} g (t ∷ ts) other h z = go t.0 (g t.1) (all (λ t. g t.1 || not t.0) ts) h (λ r. first_may g ts other r z) refl
  where
    go : (b c r : Bool) → T ((c || not b) && r) → (T r → T (g (first ts other))) → c ≡ g t.1 → T (g (cond b t.1 (first ts other)))
    go true true r h k e = subst (λ (x : Bool). T x) e tt
    go true false r h k e = absurd h
    go false true r h k e = k h
    go false false r h k e = k h

-- a property at every number of a list
abbrev pub Each : (ℕ → Type 0) → List ℕ → Type 0
Each P [] = Unit
Each P (k ∷ ks) = P k × Each P ks

-- a number that is among those listed has their property
pub each_has : (P : ℕ → Type 0) (ks : List ℕ) → Each P ks → (n : ℕ) → T (one_of n ks) → P n
unfolding one_of
each_has P [] p n h = absurd h
each_has P (k ∷ ks) p n h = go (eqb n k) refl h (each_has P ks p.1 n)
  where
    go : (b : Bool) → eqb n k ≡ b → T (b || one_of n ks) → (T (one_of n ks) → P n) → P n
    go true e h rest = subst P (sym (eqb→eq n k (subst (λ (x : Bool). T x) (sym e) tt))) p.0
    go false e h rest = rest h

-- what all of one list behind another pass, all of each pass
pub all_parts : {A : Type 0} (f : A → Bool) (xs ys : List A) → T (all f (xs ++ ys)) → T (all f xs) × T (all f ys)
unfolding all
all_parts f [] ys h = (tt, h)
all_parts f (x ∷ xs) ys h =
    let k = two (f x) (all f (xs ++ ys)) h in
    let r = all_parts f xs ys k.1 in
    (pair (f x) (all f xs) k.0 r.0, r.1)

-- the test beside the first answer that is the one asked for, and false where there is none
abbrev pub test_of : {A : Type 0} → (A → Bool) → List (Bool × A) → Bool
test_of asked [] = false
test_of asked (t ∷ ts) = cond (asked t.1) t.0 (test_of asked ts)

-- no answer up to that one has a property
abbrev pub none_upto : {A : Type 0} → (A → Bool) → (A → Bool) → List (Bool × A) → Bool
none_upto g asked [] = true
none_upto g asked (t ∷ ts) = not (g t.1) && cond (asked t.1) true (none_upto g asked ts)

-- what is picked has a property that no answer up to the one asked for has: so its test did not pass
pub first_skips : {A : Type 0} (g asked : A → Bool) (ts : List (Bool × A)) (other : A) → T (g (first ts other)) → T (none_upto g asked ts) → test_of asked ts ≡ false
unfolding first
first_skips g asked [] other h n = refl
first_skips {A} g asked (t ∷ ts) other h n = go t.0 (g t.1) (asked t.1) refl h n (first_skips g asked ts other)
  where
    go : (b c d : Bool) → c ≡ g t.1 → T (g (cond b t.1 (first ts other))) → T (not c && cond d true (none_upto g asked ts))
        → (T (g (first ts other)) → T (none_upto g asked ts) → test_of asked ts ≡ false) → cond d b (test_of asked ts) ≡ false
    go b true d e h n rest = absurd n
    go true false d e h n rest = absurd (subst (λ (x : Bool). T x) (sym e) h)
    go false false true e h n rest = refl
    go false false false e h n rest = rest h n

-- and where no answer of the list has it, no test passes
pub first_fails : {A : Type 0} (g : A → Bool) (ts : List (Bool × A)) (other : A) → T (g (first ts other)) → T (all (λ t. not (g t.1)) ts) → T (all (λ t. not t.0) ts)
unfolding first all
first_fails g [] other h n = tt
first_fails {A} g (t ∷ ts) other h n = go t.0 (g t.1) refl h n (first_fails g ts other)
  where
    go : (b c : Bool) → c ≡ g t.1 → T (g (cond b t.1 (first ts other))) → T (not c && all (λ t. not (g t.1)) ts)
        → (T (g (first ts other)) → T (all (λ t. not (g t.1)) ts) → T (all (λ t. not t.0) ts)) → T (not b && all (λ t. not t.0) ts)
    go b true e h n rest = absurd n
    go true false e h n rest = absurd (subst (λ (x : Bool). T x) (sym e) h)
    go false false e h n rest = rest h n

-- what is picked has a property that the other has not: so it stands in the list, and another other makes no difference
pub first_settles : {A : Type 0} (g : A → Bool) (ts : List (Bool × A)) (other another : A) → T (g (first ts other)) → g other ≡ false → first ts another ≡ first ts other
unfolding first
first_settles g [] other another h n = absurd (subst (λ (x : Bool). T x) n h)
first_settles {A} g (t ∷ ts) other another h n = go t.0 h (λ k. first_settles g ts other another k n)
  where
    go : (b : Bool) → T (g (cond b t.1 (first ts other))) → (T (g (first ts other)) → first ts another ≡ first ts other)
        → cond b t.1 (first ts another) ≡ cond b t.1 (first ts other)
    go true h rest = refl
    go false h rest = rest h

-- two lists one after the other: the second is asked where no test of the first passes
pub first_append : {A : Type 0} (ts us : List (Bool × A)) (other : A) → first (ts ++ us) other ≡ first ts (first us other)
unfolding first
first_append [] us other = refl
first_append (t ∷ ts) us other = ap (cond t.0 t.1) (first_append ts us other)

-- and where none passes, the other is picked
pub first_none : {A : Type 0} (ts : List (Bool × A)) (other : A) → T (all (λ t. not t.0) ts) → first ts other ≡ other
unfolding first all
first_none [] other h = refl
first_none {A} (t ∷ ts) other h = go t.0 h (first_none ts other)
  where
    go : (b : Bool) → T (not b && all (λ t. not t.0) ts) → (T (all (λ t. not t.0) ts) → first ts other ≡ other) → cond b t.1 (first ts other) ≡ other
    go true h rest = absurd h
    go false h rest = rest h

module _ {A : Type 0} (f : A → Bool) where
  -- a test that passes at every element passes at the i-th
  pub all_at : (l : List A) (i : ℕ) (d : A) → all f l ≡ true → i < length l → f (get_or l i d) ≡ true
  unfolding all
  all_at [] i d e h = absurd (not-suc-le-zero h)
  all_at (x ∷ l) zero d e h = (both (f x) (all f l) e).0
  all_at (x ∷ l) (suc i) d e h = all_at l i d (both (f x) (all f l) e).1 (le_of_suc-le-suc h)

  -- and where one is replaced by one at which it passes too
  pub all_set : (k : ℕ) (r : A) (l : List A) → f r ≡ true → all f l ≡ true → all f (set l k r) ≡ true
  unfolding all
  all_set k r [] p e = refl
  all_set zero r (a ∷ l) p e = join (f r) (all f l) p (both (f a) (all f l) e).1
  all_set (suc k) r (a ∷ l) p e =
      let t = both (f a) (all f l) e in
      join (f a) (all f (set l k r)) t.0 (all_set k r l p t.1)

-- what is picked by its number has a property that nothing in the list has: so it is the other
pub pick_other : {A : Type 0} (g : A → Bool) (x : ℕ) (ps : List (ℕ × A)) (other : A) → T (g (pick x ps other)) → T (all (λ p. not (g p.1)) ps) → T (g other)
unfolding pick all
pick_other g x [] other h n = h
pick_other {A} g x (p ∷ ps) other h n = go (eqb x p.0) (g p.1) refl h n (pick_other g x ps other)
  where
    go : (b c : Bool) → c ≡ g p.1 → T (g (cond b p.1 (pick x ps other))) → T (not c && all (λ p. not (g p.1)) ps)
        → (T (g (pick x ps other)) → T (all (λ p. not (g p.1)) ps) → T (g other)) → T (g other)
    go b true e h n rest = absurd n
    go true false e h n rest = absurd (subst (λ (x : Bool). T x) (sym e) h)
    go false false e h n rest = rest h n

-- a test passes somewhere from the i-th element on: at that one, or behind it
pub any_step : {A : Type 0} (f : A → Bool) (l : List A) (i : ℕ) (d : A) → i < length l → any f (drop i l) ≡ f (get_or l i d) || any f (drop (i + 1) l)
unfolding any
any_step f l i d h = rw (drop-cons l i d h, add-one i)

module _ {A : Type 0} (f : A → Bool) (d : A) where
  -- a test that passes at some element passes at the i-th, for some i; and back
  pub any_found : (l : List A) → any f l ≡ true → (i : ℕ) × (i < length l) × (f (get_or l i d) ≡ true)
  unfolding any
  any_found [] e = absurd (false≢true e)
  any_found (x ∷ l) e = go (f x) refl e (any_found l)
    where
      go : (b : Bool) → f x ≡ b → b || any f l ≡ true → (any f l ≡ true → (i : ℕ) × (i < length l) × (f (get_or l i d) ≡ true))
          → (i : ℕ) × (i < suc (length l)) × (f (get_or (x ∷ l) i d) ≡ true)
      go true h e rest = (0, omega arith, h)
      go false h e rest =
          let r = rest e in
          (suc r.0, omega (arith, r.1), r.2)

  pub any_at : (l : List A) (i : ℕ) → i < length l → f (get_or l i d) ≡ true → any f l ≡ true
  unfolding any
  any_at [] i h e = absurd (not-suc-le-zero h)
  any_at (x ∷ l) zero h e = rw e
  any_at (x ∷ l) (suc i) h e = or_second (f x) (any f l) (any_at l i (le_of_suc-le-suc h) e)

-- lists that are the same numbers are the same, and back
pub same_is : (a b : List ℕ) → same a b ≡ true → a ≡ b
unfolding same
same_is [] [] e = refl
same_is [] (y ∷ ys) e = absurd (false≢true e)
same_is (x ∷ xs) [] e = absurd (false≢true e)
same_is (x ∷ xs) (y ∷ ys) e =
    let h = both (eqb x y) (same xs ys) e in
    rw (eqb-true x y h.0, same_is xs ys h.1)

pub same_self : (a : List ℕ) → same a a ≡ true
unfolding same
same_self [] = refl
same_self (x ∷ xs) = join (eqb x x) (same xs xs) (eq-eqb x x refl) (same_self xs)
