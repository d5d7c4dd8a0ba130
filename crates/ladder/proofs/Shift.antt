-- Laws of an element put in and an element taken out, for lists of anything. Assumes nothing.
use Prim.Native.Nat.{ℕ, suc, zero, ◌+◌, ◌-◌, ◌≤◌, ◌<◌}
use mathlib.Core.Path.{◌≡◌, refl, ap, sym, ◌∙◌}
use mathlib.Core.List.{List, [], ◌∷◌, ◌++◌, append_assoc}
use native.Mathlib.Omega.{arith}
use lib.ListN.{length, take, drop, get_or, length-append, length-drop, get_or-append}
use lib.Seq.{take_at, drop_at, split_at, get_or_at, get_or-take, length-take-le, take-append-le, drop-append-le, take-take, take-nil}

-- an element put in at k, and the element at k taken out
abbrev pub ins : {A : Type 0} → ℕ → A → List A → List A
ins k x l = take k l ++ (x ∷ drop k l)

abbrev pub del : {A : Type 0} → ℕ → List A → List A
del k l = take k l ++ drop (suc k) l

module _ {A : Type 0} (z : A) where
  pub length_ins : (l : List A) (k : ℕ) (x : A) → k ≤ length l → length (ins k x l) ≡ length l + 1
  length_ins l k x h = rw (length-append (take k l) (x ∷ drop k l), length-take-le k l h, length-drop) (omega arith)

  pub get_d_ins : (l : List A) (k : ℕ) (r : A) → k ≤ length l → get_or (ins k r l) k z ≡ r
  get_d_ins l k r h = get_or_at (take k l) r (drop k l) z k (length-take-le k l h)

  pub get_d_before : (l : List A) (k i : ℕ) (r : A) → i < k → k ≤ length l → get_or (ins k r l) i z ≡ get_or l i z
  get_d_before l k i r h t = get_or-append (take k l) (r ∷ drop k l) z i (omega (arith, length-take-le k l t)) ∙ get_or-take k l i z h

  pub get_d_after : (k j : ℕ) (r : A) (l : List A) → k ≤ length l → k ≤ j → get_or (ins k r l) (suc j) z ≡ get_or l j z
  get_d_after zero j r l h t = refl
  get_d_after (suc k) j r [] h t = absurd (omega arith)
  get_d_after (suc k) zero r (a ∷ l) h t = absurd (omega arith)
  get_d_after (suc k) (suc j) r (a ∷ l) h t = get_d_after k j r l (omega arith) (omega arith)

  pub length_del : (l : List A) (k : ℕ) → k < length l → length (del k l) ≡ length l - 1
  length_del l k h = rw (length-append (take k l) (drop (suc k) l), length-take-le k l (omega arith), length-drop) (omega arith)

  pub out_start : (l : List A) (k : ℕ) → k < length l → ins k (get_or l k z) (del k l) ≡ l
  out_start l k h =
      let n : length (take k l) ≡ k = length-take-le k l (omega arith) in
      rw (take_at (take k l) (drop (suc k) l) k n, drop_at (take k l) (drop (suc k) l) k n) (sym (split_at l k z h))

  -- what stands behind the place taken out
  pub get_d_del : (l : List A) (k j : ℕ) → k < length l → k ≤ j → get_or (del k l) j z ≡ get_or l (suc j) z
  get_d_del l k j h t =
      sym (get_d_after k j (get_or l k z) (del k l) (omega (arith, length_del l k h)) t) ∙ ap (λ (x : List A). get_or x (suc j) z) (out_start l k h)

  -- of the elements that are kept at the end, only those matter that are kept at first
  pub take_ins : (m k : ℕ) (r : A) (x : List A) → take m (ins k r (take m x)) ≡ take m (ins k r x)
  take_ins zero k r x = refl
  take_ins (suc m) zero r x = ap (λ (y : List A). r ∷ y) (take-take m (suc m) x (omega arith))
  take_ins (suc m) (suc k) r [] = refl
  take_ins (suc m) (suc k) r (a ∷ x) = ap (λ (y : List A). a ∷ y) (take_ins m k r x)

  pub take_over : (m : ℕ) (x y : List A) → take m (take m x ++ y) ≡ take m (x ++ y)
  take_over zero x y = refl
  take_over (suc m) [] y = refl
  take_over (suc m) (a ∷ x) y = ap (λ (t : List A). a ∷ t) (take_over m x y)

  pub del_take : (m k : ℕ) (x : List A) → k ≤ m → del k (take (suc m) x) ≡ take m (del k x)
  del_take m zero [] h = sym (take-nil m)
  del_take m zero (a ∷ x) h = refl
  del_take zero (suc k) x h = absurd (omega arith)
  del_take (suc m) (suc k) [] h = refl
  del_take (suc m) (suc k) (a ∷ x) h = ap (λ (t : List A). a ∷ t) (del_take m k x (omega arith))

  pub ins_append : (k : ℕ) (r : A) (x y : List A) → k ≤ length x → ins k r (x ++ y) ≡ ins k r x ++ y
  ins_append k r x y h = rw (take-append-le, drop-append-le, append_assoc)

  pub del_append : (k : ℕ) (x y : List A) → k < length x → del k (x ++ y) ≡ del k x ++ y
  del_append k x y h = rw (take-append-le k x y (omega arith), drop-append-le (suc k) x y h, append_assoc)
