-- Words overwritten from a place on, and the words of records of one width. Assumes nothing.
use mathlib.Core.Path.{◌≡◌, refl, sym, ap, ◌∙◌}
use mathlib.Core.List.{List, [], ◌∷◌, ◌++◌, map, append_assoc, append-nil, map-append}
use Prim.Native.Nat.{ℕ, suc, ◌+◌, ◌*◌, ◌≤◌, ◌<◌}
use native.Mathlib.Nat.{add_comm, mul-zero, mul-suc}
use native.Mathlib.Numerals.{add-one}
use native.Mathlib.Omega.{arith}
use lib.ListN.{length, take, drop, get_or, length-append, length-take, length-drop, take-append-drop, drop_of_length-le}
use lib.Seq.{drop-drop, take_at, drop_at, length-take-le, sets, sets-eq, take-suc}
use Rattle.slots.specs.Slots.{blocks, flat}
use Rattle.slots.specs.Code.Overlay.{overlay}
use Rattle.slots.proofs.Blocks.{blocks_cons}

-- the words keep their number
pub length_overlay : (p : ℕ) (b t : List ℕ) → p + length b ≤ length t → length (overlay p b t) ≡ length t
length_overlay p b t h = simp (length-append, length-take, length-drop) (omega arith)

-- no word overwritten
pub overlay_nil : (p : ℕ) (t : List ℕ) → overlay p [] t ≡ t
overlay_nil p t = take-append-drop p t

-- stores one after the other are an overlay
pub sets_overlay : (t : List ℕ) (p : ℕ) (b : List ℕ) → p + length b ≤ length t → sets t p b ≡ overlay p b t
sets_overlay t p b h =
    sets-eq b t p h ∙ append_assoc (take p t) b (drop (p + length b) t)
    ∙ ap (λ (l : List ℕ). take p t ++ (b ++ l)) (sym (drop-drop (length b) p t))

-- one overlay right after another is one of both
pub overlay_join : (p q : ℕ) (a b t : List ℕ) → q ≡ p + length a → q ≤ length t → overlay q b (overlay p a t) ≡ overlay p (a ++ b) t
overlay_join p q a b t e h =
    let rest : List ℕ = drop (length a) (drop p t) in
    let len : length (take p t ++ a) ≡ q = simp (length-append, length-take) (omega arith) in
    ap (overlay q b) (sym (append_assoc (take p t) a rest))
    ∙ (λ i. take_at (take p t ++ a) rest q len i ++ (b ++ drop (length b) (drop_at (take p t ++ a) rest q len i)))
    ∙ append_assoc (take p t) a (b ++ drop (length b) rest)
    ∙ ap (λ (l : List ℕ). take p t ++ l)
    (sym (append_assoc a b (drop (length b) rest))
    ∙ ap (λ (l : List ℕ). (a ++ b) ++ l) (drop-drop (length b) (length a) (drop p t) ∙ ap (λ (n : ℕ). drop n (drop p t)) (sym (length-append a b))))

-- an overlay of the whole
pub overlay_whole : (b t : List ℕ) → length b ≡ length t → overlay 0 b t ≡ b
overlay_whole b t e = ap (λ (l : List ℕ). b ++ l) (drop_of_length-le t {i = length b} (omega arith)) ∙ append-nil b

-- the words of blocks and of more blocks
pub flat_append : (a b : List (List ℕ)) → flat (a ++ b) ≡ flat a ++ flat b
unfolding flat
flat_append [] b = refl
flat_append (x ∷ a) b = ap (λ (l : List ℕ). x ++ l) (flat_append a b) ∙ sym (append_assoc x (flat a) (flat b))

module _ {A : Type 0} (f : A → List ℕ) where
  -- the words of one record more
  pub flat_more : (l : List A) (i : ℕ) (d : A) → i < length l → flat (map f (take (i + 1) l)) ≡ flat (map f (take i l)) ++ f (get_or l i d)
  unfolding flat
  flat_more l i d h =
      ap (λ (m : List A). flat (map f m)) (ap (λ (n : ℕ). take n l) (add-one i) ∙ take-suc l i d h)
      ∙ ap flat (map-append f (take i l) (get_or l i d ∷ []))
      ∙ flat_append (map f (take i l)) (f (get_or l i d) ∷ []) ∙ ap (λ (m : List ℕ). flat (map f (take i l)) ++ m) (append-nil (f (get_or l i d)))

  module _ (w : ℕ) (fw : (a : A) → length (f a) ≡ w) where
    -- how many words records of w words have
    pub length_flat : (l : List A) → length (flat (map f l)) ≡ w * length l
    unfolding flat
    length_flat [] = sym (mul-zero w)
    length_flat (a ∷ l) = length-append (f a) (flat (map f l)) ∙ rw (fw a, length_flat l, mul-suc, add_comm w (w * length l))

    -- cut into blocks, they are the records again
    pub blocks_flat : (l : List A) (t : List ℕ) → blocks w (length l) (flat (map f l) ++ t) ≡ map f l
    unfolding blocks flat
    blocks_flat [] t = refl
    blocks_flat (a ∷ l) t =
        ap (blocks w (suc (length l))) (append_assoc (f a) (flat (map f l)) t)
        ∙ blocks_cons w (length l) (f a) (flat (map f l) ++ t) (fw a)
        ∙ ap (λ (m : List (List ℕ)). f a ∷ m) (blocks_flat l t)

    -- records written one after the other from `base` on: one record more
    pub overlay_more : (l : List A) (i : ℕ) (d : A) (base : ℕ) (t : List ℕ) → i < length l → base + w * i ≤ length t
        → overlay (base + w * i) (f (get_or l i d)) (overlay base (flat (map f (take i l))) t) ≡ overlay base (flat (map f (take (i + 1) l))) t
    overlay_more l i d base t h room =
        let e : base + w * i ≡ base + length (flat (map f (take i l))) =
        ap (λ (n : ℕ). base + n) (sym (length_flat (take i l) ∙ ap (λ (n : ℕ). w * n) (length-take-le i l (omega arith)))) in
        overlay_join base (base + w * i) (flat (map f (take i l))) (f (get_or l i d)) t e room
        ∙ ap (λ (b : List ℕ). overlay base b t) (sym (flat_more l i d h))
