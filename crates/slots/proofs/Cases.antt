-- What the functions' proofs take: the two loops, and the answers of `find`. Assumes nothing.
use mathlib.Core.Path.{◌≡◌, refl, ◌∙◌}
use mathlib.Core.List.{List, [], ◌++◌}
use Prim.Native.Nat.{ℕ, ◌+◌, ◌-◌, ◌*◌, ◌≤◌, ◌<◌}
use native.Mathlib.Omega.{arith}
use lib.Dec.{ltb}
use lib.ListN.{length, get_or, take, drop, replicate}
use mathlib.Core.Bool.{Bool, true, false, cond}
use borrow.Author.Tests.{lt-ltb, le-ltb}
use Rattle.std.proofs.lemmas.List.{length-take-le}
use borrow.Author.Count.{below_none, below_more}
use Rattle.slots.specs.Slots.{slot_count, slots_of, lowest, place, cleared}
use Rattle.slots.specs.Code.Turns.{found}
use Rattle.slots.specs.declared.Slot.{Slot}
use Rattle.slots.specs.declared.Slot.TheVariants.{Held, Free, Full}
use Rattle.std.specs.Prelude.{Some, None}
use Rattle.std.specs.declared.option.Option.{Option as MayBe}
use Rattle.slots.proofs.Blocks.{slots_fit, slot_fits, length_blocks, block_at}
use Rattle.slots.proofs.Lookup.{lowest_words}

-- what a search has seen: no slot before slot k of n has the code
pub record Seeking (t : List ℕ) (w c n k : ℕ) : Type 0 where
  pub upto : k ≤ n
  pub none : (j : ℕ) → j < k → get_or t (w * j) 0 ≡ c → ⊥

-- slot k lies within the table
inside : (t : List ℕ) (most w n k : ℕ) → n ≡ slot_count most w (length t) → k < n → w * k + w ≤ length t
inside t most w n k e l = slot_fits w n k (length t) l (rw e (slots_fit most w (length t)))

-- before the first slot
pub seek_none : (t : List ℕ) (w c n : ℕ) → Seeking t w c n 0
seek_none t w c n = record { upto = omega arith; none = below_none (λ (j : ℕ). get_or t (w * j) 0 ≡ c → ⊥) }

-- the word of the code lies within the table
pub seek_in : (t : List ℕ) (most w n k : ℕ) → n ≡ slot_count most w (length t) → 0 < w → k < n → w * k < length t
seek_in t most w n k e p l = omega (arith, inside t most w n k e l)

-- one slot more
pub seek_more : (t : List ℕ) (w c n k : ℕ) → Seeking t w c n k → k < n → (get_or t (w * k) 0 ≡ c → ⊥) → Seeking t w c n (k + 1)
seek_more t w c n k s l ne = record { upto = omega arith; none = below_more (λ (j : ℕ). get_or t (w * j) 0 ≡ c → ⊥) k s.none ne }

-- the code is at slot k
pub seek_here : (t : List ℕ) (most w c n k : ℕ) → n ≡ slot_count most w (length t) → 0 < w → Seeking t w c n k → k < n → get_or t (w * k) 0 ≡ c
    → Some k ≡ found c (slots_of most w t)
seek_here t most w c n k z p s l e =
    let here : lowest c (slots_of most w t) ≡ k = rw (← z) (lowest_words w n c t k p s.upto s.none (λ _. e)) in
    let there : k < length (slots_of most w t) = rw (length_blocks, ← z) l in
    rw (here, lt-ltb k (length (slots_of most w t)) there)

-- no slot has it
pub seek_end : (t : List ℕ) (most w c n k : ℕ) → n ≡ slot_count most w (length t) → 0 < w → Seeking t w c n k → n ≤ k
    → None ≡ found c (slots_of most w t)
seek_end t most w c n k z p s l =
    let e : k ≡ n = let u = s.upto in omega arith in
    let here : lowest c (slots_of most w t) ≡ n = rw (← z) (lowest_words w n c t k p s.upto s.none (λ m. absurd (omega arith)) ∙ e) in
    let there : length (slots_of most w t) ≤ n = rw (length_blocks, ← z) (omega arith) in
    rw (here, le-ltb n (length (slots_of most w t)) there)

-- a place by the two searches
abbrev place_of : MayBe ℕ → MayBe ℕ → Slot
place_of (Some k) free = Held k
place_of None (Some k) = Free k
place_of None None = Full

place_is : (c : ℕ) (bs : List (List ℕ)) → place c bs ≡ place_of (found c bs) (found 0 bs)
unfolding place
place_is c bs = go (ltb (lowest c bs) (length bs)) (ltb (lowest 0 bs) (length bs))
  where
    go : (a b : Bool) → cond a (Held (lowest c bs)) (cond b (Free (lowest 0 bs)) Full)
        ≡ place_of (cond a (Some (lowest c bs)) None) (cond b (Some (lowest 0 bs)) None)
    go true b = refl
    go false true = refl
    go false false = refl

-- the code is found; it is not, and a slot is free; none is
pub find_held : (c k : ℕ) (bs : List (List ℕ)) (r : MayBe ℕ) → r ≡ found c bs → r ≡ Some k → Held k ≡ place c bs
find_held c k bs r f e = rw (place_is c bs, ← f, e) refl

pub find_free : (c k : ℕ) (bs : List (List ℕ)) (r q : MayBe ℕ) → r ≡ found c bs → r ≡ None → q ≡ found 0 bs → q ≡ Some k → Free k ≡ place c bs
find_free c k bs r q f e g h = rw (place_is c bs, ← f, e, ← g, h) refl

pub find_full : (c : ℕ) (bs : List (List ℕ)) (r q : MayBe ℕ) → r ≡ found c bs → r ≡ None → q ≡ found 0 bs → q ≡ None → Full ≡ place c bs
find_full c bs r q f e g h = rw (place_is c bs, ← f, e, ← g, h) refl

-- all slots are zero
pub zeroed : (t zs : List ℕ) (most w n : ℕ) → n ≡ slot_count most w (length t) → zs ≡ replicate (length (take (w * n) t)) 0
    → zs ++ drop (w * n) t ≡ cleared most w t
unfolding cleared
zeroed t zs most w n e f =
    let l : w * n ≤ length t = rw e (slots_fit most w (length t)) in
    rw (f, length-take-le (w * n) t l, e) refl

-- the words of a slot
pub words_at : (most w k : ℕ) (t u : List ℕ) → k < slot_count most w (length t) → u ≡ take (w * k + w - w * k) (drop (w * k) t) → u ≡ get_or (slots_of most w t) k []
words_at most w k t u h e =
    let s : w * k + w - w * k ≡ w = omega arith in
    e ∙ rw (s, block_at w (slot_count most w (length t)) k t h)
