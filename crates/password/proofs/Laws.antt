-- The last passwords, one by one. Assumes nothing.
use mathlib.Core.Path.{◌≡◌, refl, ap, ◌∙◌}
use mathlib.Core.Bool.{◌||◌}
use mathlib.Core.List.{List, [], ◌∷◌}
use Prim.Native.Nat.{ℕ, zero, suc, ◌+◌, ◌<◌}
use native.Mathlib.Nat.{le_of_suc-le-suc, not-suc-le-zero}
use native.Mathlib.Numerals.{add-one}
use lib.Dec.{eqb}
use lib.ListN.{length, take, drop, get_or}
use lib.Seq.{drop-cons, drop-drop}
use Rattle.std.specs.Cmp.Lexicographic.{pointwise}
use Rattle.ground.specs.Choice.{any, same}
use Rattle.password.specs.Rule.{total, lasts}

-- as many as there are lengths
pub lasts_count : (l h : List ℕ) → length (lasts l h) ≡ length l
unfolding lasts
lasts_count [] h = refl
lasts_count (n ∷ l) h = ap suc (lasts_count l (drop n h))

-- each begins behind the bytes of all before it
pub lasts_at : (l h : List ℕ) (k : ℕ) → k < length l → get_or (lasts l h) k [] ≡ take (get_or l k 0) (drop (total (take k l)) h)
unfolding lasts total
lasts_at [] h k m = absurd (not-suc-le-zero m)
lasts_at (n ∷ l) h zero m = refl
lasts_at (n ∷ l) h (suc k) m = lasts_at l (drop n h) k (le_of_suc-le-suc m) ∙ ap (take (get_or l k 0)) (drop-drop (total (take k l)) n h)

-- passwords are compared as the code's `==` compares them
same_pointwise : (a b : List ℕ) → same a b ≡ pointwise eqb a b
unfolding same
same_pointwise [] [] = refl
same_pointwise [] (y ∷ b) = refl
same_pointwise (x ∷ a) [] = refl
same_pointwise (x ∷ a) (y ∷ b) = rw (same_pointwise a b)

-- from the k-th on: its length, and whether it is the one looked for
pub total_step : (l : List ℕ) (k : ℕ) → k < length l → total (drop k l) ≡ get_or l k 0 + total (drop (k + 1) l)
unfolding total
total_step l k m = rw (drop-cons l k 0 m, add-one k)

pub lasts_step : (new l h : List ℕ) (k : ℕ) → k < length l
    → any (same new) (lasts (drop k l) h) ≡ pointwise eqb new (take (get_or l k 0) h) || any (same new) (lasts (drop (k + 1) l) (drop (get_or l k 0) h))
unfolding any lasts
lasts_step new l h k m = rw (drop-cons l k 0 m, add-one k, same_pointwise new (take (get_or l k 0) h))
