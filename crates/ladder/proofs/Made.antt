-- An array made by a call at each index is the list that has there what the calls give. Assumes nothing.
use Prim.Native.Nat.{ℕ, zero, suc, ◌+◌, ◌≤◌, ◌<◌}
use mathlib.Core.Path.{◌≡◌, refl, sym, ◌∙◌, subst}
use mathlib.Core.List.{List}
use native.Mathlib.Decide.{dec_lt}
use native.Mathlib.Omega.{arith}
use lib.ListN.{length, get_or}
use lib.Seq.{ext_get_or}
use denote.Param.Members.{Mut, Called}
use Rattle.std.specs.Array.{IsFromFnResultFrom, IsFromFnResult}

module _ {F B : Type 0} (g : Mut F (ℕ × Unit {0}) B) (f : F) (want ys : List B) (blank : B) where
  -- a call at a place leaves the closure as it is, and gives what is wanted there
  pub record Gives (i : ℕ) : Type 0 where
    pub gives : (y : B) (f' : F) → Called g f (i, tt) y f' → (y ≡ get_or want i blank) × (f' ≡ f)

  made_from : (n i total : ℕ) (q : F) → i + n ≤ total → ((k : ℕ) → k < total → Gives k) → q ≡ f → IsFromFnResultFrom g q ys i n → (j : ℕ) → i ≤ j → j < i + n → get_or ys j blank ≡ get_or want j blank
  made_from zero i total q b h e m j l t = absurd (omega arith)
  made_from (suc n) i total q b h e (q', y, a, c, m) j l t =
      let one : (y ≡ get_or want i blank) × (q' ≡ f) = (h i (omega arith)).gives y q' (subst (λ (p : F). Called g p (i, tt) y q') e c) in
      go one (dec_lt i j) (λ d. made_from n (i + 1) total q' (omega arith) h one.1 m j (omega arith) (omega arith))
    where
      go : (y ≡ get_or want i blank) × (q' ≡ f) → Dec (i < j) → (i < j → get_or ys j blank ≡ get_or want j blank) → get_or ys j blank ≡ get_or want j blank
      go one (yes d) rest = rest d
      go one (no d) rest =
          let z : i ≡ j = omega arith in
          subst (λ (k : ℕ). get_or ys k blank ≡ get_or want k blank) z (a.1 blank ∙ one.0)

  pub made : (n : ℕ) → length want ≡ n → ((i : ℕ) → i < n → Gives i) → IsFromFnResult g f ys n → ys ≡ want
  made n w h m = ext_get_or blank ys want (m.long ∙ sym w) (λ i t. made_from n 0 n f (omega arith) h refl m.each i (omega arith) (omega (arith, m.long)))
