-- The ways in which document 01 lists things: numbers, what belongs to a number, tests in the order they are tried. Assumes nothing.
use Rattle.std.specs.Prelude.{ℕ, Bool, true, false, cond, ◌&&◌, ◌||◌, List, [], ◌∷◌, eqb}

-- a number is among those listed
unfoldable pub one_of : ℕ → List ℕ → Bool
one_of x [] = false
one_of x (y ∷ ys) = eqb x y || one_of x ys

-- what the list puts beside a number, and `other` where it does not have the number
unfoldable pub pick : {A : Type 0} → ℕ → List (ℕ × A) → A → A
pick x [] other = other
pick x (p ∷ ps) other = cond (eqb x p.0) p.1 (pick x ps other)

-- what stands beside the first test that passes, and `other` where none does
unfoldable pub first : {A : Type 0} → List (Bool × A) → A → A
first [] other = other
first (t ∷ ts) other = cond t.0 t.1 (first ts other)

-- a test passes at every element
unfoldable pub all : {A : Type 0} → (A → Bool) → List A → Bool
all f [] = true
all f (x ∷ xs) = f x && all f xs

-- a test passes at some element
unfoldable pub any : {A : Type 0} → (A → Bool) → List A → Bool
any f [] = false
any f (x ∷ xs) = f x || any f xs

-- the same numbers, and as many
unfoldable pub same : List ℕ → List ℕ → Bool
same [] [] = true
same [] (y ∷ ys) = false
same (x ∷ xs) [] = false
same (x ∷ xs) (y ∷ ys) = eqb x y && same xs ys
