-- Tests, and choices by tests. Assumes nothing.
use mathlib.Core.Path.{◌≡◌, refl}
use mathlib.Core.Bool.{Bool, true, false, cond, ◌&&◌, ◌||◌, false≢true}
use lib.Dec.{T}

-- both parts of a conjunction, and back
pub both : (a b : Bool) → a && b ≡ true → (a ≡ true) × (b ≡ true)
both true b e = (refl, e)
both false b e = absurd (false≢true e)

pub join : (a b : Bool) → a ≡ true → b ≡ true → a && b ≡ true
join true b p q = q
join false b p q = p

pub no_second : (a b : Bool) → b ≡ false → a && b ≡ false
no_second true b e = e
no_second false b e = refl

pub or_second : (a b : Bool) → b ≡ true → a || b ≡ true
or_second true b e = refl
or_second false b e = e

-- a test that passes as a proposition, and back; both parts of one, and back
pub of_T : (b : Bool) → T b → b ≡ true
of_T true h = refl
of_T false h = absurd h

pub is_T : (b : Bool) → b ≡ true → T b
is_T true e = tt
is_T false e = absurd (false≢true e)

pub two : (a b : Bool) → T (a && b) → T a × T b
two true b h = (tt, h)
two false b h = absurd h

pub pair : (a b : Bool) → T a → T b → T (a && b)
pair true b p q = q
pair false b p q = p

-- a choice between two that are the same; a choice that is its own test
pub cond_same : {A : Type 0} (b : Bool) (x : A) → cond b x x ≡ x
cond_same true x = refl
cond_same false x = refl

pub cond_test : (b : Bool) → cond b true false ≡ b
cond_test true = refl
cond_test false = refl

-- a property of both ways of a choice, each with what its test told
pub split : {A : Type 0} (P : A → Type 0) (b : Bool) (x y : A) → (b ≡ true → P x) → (b ≡ false → P y) → P (cond b x y)
split P true x y p q = p refl
split P false x y p q = q refl
