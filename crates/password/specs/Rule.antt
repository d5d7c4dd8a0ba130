-- The password rule, old and new (document 02, request 7; the exchange's policy is 2.2.1 of 000 and of 003). Assumes nothing.
use Rattle.std.specs.Prelude.{ℕ, ◌+◌, Bool, true, false, not, cond, ◌&&◌, ◌||◌, List, [], ◌∷◌, length, take, drop, eqb, ltb, leb, Result, Ok, Err, ⊤}
use Rattle.ground.specs.Choice.{one_of, first, any, same}
use Rattle.password.specs.declared.Edition.{Edition}
use Rattle.password.specs.declared.Edition.TheVariants.{E111, E136}
use Rattle.password.specs.declared.Class.{Class}
use Rattle.password.specs.declared.Class.TheVariants.{Upper, Lower, Digit, Special}
use Rattle.password.specs.declared.Fault.{Fault}
use Rattle.password.specs.declared.Fault.TheVariants.{BadHistory, Short, NoUpper, NoLower, NoDigit, NoSpecial, Used}

-- "the edition the site names": 1.11 and 1.36, by number
abbrev pub edition_no : Edition → ℕ
edition_no E111 = 111
edition_no E136 = 136

-- a verdict: a new password passes, or why it does not
abbrev pub Verdict : Type 0
Verdict = Result ⊤ Fault

abbrev pub Passes : Verdict
Passes = Ok tt

-- a verdict's number: 23 as document 02 has it, and the six items in their order; 0 passes
abbrev pub fault_no : Fault → ℕ
fault_no BadHistory = 23
fault_no Short = 1
fault_no NoUpper = 2
fault_no NoLower = 3
fault_no NoDigit = 4
fault_no NoSpecial = 5
fault_no Used = 6

abbrev pub verdict_no : Verdict → ℕ
verdict_no (Ok _) = 0
verdict_no (Err fault) = fault_no fault

-- "at least 8 characters", "at least 16": a character is a byte
abbrev pub shortest : Edition → ℕ
shortest E111 = 8
shortest E136 = 16

-- "and besides those one of" the specials: edition 1.11 asks for none
abbrev pub asks_special : Edition → Bool
asks_special E111 = false
asks_special E136 = true

-- "! @ # $ ^ & * ( )"
abbrev pub specials : List ℕ
specials = 33 ∷ 64 ∷ 35 ∷ 36 ∷ 94 ∷ 38 ∷ 42 ∷ 40 ∷ 41 ∷ []

abbrev pub between : ℕ → ℕ → ℕ → Bool
between lo hi b = leb lo b && leb b hi

-- "an upper case letter, a lower case letter and a digit", as ASCII has them, and "one of" the specials
unfoldable pub is_of : Class → ℕ → Bool
is_of Upper b = between 65 90 b
is_of Lower b = between 97 122 b
is_of Digit b = between 48 57 b
is_of Special b = one_of b specials

-- no character is of a class; "other characters are not judged"
unfoldable pub lacks : Class → List ℕ → Bool
lacks c new = not (any (is_of c) new)

-- what lengths add up to, however large they are: nothing wraps
unfoldable pub total : List ℕ → ℕ
total [] = 0
total (n ∷ ns) = n + total ns

-- "lengths that don't add up to the bytes lent"
abbrev pub misses : List ℕ → ℕ → Bool
misses lengths bytes = not (eqb (total lengths) bytes)

-- "the last 5 or fewer, which the caller lends; more than 5, or" such lengths
unfoldable pub bad_history : List ℕ → List ℕ → Bool
bad_history lengths history = ltb 5 (length lengths) || misses lengths (length history)

-- the last passwords: of the bytes lent as many as each length says, one after the other
unfoldable pub lasts : List ℕ → List ℕ → List (List ℕ)
lasts [] history = []
lasts (n ∷ ns) history = take n history ∷ lasts ns (drop n history)

-- "the first failed item in the order length, upper, lower, digit, special, history"
unfoldable pub items : Edition → List ℕ → List (List ℕ) → List (Bool × Verdict)
items e new last =
    (ltb (length new) (shortest e), Err Short)
    ∷ (lacks Upper new, Err NoUpper)
    ∷ (lacks Lower new, Err NoLower)
    ∷ (lacks Digit new, Err NoDigit)
    ∷ (asks_special e && lacks Special new, Err NoSpecial)
    ∷ (any (same new) last, Err Used)
    ∷ []

abbrev pub judged : Edition → List ℕ → List (List ℕ) → Verdict
judged e new last = first (items e new last) Passes

-- "new answer 23, tried first"
unfoldable pub verdict_of : Edition → List ℕ → List ℕ → List ℕ → Verdict
verdict_of e new lengths history = cond (bad_history lengths history) (Err BadHistory) (judged e new (lasts lengths history))

-- the same by numbers, for the C call: 23, then the edition's verdict, and 15 of another edition
unfoldable pub plain_verdict : ℕ → List ℕ → List ℕ → List ℕ → ℕ
plain_verdict n new lengths history =
    first
    ((bad_history lengths history, verdict_no (Err BadHistory))
    ∷ (eqb n (edition_no E111), verdict_no (verdict_of E111 new lengths history))
    ∷ (eqb n (edition_no E136), verdict_no (verdict_of E136 new lengths history))
    ∷ [])
    15
