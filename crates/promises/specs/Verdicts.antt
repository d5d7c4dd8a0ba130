-- What a verdict on a new password means, in places and numbers, and that the old edition passes whatever the new one passes (document 02, request 7).
-- Each statement is proved in proofs/Verdicts, under its name with small letters. Assumes nothing.
use Rattle.std.specs.Prelude.{ℕ, ◌≤◌, ◌<◌, ◌≡◌, ◌↔◌, List, length, take, drop, get_or, T, Ok, Err}
use Rattle.ground.specs.Choice.{one_of}
use Rattle.password.specs.Rule.{Verdict, Passes, edition_no, verdict_no, specials, total, verdict_of, plain_verdict}
use Rattle.password.specs.declared.Edition.{Edition}
use Rattle.password.specs.declared.Edition.TheVariants.{E111, E136}
use Rattle.password.specs.declared.Fault.TheVariants.{BadHistory, Short, NoUpper, NoLower, NoDigit, NoSpecial, Used}

-- a history is at most 5 lengths, which add up to the bytes lent
abbrev pub Adds : List ℕ → List ℕ → Type 0
Adds lengths history = (length lengths ≤ 5) × (total lengths ≡ length history)

abbrev pub Long : Edition → List ℕ → Type 0
Long E111 new = 8 ≤ length new
Long E136 new = 16 ≤ length new

-- a password has, at some place, a byte from one number to another
abbrev pub Has : ℕ → ℕ → List ℕ → Type 0
Has lo hi new = (place : ℕ) × (place < length new) × (lo ≤ get_or new place 0) × (get_or new place 0 ≤ hi)

abbrev pub HasUpper : List ℕ → Type 0
HasUpper new = Has 65 90 new

abbrev pub HasLower : List ℕ → Type 0
HasLower new = Has 97 122 new

abbrev pub HasDigit : List ℕ → Type 0
HasDigit new = Has 48 57 new

-- and one of the specials, which edition 1.11 does not ask for
abbrev pub HasSpecial : Edition → List ℕ → Type 0
HasSpecial E111 new = Unit
HasSpecial E136 new = (place : ℕ) × (place < length new) × T (one_of (get_or new place 0) specials)

-- it is one of the last: the bytes of the k-th begin behind those of all before it
abbrev pub Again : List ℕ → List ℕ → List ℕ → Type 0
Again new lengths history = (k : ℕ) × (k < length lengths) × (take (get_or lengths k 0) (drop (total (take k lengths)) history) ≡ new)

-- of each verdict: the item fails, and all that is tried before it holds
abbrev pub Means : Edition → List ℕ → List ℕ → List ℕ → Verdict → Type 0
Means e new l h (Err BadHistory) = Adds l h → ⊥
Means e new l h (Err Short) = Adds l h × (Long e new → ⊥)
Means e new l h (Err NoUpper) = Adds l h × Long e new × (HasUpper new → ⊥)
Means e new l h (Err NoLower) = Adds l h × Long e new × HasUpper new × (HasLower new → ⊥)
Means e new l h (Err NoDigit) = Adds l h × Long e new × HasUpper new × HasLower new × (HasDigit new → ⊥)
Means e new l h (Err NoSpecial) = Adds l h × Long e new × HasUpper new × HasLower new × HasDigit new × (HasSpecial e new → ⊥)
Means e new l h (Err Used) = Adds l h × Long e new × HasUpper new × HasLower new × HasDigit new × HasSpecial e new × Again new l h
Means e new l h (Ok _) = Adds l h × Long e new × HasUpper new × HasLower new × HasDigit new × HasSpecial e new × (Again new l h → ⊥)

-- a verdict is given exactly where what it means is so
abbrev pub VerdictMeans : Type 0
VerdictMeans = (e : Edition) (new lengths history : List ℕ) (v : Verdict) → (verdict_of e new lengths history ≡ v) ↔ Means e new lengths history v

-- "Whatever 1.36 passes, 1.11 passes with the same history"
abbrev pub OldPassesToo : Type 0
OldPassesToo = (new lengths history : List ℕ) → verdict_of E136 new lengths history ≡ Passes → verdict_of E111 new lengths history ≡ Passes

-- the number that mmdh_password hands back is the verdict's, and it tells the verdict; of another edition it is 15, behind 23
abbrev pub NumberOfVerdict : Type 0
NumberOfVerdict = (e : Edition) (new lengths history : List ℕ) → plain_verdict (edition_no e) new lengths history ≡ verdict_no (verdict_of e new lengths history)

abbrev pub NumbersApart : Type 0
NumbersApart = (v w : Verdict) → verdict_no v ≡ verdict_no w → v ≡ w

abbrev pub OtherEdition : Type 0
OtherEdition =
    (n : ℕ) (new lengths history : List ℕ) → ((e : Edition) → n ≡ edition_no e → ⊥)
    → (Adds lengths history → plain_verdict n new lengths history ≡ 15) × ((Adds lengths history → ⊥) → plain_verdict n new lengths history ≡ 23)

-- what 1.36 passes 1.11 passes, by the numbers of the C call
abbrev pub PlainOldPassesToo : Type 0
PlainOldPassesToo = (new lengths history : List ℕ) → plain_verdict 136 new lengths history ≡ 0 → plain_verdict 111 new lengths history ≡ 0
