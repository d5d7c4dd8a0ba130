-- Why something is refused, by its number (document 01, "Answer numbers" and "Reading a row"; 22 is document 02's, request 5). Assumes nothing.
use Rattle.std.specs.Prelude.{ℕ, Result, Ok, Err}
use Rattle.ground.specs.declared.Refusal.{Refusal}
use Rattle.ground.specs.declared.Refusal.TheVariants.{More, Missing, Early, Deaf, Size, Gap, Phase, Unlisted, Misfit, Full, Unsound, Limit, Need, TooLong}

abbrev pub refusal_no : Refusal → ℕ
refusal_no More = 3
refusal_no Missing = 4
refusal_no Early = 10
refusal_no Deaf = 11
refusal_no Size = 12
refusal_no Gap = 13
refusal_no Phase = 14
refusal_no Unlisted = 15
refusal_no Misfit = 16
refusal_no Full = 17
refusal_no Unsound = 18
refusal_no Limit = 19
refusal_no Need = 20
refusal_no TooLong = 22

-- the number of what comes with a value or is refused: 0, or why it is refused
abbrev pub answer_of : {A : Type 0} → Result A Refusal → ℕ
answer_of (Ok a) = 0
answer_of (Err e) = refusal_no e
