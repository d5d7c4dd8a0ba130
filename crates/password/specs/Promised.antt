-- What a password check says, of any bytes and any lengths: the contracts, by name. Assumes nothing.
use Rattle.std.specs.Prelude.{ℕ, ◌≡◌, cond, List, Result, Ok, Err, MatchResult}
use Rattle.password.specs.Rule.{Verdict, edition_no, bad_history, lasts, verdict_of, plain_verdict}
use Rattle.password.specs.declared.Edition.{Edition}
use Rattle.password.specs.declared.Edition.TheVariants.{E111, E136}
use Rattle.password.specs.declared.Fault.{Fault}
use Rattle.password.specs.declared.Fault.TheVariants.{BadHistory}
use Rattle.password.specs.declared.UnknownEdition.{UnknownEdition}

-- the edition of a number: an error where no edition has it
abbrev pub EditionSays : ℕ → Result Edition UnknownEdition → Type 0
EditionSays n r = MatchResult r (λ e. n ≡ edition_no e) (λ _. (n ≡ edition_no E111 → ⊥) × (n ≡ edition_no E136 → ⊥))

-- the last passwords of what is lent as a history
abbrev pub HistorySays : List ℕ → List ℕ → Result (List (List ℕ)) Fault → Type 0
HistorySays lengths history r = r ≡ cond (bad_history lengths history) (Err BadHistory) (Ok (lasts lengths history))

abbrev pub CheckSays : Edition → List ℕ → List ℕ → List ℕ → Verdict → Type 0
CheckSays edition new lengths history r = r ≡ verdict_of edition new lengths history

-- by an edition's number
abbrev pub AskedSays : ℕ → List ℕ → List ℕ → List ℕ → ℕ → Type 0
AskedSays edition new lengths history r = r ≡ plain_verdict edition new lengths history
