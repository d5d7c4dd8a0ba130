-- A stream that comes in pieces. Proved in proofs/Pieces. Assumes nothing.
use Rattle.std.specs.Prelude.{ℕ, ◌≡◌, List, [], ◌∷◌, ◌++◌, drop, T}
use Rattle.ground.specs.Choice.{all}
use Rattle.feed.specs.Events.{State, Arrive}
use Rattle.feed.specs.Steps.{accepted, outcome}
use Rattle.promises.specs.Runs.{after}

-- where calls leave a caller: the feed and its table, the bytes not used, the answers
pub record Left : Type 0 where
  pub state : State
  pub bytes : List ℕ
  pub answers : List ℕ

-- calls at some times, each at the bytes that the one before left
unfoldable pub calls : State → List ℕ → List ℕ → Left
calls s bytes [] = record { state = s; bytes = bytes; answers = [] }
calls s bytes (time ∷ times) =
    let rest : Left = calls (after s (Arrive bytes time)) (drop (outcome s (Arrive bytes time)).given.used bytes) times in
    record { state = rest.state; bytes = rest.bytes; answers = (outcome s (Arrive bytes time)).given.answer ∷ rest.answers }

-- pieces, each with the times of the calls made when it had come: it is put behind what was not used
unfoldable pub calls_in : State → List ℕ → List (List ℕ × List ℕ) → Left
calls_in s kept [] = record { state = s; bytes = kept; answers = [] }
calls_in s kept (p ∷ ps) =
    let one : Left = calls s (kept ++ p.0) p.1 in
    let rest : Left = calls_in one.state one.bytes ps in
    record { state = rest.state; bytes = rest.bytes; answers = one.answers ++ rest.answers }

unfoldable pub stream : List (List ℕ × List ℕ) → List ℕ
stream [] = []
stream (p ∷ ps) = p.0 ++ stream ps

unfoldable pub times : List (List ℕ × List ℕ) → List ℕ
times [] = []
times (p ∷ ps) = p.1 ++ times ps

-- a stream cut into any pieces, the caller keeping what was not used: where its calls are accepted, the same calls on the whole stream get the
-- same answers and leave the same feed, the same table and the same bytes. (A call answered 3, for want of bytes, changes nothing: Refused.)
abbrev pub Pieces : Type 0
Pieces =
    (s : State) (ps : List (List ℕ × List ℕ)) → T (all accepted (calls_in s [] ps).answers)
    → calls s (stream ps) (times ps) ≡ calls_in s [] ps
