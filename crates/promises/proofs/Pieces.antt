-- A stream that comes in pieces, proved. Assumes nothing.
use Prim.Native.Nat.{ℕ, zero, suc, ◌≤◌}
use native.Mathlib.Omega.{arith}
use native.Mathlib.Nat.{le_of_suc-le-suc}
use mathlib.Core.Path.{◌≡◌, refl, sym, ap, ◌∙◌, subst}
use mathlib.Core.Bool.{Bool, true, false, cond}
use mathlib.Core.List.{List, [], ◌∷◌, ◌++◌, append_assoc, append-nil}
use lib.ListN.{length, drop}
use lib.Dec.{T, ltb}
use Rattle.ground.specs.Choice.{first, all}
use Rattle.ground.proofs.Bools.{two}
use Rattle.ground.proofs.Choices.{all_parts}
use Rattle.wire.specs.Units.{unit_of}
use Rattle.wire.specs.declared.Unit.TheVariants as unit
use Rattle.feed.specs.Feeds.{deaf}
use Rattle.feed.specs.Events.{State, Event, Arrive, News, news, time_of, cut_from, on_message}
use Rattle.feed.specs.Answers.{number, arrives, lacks_need, is_more, is_too_long, line_tests, table_tests, tests, answer_to}
use Rattle.feed.specs.Answers.{Keep}
use Rattle.feed.specs.Steps.{accepted, handed, outcome}
use Rattle.feed.proofs.Laws.{used_fits}
use Rattle.promises.specs.Runs.{after}
use Rattle.promises.specs.Pieces as P
use Rattle.promises.specs.Pieces.{Left, calls, calls_in, stream, times}
use Rattle.promises.proofs.Demands.{behind}

-- where the bytes end too early the call is not accepted
more_answer : (s : State) (time : ℕ) → accepted (number (answer_to s.feed s.tables time News.More)) ≡ false
unfolding tests line_tests table_tests first on_message arrives lacks_need is_too_long is_more number
more_answer s time = go (ltb time s.feed.heard) (deaf s.feed.phase)
  where
    go : (a b : Bool) → accepted (number (cond a (Keep 10) (cond b (Keep 11) (Keep 3)))) ≡ false
    go true b = refl
    go false true = refl
    go false false = refl

not_more_lem : (s : State) (a : List ℕ) (time : ℕ) → T (accepted (outcome s (Arrive a time)).given.answer) → unit_of a ≡ unit.More → ⊥
unfolding outcome handed news time_of cut_from
not_more_lem s a time t e = subst (λ (b : Bool). T b) (more_answer s time) (rw e at t)

drop_in : (k : ℕ) (a b : List ℕ) → k ≤ length a → drop k (a ++ b) ≡ drop k a ++ b
drop_in zero a b h = refl
drop_in (suc k) [] b h = absurd (let z : ⊥ = omega arith in z)
drop_in (suc k) (x ∷ a) b h = drop_in k a b (le_of_suc-le-suc h)

same_after : (s : State) (d e : Event) → outcome s d ≡ outcome s e → after s d ≡ after s e
unfolding after
same_after s d e o = λ i. record { feed = (o i).given.feed; tables = (o i).tables }

-- bytes behind
abbrev longer : List ℕ → Left → Left
longer b r = record { state = r.state; bytes = r.bytes ++ b; answers = r.answers }

abbrev preceded : List ℕ → Left → Left
preceded xs r = record { state = r.state; bytes = r.bytes; answers = xs ++ r.answers }

calls_more : (ts : List ℕ) (s : State) (a b : List ℕ) → T (all accepted (calls s a ts).answers) → calls s (a ++ b) ts ≡ longer b (calls s a ts)
unfolding calls all
calls_more [] s a b h = refl
calls_more (t ∷ ts) s a b h =
    let q = two (accepted (outcome s (Arrive a t)).given.answer) _ h in
    let o : outcome s (Arrive (a ++ b) t) ≡ outcome s (Arrive a t) = behind s a b t (not_more_lem s a t q.0) in
    let d : drop (outcome s (Arrive a t)).given.used (a ++ b) ≡ drop (outcome s (Arrive a t)).given.used a ++ b =
    drop_in (outcome s (Arrive a t)).given.used a b (used_fits s a t) in
    let z : after s (Arrive (a ++ b) t) ≡ after s (Arrive a t) = same_after s (Arrive (a ++ b) t) (Arrive a t) o in
    (λ i. preceded ((o i).given.answer ∷ []) (calls (z i) (drop (o i).given.used (a ++ b)) ts))
    ∙ ap (λ (l : List ℕ). preceded ((outcome s (Arrive a t)).given.answer ∷ []) (calls (after s (Arrive a t)) l ts)) d
    ∙ ap (preceded ((outcome s (Arrive a t)).given.answer ∷ []))
    (calls_more ts (after s (Arrive a t)) (drop (outcome s (Arrive a t)).given.used a) b q.1)

calls_append : (ts us : List ℕ) (s : State) (a : List ℕ) → calls s a (ts ++ us) ≡ preceded (calls s a ts).answers (calls (calls s a ts).state (calls s a ts).bytes us)
unfolding calls
calls_append [] us s a = refl
calls_append (t ∷ ts) us s a =
    ap (preceded ((outcome s (Arrive a t)).given.answer ∷ []))
    (calls_append ts us (after s (Arrive a t)) (drop (outcome s (Arrive a t)).given.used a))

in_pieces : (ps : List (List ℕ × List ℕ)) (s : State) (kept : List ℕ) → T (all accepted (calls_in s kept ps).answers)
    → calls s (kept ++ stream ps) (times ps) ≡ calls_in s kept ps
unfolding calls_in stream times calls
in_pieces [] s kept h = λ i. record { state = s; bytes = append-nil kept i; answers = [] }
in_pieces (p ∷ ps) s kept h =
    let one : Left = calls s (kept ++ p.0) p.1 in
    let rest : Left = calls_in one.state one.bytes ps in
    let e : calls s ((kept ++ p.0) ++ stream ps) p.1 ≡ longer (stream ps) one = calls_more p.1 s (kept ++ p.0) (stream ps) (all_parts accepted one.answers rest.answers h).0 in
    ap (λ (l : List ℕ). calls s l (p.1 ++ times ps)) (sym (append_assoc kept p.0 (stream ps)))
    ∙ calls_append p.1 (times ps) s ((kept ++ p.0) ++ stream ps)
    ∙ ap (λ (r : Left). preceded r.answers (calls r.state r.bytes (times ps))) e
    ∙ ap (preceded one.answers) (in_pieces ps one.state one.bytes (all_parts accepted one.answers rest.answers h).1)

pub pieces : P.Pieces
pieces s ps h = in_pieces ps s [] h
