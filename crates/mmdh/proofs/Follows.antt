-- Program's run, call by call, and turn by turn as the program makes it. Assumes nothing.
use Prim.Native.Nat.{ℕ, zero, suc, ◌+◌, ◌-◌, ◌≤◌, ◌<◌}
use mathlib.Core.Path.{◌≡◌, refl, ap, sym, ◌∙◌}
use mathlib.Core.Bool.{Bool, true, false, cond}
use mathlib.Core.List.{List, ◌++◌, append-nil}
use native.Mathlib.Numerals.{add-one}
use native.Mathlib.Decide.{dec_le}
use native.Mathlib.Omega.{arith}
use lib.ListN.{length, take, drop, length-append, length-take, length-drop}
use lib.Seq.{take_all, take-append-add, take-append-le, drop-append-le}
use Rattle.feed.specs.Events.{State, Arrive}
use Rattle.feed.specs.Steps.{Outcome, accepted, outcome}
use Rattle.feed.specs.Program.{buffer_size, Stand, follow}
use Rattle.feed.proofs.Laws.{used_fits}
use Rattle.feed.proofs.Following.{keeps, used_some, stays}
use Rattle.mmdh.specs.Code.Runs.{run_from}

-- where a run stands after a call that is accepted, and after one that is not
abbrev pub onward : ℕ → Outcome → Stand
onward units o = record { answer = o.given.answer; units = units; state = record { feed = o.given.feed; tables = o.tables } }

-- a turn of Program's run over bytes s, by the outcome of its call
abbrev next : ℕ → List ℕ → ℕ → Outcome → Stand
next calls s units o = cond (accepted o.given.answer) (follow calls (drop o.given.used s) (onward (units + 1) o)) (onward units o)

first_turn : (calls : ℕ) (s : List ℕ) (x : Stand) → follow (suc calls) s x ≡ next calls s x.units (outcome x.state (Arrive (take buffer_size s) 0))
unfolding follow
first_turn calls s x = refl

-- an accepted call uses some of the bytes
spends : (x : State) (s : List ℕ) → accepted (outcome x (Arrive (take buffer_size s) 0)).given.answer ≡ true
    → length (drop (outcome x (Arrive (take buffer_size s) 0)).given.used s) < length s
spends x s e =
    let a : 20 ≤ (outcome x (Arrive (take buffer_size s) 0)).given.used = used_some x (take buffer_size s) 0 e in
    let b : (outcome x (Arrive (take buffer_size s) 0)).given.used ≤ length (take buffer_size s) = used_fits x (take buffer_size s) 0 in
    let c = simp length-take at b in
    simp length-drop (omega arith)

by_test : (n m : ℕ) (s : List ℕ) (units : ℕ) (o : Outcome) (b : Bool) → accepted o.given.answer ≡ b
    → (b ≡ true → (x : Stand) → follow n (drop o.given.used s) x ≡ follow m (drop o.given.used s) x) → next n s units o ≡ next m s units o
by_test n m s units o true e f = rw e (f refl (onward (units + 1) o))
by_test n m s units o false e f = rw e

-- more calls than there are bytes are as good as any
spare : (n m : ℕ) (s : List ℕ) (x : Stand) → length s < n → length s < m → follow n s x ≡ follow m s x
spare zero m s x h k = let z : ⊥ = omega arith in absurd z
spare (suc n) zero s x h k = let z : ⊥ = omega arith in absurd z
spare (suc n) (suc m) s x h k =
    let o : Outcome = outcome x.state (Arrive (take buffer_size s) 0) in
    first_turn n s x
    ∙ by_test n m s x.units o (accepted o.given.answer) refl (λ e y.
    let l : length (drop o.given.used s) < length s = spends x.state s e in
    spare n m (drop o.given.used s) y (omega arith) (omega arith))
    ∙ sym (first_turn m s x)

-- the run over bytes by its first call
run_turn : (s : List ℕ) (x : Stand) → run_from s x ≡ next (length s) s x.units (outcome x.state (Arrive (take buffer_size s) 0))
run_turn s x = ap (λ (k : ℕ). follow k s x) (add-one (length s)) ∙ first_turn (length s) s x

-- the last answer so far is looked at by no call
pub answer_free : (s : List ℕ) (a b units : ℕ) (z : State) → run_from s (record { answer = a; units = units; state = z }) ≡ run_from s (record { answer = b; units = units; state = z })
answer_free s a b units z = run_turn s (record { answer = a; units = units; state = z }) ∙ sym (run_turn s (record { answer = b; units = units; state = z }))

take_over : (n : ℕ) (a b : List ℕ) → length a ≤ n → take n (a ++ b) ≡ a ++ take (n - length a) b
take_over n a b h =
    let e : n ≡ length a + (n - length a) = omega arith in
    ap (λ (k : ℕ). take k (a ++ b)) e ∙ take-append-add a b (n - length a)

-- a call at the first bytes that is not answered 3, whatever comes after them
module _ (a : List ℕ) (x : Stand) (o : Outcome) (short : length a ≤ buffer_size) (e : o ≡ outcome x.state (Arrive a 0)) (n : o.given.answer ≡ 3 → ⊥) (rest : List ℕ) where
  one_call_lem : run_from (a ++ rest) x ≡ next (length (a ++ rest)) (a ++ rest) x.units o
  one_call_lem =
      run_turn (a ++ rest) x
      ∙ ap (next (length (a ++ rest)) (a ++ rest) x.units)
      (ap (λ (s : List ℕ). outcome x.state (Arrive s 0)) (take_over buffer_size a rest short)
      ∙ stays x.state a (take (buffer_size - length a) rest) 0 (λ k. n (ap (λ (p : Outcome). p.given.answer) e ∙ k))
      ∙ sym e)

  pub call_goes : accepted o.given.answer ≡ true → run_from (a ++ rest) x ≡ run_from (drop o.given.used a ++ rest) (onward (x.units + 1) o)
  call_goes t =
      let some : 20 ≤ o.given.used = rw e (used_some x.state a 0 (sym (ap (λ (p : Outcome). accepted p.given.answer) e) ∙ t)) in
      let fits : o.given.used ≤ length a = rw e (used_fits x.state a 0) in
      let s : List ℕ = drop o.given.used a ++ rest in
      let l : length s < length (a ++ rest) = simp (length-append, length-drop) (omega arith) in
      one_call_lem
      ∙ rw (t, drop-append-le o.given.used a rest fits) (spare (length (a ++ rest)) (length s + 1) s (onward (x.units + 1) o) l (omega arith))

  pub call_ends : accepted o.given.answer ≡ false → run_from (a ++ rest) x ≡ onward x.units o
  call_ends f = one_call_lem ∙ rw f

-- a call answered 3, with nothing after it
pub call_wants : (a : List ℕ) (x : Stand) → length a ≤ buffer_size → outcome x.state (Arrive a 0) ≡ keeps 3 x.state
    → run_from a x ≡ record { answer = 3; units = x.units; state = x.state }
call_wants a x h e =
    run_turn a x
    ∙ ap (next (length a) a x.units) (ap (λ (s : List ℕ). outcome x.state (Arrive s 0)) (take_all buffer_size a h) ∙ e)

take_behind : (n : ℕ) (a b : List ℕ) → take n (a ++ b) ≡ take n a ++ take (n - length a) b
take_behind n a b = go (dec_le (length a) n)
  where
    go : Dec (length a ≤ n) → take n (a ++ b) ≡ take n a ++ take (n - length a) b
    go (yes h) = rw (take_all n a h) (take_over n a b h)
    go (no h) =
        let e : n - length a ≡ 0 = omega arith in
        rw (e, append-nil) (take-append-le n a b (omega arith))

-- after a refusal the run is the same, whatever comes
module _ (s : List ℕ) (x : Stand) (rest : List ℕ) (o : Outcome) (e : outcome x.state (Arrive (take buffer_size s) 0) ≡ o) (k : (run_from s x).answer ≡ 3 → ⊥) where
  here : run_from s x ≡ next (length s) s x.units o
  here = run_turn s x ∙ ap (next (length s) s x.units) e

  not_wanted : o.given.answer ≡ 3 → ⊥
  not_wanted q =
      let f : accepted o.given.answer ≡ false = ap accepted q in
      let g : run_from s x ≡ onward x.units o = here ∙ rw f in
      k (ap (λ (z : Stand). z.answer) g ∙ q)

  there : run_from (s ++ rest) x ≡ next (length (s ++ rest)) (s ++ rest) x.units o
  there =
      run_turn (s ++ rest) x
      ∙ ap (next (length (s ++ rest)) (s ++ rest) x.units)
      (ap (λ (l : List ℕ). outcome x.state (Arrive l 0)) (take_behind buffer_size s rest)
      ∙ stays x.state (take buffer_size s) (take (buffer_size - length s) rest) 0 (λ q. not_wanted (sym (ap (λ (p : Outcome). p.given.answer) e) ∙ q))
      ∙ e)

  refused_step : (b : Bool) → accepted o.given.answer ≡ b
      → (b ≡ true → (y : Stand) → ((run_from (drop o.given.used s) y).answer ≡ 3 → ⊥) → run_from (drop o.given.used s ++ rest) y ≡ run_from (drop o.given.used s) y)
      → run_from (s ++ rest) x ≡ run_from s x
  refused_step false f ih = there ∙ rw f (sym (here ∙ rw f))
  refused_step true t ih =
      let some : 20 ≤ o.given.used = rw (← e) (used_some x.state (take buffer_size s) 0 (ap (λ (p : Outcome). accepted p.given.answer) e ∙ t)) in
      let within : o.given.used ≤ length (take buffer_size s) = rw (← e) (used_fits x.state (take buffer_size s) 0) in
      let fits : o.given.used ≤ length s = omega (arith, simp length-take at within) in
      let l : List ℕ = drop o.given.used s in
      let y : Stand = onward (x.units + 1) o in
      let short : length l < length s = simp length-drop (omega arith) in
      let long : length (l ++ rest) < length (s ++ rest) = simp length-append (omega arith) in
      let back : run_from s x ≡ run_from l y = here ∙ rw t (spare (length s) (length l + 1) l y short (omega arith)) in
      there
      ∙ rw (t, drop-append-le o.given.used s rest fits) (spare (length (s ++ rest)) (length (l ++ rest) + 1) (l ++ rest) y long (omega arith)
      ∙ ih refl y (λ q. k (ap (λ (z : Stand). z.answer) back ∙ q))
      ∙ sym back)

refused_within : (n : ℕ) (s : List ℕ) (x : Stand) (rest : List ℕ) → length s < n → ((run_from s x).answer ≡ 3 → ⊥) → run_from (s ++ rest) x ≡ run_from s x
refused_within zero s x rest h k = let z : ⊥ = omega arith in absurd z
refused_within (suc n) s x rest h k =
    let o : Outcome = outcome x.state (Arrive (take buffer_size s) 0) in
    refused_step s x rest o refl k (accepted o.given.answer) refl (λ t y.
    let l : length (drop o.given.used s) < length s = spends x.state s t in
    refused_within n (drop o.given.used s) y rest (omega arith))

pub refused_stays : (s : List ℕ) (x : Stand) (rest : List ℕ) → ((run_from s x).answer ≡ 3 → ⊥) → run_from (s ++ rest) x ≡ run_from s x
refused_stays s x rest = refused_within (length s + 1) s x rest (omega arith)
