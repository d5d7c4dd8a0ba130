-- The program's turns are those of Program's run over the bytes that came. Assumes nothing.
use Prim.Native.Nat.{ℕ, ◌+◌, ◌-◌, ◌≤◌, ◌<◌}
use mathlib.Core.Path.{◌≡◌, refl, ap, sym, ◌∙◌}
use mathlib.Core.Bool.{Bool, true, false, cond, not}
use mathlib.Core.List.{List, [], ◌∷◌, ◌++◌, append_assoc, append-nil}
use native.Mathlib.Decide.{ℕ_discrete}
use native.Mathlib.Omega.{arith}
use lib.ListN.{length, drop, length-append, length-drop, take-append-drop}
use borrow.Author.Tests.{leb-true, leb-false}
use Rattle.feed.specs.Events.{Arrive}
use Rattle.feed.specs.Steps.{Outcome, accepted, out_of, outcome}
use Rattle.feed.proofs.Laws.{used_fits}
use Rattle.feed.proofs.Following.{keeps, wanting, used_some}
use Rattle.mmdh.specs.Code.Runs.{left, tables_of, state_in, stand_of, run_from, Called, Refilled, Turned, Drained}
use Rattle.mmdh.specs.declared.Run.{Run}
use Rattle.mmdh.proofs.Follows.{call_goes, call_ends, call_wants, answer_free}
use Rattle.mmdh.proofs.Laws.{left_short}

module _ (r q : Run) (c : Called r q) where
  abbrev made : Outcome
  made = out_of (record { answer = q.answer; used = c.used; feed = q.feed; dropped = (outcome (state_in r) (Arrive (left r.held) 0)).given.dropped }) (tables_of q)

  counted : q.units ≤ r.units + 1
  counted = go (accepted q.answer) c.units
    where
      go : (b : Bool) → q.units ≡ cond b (r.units + 1) r.units → q.units ≤ r.units + 1
      go true e = omega arith
      go false e = omega arith

  goes_on_lem : q.over ≡ false → accepted q.answer ≡ true
  goes_on_lem h = go (accepted q.answer) (sym c.over ∙ h)
    where
      go : (b : Bool) → not b ≡ false → b ≡ true
      go true e = refl
      go false e = sym e

  stops : q.over ≡ true → accepted q.answer ≡ false
  stops h = go (accepted q.answer) (sym c.over ∙ h)
    where
      go : (b : Bool) → not b ≡ true → b ≡ false
      go true e = sym e
      go false e = refl

  -- what is left is less by the bytes used, and they are some where the call is accepted
  less : length (left q.held) ≡ length (left r.held) - c.used
  less = rw c.rest (length-drop c.used (left r.held))

  spent : q.over ≡ false → length (left q.held) < length (left r.held)
  spent h =
      let a : 20 ≤ c.used = rw (ap (λ (o : Outcome). o.given.used) c.made) (used_some (state_in r) (left r.held) 0
      (sym (ap (λ (o : Outcome). accepted o.given.answer) c.made) ∙ goes_on_lem h)) in
      let b : c.used ≤ length (left r.held) = rw (ap (λ (o : Outcome). o.given.used) c.made) (used_fits (state_in r) (left r.held) 0) in
      omega (arith, less)

  -- a turn whose call is not answered 3
  pub turn_called : (q.answer ≡ 3 → ⊥) → Turned 1 r q
  turn_called n =
      record {
        came = [];
        counts = counted;
        goes = λ h rest.
            let a : accepted q.answer ≡ true = goes_on_lem h in
            let k : q.units ≡ r.units + 1 = rw a at c.units in
            call_goes (left r.held) (stand_of r) made (left_short r.held) c.made n rest a ∙ rw (← c.rest, ← k);
        pays = λ h. omega (arith, spent h);
        ends = λ h.
            let a : accepted q.answer ≡ false = stops h in
            let k : q.units ≡ r.units = rw a at c.units in
            call_ends (left r.held) (stand_of r) made (left_short r.held) c.made n [] a ∙ rw (← k);
      }

  -- a turn whose call is answered 3: what is read follows what is left
  module _ (p : Run) (three : q.answer ≡ 3) (f : Refilled q p) where
    kept_all : made ≡ keeps 3 (state_in r)
    kept_all = c.made ∙ wanting (state_in r) (left r.held) 0 (sym (ap (λ (o : Outcome). o.given.answer) c.made) ∙ three)

    still_left : left q.held ≡ left r.held
    still_left =
        let e : c.used ≡ 0 = ap (λ (o : Outcome). o.given.used) kept_all in
        c.rest ∙ rw e

    abbrev came : List ℕ
    came = drop (length (left q.held)) (left p.held)

    both : left p.held ≡ left r.held ++ came
    both = sym (take-append-drop (length (left q.held)) (left p.held)) ∙ ap (λ (l : List ℕ). l ++ came) (f.kept ∙ still_left)

    stands : stand_of p ≡ record { answer = 3; units = r.units; state = state_in r }
    stands =
        let a : p.answer ≡ 3 = f.answer ∙ three in
        let n : q.units ≡ r.units = rw three at c.units in
        let m : p.units ≡ r.units = f.units ∙ n in
        let g : p.feed ≡ r.feed = f.feed ∙ ap (λ (o : Outcome). o.given.feed) kept_all in
        let b : tables_of p ≡ tables_of r = f.tables ∙ ap (λ (o : Outcome). o.tables) kept_all in
        rw (a, m, g, b)

    pub turn_refilled : Turned 1 r p
    turn_refilled =
        let same : length (left q.held) ≡ length (left r.held) = ap length still_left in
        let many : length came ≡ length (left p.held) - length (left q.held) = length-drop (length (left q.held)) (left p.held) in
        let units : p.units ≡ q.units = f.units in
        record {
          came = came;
          counts = omega (arith, counted);
          goes = λ h rest.
              answer_free (left r.held ++ (came ++ rest)) r.answer 3 r.units (state_in r)
              ∙ ap (λ (l : List ℕ). run_from l (record { answer = 3; units = r.units; state = state_in r }))
              (sym (append_assoc (left r.held) came rest) ∙ ap (λ (l : List ℕ). l ++ rest) (sym both))
              ∙ ap (run_from (left p.held ++ rest)) (sym stands);
          pays = λ h.
              let some : length (left q.held) < length (left p.held) = leb-false (length (left p.held)) (length (left q.held)) (sym f.over ∙ h) in
              omega arith;
          ends = λ h.
              let none : length (left p.held) ≤ length (left q.held) = leb-true (length (left p.held)) (length (left q.held)) (sym f.over ∙ h) in
              let e : came ≡ [] = nothing came (omega arith) in
              rw (e, append-nil, stands) (call_wants (left r.held) (stand_of r) (left_short r.held) (sym c.made ∙ kept_all));
        }
      where
        nothing : (l : List ℕ) → length l ≡ 0 → l ≡ []
        nothing [] e = refl
        nothing (x ∷ l) e = let z : ⊥ = omega arith in absurd z

  -- a call with no more bytes behind those that are left
  call_on : q.over ≡ false → run_from (left r.held) (stand_of r) ≡ run_from (left q.held) (stand_of q)
  call_on h =
      let a : accepted q.answer ≡ true = goes_on_lem h in
      let k : q.units ≡ r.units + 1 = rw a at c.units in
      let n : q.answer ≤ 2 = leb-true q.answer 2 (goes_on_lem h) in
      sym (ap (λ (l : List ℕ). run_from l (stand_of r)) (append-nil (left r.held)))
      ∙ call_goes (left r.held) (stand_of r) made (left_short r.held) c.made (λ e. omega arith) [] a
      ∙ rw (← c.rest, ← k, append-nil)

  call_last : q.over ≡ true → run_from (left r.held) (stand_of r) ≡ stand_of q
  call_last h = go (ℕ_discrete q.answer 3)
    where
      go : Dec (q.answer ≡ 3) → run_from (left r.held) (stand_of r) ≡ stand_of q
      go (yes three) =
          let all : made ≡ keeps 3 (state_in r) = c.made ∙ wanting (state_in r) (left r.held) 0 (sym (ap (λ (o : Outcome). o.given.answer) c.made) ∙ three) in
          let n : q.units ≡ r.units = rw three at c.units in
          let g : q.feed ≡ r.feed = ap (λ (o : Outcome). o.given.feed) all in
          let b : tables_of q ≡ tables_of r = ap (λ (o : Outcome). o.tables) all in
          call_wants (left r.held) (stand_of r) (left_short r.held) (sym c.made ∙ all) ∙ rw (three, n, g, b)
      go (no n) =
          let a : accepted q.answer ≡ false = stops h in
          let k : q.units ≡ r.units = rw a at c.units in
          sym (ap (λ (l : List ℕ). run_from l (stand_of r)) (append-nil (left r.held)))
          ∙ call_ends (left r.held) (stand_of r) made (left_short r.held) c.made n [] a
          ∙ rw (← k)

  no_more : q.units + length (left q.held) ≤ r.units + length (left r.held)
  no_more = go q.over refl
    where
      go : (b : Bool) → q.over ≡ b → q.units + length (left q.held) ≤ r.units + length (left r.held)
      go false h = omega (arith, counted, spent h)
      go true h =
          let k : q.units ≡ r.units = rw (stops h) at c.units in
          omega (arith, less)

-- the calls so far of a run to which no more bytes come
pub record Draining (r q : Run) : Type 0 where
  pub room : q.units + length (left q.held) < 18446744073709551615
  pub on : r.over ≡ false → q.over ≡ false → run_from (left r.held) (stand_of r) ≡ run_from (left q.held) (stand_of q)
  pub ends : r.over ≡ false → q.over ≡ true → run_from (left r.held) (stand_of r) ≡ stand_of q
  pub same : r.over ≡ true → (q.over ≡ true) × (stand_of q ≡ stand_of r)

-- what is left to do: nothing once over
abbrev pub to_do : Run → ℕ
to_do r = cond r.over 0 (1 + length (left r.held))

opposite : (b : Bool) → b ≡ true → b ≡ false → ⊥
opposite b t f = let z : ◌≡◌ {A = ℕ} 0 1 = cc in omega arith

pub drain_starts : (r : Run) → r.units ≤ 9223372036854775808 → Draining r r
drain_starts r h =
    record { room = omega (arith, left_short r.held); on = λ f g. refl; ends = λ f g. absurd (opposite r.over g f); same = λ f. (f, refl) }

pub drain_counts : (r q : Run) → Draining r q → q.units < 18446744073709551615
drain_counts r q d = omega (arith, d.room)

pub drain_goes : (r q p : Run) → Draining r q → q.over ≡ false → Called q p → Draining r p
drain_goes r q p d f c =
    record {
      room = omega (arith, d.room, no_more q p c);
      on = λ a b. d.on a f ∙ call_on q p c b;
      ends = λ a b. d.on a f ∙ call_last q p c b;
      same = λ a. absurd (opposite q.over (d.same a).0 f);
    }

pub drain_less : (q p : Run) → q.over ≡ false → Called q p → to_do p < to_do q
drain_less q p f c = go p.over refl
  where
    go : (b : Bool) → p.over ≡ b → to_do p < to_do q
    go true e = rw (e, f) (omega arith)
    go false e = rw (e, f) (omega (arith, spent q p c e))

pub drain_ends : (r q : Run) → Draining r q → q.over ≡ true → Drained r q
drain_ends r q d o = record { over = o; ends = λ a. d.ends a o; same = λ a. (d.same a).1 }

pub ruleset draining = (drain_starts, drain_counts, drain_less, drain_ends)

-- no turn
pub turned_none : (r : Run) → r.over ≡ false → Turned 0 r r
turned_none r h =
    record {
      came = [];
      counts = omega arith;
      goes = λ k rest. refl;
      pays = λ k. omega arith;
      ends = λ k. absurd (opposite r.over k h);
    }

-- a turn after others
pub turned_one : (k : ℕ) (a b c : Run) → Turned k a b → b.over ≡ false → Turned 1 b c → Turned (k + 1) a c
turned_one k a b c p h q =
    record {
      came = p.came ++ q.came;
      counts = omega (arith, p.counts, q.counts);
      goes = λ n rest. rw append_assoc (p.goes h (q.came ++ rest) ∙ q.goes n rest);
      pays = λ n. simp length-append (omega (arith, p.pays h, q.pays n));
      ends = λ n. p.goes h q.came ∙ q.ends n;
    }

-- no more turns are made of a run that is over
pub turned_over : (j k : ℕ) (a b : Run) → Turned k a b → b.over ≡ true → k ≤ j → Turned j a b
turned_over j k a b p h l =
    record {
      came = p.came;
      counts = omega (arith, p.counts);
      goes = p.goes;
      pays = λ f. absurd (opposite b.over h f);
      ends = p.ends;
    }

pub ruleset turning = (turned_none, turned_one, turned_over)
