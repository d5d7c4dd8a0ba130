-- What a verdict on a new password means (specs/Verdicts). Assumes nothing.
use Prim.Native.Nat.{ℕ, ◌≤◌, ◌<◌}
use native.Mathlib.Omega.{arith}
use mathlib.Core.Path.{◌≡◌, refl, sym, ap, subst, ◌∙◌}
use mathlib.Core.Bool.{Bool, true, false, not, cond, ◌&&◌, ◌||◌, false≢true}
use mathlib.Core.List.{List, [], ◌∷◌}
use lib.ListN.{length, get_or}
use lib.Dec.{eqb, ltb, leb}
use borrow.Author.Tests.{eqb-true, eqb-false, ltb-true, ltb-false, le-leb, leb-true, ne_eqb}
use Rattle.std.specs.Prelude.{Ok, Err}
use Rattle.ground.specs.Choice.{pick, first, any, same}
use Rattle.ground.proofs.Bools.{both, join, of_T, is_T}
use Rattle.ground.proofs.Choices.{any_found, any_at, same_is, same_self}
use Rattle.password.specs.Rule.{Verdict, Passes, verdict_no, shortest, between, asks_special, is_of, lacks, total, bad_history, lasts, items, verdict_of, plain_verdict}
use Rattle.password.specs.declared.Edition.{Edition}
use Rattle.password.specs.declared.Edition.TheVariants.{E111, E136}
use Rattle.password.specs.declared.Class.{Class}
use Rattle.password.specs.declared.Class.TheVariants.{Upper, Lower, Digit, Special}
use Rattle.password.specs.declared.Fault.TheVariants.{BadHistory, Short, NoUpper, NoLower, NoDigit, NoSpecial, Used}
use Rattle.password.proofs.Laws.{lasts_count, lasts_at}
use Rattle.promises.specs.Verdicts as said

-- a test that passes exactly where something does not hold
record Tests (t : Bool) (P : Type 0) : Type 0 where
  holds : t ≡ false → P
  fails : t ≡ true → P → ⊥

pass : (t : Bool) (P : Type 0) → Tests t P → P → t ≡ false
pass true P k p = absurd (k.fails refl p)
pass false P k p = refl

fail : (t : Bool) (P : Type 0) → Tests t P → (P → ⊥) → t ≡ true
fail true P k n = refl
fail false P k n = absurd (n (k.holds refl))

adds : (l h : List ℕ) → Tests (bad_history l h) (said.Adds l h)
unfolding bad_history
adds l h = go (ltb 5 (length l)) (eqb (total l) (length h)) refl refl
  where
    go : (a b : Bool) → ltb 5 (length l) ≡ a → eqb (total l) (length h) ≡ b → Tests (a || not b) (said.Adds l h)
    go true b e f = record { holds = λ z. absurd (false≢true (sym z)); fails = λ z p. let m = ltb-true 5 (length l) e in omega (arith, p.0) }
    go false true e f = record { holds = λ z. (ltb-false 5 (length l) e, eqb-true (total l) (length h) f); fails = λ z p. false≢true z }
    go false false e f = record { holds = λ z. absurd (false≢true (sym z)); fails = λ z p. eqb-false (total l) (length h) f p.1 }

long : (e : Edition) (new : List ℕ) → Tests (ltb (length new) (shortest e)) (said.Long e new)
long E111 new = record { holds = ltb-false (length new) 8; fails = λ z p. let m = ltb-true (length new) 8 z in omega (arith, p) }
long E136 new = record { holds = ltb-false (length new) 16; fails = λ z p. let m = ltb-true (length new) 16 z in omega (arith, p) }

-- a class of bytes, at some place
seeks : (c : Class) (P : ℕ → Type 0) (new : List ℕ) → ((b : ℕ) → is_of c b ≡ true → P b) → ((b : ℕ) → P b → is_of c b ≡ true)
    → Tests (lacks c new) ((place : ℕ) × (place < length new) × P (get_or new place 0))
unfolding lacks
seeks c P new to from = go (any (is_of c) new) refl
  where
    go : (t : Bool) → any (is_of c) new ≡ t → Tests (not t) ((place : ℕ) × (place < length new) × P (get_or new place 0))
    go true e = record {
      holds = λ z. let r = any_found (is_of c) 0 new e in (r.0, r.1, to (get_or new r.0 0) r.2);
      fails = λ z p. false≢true z;
    }
    go false e = record {
      holds = λ z. absurd (false≢true (sym z));
      fails = λ z p. false≢true (sym e ∙ any_at (is_of c) 0 new p.0 p.1 (from (get_or new p.0 0) p.2));
    }

-- a range of bytes
has : (c : Class) (lo hi : ℕ) (new : List ℕ) → ((b : ℕ) → is_of c b ≡ between lo hi b) → Tests (lacks c new) (said.Has lo hi new)
has c lo hi new is =
    let k = seeks c (λ b. (lo ≤ b) × (b ≤ hi)) new
    (λ b h. let r = both (leb lo b) (leb b hi) (sym (is b) ∙ h) in (leb-true lo b r.0, leb-true b hi r.1))
    (λ b p. is b ∙ join (leb lo b) (leb b hi) (le-leb lo b p.0) (le-leb b hi p.1)) in
    record { holds = λ z. let r = k.holds z in (r.0, r.1, r.2.0, r.2.1); fails = λ z p. k.fails z (p.0, p.1, (p.2, p.3)) }

upper : (new : List ℕ) → Tests (lacks Upper new) (said.HasUpper new)
unfolding is_of
upper new = has Upper 65 90 new (λ b. refl)

lower : (new : List ℕ) → Tests (lacks Lower new) (said.HasLower new)
unfolding is_of
lower new = has Lower 97 122 new (λ b. refl)

digit : (new : List ℕ) → Tests (lacks Digit new) (said.HasDigit new)
unfolding is_of
digit new = has Digit 48 57 new (λ b. refl)

special : (e : Edition) (new : List ℕ) → Tests (asks_special e && lacks Special new) (said.HasSpecial e new)
unfolding is_of
special E111 new = record { holds = λ z. tt; fails = λ z p. false≢true z }
special E136 new = seeks Special _ new (λ b h. is_T _ h) (λ b p. of_T _ p)

-- one of the last
module _ (new l h : List ℕ) where
  again : any (same new) (lasts l h) ≡ true → said.Again new l h
  again e =
      let r = any_found (same new) [] (lasts l h) e in
      let m : r.0 < length l = subst (λ (n : ℕ). r.0 < n) (lasts_count l h) r.1 in
      (r.0, m, sym (lasts_at l h r.0 m) ∙ sym (same_is new (get_or (lasts l h) r.0 []) r.2))

  found : said.Again new l h → any (same new) (lasts l h) ≡ true
  found p =
      any_at (same new) [] (lasts l h) p.0 (subst (λ (n : ℕ). p.0 < n) (sym (lasts_count l h)) p.1)
      (ap (same new) (lasts_at l h p.0 p.1 ∙ p.2) ∙ same_self new)

  unused : Tests (any (same new) (lasts l h)) (said.Again new l h → ⊥)
  unused = record { holds = λ z p. false≢true (sym z ∙ found p); fails = λ z n. n (again z) }

-- the verdict that is given means what is so
module _ (e : Edition) (new l h : List ℕ) where
  so : said.Means e new l h (verdict_of e new l h)
  unfolding verdict_of items first
  so =
      go (bad_history l h) (ltb (length new) (shortest e)) (lacks Upper new) (lacks Lower new) (lacks Digit new) (asks_special e && lacks Special new) (any (same new) (lasts l h))
      refl refl refl refl refl refl refl
    where
      go : (a b c d f g i : Bool) → bad_history l h ≡ a → ltb (length new) (shortest e) ≡ b → lacks Upper new ≡ c → lacks Lower new ≡ d → lacks Digit new ≡ f
          → asks_special e && lacks Special new ≡ g → any (same new) (lasts l h) ≡ i
          → said.Means e new l h (cond a (Err BadHistory) (cond b (Err Short) (cond c (Err NoUpper) (cond d (Err NoLower) (cond f (Err NoDigit) (cond g (Err NoSpecial) (cond i (Err Used) Passes)))))))
      go true b c d f g i a' b' c' d' f' g' i' = (adds l h).fails a'
      go false true c d f g i a' b' c' d' f' g' i' = ((adds l h).holds a', (long e new).fails b')
      go false false true d f g i a' b' c' d' f' g' i' = ((adds l h).holds a', (long e new).holds b', (upper new).fails c')
      go false false false true f g i a' b' c' d' f' g' i' = ((adds l h).holds a', (long e new).holds b', (upper new).holds c', (lower new).fails d')
      go false false false false true g i a' b' c' d' f' g' i' =
          ((adds l h).holds a', (long e new).holds b', (upper new).holds c', (lower new).holds d', (digit new).fails f')
      go false false false false false true i a' b' c' d' f' g' i' =
          ((adds l h).holds a', (long e new).holds b', (upper new).holds c', (lower new).holds d', (digit new).holds f', (special e new).fails g')
      go false false false false false false true a' b' c' d' f' g' i' =
          ((adds l h).holds a', (long e new).holds b', (upper new).holds c', (lower new).holds d', (digit new).holds f', (special e new).holds g', again new l h i')
      go false false false false false false false a' b' c' d' f' g' i' =
          ((adds l h).holds a', (long e new).holds b', (upper new).holds c', (lower new).holds d', (digit new).holds f', (special e new).holds g', (unused new l h).holds i')

  -- and what is so is given
  no_history_lem : (said.Adds l h → ⊥) → bad_history l h ≡ true
  no_history_lem = fail (bad_history l h) (said.Adds l h) (adds l h)

  history : said.Adds l h → bad_history l h ≡ false
  history = pass (bad_history l h) (said.Adds l h) (adds l h)

  given : (v : Verdict) → said.Means e new l h v → verdict_of e new l h ≡ v
  unfolding verdict_of items first
  given (Err BadHistory) m = rw (no_history_lem m)
  given (Err Short) m = rw (history m.0, fail _ _ (long e new) m.1)
  given (Err NoUpper) m = rw (history m.0, pass _ _ (long e new) m.1, fail _ _ (upper new) m.2)
  given (Err NoLower) m = rw (history m.0, pass _ _ (long e new) m.1, pass _ _ (upper new) m.2, fail _ _ (lower new) m.3)
  given (Err NoDigit) m = rw (history m.0, pass _ _ (long e new) m.1, pass _ _ (upper new) m.2, pass _ _ (lower new) m.3, fail _ _ (digit new) m.4)
  given (Err NoSpecial) m =
      rw (history m.0, pass _ _ (long e new) m.1, pass _ _ (upper new) m.2, pass _ _ (lower new) m.3, pass _ _ (digit new) m.4, fail _ _ (special e new) m.5)
  given (Err Used) m =
      rw (history m.0, pass _ _ (long e new) m.1, pass _ _ (upper new) m.2, pass _ _ (lower new) m.3, pass _ _ (digit new) m.4, pass _ _ (special e new) m.5, found new l h m.6)
  given (Ok _) m =
      rw (
        history m.0,
        pass _ _ (long e new) m.1,
        pass _ _ (upper new) m.2,
        pass _ _ (lower new) m.3,
        pass _ _ (digit new) m.4,
        pass _ _ (special e new) m.5,
        pass _ _ (unused new l h) m.6,
      )

pub verdict_means : said.VerdictMeans
verdict_means e new l h v = (λ p. subst (said.Means e new l h) p (so e new l h), given e new l h v)

pub old_passes_too : said.OldPassesToo
old_passes_too new l h p =
    let m = (verdict_means E136 new l h Passes).0 p in
    given E111 new l h Passes (m.0, omega (arith, m.1), m.2, m.3, m.4, tt, m.6)

-- a verdict's number, wherever the history is tried first
numbered : (t : Bool) (v : Verdict) → cond t (verdict_no (Err BadHistory)) (verdict_no (cond t (Err BadHistory) v)) ≡ verdict_no (cond t (Err BadHistory) v)
numbered true v = refl
numbered false v = refl

pub number_of_verdict : said.NumberOfVerdict
unfolding plain_verdict verdict_of first
number_of_verdict E111 new l h = numbered (bad_history l h) _
number_of_verdict E136 new l h = numbered (bad_history l h) _

-- the verdict of a number
unfoldable verdict_by : ℕ → Verdict
verdict_by n = pick n ((23, Err BadHistory) ∷ (1, Err Short) ∷ (2, Err NoUpper) ∷ (3, Err NoLower) ∷ (4, Err NoDigit) ∷ (5, Err NoSpecial) ∷ (6, Err Used) ∷ []) Passes

by_number : (v : Verdict) → verdict_by (verdict_no v) ≡ v
unfolding verdict_by pick
by_number (Ok _) = refl
by_number (Err BadHistory) = refl
by_number (Err Short) = refl
by_number (Err NoUpper) = refl
by_number (Err NoLower) = refl
by_number (Err NoDigit) = refl
by_number (Err NoSpecial) = refl
by_number (Err Used) = refl

pub numbers_apart : said.NumbersApart
numbers_apart v w e = sym (by_number v) ∙ ap verdict_by e ∙ by_number w

pub other_edition : said.OtherEdition
unfolding plain_verdict first
other_edition n new l h other =
    (λ p. rw (history E111 new l h p, ne_eqb n 111 (other E111), ne_eqb n 136 (other E136)), λ p. rw (no_history_lem E111 new l h p))

pub plain_old_passes_too : said.PlainOldPassesToo
plain_old_passes_too new l h p =
    let q = numbers_apart (verdict_of E136 new l h) Passes (sym (number_of_verdict E136 new l h) ∙ p) in
    number_of_verdict E111 new l h ∙ ap verdict_no (old_passes_too new l h q)
