-- What an arrival comes to when bytes follow, and when it is answered 3 or accepted. Assumes nothing.
use Prim.Native.Nat.{ℕ, zero, suc, ◌+◌, ◌≤◌}
use mathlib.Core.Path.{◌≡◌, refl, ap, sym, subst, ◌∙◌}
use mathlib.Core.Bool.{Bool, true, false, cond, not}
use mathlib.Core.List.{List, [], ◌∷◌, ◌++◌}
use native.Mathlib.Omega.{arith}
use lib.ListN.{length, take, drop}
use lib.Dec.{T, ltb, eqb}
use Rattle.ground.specs.Choice.{first, all}
use Rattle.wire.specs.Units.{unit_of}
use Rattle.wire.specs.declared.Unit.{Unit}
use Rattle.wire.specs.declared.Unit.TheVariants as unit
use Rattle.ground.proofs.Choices.{first_may}
use Rattle.wire.proofs.Fronts.{unit_fits, unit_stays}
use Rattle.feed.specs.Feeds.{deaf}
use Rattle.feed.specs.Events.{Tables, State, Arrive, Overrun, time_of, News, Linked, More, Heartbeat, TooLong, Message, cut_from, news, on_message, news_size, offered}
use Rattle.feed.specs.Answers.{Answer, Keep, Lose, Take}
use Rattle.feed.specs.Answers.{number, arrives, lacks_need, is_more, is_too_long, line_tests, table_tests, tests, answer_to}
use Rattle.feed.specs.Steps.{Outcome, accepted, used_of, act, dropped_on, handed, outcome}
use Rattle.feed.specs.Code.Judging.{answered}
use Rattle.feed.specs.declared.Feed.{Feed}

-- n bytes behind the first k stay when bytes follow
part_stays : (k n : ℕ) (a b : List ℕ) → k + n ≤ length a → take n (drop k (a ++ b)) ≡ take n (drop k a)
part_stays zero zero a b h = refl
part_stays zero (suc n) [] b h = absurd (let z : ⊥ = omega arith in z)
part_stays zero (suc n) (x ∷ a) b h = ap (◌∷◌ x) (part_stays zero n a b (omega arith))
part_stays (suc k) n [] b h = absurd (let z : ⊥ = omega arith in z)
part_stays (suc k) n (x ∷ a) b h = part_stays k n a b (omega arith)

news_stay : (a b : List ℕ) (u : Unit) → unit_of a ≡ u → (u ≡ unit.More → ⊥) → cut_from (a ++ b) u ≡ cut_from a u
unfolding cut_from
news_stay a b unit.More e h = absurd (h refl)
news_stay a b unit.Heartbeat e h = refl
news_stay a b (unit.Message q i n) e h = ap (Message q i) (part_stays 20 n a b (unit_fits a q i n e))

-- a call that meets a whole unit meets the same when bytes follow
pub pieces : (x : State) (a b : List ℕ) (time : ℕ) → (unit_of a ≡ unit.More → ⊥) → outcome x (Arrive (a ++ b) time) ≡ outcome x (Arrive a time)
unfolding outcome handed time_of news offered used_of
pieces x a b time h =
    let e : cut_from (a ++ b) (unit_of (a ++ b)) ≡ cut_from a (unit_of a) = rw (unit_stays a b h) (news_stay a b (unit_of a) refl h) in
    rw e

-- an answer with which all stays as it is
abbrev pub keeps : ℕ → State → Outcome
keeps n x = record { given = answered n x.feed; tables = x.tables }

-- 3 answers no whole unit
not_more : Answer → Bool
not_more a = not (eqb (number a) 3)

not_three : (n : ℕ) → T (not (eqb n 3)) → n ≡ 3 → ⊥
not_three n t e = subst (λ (k : ℕ). T (not (eqb k 3))) e t

three_wants : (f : Feed) (x : Tables) (time : ℕ) (n : News) → is_more n ≡ false → number (answer_to f x time n) ≡ 3 → ⊥
unfolding not_more tests line_tests table_tests all on_message is_too_long is_more number
three_wants f x time (Linked link) h = not_three _ (first_may not_more (tests f x time (Linked link)) (Take 0) tt tt)
three_wants f x time More h = λ e. let z : ◌≡◌ {A = ℕ} 0 1 = cc in omega arith
three_wants f x time Heartbeat h = not_three _ (first_may not_more (tests f x time Heartbeat) (Take 0) tt tt)
three_wants f x time TooLong h = not_three _ (first_may not_more (tests f x time TooLong) (Take 0) tt tt)
three_wants f x time (Message q i m) h = not_three _ (first_may not_more (tests f x time (Message q i m)) (Take 0) tt tt)

whole_news : (s : List ℕ) (u : Unit) → (u ≡ unit.More → ⊥) → is_more (cut_from s u) ≡ false
unfolding is_more cut_from
whole_news s unit.More h = absurd (h refl)
whole_news s unit.Heartbeat h = refl
whole_news s (unit.Message q i n) h = refl

pub whole_answered : (x : State) (s : List ℕ) (time : ℕ) → (unit_of s ≡ unit.More → ⊥) → (outcome x (Arrive s time)).given.answer ≡ 3 → ⊥
unfolding outcome handed time_of news
whole_answered x s time h e = three_wants x.feed x.tables time (cut_from s (unit_of s)) (whole_news s (unit_of s) h) e

unit_twenty : (s : List ℕ) (u : Unit) → (u ≡ unit.More → ⊥) → 20 ≤ news_size (cut_from s u)
unfolding news_size cut_from
unit_twenty s unit.More h = absurd (h refl)
unit_twenty s unit.Heartbeat h = omega arith
unit_twenty s (unit.Message q i n) h = omega arith

used_whole : (x : State) (s : List ℕ) (time : ℕ) → accepted (outcome x (Arrive s time)).given.answer ≡ true → (u : Unit) → unit_of s ≡ u → 20 ≤ news_size (cut_from s u)
    → 20 ≤ (outcome x (Arrive s time)).given.used
unfolding outcome handed used_of offered news
used_whole x s time h u e l = rw (h, e) l

module _ (x : State) (s : List ℕ) (time : ℕ) where
  -- 10 and 11 look at no byte
  early : ltb time x.feed.heard ≡ true → outcome x (Arrive s time) ≡ keeps 10 x
  unfolding outcome handed time_of used_of number act dropped_on tests line_tests table_tests first
  early e = rw e

  closed : ltb time x.feed.heard ≡ false → deaf x.feed.phase ≡ true → outcome x (Arrive s time) ≡ keeps 11 x
  unfolding outcome handed time_of news used_of number act dropped_on tests line_tests table_tests first arrives cut_from
  closed e d = go (unit_of s)
    where
      go : (u : Unit) → handed (first (tests x.feed x.tables time (cut_from s u)) (Take 0)) x (Arrive s time) ≡ keeps 11 x
      go unit.More = rw (e, d)
      go unit.Heartbeat = rw (e, d)
      go (unit.Message q i n) = rw (e, d)

  wants : ltb time x.feed.heard ≡ false → deaf x.feed.phase ≡ false → unit_of s ≡ unit.More → outcome x (Arrive s time) ≡ keeps 3 x
  unfolding outcome handed time_of news used_of number act dropped_on tests line_tests table_tests first arrives lacks_need is_too_long is_more cut_from
  wants e d u = rw (u, e, d)

  -- what is answered 3 leaves all as it is
  pub wanting : (outcome x (Arrive s time)).given.answer ≡ 3 → outcome x (Arrive s time) ≡ keeps 3 x
  wanting h = go (unit_of s) refl
    where
      more : (p q : Bool) → ltb time x.feed.heard ≡ p → deaf x.feed.phase ≡ q → unit_of s ≡ unit.More → outcome x (Arrive s time) ≡ keeps 3 x
      more true q e d u = let z : ⊥ = omega (arith, h, ap (λ (o : Outcome). o.given.answer) (early e)) in absurd z
      more false true e d u = let z : ⊥ = omega (arith, h, ap (λ (o : Outcome). o.given.answer) (closed e d)) in absurd z
      more false false e d u = wants e d u

      go : (u : Unit) → unit_of s ≡ u → outcome x (Arrive s time) ≡ keeps 3 x
      go unit.More e = more (ltb time x.feed.heard) (deaf x.feed.phase) refl refl e
      go unit.Heartbeat e = absurd (whole_answered x s time (λ m. let z : ◌≡◌ {A = ℕ} 0 1 = cc in omega arith) h)
      go (unit.Message q i n) e = absurd (whole_answered x s time (λ m. let z : ◌≡◌ {A = ℕ} 0 1 = cc in omega arith) h)

  -- an accepted unit has its header at least
  pub used_some : accepted (outcome x (Arrive s time)).given.answer ≡ true → 20 ≤ (outcome x (Arrive s time)).given.used
  used_some h = go (unit_of s) refl
    where
      not_kept : (n : ℕ) → accepted n ≡ false → outcome x (Arrive s time) ≡ keeps n x → ⊥
      not_kept n f e =
          let t : accepted n ≡ true = sym (ap (λ (o : Outcome). accepted o.given.answer) e) ∙ h in
          let z : ◌≡◌ {A = ℕ} 0 1 = cc in
          omega arith

      more : (p q : Bool) → ltb time x.feed.heard ≡ p → deaf x.feed.phase ≡ q → unit_of s ≡ unit.More → ⊥
      more true q e d u = not_kept 10 refl (early e)
      more false true e d u = not_kept 11 refl (closed e d)
      more false false e d u = not_kept 3 refl (wants e d u)

      go : (u : Unit) → unit_of s ≡ u → 20 ≤ (outcome x (Arrive s time)).given.used
      go unit.More e = absurd (more (ltb time x.feed.heard) (deaf x.feed.phase) refl refl e)
      go unit.Heartbeat e = used_whole x s time h unit.Heartbeat e (unit_twenty s unit.Heartbeat (λ m. let z : ◌≡◌ {A = ℕ} 0 1 = cc in omega arith))
      go (unit.Message q i n) e = used_whole x s time h (unit.Message q i n) e (unit_twenty s (unit.Message q i n) (λ m. let z : ◌≡◌ {A = ℕ} 0 1 = cc in omega arith))

-- what is longer than the holding buffer is never accepted
pub overrun_not : (x : State) (time : ℕ) → accepted (outcome x (Overrun time)).given.answer ≡ false
unfolding outcome handed time_of news number tests line_tests first arrives lacks_need is_too_long
overrun_not x time = go (ltb time x.feed.heard) (deaf x.feed.phase)
  where
    go : (p q : Bool) → accepted (number (cond p (Keep 10) (cond q (Keep 11) (Lose 22)))) ≡ false
    go true q = refl
    go false true = refl
    go false false = refl

-- a call that is not answered 3 comes to the same when bytes follow
pub stays : (x : State) (a b : List ℕ) (time : ℕ) → ((outcome x (Arrive a time)).given.answer ≡ 3 → ⊥) → outcome x (Arrive (a ++ b) time) ≡ outcome x (Arrive a time)
stays x a b time h = go (unit_of a) refl
  where
    more : (p q : Bool) → ltb time x.feed.heard ≡ p → deaf x.feed.phase ≡ q → unit_of a ≡ unit.More → outcome x (Arrive (a ++ b) time) ≡ outcome x (Arrive a time)
    more true q e d u = early x (a ++ b) time e ∙ sym (early x a time e)
    more false true e d u = closed x (a ++ b) time e d ∙ sym (closed x a time e d)
    more false false e d u = absurd (h (ap (λ (o : Outcome). o.given.answer) (wants x a time e d u)))

    go : (u : Unit) → unit_of a ≡ u → outcome x (Arrive (a ++ b) time) ≡ outcome x (Arrive a time)
    go unit.More e = more (ltb time x.feed.heard) (deaf x.feed.phase) refl refl e
    go unit.Heartbeat e = pieces x a b time (λ m. let z : ◌≡◌ {A = ℕ} 0 1 = cc in omega arith)
    go (unit.Message q i n) e = pieces x a b time (λ m. let z : ◌≡◌ {A = ℕ} 0 1 = cc in omega arith)
