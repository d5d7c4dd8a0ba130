-- The program ends in 3 or 11 to 17 (specs/Decisions, 103). Assumes nothing.
use Prim.Native.Nat.{ℕ, zero, suc, ◌+◌, ◌≤◌, ◌<◌}
use native.Mathlib.Nat.{not-suc-le-zero}
use native.Mathlib.Omega.{arith}
use mathlib.Core.Path.{◌≡◌, refl, sym, ap, subst, ◌∙◌}
use mathlib.Core.Bool.{Bool, true, false, cond, not, true≢false}
use mathlib.Core.List.{List, [], ◌∷◌, ◌++◌}
use lib.ListN.{length, take, drop, length-take, length-drop}
use lib.Dec.{T, eqb}
use Rattle.ground.specs.Choice.{one_of, first, all}
use Rattle.ground.proofs.Bools.{of_T, is_T, pair}
use Rattle.ground.proofs.Choices.{first_may, each_has}
use Rattle.wire.specs.Number.{bytes_only}
use Rattle.ladder.proofs.Orders.{all_take, all_drop}
use Rattle.feed.specs.Feeds.{listed_limit, new_given}
use Rattle.feed.specs.Events.{Tables, State, Event, Connect, Arrive, News, Linked, More, Heartbeat, TooLong, Message, news, time_of, on_message}
use Rattle.feed.specs.Answers.{number, arrives, lacks_need, is_more, is_too_long, line_tests, table_tests, tests, reply, answer_to}
use Rattle.feed.specs.Steps.{taken, act, accepted, handed, outcome}
use Rattle.feed.specs.Program.{buffer_size, table_words, strip_words, Stand, follow, connection}
use Rattle.feed.specs.declared.Feed.{Feed}
use Rattle.feed.specs.declared.Given.{Given}
use Rattle.feed.specs.Answers.{Answer}
use Rattle.feed.specs.Answers.{Keep, Lose, Spoil, Skip, Take}
use Rattle.feed.specs.declared.Link.TheVariants.{Fresh}
use Rattle.feed.proofs.Laws.{used_fits}
use Rattle.feed.proofs.Following.{used_some}
use Rattle.promises.specs.Refusals.{answers_to}
use Rattle.promises.specs.Runs.{Sizes, start, after, run, end_of}
use Rattle.promises.specs.Demands.{hands_bytes, Bytes}
use Rattle.promises.specs.Decisions as C
use Rattle.promises.proofs.Refused as F
use Rattle.promises.proofs.Steps.{is_not}
use Rattle.promises.proofs.Soundness.{bytes_two}
use Rattle.promises.proofs.Morning.{never18, run_append}

-- a call at time 0 on a feed last heard at 0 is not before it: 10 is not given
not_early : (f : Feed) (x : Tables) (n : News) → f.heard ≡ 0 → T (is_not 10 (answer_to f x 0 n))
unfolding tests line_tests table_tests all on_message number
not_early f x n h = first_may (is_not 10) (tests f x 0 n) (Take 0) (rw h tt) tt

-- after a call the last heard time is that of the call or what it was
heard_by : (P : ℕ → Type 0) (s : State) (e : Event) → P s.feed.heard → P (time_of e) → P (after s e).feed.heard
unfolding after outcome handed act taken
heard_by P s e p q = go (reply s e) (news e)
  where
    go : (a : Answer) (n : News) → P (act a (time_of e) n s).feed.heard
    go (Keep k) n = p
    go (Lose k) n = p
    go (Spoil k) n = p
    go (Skip k) n = q
    go (Take k) (Linked link) = q
    go (Take k) More = p
    go (Take k) Heartbeat = q
    go (Take k) TooLong = p
    go (Take k) (Message seq internal m) = q

-- the answers of an arrival that is not accepted, but for 10 and 18
abbrev last : List ℕ
last = 3 ∷ 11 ∷ 12 ∷ 13 ∷ 14 ∷ 15 ∷ 16 ∷ 17 ∷ []

Ending : ℕ → Type 0
Ending n = accepted n ≡ false → (n ≡ 10 → ⊥) → (n ≡ 18 → ⊥) → T (one_of n last)

ending : (s : State) (bytes : List ℕ) (time : ℕ) → Ending (outcome s (Arrive bytes time)).given.answer
unfolding Ending one_of answers_to
ending s bytes time =
    let no : (n : ℕ) → accepted n ≡ true → Ending n = λ n y f a b. absurd (true≢false (sym y ∙ f)) in
    let yes : (n : ℕ) → T (one_of n last) → Ending n = λ n t f a b. t in
    each_has Ending (answers_to (Arrive bytes time))
    (λ f a b. absurd (a refl), (yes 11 tt, (yes 3 tt, (yes 12 tt, (yes 13 tt, (yes 14 tt, (no 1 refl, (yes 15 tt, (λ f a b. absurd (b refl), (yes 17 tt, (yes 16 tt, (no 2 refl, (no 0 refl, tt)))))))))))))
    (outcome s (Arrive bytes time)).given.answer (F.answer_listed s (Arrive bytes time))

-- the words that the program lends
abbrev words : Sizes
words = record { books = table_words; strips = strip_words }

-- where a run of the program stands: after some events from the start, last heard at 0
pub record Stands (es : List Event) (x : State) : Type 0 where
  pub is : x ≡ end_of 1000 words es
  pub bytes : Bytes es
  pub heard : x.feed.heard ≡ 0

module _ (x : State) (es : List Event) (st : Stands es x) (part : List ℕ) (hp : T (bytes_only part)) where
  abbrev e : Event
  e = Arrive part 0

  goes_on_lem : Stands (es ++ (e ∷ [])) (after x e)
  unfolding run all hands_bytes time_of
  goes_on_lem = record {
    is = rw (run_append es (e ∷ []) (start 1000 words)) (ap (λ (y : State). after y e) st.is);
    bytes = bytes_two es (e ∷ []) st.bytes (pair (bytes_only part) true hp tt);
    heard = heard_by (λ (k : ℕ). k ≡ 0) x e st.heard refl;
  }

  stops : accepted (outcome x e).given.answer ≡ false → T (one_of (outcome x e).given.answer last)
  unfolding outcome handed Ending time_of
  stops f =
      ending x part 0 f
      (λ t. subst (λ (k : ℕ). T (not (eqb k 10))) t (not_early x.feed x.tables (news e) st.heard))
      (λ t. never18 1000 words es e st.bytes (ap (λ (y : State). (outcome y e).given.answer) (sym st.is) ∙ t))

ends : (calls : ℕ) (s : List ℕ) (x : Stand) (es : List Event) → length s < calls → T (bytes_only s) → Stands es x.state → T (one_of (follow calls s x).answer last)
unfolding follow after
ends zero s x es l h st = absurd (not-suc-le-zero l)
ends (suc calls) s x es l h st =
    go (accepted o.answer) refl
    (λ y. ends calls (drop o.used s) next (es ++ (Arrive part 0 ∷ [])) (shorter y) (is_T _ (all_drop _ o.used s (of_T _ h))) (goes_on_lem x.state es st part whole))
  where
    part : List ℕ
    part = take buffer_size s

    o : Given
    o = (outcome x.state (Arrive part 0)).given

    next : Stand
    next = record { answer = o.answer; units = x.units + 1; state = after x.state (Arrive part 0) }

    whole : T (bytes_only part)
    whole = is_T _ (all_take _ buffer_size s (of_T _ h))

    shorter : accepted o.answer ≡ true → length (drop o.used s) < calls
    shorter y =
        let some : 20 ≤ o.used = used_some x.state part 0 y in
        let fits : o.used ≤ length part = used_fits x.state part 0 in
        let few : length part ≤ length s = rw (length-take buffer_size s) (omega arith) in
        rw (length-drop o.used s) (omega arith)

    go : (b : Bool) → accepted o.answer ≡ b → (accepted o.answer ≡ true → T (one_of (follow calls (drop o.used s) next).answer last))
        → T (one_of (cond b (follow calls (drop o.used s) next) (record { answer = o.answer; units = x.units; state = after x.state (Arrive part 0) })).answer last)
    go true y k = k y
    go false y k = stops x.state es st part whole y

-- from the connect on
pub program_ends : C.ProgramEnds
unfolding run after outcome handed new_given listed_limit first all hands_bytes tests line_tests table_tests arrives lacks_need is_too_long is_more on_message act taken news time_of
program_ends s h =
    ends (length s + 1) s (record { answer = 0; units = 0; state = connection }) (Connect Fresh 0 ∷ []) (omega arith) h
    (record { is = refl; bytes = tt; heard = refl })
