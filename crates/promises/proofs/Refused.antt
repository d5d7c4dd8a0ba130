-- First laws of a step: one outcome, an answer of document 01, and what an answer other than 0, 1 and 2 leaves. Assumes nothing.
use Prim.Native.Nat.{ℕ}
use mathlib.Core.Path.{◌≡◌, refl}
use mathlib.Core.Bool.{Bool, false, true≢false}
use mathlib.Core.List.{List, [], ◌∷◌}
use lib.Dec.{T, ltb}
use Rattle.ground.specs.Choice.{one_of, first, all}
use Rattle.wire.specs.Units.{unit_of}
use Rattle.wire.specs.declared.Unit.{Unit}
use Rattle.wire.specs.declared.Unit.TheVariants as unit
use Rattle.ground.proofs.Choices.{first_may, each_has}
use Rattle.feed.specs.Feeds.{deaf}
use Rattle.feed.specs.Events.{State, Event, Connect, Arrive, Cut, Overrun, time_of, News, news, cut_from, on_message}
use Rattle.feed.specs.Answers.{number, arrives, lacks_need, is_more, is_too_long, line_tests, table_tests, tests, answer_to, reply}
use Rattle.feed.specs.Steps.{act, dropped_on, accepted, used_of, handed, outcome}
use Rattle.feed.specs.Answers.{Answer}
use Rattle.feed.specs.Answers.{Keep, Lose, Spoil, Skip, Take}
use Rattle.promises.specs.Refusals.{answers_to, keeping, losing, spoiling, feed_refused, refusal}

among : Event → Answer → Bool
among e a = one_of (number a) (answers_to e)

arrival_listed : (s : State) (bytes : List ℕ) (time : ℕ) (u : Unit)
    → T (one_of (number (answer_to s.feed s.tables time (cut_from bytes u))) (answers_to (Arrive bytes time)))
unfolding among answers_to one_of number tests line_tests table_tests all arrives lacks_need is_too_long is_more on_message cut_from
arrival_listed s bytes time unit.More = first_may (among (Arrive bytes time)) (tests s.feed s.tables time News.More) (Take 0) tt tt
arrival_listed s bytes time unit.Heartbeat = first_may (among (Arrive bytes time)) (tests s.feed s.tables time News.Heartbeat) (Take 0) tt tt
arrival_listed s bytes time (unit.Message seq internal size) =
    first_may (among (Arrive bytes time)) (tests s.feed s.tables time (cut_from bytes (unit.Message seq internal size))) (Take 0) tt tt

-- the answer is one that document 01 has for such a call
pub answer_listed : (s : State) (e : Event) → T (one_of (outcome s e).given.answer (answers_to e))
unfolding outcome handed among answers_to one_of number tests line_tests table_tests first all arrives lacks_need is_too_long is_more on_message news time_of
answer_listed s (Connect link time) = first_may (among (Connect link time)) (tests s.feed s.tables time (News.Linked link)) (Take 0) tt tt
answer_listed s (Arrive bytes time) = arrival_listed s bytes time (unit_of bytes)
answer_listed s (Cut seq internal m time) =
    first_may (among (Cut seq internal m time)) (tests s.feed s.tables time (News.Message seq internal m)) (Take 0) tt tt
answer_listed s (Overrun time) =
    first_may (among (Overrun time)) ((ltb time s.feed.heard, Keep 10) ∷ (deaf s.feed.phase, Keep 11) ∷ []) (Lose 22) tt tt

-- which numbers stand beside which kind of answer
unfoldable pub proper : Answer → Bool
proper (Keep n) = one_of n keeping
proper (Lose n) = one_of n losing
proper (Spoil n) = one_of n spoiling
proper (Skip n) = one_of n (1 ∷ [])
proper (Take n) = one_of n (2 ∷ 0 ∷ [])

pub reply_proper : (s : State) (e : Event) → T (proper (reply s e))
unfolding proper one_of tests line_tests table_tests all
reply_proper s e = first_may proper (tests s.feed s.tables (time_of e) (news e)) (Take 0) tt tt

-- what is to be shown of an answer made of a number
Refuses : State → Event → (ℕ → Answer) → ℕ → Type 0
Refuses s e made n = accepted n ≡ false → handed (made n) s e ≡ refusal n s

refuses : (s : State) (e : Event) (a : Answer) → T (proper a) → accepted (number a) ≡ false → handed a s e ≡ refusal (number a) s
unfolding proper handed Refuses number act dropped_on used_of feed_refused one_of
refuses s e (Keep n) p = each_has (Refuses s e Keep) keeping (λ h. refl, (λ h. refl, (λ h. refl, (λ h. refl, tt)))) n p
refuses s e (Lose n) p = each_has (Refuses s e Lose) losing (λ h. refl, (λ h. refl, (λ h. refl, (λ h. refl, tt)))) n p
refuses s e (Spoil n) p = each_has (Refuses s e Spoil) spoiling (λ h. refl, (λ h. refl, (λ h. refl, (λ h. refl, tt)))) n p
refuses s e (Skip n) p = each_has (Refuses s e Skip) (1 ∷ []) (λ h. absurd (true≢false h), tt) n p
refuses s e (Take n) p = each_has (Refuses s e Take) (2 ∷ 0 ∷ []) (λ h. absurd (true≢false h), (λ h. absurd (true≢false h), tt)) n p

-- an answer other than 0, 1 and 2 uses no byte, leaves every word, and leaves the feed unchanged, Lost, or Lost and not whole, as its row says
pub refused : (s : State) (e : Event) → accepted (outcome s e).given.answer ≡ false → outcome s e ≡ refusal (outcome s e).given.answer s
unfolding outcome handed
refused s e h = refuses s e (reply s e) (reply_proper s e) h
