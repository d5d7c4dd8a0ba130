-- What each stage of an arrival and a connect ask: the rows of the table of answers, one after the other. Assumes nothing.
use Prim.Native.Nat.{ℕ, ◌+◌, ◌≤◌, ◌<◌, ◌^◌}
use mathlib.Core.Path.{◌≡◌, refl, ap, sym, subst, ◌∙◌}
use mathlib.Core.Bool.{Bool, true, false, cond, not, true≢false}
use mathlib.Core.List.{List}
use native.Mathlib.Omega.{arith}
use lib.Dec.{T, ltb, leb, eqb}
use lib.ListN.{length}
use mir.Syntax.{w64}
use mir.Val.{Fits}
use borrow.Author.Tests.{leb-true, eqb-true, not-false}
use borrow.Author.Rules.{rules}
use Rattle.std.specs.Prelude.{Result, Ok, Err}
use Rattle.std.specs.Option.{unwrap_or}
use Rattle.std.specs.Result.{result_err, result_and}
use Rattle.ground.specs.Refusals.{answer_of}
use Rattle.ladder.specs.Code.Arrays.{dropped_of}
use Rattle.ground.specs.Choice.{first}
use Rattle.ground.specs.declared.Refusal.{Refusal}
use Rattle.ground.specs.declared.Refusal.TheVariants as refusal
use Rattle.ground.specs.declared.Refusal.TheVariants.{More, Missing, Early, Deaf, Size, Gap, Phase, Unlisted, Misfit, Full, Unsound, Limit, Need}
use Rattle.wire.specs.Number.{field}
use Rattle.wire.specs.Units.{unit_of, message_in}
use Rattle.wire.specs.declared.Unit.{Unit}
use Rattle.wire.specs.declared.Unit.TheVariants as unit
use Rattle.ground.proofs.Bools.{both, cond_same}
use Rattle.ground.proofs.Choices.{none_upto, first_skips}
use Rattle.wire.proofs.Fronts.{unit_fits, message_length}
use Rattle.slots.specs.Layout.{Landed, landed, misfit, cleared_in, answer, turn}
use Rattle.books.specs.Table.{books, book_answer, books_after, rows_dropped}
use Rattle.strips.specs.Table as strip
use Rattle.strips.specs.Table.{strips, step_of, strips_after}
use Rattle.books.specs.Code.Turns.{book_turn}
use Rattle.feed.specs.Messages.{kind_of, on_market, market, tabled, wrong_size}
use Rattle.feed.specs.Feeds.{deaf, in_phase, heard_at, whole_is}
use Rattle.feed.specs.Events.{Tables, cleared_tables, Event, Arrive, Cut, Overrun, time_of, News, Message, cut_from, news, on_message, news_size, offered}
use Rattle.feed.specs.Answers.{reply, number, arrives, lacks_need, is_more, is_too_long, is_next, unsound_for, no_slot_for, misfits_for, passed, line_tests, table_tests, tests}
use Rattle.feed.specs.Code.Judging.{fault, refused, verdict, hearing}
use Rattle.feed.specs.Steps.{clears, tables_after, does, advanced, counted, taken, act, drops, news_drops, dropped_on, accepted, used_of, Outcome, lent, state_of, out_of, handed, outcome}
use Rattle.feed.specs.Code.Judging.{cleared_if, answered, used_is, dropped_is, on_tables}
use Rattle.feed.specs.declared.Phase.TheVariants.{Lost}
use Rattle.feed.specs.declared.Kind.{Kind}
use Rattle.feed.specs.declared.Kind.TheVariants.{Session, Market}
use Rattle.feed.specs.declared.Session as session
use Rattle.feed.specs.declared.Datum.{Datum}
use Rattle.feed.specs.declared.Datum.TheVariants.{Book, Strip, Other}
use Rattle.feed.specs.declared.Feed.{Feed}
use Rattle.feed.specs.Answers.{Answer, Keep, Lose, Spoil, Skip, Take}
use Rattle.feed.specs.declared.Given.{Given}
use Rattle.feed.proofs.Parts.{book_right, strip_right}
use Rattle.feed.proofs.Laws.{numbered, is_take, alone, left}

-- 18, 17, 16 or Taken, as a table answers
abbrev by_tests : Bool → Bool → Bool → ℕ
by_tests a b c = cond a 18 (cond b 17 (cond c 16 0))

by_table : (a b c : Bool) → cond a (Spoil 18) (cond b (Spoil 17) (cond c (Spoil 16) (Take 0))) ≡ cond (eqb (by_tests a b c) 0) (Take 0) (Spoil (by_tests a b c))
by_table true b c = refl
by_table false true c = refl
by_table false false true = refl
by_table false false false = refl

-- 0 is the only accepted one of these
zero_accepted : (a b c : Bool) → accepted (by_tests a b c) ≡ eqb (by_tests a b c) 0
zero_accepted true b c = refl
zero_accepted false true c = refl
zero_accepted false false true = refl
zero_accepted false false false = refl

-- one table written or not
books_if : (z : Bool) (u v t : List ℕ) → lent (cond z u v) t ≡ cond z (lent u t) (lent v t)
books_if true u v t = refl
books_if false u v t = refl

strips_if : (z : Bool) (b u v : List ℕ) → lent b (cond z u v) ≡ cond z (lent b u) (lent b v)
strips_if true b u v = refl
strips_if false b u v = refl

-- tables that are cleared where something holds
pub cleared_when : (c : Bool) (b t u v w z : List ℕ) → c ≡ true → u ≡ w → v ≡ z → lent w z ≡ cleared_tables (lent b t) → lent u v ≡ cleared_if c (lent b t)
cleared_when c b t u v w z e p q r = rw (e, p, q) r

pub cleared_not : (c : Bool) (b t u v : List ℕ) → c ≡ false → u ≡ b → v ≡ t → lent u v ≡ cleared_if c (lent b t)
cleared_not c b t u v e p q = rw (e, p, q)

-- a table of strips drops no row
pub no_rows : (t : Result (Prim.Unit {0}) Refusal) (r : Result ℕ Refusal) → r ≡ result_and t (Ok 0) → (answer_of r ≡ answer_of t) × (dropped_of r ≡ 0)
no_rows (Ok t) r e = rw e (refl, refl)
no_rows (Err x) r e = rw e (refl, refl)

pub cleared_both : (b t u v : List ℕ) → u ≡ cleared_in books b → v ≡ cleared_in strips t → lent u v ≡ cleared_tables (lent b t)
cleared_both b t u v e f = rw (e, f)

-- a message that is left to the tables
module _ (f : Feed) (b t m : List ℕ) (n q i : ℕ) (k : Kind) (a : k ≡ kind_of (field 2 2 m)) where
  abbrev x : Tables
  x = lent b t

  module _ (s : session.Session) (c : Bool) (y : Feed) (g : Given) (e : k ≡ Session s) (d : c ≡ clears s m f.fresh) where
    no_tests : first (table_tests x n (Message q i m)) (Take 0) ≡ Take 0
    unfolding first table_tests on_message unsound_for no_slot_for misfits_for passed on_market
    no_tests = rw (← a, e)

    pub session_met : (u v : List ℕ) → lent u v ≡ cleared_if c x
        → ((r j : ℕ) (x : Tables) → state_of y (cleared_if (clears s m f.fresh) x) ≡ taken n (Message r j m) (state_of f x)) → g ≡ answered 0 y
        → out_of g (lent u v) ≡ on_tables (state_of f (lent b t)) (Cut q i m n)
    unfolding on_tables handed time_of news number act dropped_on news_drops drops used_of offered
    session_met u v o w l = rw (no_tests, ← w q i x, ← d, l, o, ← a, e)

  module _ (d : Datum) (g : Given) (e : k ≡ Market d) where
    -- one that goes to a table, by what that table answers
    module _ (o : tabled d ≡ true) where
      abbrev theirs : ℕ
      theirs = by_tests (unsound_for (Market d) m x) (no_slot_for (Market d) m x) (misfits_for (Market d) n m x)

      tests_are : first (table_tests x n (Message q i m)) (Take 0) ≡ cond (eqb theirs 0) (Take 0) (Spoil theirs)
      unfolding first table_tests on_message passed on_market
      tests_are = rw (← a, e, o) (by_table (unsound_for (Market d) m x) (no_slot_for (Market d) m x) (misfits_for (Market d) n m x))

      -- by whether it answers 0
      met_by : (z : Bool) → eqb theirs 0 ≡ z
          → out_of (dropped_is (cond z (drops (Market d) n m x) 0) (answered theirs (cond z (advanced n (counted (Market Other) i f)) (in_phase Lost (whole_is false f))))) (cond z (tables_after d n m x) x)
          ≡ handed (cond z (Take 0) (Spoil theirs)) (state_of f x) (Cut q i m n)
      unfolding handed time_of news number act dropped_on news_drops used_of offered taken does counted market on_market
      met_by true z = rw (← a, e, eqb-true theirs 0 z)
      met_by false z = rw (cond_same {A = ℕ} (leb theirs 2) 0)

      met : (r j : ℕ) (u : Tables) → r ≡ theirs → u ≡ cond (eqb theirs 0) (tables_after d n m x) x → j ≡ cond (eqb theirs 0) (drops (Market d) n m x) 0
          → g ≡ dropped_is j (answered r (cond (accepted r) (advanced n (counted (Market Other) i f)) (in_phase Lost (whole_is false f))))
          → out_of g u ≡ on_tables (state_of f x) (Cut q i m n)
      unfolding on_tables time_of news
      met r j u p v w l =
          rw (l, p, v, w, zero_accepted (unsound_for (Market d) m x) (no_slot_for (Market d) m x) (misfits_for (Market d) n m x), tests_are) (met_by (eqb theirs 0) refl)

    pub book_met : (r j : ℕ) (u : List ℕ) → d ≡ Book → landed r u ≡ book_turn n m b → j ≡ rows_dropped n m b
        → g ≡ dropped_is j (answered r (cond (accepted r) (advanced n (counted (Market Other) i f)) (in_phase Lost (whole_is false f))))
        → out_of g (lent u t) ≡ on_tables (state_of f (lent b t)) (Cut q i m n)
    unfolding tabled unsound_for no_slot_for misfits_for tables_after drops book_answer rows_dropped first
    book_met r j u h w v l =
        met (rw h) r j (lent u t) (ap (λ (y : Landed). y.answer) w ∙ rw h)
        (ap (λ (y : Landed). lent y.words t) w ∙ rw h (books_if (eqb (book_answer n m b) 0) (books_after n m b) b t)) (v ∙ rw h) l

    pub strip_met : (r j a : ℕ) (u : List ℕ) → d ≡ Strip → (r ≡ a) × (j ≡ 0) → landed a u ≡ turn strips (step_of m) t
        → g ≡ dropped_is j (answered r (cond (accepted r) (advanced n (counted (Market Other) i f)) (in_phase Lost (whole_is false f))))
        → out_of g (lent b u) ≡ on_tables (state_of f (lent b t)) (Cut q i m n)
    unfolding tabled unsound_for no_slot_for misfits_for tables_after drops answer misfit strip.unsound strip.no_slot strips_after first
    strip_met r j a u h z w l =
        met (rw h) r j (lent b u) (z.0 ∙ ap (λ (y : Landed). y.answer) w ∙ rw h)
        (ap (λ (y : Landed). lent b y.words) w ∙ rw h (strips_if (eqb (answer strips (step_of m) t) 0) b (strips_after m t) t))
        (z.1 ∙ rw h (sym (cond_same (eqb (answer strips (step_of m) t) 0) 0))) l

    pub other_met : (y : Feed) → d ≡ Other → y ≡ advanced n (counted (Market Other) i f) → g ≡ answered 2 y
        → out_of g (lent b t) ≡ on_tables (state_of f (lent b t)) (Cut q i m n)
    unfolding on_tables handed first table_tests time_of news on_message unsound_for no_slot_for misfits_for passed on_market tabled number act dropped_on news_drops drops used_of offered taken does tables_after counted market
    other_met y h p l = rw (← a, e, h, ← a, e, h, l, p)

-- a refusal leaves nothing to the tables
fault_refuses : (r : Refusal) → T (not (is_take (fault r)))
unfolding is_take
fault_refuses More = tt
fault_refuses Missing = tt
fault_refuses Early = tt
fault_refuses Deaf = tt
fault_refuses Size = tt
fault_refuses Gap = tt
fault_refuses Phase = tt
fault_refuses Unlisted = tt
fault_refuses Misfit = tt
fault_refuses Full = tt
fault_refuses Unsound = tt
fault_refuses Limit = tt
fault_refuses Need = tt
fault_refuses refusal.TooLong = tt

-- a refusal comes to the same whatever it refuses
handed_refused : (r : Refusal) (f : Feed) (x : Tables) (e : Event) → out_of (refused (fault r) f) x ≡ handed (fault r) (state_of f x) e
unfolding handed act dropped_on used_of number
handed_refused More f x e = refl
handed_refused Missing f x e = refl
handed_refused Early f x e = refl
handed_refused Deaf f x e = refl
handed_refused Size f x e = refl
handed_refused Gap f x e = refl
handed_refused Phase f x e = refl
handed_refused Unlisted f x e = refl
handed_refused Misfit f x e = refl
handed_refused Full f x e = refl
handed_refused Unsound f x e = refl
handed_refused Limit f x e = refl
handed_refused Need f x e = refl
handed_refused refusal.TooLong f x e = refl

-- 10 and 11 of what arrives
abbrev by_two : Bool → Bool → Result (Prim.Unit {0}) Refusal
by_two a b = cond a (Err Early) (cond b (Err Deaf) (Ok tt))

heard_fault : Result (Prim.Unit {0}) Refusal → Answer
heard_fault (Ok t) = Take 0
heard_fault (Err r) = fault r

module _ (f : Feed) (n : ℕ) (x : News) (here : arrives x ≡ true) where
  deaf_to : (r : Refusal) → hearing f n ≡ Err r → fault r ≡ verdict f n x
  unfolding first line_tests heard_fault
  deaf_to r e = go (ltb n f.heard) (deaf f.phase) refl refl
    where
      go : (a b : Bool) → ltb n f.heard ≡ a → deaf f.phase ≡ b → fault r ≡ verdict f n x
      go true b p q = rw p (sym (ap heard_fault (rw p at e)))
      go false true p q = rw (p, here, q) (sym (ap heard_fault (rw (p, q) at e)))
      go false false p q = absurd (let z : ◌≡◌ {A = ℕ} 0 1 = cc in omega arith)

hears_both : (f : Feed) (n : ℕ) (t : Prim.Unit {0}) → hearing f n ≡ Ok t → (ltb n f.heard ≡ false) × (deaf f.phase ≡ false)
hears_both f n t e = go (ltb n f.heard) (deaf f.phase) e
  where
    well : Result (Prim.Unit {0}) Refusal → Bool
    well (Ok t) = true
    well (Err r) = false

    go : (a b : Bool) → by_two a b ≡ Ok t → (a ≡ false) × (b ≡ false)
    go true b h = absurd (true≢false (sym (ap well h)))
    go false true h = absurd (true≢false (sym (ap well h)))
    go false false h = (refl, refl)

-- an answer that only advances the number
is_skip : Answer → Bool
is_skip (Keep n) = false
is_skip (Lose n) = false
is_skip (Spoil n) = false
is_skip (Skip n) = true
is_skip (Take n) = false

-- what an answer tells of the rows that stand before it
module _ (f : Feed) (m : List ℕ) (n q i : ℕ) where
  next_is_lem : (g : Answer → Bool) → T (g (verdict f n (Message q i m))) → T (none_upto g (numbered 13) (line_tests f n (Message q i m))) → (q ≡ f.next) × (q ≤ 4294967295)
  unfolding line_tests number on_message is_next
  next_is_lem g h z =
      let p = both (eqb q f.next) (leb q 4294967295)
      (not-false (is_next f q) (first_skips g (numbered 13) (line_tests f n (Message q i m)) (Take 0) h z)) in
      (eqb-true q f.next p.0, leb-true q 4294967295 p.1)

  seen_next : (j : ℕ) → Skip j ≡ verdict f n (Message q i m) → (q ≡ f.next) × (q ≤ 4294967295)
  unfolding line_tests is_skip number
  seen_next j h = next_is_lem is_skip (rw (← h) tt) tt

  left_next : (j : ℕ) → Take j ≡ verdict f n (Message q i m) → (q ≡ f.next) × (q ≤ 4294967295)
  unfolding line_tests is_take number
  left_next j h = next_is_lem is_take (rw (← h) tt) tt

  pub seen_fits : (j : ℕ) → Skip j ≡ verdict f n (Message q i m) → f.next ≤ 4294967295
  seen_fits j h = rw (← (seen_next j h).0) (seen_next j h).1

  pub left_fits : (j : ℕ) → Take j ≡ verdict f n (Message q i m) → f.next ≤ 4294967295
  left_fits j h = rw (← (left_next j h).0) (left_next j h).1

  pub left_sized : (j : ℕ) → Take j ≡ verdict f n (Message q i m) → wrong_size m ≡ false
  unfolding line_tests is_take number on_message
  left_sized j h = first_skips is_take (numbered 12) (line_tests f n (Message q i m)) (Take 0) (rw (← h) tt) tt

  -- a message already cut, with any tables
  module _ (x : Tables) where
    pub cut_refused : (g : Given) (r : Refusal) → fault r ≡ verdict f n (Message q i m) → g ≡ refused (fault r) f
        → out_of g x ≡ outcome (state_of f x) (Cut q i m n)
    unfolding time_of news
    cut_refused g r h l = rw l (handed_refused r f x (Cut q i m n)) ∙ sym (alone f x (Cut q i m n) (fault r) h (fault_refuses r))

    pub cut_seen : (g : Given) (y : Feed) → Skip 1 ≡ verdict f n (Message q i m) → y ≡ advanced n f → g ≡ answered 1 y → out_of g x ≡ outcome (state_of f x) (Cut q i m n)
    unfolding handed time_of news number act dropped_on used_of offered is_take
    cut_seen g y h d l = rw (l, d, alone f x (Cut q i m n) (Skip 1) h tt)

    pub cut_met : (o : Outcome) → Take 0 ≡ verdict f n (Message q i m) → o ≡ on_tables (state_of f x) (Cut f.next i m n) → o ≡ outcome (state_of f x) (Cut q i m n)
    unfolding time_of news is_take
    cut_met o h l =
        subst (λ (r : ℕ). o ≡ on_tables (state_of f x) (Cut r i m n)) (sym (left_next 0 h).0) l
        ∙ sym (left f x (Cut q i m n) (Take 0) h tt)

-- an arrival of bytes
arrives_cut : (s : List ℕ) (u : Unit) → arrives (cut_from s u) ≡ true
unfolding arrives cut_from
arrives_cut s unit.More = refl
arrives_cut s unit.Heartbeat = refl
arrives_cut s (unit.Message q i k) = refl

-- an outcome with its bytes counted
abbrev counted_out : ℕ → Outcome → Outcome
counted_out k o = record { given = used_is (cond (accepted o.given.answer) k 0) o.given; tables = o.tables }

module _ (f : Feed) (x : Tables) (s : List ℕ) (n : ℕ) (u : Unit) (v : u ≡ unit_of s) where
  pub bytes_refused : (g : Given) (r : Refusal) → hearing f n ≡ Err r → g ≡ refused (fault r) f
      → out_of g x ≡ outcome (state_of f x) (Arrive s n)
  unfolding time_of news
  bytes_refused g r h l =
      let w : fault r ≡ verdict f n (cut_from s (unit_of s)) = deaf_to f n (cut_from s (unit_of s)) (arrives_cut s (unit_of s)) r h in
      rw l (handed_refused r f x (Arrive s n)) ∙ sym (alone f x (Arrive s n) (fault r) w (fault_refuses r))

  pub bytes_more : (g : Given) (h : Result (Prim.Unit {0}) Refusal) (r : Refusal) → h ≡ hearing f n → r ≡ unwrap_or (result_err h) More → u ≡ unit.More
      → g ≡ refused (fault r) f → out_of g x ≡ outcome (state_of f x) (Arrive s n)
  unfolding outcome first tests line_tests time_of news cut_from arrives lacks_need is_too_long is_more
  bytes_more g h r e d c l = rw l (handed_refused r f x (Arrive s n)) ∙ ap (λ (a : Answer). handed a (state_of f x) (Arrive s n)) by
    where
      go : (a b : Bool) → fault (unwrap_or (result_err (by_two a b)) More) ≡ cond a (Keep 10) (cond b (Keep 11) (Keep 3))
      go true b = refl
      go false true = refl
      go false false = refl

      by : fault r ≡ reply (state_of f x) (Arrive s n)
      by = rw (← v, c, d, e) (go (ltb n f.heard) (deaf f.phase))

  pub bytes_beat : (t : Prim.Unit {0}) (y : Feed) (g k : Given) → hearing f n ≡ Ok t → u ≡ unit.Heartbeat → y ≡ heard_at n f → g ≡ answered 0 y
      → k ≡ used_is (cond (accepted g.answer) 20 0) g → out_of k x ≡ outcome (state_of f x) (Arrive s n)
  unfolding outcome handed first tests line_tests table_tests time_of news cut_from on_message arrives lacks_need is_too_long is_more number act dropped_on news_drops taken used_of offered news_size
  bytes_beat t y g k h c a l w = let z = hears_both f n t h in rw (← v, c, z.0, z.1, w, l, a)

  pub bytes_message : (q i size used : ℕ) (g k : Given) (w : Tables) (p : List ℕ) → u ≡ unit.Message q i size → used ≡ 20 + size → p ≡ message_in s size
      → out_of g w ≡ outcome (state_of f x) (Cut q i p n) → k ≡ used_is (cond (accepted g.answer) used 0) g
      → out_of k w ≡ outcome (state_of f x) (Arrive s n)
  unfolding outcome handed time_of news cut_from used_of offered news_size
  bytes_message q i size used g k w p c y d l j =
      let z : length (message_in s size) ≡ size = message_length s q i size (sym v ∙ c) in
      rw (← v, c, z, j, y) (ap (counted_out (20 + size)) (rw d at l))

pub sum_fits : (u : Unit) (s : List ℕ) (q i k : ℕ) → u ≡ unit_of s → u ≡ unit.Message q i k → length s < 2 ^ 64 → Fits w64 (20 + k)
sum_fits u s q i k a b l = record { fits = omega (arith, unit_fits s q i k (sym a ∙ b)) }

-- what is longer than the holding buffer
pub overrun_is : (f : Feed) (n : ℕ) (z : Tables) (g : Given) (h : Result (Prim.Unit {0}) Refusal) (r : Refusal) → h ≡ hearing f n → r ≡ unwrap_or (result_err h) refusal.TooLong
    → g ≡ refused (fault r) f → out_of g z ≡ outcome (state_of f z) (Overrun n)
unfolding outcome first tests line_tests time_of news arrives lacks_need is_too_long is_more
overrun_is f n z g h r e d l = rw l (handed_refused r f z (Overrun n)) ∙ ap (λ (a : Answer). handed a (state_of f z) (Overrun n)) by
  where
    go : (a b : Bool) → fault (unwrap_or (result_err (by_two a b)) refusal.TooLong) ≡ cond a (Keep 10) (cond b (Keep 11) (Lose 22))
    go true b = refl
    go false true = refl
    go false false = refl

    by : fault r ≡ reply (state_of f z) (Overrun n)
    by = rw (d, e) (go (ltb n f.heard) (deaf f.phase))

pub ruleset rows = (
  rules,
  book_right,
  strip_right,
  cleared_both,
  cleared_when,
  cleared_not,
  no_rows,
  session_met,
  book_met,
  strip_met,
  other_met,
  seen_fits,
  left_fits,
  left_sized,
  cut_refused,
  cut_seen,
  cut_met,
  bytes_refused,
  bytes_more,
  bytes_beat,
  bytes_message,
  sum_fits,
  overrun_is,
)
