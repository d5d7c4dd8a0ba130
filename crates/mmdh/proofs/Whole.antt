-- The whole program: what it writes is what Program prints of the bytes that came. Assumes nothing.
use mathlib.Core.Path.{◌≡◌, refl, ap, sym, ◌∙◌}
use mathlib.Core.Bool.{Bool, true, false}
use mathlib.Core.List.{List, [], append-nil}
use lib.ListN.{take, replicate}
use lib.Seq.{length-take-le}
use Prim.Native.Nat.{ℕ}
use Rattle.ground.specs.Choice as choice
use Rattle.feed.specs.Events.{State, time_of, news, on_message}
use Rattle.feed.specs.Answers.{arrives, lacks_need, is_more, is_too_long, line_tests, table_tests, tests}
use Rattle.feed.specs.Steps.{lent, state_of, act, taken}
use Rattle.feed.specs.Program.{Stand, connection, program_run, table_words, strip_words}
use Rattle.mmdh.specs.Text.{text}
use Rattle.mmdh.specs.Code.Rooms.{shown, Put, text_room}
use Rattle.mmdh.specs.Code.Runs.{stand_of, run_from, left, Started, Turned, Drained, Wrote}
use Rattle.mmdh.specs.declared.Run.{Run}
use Rattle.mmdh.specs.declared.output.Output.{Output}
use Rattle.mmdh.proofs.Follows.{refused_stays}

-- a connect leaves the zeroed tables as they are
connection_is : state_of connection.feed (lent (replicate table_words 0) (replicate strip_words 0)) ≡ connection
unfolding time_of news tests line_tests table_tests choice.first arrives lacks_need is_more is_too_long on_message act taken
connection_is = refl

abbrev begin : Stand
begin = record { answer = 0; units = 0; state = connection }

abbrev shows : Stand → List ℕ
shows z = text (shown z.state.tables.books z.answer z.units)

module _ (start last end : Run) (s : Started start) (t : Turned 9223372036854775808 start last) (d : Drained last end) where
  begins : stand_of start ≡ begin
  begins = rw (s.answer, s.units, s.feed, s.table, s.strips) (ap (λ (s : State). record { answer = 0; units = 0; state = s }) connection_is)

  ended : stand_of end ≡ program_run t.came
  ended = go last.over refl
    where
      go : (b : Bool) → last.over ≡ b → stand_of end ≡ program_run t.came
      go true e = d.same e ∙ sym (rw s.none at (t.ends e)) ∙ ap (run_from t.came) begins
      go false e =
          sym (d.ends e)
          ∙ ap (λ (l : List ℕ). run_from l (stand_of last)) (sym (append-nil (left last.held)))
          ∙ sym (rw s.none at (t.goes e []))
          ∙ ap (λ (l : List ℕ). run_from l (stand_of start)) (append-nil t.came)
          ∙ ap (run_from t.came) begins

  pub wrote : (before out : Output) → before.len ≡ 0 → Put (text (shown end.table end.answer end.units)) text_room before out → Wrote out.bytes out.len
  wrote before out e p =
      let holds : take out.len out.bytes ≡ text (shown end.table end.answer end.units) = p.holds ∙ rw e in
      record {
        came = t.came;
        counts = (out.inside, sym (length-take-le out.len out.bytes out.inside));
        prints = holds ∙ ap shows ended;
        still = λ k rest. holds ∙ ap shows (ended ∙ sym (refused_stays t.came begin rest k));
      }
