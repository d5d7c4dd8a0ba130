-- The parts in which the code judges and acts, lent no table and lent them. Assumes nothing.
use Rattle.std.specs.Prelude.{ℕ, Bool, false, cond, ltb, Option, Some, None, Result, Ok, Err}
use Rattle.ground.specs.Choice.{first}
use Rattle.ground.specs.declared.Refusal.{Refusal}
use Rattle.ground.specs.declared.Refusal.TheVariants as refusal
use Rattle.ground.specs.declared.Refusal.TheVariants.{More, Missing, Early, Deaf, Size, Gap, Phase, Misfit, Full, Unsound, Limit, Need, TooLong}
use Rattle.feed.specs.Messages.{Status, Opens, Refills, Stays, Closes, Unlisted}
use Rattle.feed.specs.Feeds.{deaf, in_phase, whole_is}
use Rattle.feed.specs.Events.{Tables, cleared_tables, State, Event, time_of, News, news}
use Rattle.feed.specs.Answers.{Answer, Keep, Lose, Spoil, Skip, Take, line_tests, table_tests}
use Rattle.feed.specs.Steps.{Outcome, handed}
use Rattle.feed.specs.declared.Phase.TheVariants.{Lost}
use Rattle.feed.specs.declared.Feed.{Feed}
use Rattle.feed.specs.declared.Given.{Given}
use Rattle.feed.specs.declared.Status as code
use Rattle.feed.specs.declared.Status.TheVariants as status
use Rattle.feed.specs.declared.Turn.{Turn}
use Rattle.feed.specs.declared.Turn.TheVariants.{Seen, Taken}

-- what the feed by itself makes of it: Take 0 where it leaves the answer to the tables
abbrev pub verdict : Feed → ℕ → News → Answer
verdict f time n = first (line_tests f time n) (Take 0)

-- an answer with no bytes used and no row dropped, and the feed after it
abbrev pub answered : ℕ → Feed → Given
answered n f = record { answer = n; used = 0; feed = f; dropped = 0 }

-- what refuses: the feed after it is unchanged, Lost, or Lost and not whole
abbrev pub refused : Answer → Feed → Given
refused (Keep n) f = answered n f
refused (Lose n) f = answered n (in_phase Lost f)
refused (Spoil n) f = answered n (in_phase Lost (whole_is false f))
refused (Skip n) f = answered n f
refused (Take n) f = answered n f

-- a refusal's answer, by the table of document 01 (4 is no answer to a call: a row that is not there)
abbrev pub fault : Refusal → Answer
fault More = Keep 3
fault Missing = Keep 4
fault Early = Keep 10
fault Deaf = Keep 11
fault Size = Lose 12
fault Gap = Lose 13
fault Phase = Lose 14
fault refusal.Unlisted = Spoil 15
fault Misfit = Spoil 16
fault Full = Spoil 17
fault Unsound = Spoil 18
fault Limit = Keep 19
fault Need = Keep 20
fault TooLong = Lose 22

-- the answer of a message that the feed by itself refuses or not
abbrev pub judged : Result Turn Refusal → Answer
judged (Ok Seen) = Skip 1
judged (Ok Taken) = Take 0
judged (Err e) = fault e

-- 10 and 11 of an arrival, where it gets no further
abbrev pub hearing : Feed → ℕ → Result (Unit {0}) Refusal
hearing f time = cond (ltb time f.heard) (Err Early) (cond (deaf f.phase) (Err Deaf) (Ok tt))

-- a status by what the code reads of it
abbrev pub read_as : Option code.Status → Status
read_as None = Unlisted
read_as (Some status.Opens) = Opens
read_as (Some status.Refills) = Refills
read_as (Some status.Stays) = Stays
read_as (Some status.Closes) = Closes

-- the tables as they are left, cleared or not
abbrev pub cleared_if : Bool → Tables → Tables
cleared_if b x = cond b (cleared_tables x) x

-- the same with other bytes used, and with other rows dropped
abbrev pub used_is : ℕ → Given → Given
used_is n g = record { answer = g.answer; used = n; feed = g.feed; dropped = g.dropped }

abbrev pub dropped_is : ℕ → Given → Given
dropped_is n g = record { answer = g.answer; used = g.used; feed = g.feed; dropped = n }

-- what a call comes to where the feed by itself leaves the answer to the tables
unfoldable pub on_tables : State → Event → Outcome
on_tables s e = handed (first (table_tests s.tables (time_of e) (news e)) (Take 0)) s e
