-- The numbers of what the code keeps by name: a badge's reasons (specs/Reasons says what each is for). Assumes nothing.
use Rattle.std.specs.Prelude.{ℕ}
use Rattle.feed.specs.declared.Reason.{Reason}
use Rattle.feed.specs.declared.Reason.TheVariants.{Live, Unconnected, Key, Logon, Refresh, Silent, Early, Lost, Closed, Limit}

abbrev pub reason_no : Reason → ℕ
reason_no Live = 0
reason_no Unconnected = 1
reason_no Key = 2
reason_no Logon = 3
reason_no Refresh = 4
reason_no Silent = 5
reason_no Early = 6
reason_no Lost = 7
reason_no Closed = 8
reason_no Limit = 9
