use Rattle.lines.proofs.Courses.{courses}
use Rattle.lines.proofs.Line.scrap.Goals as goal

pub loop-preserved : goal.loop-preserved
loop-preserved c = search courses

pub returns-then-not-goes_on : goal.returns-then-not-goes_on
returns-then-not-goes_on c = search courses
