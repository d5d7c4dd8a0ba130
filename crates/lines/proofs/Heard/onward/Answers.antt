use Rattle.feed.specs.Steps.{lent}
use borrow.Author.Rules.{rules}
use Rattle.lines.proofs.Courses.{courses, dropped_adds}
use Rattle.lines.proofs.Heard.onward.Goals as goal

pub overflow_add-result : goal.overflow_add-result
overflow_add-result c = search courses

pub overflow_add-result-2 : goal.overflow_add-result-2
overflow_add-result-2 c = search courses

pub overflow_add-result-3 : goal.overflow_add-result-3
overflow_add-result-3 c =
    dropped_adds c.args.self (lent c.args.books.now c.args.strips.now) _ c.args.hold.now _ c.args.scrap.now _ c.once-one.result
    c.once-one.ensures c.requires.0 c.requires.2 (search rules) (search rules)
