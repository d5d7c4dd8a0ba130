use borrow.Author.Rules.{rules}
use Rattle.wire.specs.Units.{unit_of}
use Rattle.wire.proofs.Fields.{field_drop}
use Rattle.wire.proofs.unit_in.Goals as goal

pub returns-then-s-size : goal.returns-then-s-size
unfolding unit_of
returns-then-s-size c = rw (field_drop 0 2 20 c.args.s.now) (search rules)

pub returns : goal.returns
unfolding unit_of
returns c = rw (field_drop 0 2 20 c.args.s.now) (search rules)
