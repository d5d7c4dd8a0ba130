use Rattle.std.proofs.Common.{ap, not, refl, rules}
use Rattle.std.proofs.lemmas.List.Recursion.{or_is}
use Rattle.ground.specs.Choice.{any}
use Rattle.password.specs.Rule.{is_of, lacks}
use Rattle.password.proofs.Class.is_missing_in.Goals as goal

pub returns : goal.returns
unfolding any lacks
returns c = ap not (or_is (any (is_of c.args.self)) (is_of c.args.self) refl (λ _ _. refl) c.args.new.now 0 _ (search rules) (search rules))
