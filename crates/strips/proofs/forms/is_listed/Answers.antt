use Rattle.strips.proofs.Lists.{spans, code_listed}
use Rattle.strips.proofs.forms.is_listed.Goals as goal

pub all_listed-requires : goal.all_listed-requires
all_listed-requires c = search spans

pub returns-then-is_code : goal.returns-then-is_code
returns-then-is_code c = search (spans, code_listed)
