use Rattle.ladder.proofs.Fits.{applying}
use Rattle.ladder.proofs.sides.apply.Goals as goal

pub count_after-count-requires : goal.count_after-count-requires
count_after-count-requires c = search applying

pub rows_after-rows-requires : goal.rows_after-rows-requires
rows_after-rows-requires c = search applying

pub returns : goal.returns
returns c = search applying
