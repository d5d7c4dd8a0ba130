use Rattle.std.proofs.Common.{rules, tests, refl}
use Rattle.std.proofs.lemmas.Iterator.{YieldsList-from_range}
use Rattle.std.proofs.lemmas.Iterator.Search.{all_from_yields_List}
use Rattle.strips.specs.Words.{value_count, sound_value}
use Rattle.strips.specs.Code.Shapes.{field_of}
use Rattle.strips.proofs.Blocks.{flags_few, flags_high}
use Rattle.strips.proofs.Strip.is_sound.Goals as goal

pub returns-then-self-lt512 : goal.returns-then-self-lt512
returns-then-self-lt512 c =
    flags_few c.args.self _ c.if-self-lt512.true
    (all_from_yields_List {s = record { start = 0; end = value_count }} (λ k. sound_value (field_of k).sort k c.args.self) _ _ _ c.all.ensures.ran
    (YieldsList-from_range 0 value_count value_count refl refl) (λ x b q k. search (rules, tests)))

pub returns-else-self-lt512 : goal.returns-else-self-lt512
returns-else-self-lt512 c = flags_high c.args.self c.if-self-lt512.false
