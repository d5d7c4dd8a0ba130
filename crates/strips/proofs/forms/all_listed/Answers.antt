use Rattle.std.proofs.Common.{◌∙◌, ◌+◌, rules, tests, arith}
use Rattle.std.proofs.lemmas.Iterator.{YieldsList-from_range, serves_from_Range}
use Rattle.std.proofs.lemmas.Iterator.Search.{all_from_yields_List}
use Rattle.strips.specs.Forms.{listed_field}
use Rattle.strips.specs.Code.Shapes.{field_of}
use Rattle.strips.proofs.Lists.{span_few, span_inside, span_listed}
use Rattle.strips.proofs.forms.all_listed.Goals as goal

pub all-requires-clause-callable : goal.all-requires-clause-callable
all-requires-clause-callable c = serves_from_Range (λ x q k. search (rules, tests)) (λ x low high. search (rules, span_few, span_inside))

pub returns : goal.returns
returns c =
    let n = c.args.shape.count in
    let f = c.args.shape.first in
    all_from_yields_List (λ k. listed_field c.args.m.now (field_of k)) _ _ _ c.all.ensures.ran
    (YieldsList-from_range {s = record { start = f; end = f + n }} f (f + n) n (λ _. record { start = f; end = f + n }) (omega arith)) (λ x b q k. search (rules, tests))
    ∙ span_listed c.args.m.now f n
