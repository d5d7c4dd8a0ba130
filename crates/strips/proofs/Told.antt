-- What reading a strip gives says all that the code gives: two results with one answer and the same values are one. Assumes nothing.
use mathlib.Core.Path.{◌≡◌, sym, ap, ◌∙◌}
use Rattle.std.specs.Prelude.{Result, Ok, Err}
use Rattle.ground.proofs.Numbered.{refusal_of, back, no_zero}
use Rattle.ground.specs.declared.Refusal.{Refusal}
use Rattle.strips.specs.Reading.{StripRead, strip_read}
use Rattle.strips.specs.declared.Shown.{Shown}

answer_at : (r r' : Result Shown Refusal) → strip_read r ≡ strip_read r' → (strip_read r).answer ≡ (strip_read r').answer
answer_at r r' e = ap (λ (x : StripRead). x.answer) e

pub strip_read_one : (r r' : Result Shown Refusal) → strip_read r ≡ strip_read r' → r ≡ r'
strip_read_one (Ok s) (Ok s') e = λ i.
    Ok (record {
      flags = (e i).flags;
      nominal = (e i).nominal;
      iep = (e i).iep;
      iev = (e i).iev;
      reference = (e i).reference;
      lower = (e i).lower;
      upper = (e i).upper;
      direction = (e i).direction;
      imbalance = (e i).imbalance;
      closing = (e i).closing;
    })
strip_read_one (Ok s) (Err x) e = absurd (no_zero x (answer_at (Ok s) (Err x) e))
strip_read_one (Err x) (Ok s) e = absurd (no_zero x (sym (answer_at (Err x) (Ok s) e)))
strip_read_one (Err x) (Err y) e = ap Err (sym (back x) ∙ ap refusal_of (answer_at (Err x) (Err y) e) ∙ back y)
