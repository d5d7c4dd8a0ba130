-- What reading a row, or a side, gives says all that the code gives: two results with one answer and the same values are one. Assumes nothing.
use mathlib.Core.Path.{◌≡◌, sym, ap, ◌∙◌}
use Rattle.std.specs.Prelude.{Result, Ok, Err}
use Rattle.ground.specs.declared.Refusal.{Refusal}
use Rattle.ground.proofs.Numbered.{refusal_of, back, no_zero}
use Rattle.books.specs.Reading.{RowRead, SideRead}
use Rattle.books.specs.Code.Rows.{row_read, side_read}
use Rattle.books.specs.declared.Level.{Level}
use Rattle.books.specs.declared.Side.{Side}

row_answer : (r r' : Result Level Refusal) → row_read r ≡ row_read r' → (row_read r).answer ≡ (row_read r').answer
row_answer r r' e = ap (λ (x : RowRead). x.answer) e

pub row_read_one : (r r' : Result Level Refusal) → row_read r ≡ row_read r' → r ≡ r'
row_read_one (Ok l) (Ok l') e = λ i. Ok (record { price = (e i).price; quantity = (e i).quantity; orders = (e i).orders })
row_read_one (Ok l) (Err x) e = absurd (no_zero x (row_answer (Ok l) (Err x) e))
row_read_one (Err x) (Ok l) e = absurd (no_zero x (sym (row_answer (Err x) (Ok l) e)))
row_read_one (Err x) (Err y) e = ap Err (sym (back x) ∙ ap refusal_of (row_answer (Err x) (Err y) e) ∙ back y)

side_answer : (r r' : Result Side Refusal) → side_read r ≡ side_read r' → (side_read r).answer ≡ (side_read r').answer
side_answer r r' e = ap (λ (x : SideRead). x.answer) e

pub side_read_one : (r r' : Result Side Refusal) → side_read r ≡ side_read r' → r ≡ r'
side_read_one (Ok s) (Ok s') e = λ i. Ok (record { count = (e i).count; rows = (e i).rows })
side_read_one (Ok s) (Err x) e = absurd (no_zero x (side_answer (Ok s) (Err x) e))
side_read_one (Err x) (Ok s) e = absurd (no_zero x (sym (side_answer (Err x) (Ok s) e)))
side_read_one (Err x) (Err y) e = ap Err (sym (back x) ∙ ap refusal_of (side_answer (Err x) (Err y) e) ∙ back y)
