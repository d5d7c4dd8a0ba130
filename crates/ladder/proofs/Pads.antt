-- A side's ten rows are its rows and zero rows behind them: what is done to the one is what is done to the other. Assumes nothing.
use Prim.Native.Nat.{ℕ, ◌+◌, ◌-◌, ◌≤◌, ◌<◌}
use mathlib.Core.Path.{◌≡◌, refl, ap, sym, ◌∙◌}
use mathlib.Core.List.{List, [], ◌∷◌, ◌++◌}
use native.Mathlib.Omega.{arith}
use lib.ListN.{length, take, get_or, set, length-append, get_or-replicate}
use lib.Seq.{take-take, take-set-lt, set-append_left, take-suc, get_or-append-add, length-take-le, get_or-take, take-append_seam}
use Rattle.ladder.specs.Sides.{no_row}
use Rattle.ladder.specs.Words.{no_rows, pad}
use Rattle.ladder.specs.Code.Arrays.{Side, live, Padded}
use Rattle.ladder.specs.declared.Row.{Row}
use Rattle.ladder.proofs.Shift.{ins, del, take_ins, take_over, del_take, ins_append, del_append, length_del}
use Rattle.ladder.specs.Message.{depth}

ten : length no_rows ≡ depth
unfolding no_rows
ten = refl

zero_at : (i : ℕ) → i < depth → get_or no_rows i no_row ≡ no_row
unfolding no_rows
zero_at i h = get_or-replicate depth i no_row no_row h

pub length_pad : (l : List Row) → length (pad l) ≡ depth
length_pad l = length-take-le depth (l ++ no_rows) (simp length-append (omega (arith, ten)))

-- behind the rows stand zero rows
pub pad_behind : (l : List Row) (j : ℕ) → length l ≤ j → j < depth → get_or (pad l) j no_row ≡ no_row
pad_behind l j h t =
    let e : j ≡ length l + (j - length l) = omega arith in
    get_or-take depth (l ++ no_rows) j no_row t
    ∙ ap (λ (i : ℕ). get_or (l ++ no_rows) i no_row) e
    ∙ get_or-append-add l no_rows (j - length l) no_row
    ∙ zero_at (j - length l) (omega arith)

pub pad_new : (k : ℕ) (r : Row) (l : List Row) → k ≤ length l → take depth (ins k r (pad l)) ≡ pad (take depth (ins k r l))
pad_new k r l h = take_ins no_row depth k r (l ++ no_rows) ∙ ap (take depth) (ins_append no_row k r l no_rows h) ∙ sym (take_over no_row depth (ins k r l) no_rows)

pub pad_change : (k : ℕ) (r : Row) (l : List Row) → k < length l → k < depth → set (pad l) k r ≡ pad (set l k r)
pad_change k r l h t = sym (take-set-lt depth (l ++ no_rows) k r t) ∙ ap (take depth) (set-append_left l no_rows k r h)

-- behind at most nine rows the tenth is a zero row
tenth : (y : List Row) → length y ≤ 9 → take 9 (y ++ no_rows) ++ (no_row ∷ []) ≡ pad y
tenth y h =
    let long : 9 < length (y ++ no_rows) = simp length-append (omega (arith, ten)) in
    let at : get_or (y ++ no_rows) 9 no_row ≡ no_row = sym (get_or-take depth (y ++ no_rows) 9 no_row (omega arith)) ∙ pad_behind y 9 h (omega arith) in
    sym (take-suc (y ++ no_rows) 9 no_row long ∙ ap (λ (r : Row). take 9 (y ++ no_rows) ++ (r ∷ [])) at)

pub pad_delete : (k : ℕ) (l : List Row) → k < length l → length l ≤ depth → del k (pad l) ++ (no_row ∷ []) ≡ pad (del k l)
pad_delete k l h t =
    ap (λ (x : List Row). x ++ (no_row ∷ [])) (del_take no_row 9 k (l ++ no_rows) (omega arith) ∙ ap (take 9) (del_append no_row k l no_rows h))
    ∙ tenth (del k l) (omega (arith, length_del no_row l k h))

module _ (s : Side) (p : Padded s) where
  pub padded_ten : length s.rows ≡ depth
  padded_ten = ap length p.zeros ∙ length_pad (live s)

  pub live_n : length (live s) ≡ s.n
  live_n = length-take-le s.n s.rows (omega (arith, padded_ten, p.few))

  pub live_at : (k : ℕ) → k < s.n → get_or (live s) k no_row ≡ get_or s.rows k no_row
  live_at k h = get_or-take s.n s.rows k no_row h

  pub behind : (j : ℕ) → s.n ≤ j → j < depth → get_or s.rows j no_row ≡ no_row
  behind j h t = ap (λ (x : List Row). get_or x j no_row) p.zeros ∙ pad_behind (live s) j (omega (arith, live_n)) t

-- at most ten rows and zero rows behind them have those rows, and are padded
pub live_of : (l : List Row) → length l ≤ depth → take (length l) (pad l) ≡ l
live_of l h = take-take (length l) depth (l ++ no_rows) h ∙ take-append_seam l no_rows

pub padded_of : (l : List Row) → length l ≤ depth → Padded (record { n = length l; rows = pad l })
padded_of l h = record { few = h; zeros = ap pad (sym (live_of l h)) }
