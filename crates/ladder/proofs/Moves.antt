-- Ten rows after an entry, each chosen by its place (new_rows, delete_rows of specs/Sides, ten_after of specs/Arrays). Assumes nothing.
use Prim.Native.Nat.{ℕ, zero, suc, ◌+◌, ◌-◌, ◌<◌}
use mathlib.Core.Path.{◌≡◌, sym, ◌∙◌}
use mathlib.Core.Bool.{cond}
use mathlib.Core.List.{List, [], ◌∷◌, ◌++◌}
use native.Mathlib.Decide.{dec_lt}
use native.Mathlib.Numerals.{add-one}
use native.Mathlib.Omega.{arith}
use lib.Dec.{ltb, leb, eqb}
use lib.ListN.{length, take, get_or, set, length-append, get_or-append}
use lib.Seq.{get_or-take, get_or_at, get_or-set_same, get_or-set_other, length-take-le}
use borrow.Author.Tests.{lt-ltb, le-ltb, le-leb, lt-leb, eq-eqb, ne_eqb}
use Rattle.ladder.specs.Sides.{no_row, new_rows, delete_rows}
use Rattle.ladder.specs.declared.Row.{Row}
use Rattle.ladder.proofs.Shift.{ins, del, length_ins, length_del, get_d_ins, get_d_before, get_d_after, get_d_del}
use Rattle.ladder.specs.Message.{depth}

module _ (rows : List Row) (ten : length rows ≡ depth) (at : ℕ) where
  -- ten rows with one put in, and row i of them
  pub new_ten : (row : Row) → at < depth → length (new_rows (at + 1) row rows) ≡ depth
  unfolding new_rows
  new_ten row h =
      let k : (at + 1) - 1 ≡ at = omega arith in
      rw k (length-take-le depth (ins at row rows) (omega (arith, length_ins no_row rows at row (omega arith))))

  pub new_at : (row : Row) (i : ℕ) → at < depth → i < depth → cond (ltb at i) (get_or rows (i - 1) no_row) (cond (eqb i at) row (get_or rows i no_row)) ≡ get_or (new_rows (at + 1) row rows) i no_row
  unfolding new_rows
  new_at row i h t =
      let k : (at + 1) - 1 ≡ at = omega arith in
      rw k (go i (dec_lt at i) (dec_lt i at) ∙ sym (get_or-take depth (ins at row rows) i no_row t))
    where
      go : (i : ℕ) → Dec (at < i) → Dec (i < at) → cond (ltb at i) (get_or rows (i - 1) no_row) (cond (eqb i at) row (get_or rows i no_row)) ≡ get_or (ins at row rows) i no_row
      go zero (yes a) b = absurd (omega arith)
      go (suc j) (yes a) b =
          let e : suc j - 1 ≡ j = omega arith in
          rw (lt-ltb at (suc j) a, e) (sym (get_d_after no_row at j row rows (omega arith) (omega arith)))
      go i (no a) (yes b) = rw (le-ltb at i (omega arith), ne_eqb i at (λ e. omega arith)) (sym (get_d_before no_row rows at i row b (omega arith)))
      go i (no a) (no b) =
          let e : i ≡ at = omega arith in
          rw (le-ltb at i (omega arith), eq-eqb i at e, e) (sym (get_d_ins no_row rows at row (omega arith)))

  -- row i of ten rows with one replaced
  pub set_one : (row : Row) (i : ℕ) → i < depth → cond (eqb i at) row (get_or rows i no_row) ≡ get_or (set rows at row) i no_row
  set_one row i t = go (dec_lt i at) (dec_lt at i)
    where
      go : Dec (i < at) → Dec (at < i) → cond (eqb i at) row (get_or rows i no_row) ≡ get_or (set rows at row) i no_row
      go (yes a) b = rw (ne_eqb i at (λ e. omega arith)) (sym (get_or-set_other rows at i row no_row (λ e. omega arith)))
      go (no a) (yes b) = rw (ne_eqb i at (λ e. omega arith)) (sym (get_or-set_other rows at i row no_row (λ e. omega arith)))
      go (no a) (no b) =
          let e : i ≡ at = omega arith in
          rw (eq-eqb i at e, e) (sym (get_or-set_same rows at row no_row (omega arith)))

  -- ten rows with one taken out and a zero row behind, and row i of them
  short : at < depth → length (del at rows) ≡ 9
  short h = omega (arith, length_del no_row rows at (omega arith))

  pub gone_ten : at < depth → length (delete_rows (at + 1) rows ++ (no_row ∷ [])) ≡ depth
  unfolding delete_rows
  gone_ten h =
      let k : (at + 1) - 1 ≡ at = omega arith in
      rw (k, add-one at, length-append) (omega (arith, short h))

  gone_front : (i : ℕ) → at < depth → i < 9 → cond (leb at i) (get_or rows (i + 1) no_row) (get_or rows i no_row) ≡ get_or (delete_rows (at + 1) rows ++ (no_row ∷ [])) i no_row
  unfolding delete_rows
  gone_front i h t =
      let k : (at + 1) - 1 ≡ at = omega arith in
      rw (k, add-one at, add-one i) (go (dec_lt i at) ∙ sym (get_or-append (del at rows) (no_row ∷ []) no_row i (omega (arith, short h))))
    where
      go : Dec (i < at) → cond (leb at i) (get_or rows (suc i) no_row) (get_or rows i no_row) ≡ get_or (del at rows) i no_row
      go (yes a) =
          rw (lt-leb at i a)
          (sym (get_or-append (take at rows) _ no_row i (omega (arith, length-take-le at rows (omega arith))) ∙ get_or-take at rows i no_row a))
      go (no a) = rw (le-leb at i (omega arith)) (sym (get_d_del no_row rows at i (omega arith) (omega arith)))

  gone_last : at < depth → get_or (delete_rows (at + 1) rows ++ (no_row ∷ [])) 9 no_row ≡ no_row
  unfolding delete_rows
  gone_last h =
      let k : (at + 1) - 1 ≡ at = omega arith in
      rw (k, add-one at) (get_or_at (del at rows) no_row [] no_row 9 (short h))

  pub gone_at : (i : ℕ) → at < depth → i < depth → cond (leb at i) (cond (ltb i 9) (get_or rows (i + 1) no_row) no_row) (get_or rows i no_row) ≡ get_or (delete_rows (at + 1) rows ++ (no_row ∷ [])) i no_row
  gone_at i h t = go (dec_lt i 9)
    where
      go : Dec (i < 9) → cond (leb at i) (cond (ltb i 9) (get_or rows (i + 1) no_row) no_row) (get_or rows i no_row) ≡ get_or (delete_rows (at + 1) rows ++ (no_row ∷ [])) i no_row
      go (yes d) = rw (lt-ltb i 9 d) (gone_front i h d)
      go (no d) =
          let e : i ≡ 9 = omega arith in
          rw (e, le-leb at 9 (omega arith)) (sym (gone_last h))
