-- The tests of an entry, as the code makes them and as specs/Sides has them. Assumes nothing.
use Prim.Native.Nat.{ℕ, suc, ◌+◌, ◌-◌, ◌≤◌, ◌<◌}
use mathlib.Core.Path.{◌≡◌, refl, ap, sym, ◌∙◌}
use mathlib.Core.Bool.{Bool, true, false, cond, not, ◌&&◌, ◌||◌, or-true, false≢true}
use mathlib.Core.List.{List, [], ◌∷◌, ◌++◌}
use mathlib.Core.Option.{none, some}
use native.Mathlib.Decide.{dec_le, dec_lt}
use native.Mathlib.Omega.{arith}
use lib.Dec.{leb, ltb, eqb}
use lib.ListN.{length, take, drop, get_or, set, length-set, length-take}
use borrow.Author.Rules.{rules}
use borrow.Author.Tests.{lt-ltb, le-ltb, le-leb, lt-leb, eq-eqb, ne_eqb, leb-true, eqb-true, eqb-false}
use Rattle.ground.specs.Choice.{pick}
use Rattle.ground.proofs.Bools.{both}
use Rattle.ladder.specs.Message.{depth, listed_rank}
use Rattle.ladder.specs.Sides.{better, no_row, row_at, has, new_fits, new_rows, change_fits, change_rows, delete_fits, delete_rows, fits, rows_after, pushed_out, fell_from, was_dropped}
use Rattle.ladder.specs.Words.{pad}
use Rattle.ladder.specs.Code.Arrays.{Side, live, Padded, fits_at, way_of, ten_after, count_after, drops_tenth, applied_by, applied_to}
use Rattle.ladder.specs.declared.Way.{Way}
use Rattle.ladder.specs.declared.Row.{Row}
use Rattle.ladder.specs.declared.Entry.{Entry}
use Rattle.std.specs.Prelude.{is_some, unwrap_or}
use Rattle.std.specs.Bool.{then_some}
use Rattle.std.specs.declared.option.Option as std-option
use Rattle.slots.specs.Layout.{or_as_it_was}
use Rattle.ladder.proofs.Shift.{ins, del, length_ins, length_del, get_d_after}
use Rattle.ladder.proofs.Pads.{live_n, live_at, pad_new, pad_change, pad_delete}

-- the tests of specs/Sides on a side's rows are those on the numbers read from its ten
module _ (w : Way) (s : Side) (pad : Padded s) (p : ℕ) (rank : 1 ≤ p) (x : ℕ) where
  price_at : (k : ℕ) → k < s.n → (get_or (live s) k no_row).price ≡ (get_or s.rows k no_row).price
  price_at k h = ap (λ (r : Row). r.price) (live_at s pad k h)

  long : length (live s) ≡ s.n
  long = live_n s pad

  above_is : p ≤ s.n + 1 → (not (has (live s) (p - 1)) || better w (row_at (live s) (p - 1)).price x) ≡ (leb p 1 || better w (get_or s.rows (p - 2) no_row).price x)
  unfolding has
  above_is h = go (dec_le p 1)
    where
      go : Dec (p ≤ 1) → (not (leb 1 (p - 1) && leb (p - 1) (length (live s))) || better w (get_or (live s) (p - 1 - 1) no_row).price x) ≡ (leb p 1 || better w (get_or s.rows (p - 2) no_row).price x)
      go (yes a) = rw (lt-leb 1 (p - 1) (omega arith), le-leb p 1 a)
      go (no a) =
          let e : p - 1 - 1 ≡ p - 2 = omega arith in
          rw (le-leb 1 (p - 1) (omega arith), le-leb (p - 1) (length (live s)) (omega (arith, long)), lt-leb p 1 (omega arith), e, price_at (p - 2) (omega arith))

  at_is : (not (has (live s) p) || better w x (row_at (live s) p).price) ≡ (ltb s.n p || better w x (get_or s.rows (p - 1) no_row).price)
  unfolding has
  at_is = go (dec_lt s.n p)
    where
      go : Dec (s.n < p) → (not (leb 1 p && leb p (length (live s))) || better w x (get_or (live s) (p - 1) no_row).price) ≡ (ltb s.n p || better w x (get_or s.rows (p - 1) no_row).price)
      go (yes a) = rw (le-leb 1 p rank, lt-leb p (length (live s)) (omega (arith, long)), lt-ltb s.n p a)
      go (no a) = rw (le-leb 1 p rank, le-leb p (length (live s)) (omega (arith, long)), le-ltb s.n p (omega arith), price_at (p - 1) (omega arith))

  new_is : (r : Row) → r.price ≡ x → new_fits w p r (live s) ≡ (leb p (s.n + 1) && (leb p 1 || better w (get_or s.rows (p - 2) no_row).price x) && (ltb s.n p || better w x (get_or s.rows (p - 1) no_row).price))
  unfolding new_fits
  new_is r e = go (dec_le p (s.n + 1))
    where
      go : Dec (p ≤ s.n + 1) → (leb p (length (live s) + 1) && (not (has (live s) (p - 1)) || better w (row_at (live s) (p - 1)).price r.price) && (not (has (live s) p) || better w r.price (row_at (live s) p).price))
          ≡ (leb p (s.n + 1) && (leb p 1 || better w (get_or s.rows (p - 2) no_row).price x) && (ltb s.n p || better w x (get_or s.rows (p - 1) no_row).price))
      go (yes a) = rw (e, above_is a, at_is, long)
      go (no a) = rw (lt-leb p (length (live s) + 1) (omega (arith, long)), lt-leb p (s.n + 1) (omega arith))

  change_is : (r : Row) → r.price ≡ x → change_fits p r (live s) ≡ (leb p s.n && eqb x (get_or s.rows (p - 1) no_row).price)
  unfolding change_fits
  change_is r e = go (dec_le p s.n)
    where
      go : Dec (p ≤ s.n) → (leb p (length (live s)) && eqb r.price (row_at (live s) p).price) ≡ (leb p s.n && eqb x (get_or s.rows (p - 1) no_row).price)
      go (yes a) = rw (e, price_at (p - 1) (omega arith), long)
      go (no a) = rw (lt-leb p (length (live s)) (omega (arith, long)), lt-leb p s.n (omega arith))

  delete_is : delete_fits p (live s) ≡ leb p s.n
  unfolding delete_fits
  delete_is = rw long

pub fits_is : (w : Way) (s : Side) (e : Entry) → Padded s → 1 ≤ e.level → e.level ≤ depth
    → fits w e (live s) ≡ fits_at w e.action s.n e.level (get_or s.rows (e.level - 2) no_row).price (get_or s.rows (e.level - 1) no_row).price e.row.price
unfolding fits listed_rank fits_at pick
fits_is w s e pad a b =
    rw (le-leb 1 e.level a, le-leb e.level depth b, new_is w s pad e.level a e.row.price e.row refl, change_is w s pad e.level a e.row.price e.row refl, delete_is w s pad e.level a e.row.price)

-- an entry that fits is at a rank from 1 to 10
pub fit_rank : (w : Way) (e : Entry) (s : List Row) → fits w e s ≡ true → (1 ≤ e.level) × (e.level ≤ depth)
unfolding fits listed_rank
fit_rank w e s h =
    let r = (both (leb 1 e.level && leb e.level depth) _ h).0 in
    let q = both (leb 1 e.level) (leb e.level depth) r in
    (leb-true 1 e.level q.0, leb-true e.level depth q.1)

-- what an entry of each action that fits tells
module _ (w : Way) (e : Entry) (s : List Row) (h : fits w e s ≡ true) where
  fit_test : pick e.action ((0, new_fits w e.level e.row s) ∷ (1, change_fits e.level e.row s) ∷ (2, delete_fits e.level s) ∷ []) false ≡ true
  unfolding fits
  fit_test = (both (listed_rank e.level) _ h).1

  fit_new : e.action ≡ 0 → e.level ≤ length s + 1
  unfolding pick new_fits
  fit_new a =
      let t : new_fits w e.level e.row s ≡ true = rw a at fit_test in
      leb-true e.level (length s + 1) (both (leb e.level (length s + 1)) _ (both (leb e.level (length s + 1) && _) _ t).0).0

  fit_change : e.action ≡ 1 → (e.level ≤ length s) × (e.row.price ≡ (row_at s e.level).price)
  unfolding pick change_fits
  fit_change a =
      let t : change_fits e.level e.row s ≡ true = rw a at fit_test in
      let q = both (leb e.level (length s)) _ t in
      (leb-true e.level (length s) q.0, eqb-true e.row.price (row_at s e.level).price q.1)

  fit_delete : (e.action ≡ 0 → ⊥) → (e.action ≡ 1 → ⊥) → (e.action ≡ 2) × (e.level ≤ length s)
  unfolding pick delete_fits
  fit_delete a b = go (eqb e.action 2) refl (rw (ne_eqb e.action 0 a, ne_eqb e.action 1 b) at fit_test)
    where
      go : (t : Bool) → eqb e.action 2 ≡ t → cond t (leb e.level (length s)) false ≡ true → (e.action ≡ 2) × (e.level ≤ length s)
      go true q r = (eqb-true e.action 2 q, leb-true e.level (length s) r)
      go false q r = absurd (false≢true r)

  -- it is new, a change or a delete
  by_action : (P : Type 0) → (e.action ≡ 0 → P) → (e.action ≡ 1 → P) → ((e.action ≡ 2) × (e.level ≤ length s) → P) → P
  by_action P f g k = go (eqb e.action 0) refl (eqb e.action 1) refl
    where
      go : (x : Bool) → eqb e.action 0 ≡ x → (y : Bool) → eqb e.action 1 ≡ y → P
      go true a y b = f (eqb-true e.action 0 a)
      go false a true b = g (eqb-true e.action 1 b)
      go false a false b = k (fit_delete (eqb-false e.action 0 a) (eqb-false e.action 1 b))

  -- and the row that it drops is the tenth of ten, at whatever rank a new one comes in
  fell_new : e.action ≡ 0 → pushed_out e.level e.row s ≡ cond (leb depth (length s)) (some (row_at s depth)) none
  unfolding pushed_out has
  fell_new a = go (dec_le depth (length s))
    where
      k : e.level - 1 ≤ length s
      k = omega (arith, fit_new a)

      r : e.level ≤ depth
      r = (fit_rank w e s h).1

      long : length (ins (e.level - 1) e.row s) ≡ length s + 1
      long = length_ins no_row s (e.level - 1) e.row k

      go : Dec (depth ≤ length s) → cond (leb 11 (length (ins (e.level - 1) e.row s))) (some (get_or (ins (e.level - 1) e.row s) 10 no_row)) none ≡ cond (leb depth (length s)) (some (row_at s depth)) none
      go (yes t) = rw (le-leb 11 (length (ins (e.level - 1) e.row s)) (omega (arith, long)), le-leb depth (length s) t, get_d_after no_row (e.level - 1) 9 e.row s k (omega (arith, r)))
      go (no t) = rw (lt-leb 11 (length (ins (e.level - 1) e.row s)) (omega (arith, long)), lt-leb depth (length s) (omega arith))

  pub fell_is : fell_from e s ≡ cond (drops_tenth e.action (length s)) (some (row_at s depth)) none
  unfolding fell_from drops_tenth pick
  fell_is = go (eqb e.action 0) refl
    where
      go : (b : Bool) → eqb e.action 0 ≡ b → cond b (pushed_out e.level e.row s) none ≡ cond (b && leb depth (length s)) (some (row_at s depth)) none
      go true q = fell_new (eqb-true e.action 0 q)
      go false q = refl

-- the ten rows and the count that the code makes are those of the rows after the entry
module _ (w : Way) (s : Side) (e : Entry) (p : Padded s) (h : fits w e (live s) ≡ true) where
  rank : (1 ≤ e.level) × (e.level ≤ depth)
  rank = fit_rank w e (live s) h

  long_live : length (live s) ≡ s.n
  long_live = live_n s p

  level_is : e.level ≡ suc (e.level - 1)
  level_is = omega (arith, rank)

  ten_new : e.action ≡ 0 → ten_after e s.rows ≡ pad (rows_after e (live s))
  unfolding ten_after rows_after pick new_rows
  ten_new a = rw a (ap (λ (x : List Row). take depth (ins (e.level - 1) e.row x)) p.zeros ∙ pad_new (e.level - 1) e.row (live s) (omega (arith, fit_new w e (live s) h a)))

  ten_change : e.action ≡ 1 → ten_after e s.rows ≡ pad (rows_after e (live s))
  unfolding ten_after rows_after pick change_rows
  ten_change a =
      let c = fit_change w e (live s) h a in
      rw (a, ← c.1) (ap (λ (x : List Row). set x (e.level - 1) e.row) p.zeros ∙ pad_change (e.level - 1) e.row (live s) (omega (arith, c.0, rank)) (omega (arith, rank)))

  ten_delete : (e.action ≡ 2) × (e.level ≤ length (live s)) → ten_after e s.rows ≡ pad (rows_after e (live s))
  unfolding ten_after rows_after pick delete_rows
  ten_delete a =
      rw a.0 (ap (λ (m : ℕ). (take (e.level - 1) s.rows ++ drop m s.rows) ++ (no_row ∷ [])) level_is
      ∙ ap (λ (x : List Row). del (e.level - 1) x ++ (no_row ∷ [])) p.zeros
      ∙ pad_delete (e.level - 1) (live s) (omega (arith, a.1, rank)) (omega (arith, long_live, p.few))
      ∙ ap (λ (m : ℕ). pad (take (e.level - 1) (live s) ++ drop m (live s))) (sym level_is))

  pub ten_after_lem : ten_after e s.rows ≡ pad (rows_after e (live s))
  ten_after_lem = by_action w e (live s) h (ten_after e s.rows ≡ pad (rows_after e (live s))) ten_new ten_change ten_delete

  length_new : e.action ≡ 0 → count_after e.action s.n ≡ length (rows_after e (live s))
  unfolding count_after rows_after pick new_rows
  length_new a =
      rw (a, length-take depth (ins (e.level - 1) e.row (live s)), length_ins no_row (live s) (e.level - 1) e.row (omega (arith, fit_new w e (live s) h a)), long_live)

  length_change : e.action ≡ 1 → count_after e.action s.n ≡ length (rows_after e (live s))
  unfolding count_after rows_after pick change_rows
  length_change a = rw (a, length-set, long_live)

  length_delete : (e.action ≡ 2) × (e.level ≤ length (live s)) → count_after e.action s.n ≡ length (rows_after e (live s))
  unfolding count_after rows_after pick delete_rows
  length_delete a =
      rw a.0 (ap (λ (m : ℕ). m - 1) (sym long_live) ∙ sym (length_del no_row (live s) (e.level - 1) (omega (arith, a.1, rank)))
      ∙ ap (λ (m : ℕ). length (take (e.level - 1) (live s) ++ drop m (live s))) (sym level_is))

  pub count_is : count_after e.action s.n ≡ length (rows_after e (live s))
  count_is = by_action w e (live s) h (count_after e.action s.n ≡ length (rows_after e (live s))) length_new length_change length_delete

  -- what is no new row has a row to stand at
  pub has_one : (eqb e.action 0 || leb 1 s.n) ≡ true
  has_one = by_action w e (live s) h ((eqb e.action 0 || leb 1 s.n) ≡ true) (λ a. rw (eq-eqb e.action 0 a)) (λ a. one (omega (arith, (fit_change w e (live s) h a).0, rank, long_live))) (λ a. one (omega (arith, a.1, rank, long_live)))
    where
      one : 1 ≤ s.n → (eqb e.action 0 || leb 1 s.n) ≡ true
      one m = rw (le-leb 1 s.n m) (or-true (eqb e.action 0))

  -- a side of ten has its tenth row at place 9
  tenth : drops_tenth e.action s.n ≡ true → get_or s.rows 9 no_row ≡ row_at (live s) depth
  unfolding drops_tenth
  tenth q =
      let full : depth ≤ s.n = leb-true depth s.n (both (eqb e.action 0) (leb depth s.n) q).1 in
      sym (live_at s p 9 (omega arith))

  dropped_is_lem : (drops_tenth e.action s.n ≡ was_dropped (fell_from e (live s))) × (cond (drops_tenth e.action s.n) (get_or s.rows 9 no_row) no_row ≡ or_as_it_was (fell_from e (live s)) no_row)
  unfolding was_dropped or_as_it_was
  dropped_is_lem = rw (fell_is w e (live s) h, long_live) (go (drops_tenth e.action s.n) tenth)
    where
      go : (b : Bool) → (b ≡ true → get_or s.rows 9 no_row ≡ row_at (live s) depth)
          → (b ≡ was_dropped (cond b (some (row_at (live s) depth)) none)) × (cond b (get_or s.rows 9 no_row) no_row ≡ or_as_it_was (cond b (some (row_at (live s) depth)) none) no_row)
      go true t = (refl, t refl)
      go false t = (refl, refl)

  -- it tells the row that it drops, and whether there is one
  told : (b : Bool) (r : Row) → (is_some (then_some b r) ≡ b) × (unwrap_or (then_some b r) no_row ≡ cond b r no_row)
  told true r = (refl, refl)
  told false r = (refl, refl)

  pub applied_is : (rows : List Row) (count : ℕ) (dropped : Bool) (last : std-option.Option Row) → rows ≡ ten_after e s.rows → count ≡ count_after e.action s.n
      → dropped ≡ drops_tenth e.action s.n → last ≡ then_some dropped (get_or s.rows 9 no_row)
      → applied_by (record { rows = rows; count = count; last = last }) ≡ applied_to e (live s)
  applied_is rows count dropped last er ec ed el =
      let t = told dropped (get_or s.rows 9 no_row) in
      λ i. record {
        rows = (er ∙ ten_after_lem) i;
        count = (ec ∙ count_is) i;
        dropped = (ap is_some el ∙ t.0 ∙ ed ∙ dropped_is_lem.0) i;
        last = (ap (λ (o : std-option.Option Row). unwrap_or o no_row) el ∙ t.1 ∙ ap (λ (b : Bool). cond b (get_or s.rows 9 no_row) no_row) ed ∙ dropped_is_lem.1) i;
      }

-- the same, as the code has a side
pub apply_rank : (w : Way) (e : Entry) (n : ℕ) (rows : List Row) → fits w e (take n rows) ≡ true → (1 ≤ e.level) × (e.level ≤ depth)
apply_rank w e n rows = fit_rank w e (take n rows)

module _ (e : Entry) (n : ℕ) (rows : List Row) (p : Padded (record { n = n; rows = rows })) (f : fits (way_of e.side) e (take n rows) ≡ true) where
  pub apply_one : (eqb e.action 0 || leb 1 n) ≡ true
  apply_one = has_one (way_of e.side) (record { n = n; rows = rows }) e p f

  pub apply_done : (x : List Row) (m : ℕ) (d : Bool) (l : std-option.Option Row) → x ≡ ten_after e rows → m ≡ count_after e.action n → d ≡ drops_tenth e.action n
      → l ≡ then_some d (get_or rows 9 no_row) → applied_by (record { rows = x; count = m; last = l }) ≡ applied_to e (take n rows)
  apply_done x m d l ex em ed el = applied_is (way_of e.side) (record { n = n; rows = rows }) e p f x m d l ex em ed el

pub ruleset applying = (rules, apply_rank, apply_one, apply_done)
