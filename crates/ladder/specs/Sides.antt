-- A side, best row first, and what an entry makes of it (document 01, "Entries, against a side of n rows"). Assumes nothing.
use Rattle.std.specs.Prelude.{ℕ, ◌+◌, ◌-◌, Bool, true, false, cond, not, ◌&&◌, ◌||◌, List, [], ◌∷◌, ◌++◌, length, take, drop, get_or, set, ltb, leb, eqb}
use Rattle.std.proofs.Math.Option.{Option, none, some}
use Rattle.ground.specs.Choice.{pick}
use Rattle.ladder.specs.Message.{new, change, delete, depth, listed_rank}
use Rattle.ladder.specs.declared.Way.{Way}
use Rattle.ladder.specs.declared.Way.TheVariants.{Bid, Offer}
use Rattle.ladder.specs.declared.Row.{Row}
use Rattle.ladder.specs.declared.Entry.{Entry}

-- price a is strictly better than price b
unfoldable pub better : Way → ℕ → ℕ → Bool
better Bid a b = ltb b a
better Offer a b = ltb a b

abbrev pub no_row : Row
no_row = record { price = 0; quantity = 0; orders = 0 }

-- row p of a side, counted from 1, and whether it exists
abbrev pub row_at : List Row → ℕ → Row
row_at s p = get_or s (p - 1) no_row

unfoldable pub has : List Row → ℕ → Bool
has s p = leb 1 p && leb p (length s)

-- "New: p at most n + 1; price strictly worse than row p - 1 and strictly better than the old row p, where those exist"
unfoldable pub new_fits : Way → ℕ → Row → List Row → Bool
new_fits w p r s =
    leb p (length s + 1)
    && (not (has s (p - 1)) || better w (row_at s (p - 1)).price r.price)
    && (not (has s p) || better w r.price (row_at s p).price)

-- "Rows from p move down; a row pushed to 11 is dropped"
abbrev pub moved_down : ℕ → Row → List Row → List Row
moved_down p r s = take (p - 1) s ++ (r ∷ drop (p - 1) s)

unfoldable pub new_rows : ℕ → Row → List Row → List Row
new_rows p r s = take depth (moved_down p r s)

-- document 02, request 6: "whether a row was dropped, and which": the row pushed to 11, where there is one
unfoldable pub pushed_out : ℕ → Row → List Row → Option Row
pushed_out p r s = cond (has (moved_down p r s) 11) (some (row_at (moved_down p r s) 11)) none

-- "Change: p at most n, same price as row p"
unfoldable pub change_fits : ℕ → Row → List Row → Bool
change_fits p r s = leb p (length s) && eqb r.price (row_at s p).price

-- "quantity and orders are replaced"
unfoldable pub change_rows : ℕ → Row → List Row → List Row
change_rows p r s = set s (p - 1) (record { price = (row_at s p).price; quantity = r.quantity; orders = r.orders })

-- "Delete: p at most n; price not looked at"
unfoldable pub delete_fits : ℕ → List Row → Bool
delete_fits p s = leb p (length s)

-- "lower rows move up"
unfoldable pub delete_rows : ℕ → List Row → List Row
delete_rows p s = take (p - 1) s ++ drop p s

-- whether an entry at a rank from 1 to 10 fits a side; what is not listed fits nowhere (and answer 15 has come before)
unfoldable pub fits : Way → Entry → List Row → Bool
fits w e s =
    listed_rank e.level
    && pick e.action
    ((new, new_fits w e.level e.row s)
    ∷ (change, change_fits e.level e.row s)
    ∷ (delete, delete_fits e.level s)
    ∷ [])
    false

-- the side after an entry that fits
unfoldable pub rows_after : Entry → List Row → List Row
rows_after e s =
    pick e.action
    ((new, new_rows e.level e.row s)
    ∷ (change, change_rows e.level e.row s)
    ∷ (delete, delete_rows e.level s)
    ∷ [])
    s

-- the row that an entry that fits drops: none but for a new level
unfoldable pub fell_from : Entry → List Row → Option Row
fell_from e s = pick e.action ((new, pushed_out e.level e.row s) ∷ []) none

-- whether it dropped one
unfoldable pub was_dropped : Option Row → Bool
was_dropped none = false
was_dropped (some r) = true

-- the side after an entry, and none where it does not fit
unfoldable pub on_side : Way → Entry → List Row → Option (List Row)
on_side w e s = cond (fits w e s) (some (rows_after e s)) none
