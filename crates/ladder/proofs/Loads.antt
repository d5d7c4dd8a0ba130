-- The ten rows of a side in a book's words, and how they are read (specs/Words). Assumes nothing.
use Prim.Native.Nat.{ℕ, ◌+◌, ◌*◌, ◌<◌}
use mathlib.Core.Path.{◌≡◌, refl, ap, ◌∙◌}
use mathlib.Core.List.{List, [], ◌∷◌}
use lib.ListN.{length, take, drop, get_or, length-map, get_or-map}
use lib.Seq.{drop-drop}
use Rattle.slots.specs.Slots.{blocks}
use Rattle.slots.proofs.Blocks.{length_blocks, block_at}
use Rattle.ladder.specs.Sides.{no_row}
use Rattle.ladder.specs.Words.{row_width, row_of, rows_from}
use Rattle.ladder.specs.Message.{depth}

-- there are ten rows
pub rows_ten : (base : ℕ) (w : List ℕ) → length (rows_from base w) ≡ depth
unfolding rows_from
rows_ten base w = length-map (blocks row_width depth (drop base w)) row_of ∙ length_blocks row_width depth (drop base w)

-- row i is the row in the three words from base + 3 * i on
pub row_is : (base : ℕ) (w : List ℕ) (i : ℕ) → i < depth → get_or (rows_from base w) i no_row ≡ row_of (drop (base + row_width * i) w)
unfolding rows_from
row_is base w i h =
    get_or-map row_of (blocks row_width depth (drop base w)) i []
    ∙ ap row_of (block_at row_width depth i (drop base w) h ∙ ap (take row_width) (drop-drop (row_width * i) base w))
    ∙ front (drop (base + row_width * i) w)
  where
    front : (l : List ℕ) → row_of (take row_width l) ≡ row_of l
    front [] = refl
    front (a ∷ []) = refl
    front (a ∷ b ∷ []) = refl
    front (a ∷ b ∷ c ∷ l) = refl
