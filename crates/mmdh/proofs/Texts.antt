-- What is put into a buffer, piece by piece, is the text. Assumes nothing.
use Prim.Native.Nat.{ℕ, zero, suc, ◌+◌, ◌-◌, ◌*◌, ◌/◌, ◌%◌, ◌^◌, ◌≤◌, ◌<◌, min}
use mathlib.Core.Path.{◌≡◌, refl, ap, sym, ◌∙◌}
use mathlib.Core.List.{List, [], ◌∷◌, ◌++◌, append_assoc, append-nil}
use native.Mathlib.Numerals.{add-one}
use native.Mathlib.Decide.{dec_le}
use native.Mathlib.Nat.{add-zero, pow-suc}
use native.Mathlib.Omega.{arith}
use lib.ListN.{length, take, drop, set, get_or, length-set}
use lib.Seq.{take-suc, take_all, length-take-le}
use lib.IntN.{sub_ℕ}
use borrow.Author.Tests.{lt-ltb, le-ltb, eq-eqb, ne_eqb}
use Rattle.std.specs.Simd.{first_chunks}
use Rattle.wire.specs.Number.{bias}
use Rattle.slots.specs.Slots.{blocks, code_of}
use Rattle.slots.specs.Layout.{slots_in}
use Rattle.books.specs.Table.{books}
use Rattle.slots.proofs.Blocks.{length_blocks}
use Rattle.ladder.specs.Sides.{no_row}
use Rattle.ladder.specs.Words.{row_of, rows_from, book_width, side_width, offers_at, bids_at}
use Rattle.ladder.specs.declared.Row.{Row}
use Rattle.ladder.proofs.Loads.{rows_ten, row_is}
use Rattle.feed.specs.Program.{Line, side_lines, lines, table_words}
use Rattle.mmdh.specs.Text.{digits_of, decimal, signed, letter, space, line_text, lines_text, end_text}
use Rattle.mmdh.specs.Code.Rooms.{line_of, Put, side_room, book_room, books_room, line_room, end_room, price_room, number_room}
use Rattle.mmdh.specs.declared.output.Output.{Output}
use mathlib.Core.Bool.{cond}
use lib.Dec.{ltb}
use Rattle.std.proofs.lemmas.List.{drop-set}

-- one text behind another
pub behind : {s t : List ℕ} {x y z : Output} {m n : ℕ} → Put s m x y → Put t n y z → Put (s ++ t) (m + n) x z
behind p q = record { holds = rw (q.holds, p.holds, append_assoc); few = omega (arith, p.few, q.few) }

-- the same text, said otherwise
pub same_text : {s t : List ℕ} {x y : Output} {m n : ℕ} → Put s m x y → s ≡ t → m ≤ n → Put t n x y
same_text {x = x} p e h = record { holds = p.holds ∙ ap (λ (l : List ℕ). take x.len x.bytes ++ l) e; few = omega (arith, p.few) }

-- no text
pub nothing : (x : Output) → Put [] 0 x x
nothing x = record { holds = sym (append-nil (take x.len x.bytes)); few = omega arith }

-- any bound serves that is not below the number
any_bound : (a b n : ℕ) → n ≤ a → n ≤ b → digits_of a n ≡ digits_of b n
unfolding digits_of
any_bound zero zero n h g = refl
any_bound zero (suc b) n h g = rw (lt-ltb n 10 (omega arith))
any_bound (suc a) zero n h g = rw (lt-ltb n 10 (omega arith))
any_bound (suc a) (suc b) n h g = go (dec_le 10 n) (λ k. any_bound a b (n / 10) (omega arith) (omega arith))
  where
    go : Dec (10 ≤ n) → (10 ≤ n → digits_of a (n / 10) ≡ digits_of b (n / 10)) → digits_of (suc a) n ≡ digits_of (suc b) n
    go (yes k) e = ap (λ (l : List ℕ). cond (ltb n 10) [] l ++ ((48 + n % 10) ∷ [])) (e k)
    go (no k) e = rw (lt-ltb n 10 (omega arith))

one_digit : (n : ℕ) → n < 10 → decimal n ≡ (48 + n % 10) ∷ []
unfolding digits_of
one_digit n h = any_bound n (suc n) n (omega arith) (omega arith) ∙ rw (lt-ltb n 10 h)

more_digits : (n : ℕ) → 10 ≤ n → decimal n ≡ decimal (n / 10) ++ ((48 + n % 10) ∷ [])
unfolding digits_of
more_digits n h =
    any_bound n (suc n) n (omega arith) (omega arith)
    ∙ rw (le-ltb n 10 h) (ap (λ (l : List ℕ). l ++ ((48 + n % 10) ∷ [])) (any_bound n (n / 10) (n / 10) (omega arith) (omega arith)))

-- lines, one list behind another
lines_behind : (a b : List Line) → lines_text (a ++ b) ≡ lines_text a ++ lines_text b
unfolding lines_text
lines_behind [] b = refl
lines_behind (l ∷ a) b = rw (lines_behind a b, append_assoc)

side_behind : (code side rank : ℕ) (a b : List Row) → side_lines code side rank (a ++ b) ≡ side_lines code side rank a ++ side_lines code side (rank + length a) b
unfolding side_lines
side_behind code side rank [] b = rw add-zero
side_behind code side rank (r ∷ a) b =
    let e : rank + suc (length a) ≡ rank + 1 + length a = omega arith in
    rw (side_behind code side (rank + 1) a b, e)

books_behind : (a b : List (List ℕ)) → lines (a ++ b) ≡ lines a ++ lines b
unfolding lines
books_behind [] b = refl
books_behind (x ∷ a) b = rw (books_behind a b, append_assoc)

-- the slots of a table are its chunks of so many words
chunks_are : (w n : ℕ) (t : List ℕ) → first_chunks w n t ≡ blocks w n t
unfolding blocks
chunks_are w zero t = refl
chunks_are w (suc n) t = ap (λ (l : List (List ℕ)). take w t ∷ l) (chunks_are w n (drop w t))

-- the digits behind those of `rest` are put, from place `from` on, and there is room for the others
pub record Digiting (n rest from : ℕ) (digits : List ℕ) : Type 0 where
  pub some : from < 20 → 0 < rest
  pub upto : from ≤ 20
  pub long : length digits ≡ 20
  pub room : rest < 10 ^ from
  pub so_far : decimal rest ++ drop from digits ≡ decimal n

-- a digit more is put
module _ (n rest from : ℕ) (digits : List ℕ) (c : Digiting n rest from digits) (f : 0 < from) where
  abbrev newer : List ℕ
  newer = set digits (from - 1) (48 + rest % 10)

  put_front : drop (from - 1) newer ≡ (48 + rest % 10) ∷ drop from digits
  put_front =
      let e : from - 1 + 1 ≡ from = omega arith in
      drop-set digits (from - 1) (48 + rest % 10) (omega (arith, c.upto, c.long)) ∙ rw e

  pub digits_go : (rest / 10 ≡ 0 → ⊥) → Digiting n (rest / 10) (from - 1) newer
  digits_go h =
      let e : suc (from - 1) ≡ from = omega arith in
      let room : rest < 10 ^ suc (from - 1) = rw e c.room in
      let tens : rest < 10 ^ (from - 1) * 10 = rw (← pow-suc 10 (from - 1)) room in
      record {
        some = λ k. omega arith;
        upto = omega (arith, c.upto);
        long = length-set digits (from - 1) (48 + rest % 10) ∙ c.long;
        room = omega arith;
        so_far =
            rw put_front
            (sym (append_assoc (decimal (rest / 10)) ((48 + rest % 10) ∷ []) (drop from digits))
            ∙ ap (λ (l : List ℕ). l ++ drop from digits) (sym (more_digits rest (omega arith)))
            ∙ c.so_far);
      }

  pub digits_end : rest / 10 ≡ 0 → drop (from - 1) newer ≡ decimal n
  digits_end h = put_front ∙ ap (λ (l : List ℕ). l ++ drop from digits) (sym (one_digit rest (omega arith))) ∙ c.so_far

pub row_put : (code side rank l : ℕ) (row : Row) (o p q s t u v : Output) → l ≡ letter side
    → Put (decimal code ++ (32 ∷ [])) number_room o p
    → Put (l ∷ 32 ∷ []) 2 p q
    → Put (decimal rank ++ (32 ∷ [])) number_room q s
    → Put (signed (sub_ℕ row.price bias) ++ space) price_room s t
    → Put (decimal row.quantity ++ (32 ∷ [])) number_room t u
    → Put (decimal row.orders ++ (10 ∷ [])) number_room u v
    → Put (line_text (line_of code side rank row)) line_room o v
unfolding line_text
row_put code side rank l row o p q s t u v k h₁ h₂ h₃ h₄ h₅ h₆ =
    same_text (behind (behind (behind (behind (behind h₁ h₂) h₃) h₄) h₅) h₆) (rw k (simp append_assoc)) (omega arith)

pub end_put : (answer units : ℕ) (o p q s t : Output) → Put (101 ∷ 110 ∷ 100 ∷ 32 ∷ []) 4 o p → Put (decimal answer ++ (32 ∷ [])) number_room p q
    → Put (117 ∷ 110 ∷ 105 ∷ 116 ∷ 115 ∷ 32 ∷ []) 6 q s → Put (decimal units ++ (10 ∷ [])) number_room s t → Put (end_text answer units) end_room o t
unfolding end_text
end_put answer units o p q s t h₁ h₂ h₃ h₄ = same_text (behind (behind (behind h₁ h₂) h₃) h₄) (simp append_assoc) (omega arith)

-- i rows of a side, of which n are to be shown, are put
pub record Siding (words : List ℕ) (side base i : ℕ) (old new : Output) : Type 0 where
  pub so_far : Put (lines_text (side_lines (code_of words) side 1 (take i (rows_from base words)))) (line_room * i) old new

pub side_starts : (words : List ℕ) (side base : ℕ) (old : Output) → Siding words side base 0 old old
unfolding side_lines lines_text
side_starts words side base old = record { so_far = nothing old }

pub side_goes : (words : List ℕ) (side base i : ℕ) (old new last : Output) (row : Row) → Siding words side base i old new → i < 10 → length words ≡ book_width → base + side_width ≤ book_width
    → row ≡ row_of (drop (base + 3 * i) words)
    → Put (line_text (line_of (get_or words 0 0) side (i + 1) row)) line_room new last → Siding words side base (i + 1) old last
unfolding side_lines lines_text
side_goes words side base i old new last row c h b g e p =
    let rows : List Row = rows_from base words in
    let ten : i < length rows = omega (arith, rows_ten base words) in
    let here : get_or rows i no_row ≡ row = row_is base words i (omega arith) ∙ sym e in
    let k : 1 + length (take i rows) ≡ suc i = omega (arith, length-take-le i rows (omega arith)) in
    let code : ℕ = code_of words in
    let same : lines_text (side_lines code side 1 (take i rows)) ++ line_text (line_of code side (i + 1) row) ≡ lines_text (side_lines code side 1 (take (i + 1) rows)) =
    rw (add-one, take-suc rows i no_row ten, side_behind code side 1 (take i rows), lines_behind, k, here, append-nil) in
    record { so_far = same_text (behind c.so_far p) same (omega arith) }

pub side_ends : (words : List ℕ) (side base n count i : ℕ) (old new : Output) → Siding words side base i old new → n ≡ min count 10 → i ≡ n
    → Put (lines_text (side_lines (code_of words) side 1 (take count (rows_from base words)))) side_room old new
side_ends words side base n count i old new c e h =
    let rows : List Row = rows_from base words in
    let same : take i rows ≡ take count rows = go (dec_le count 10) in
    same_text c.so_far (ap (λ (l : List Row). lines_text (side_lines (code_of words) side 1 l)) same) (omega arith)
  where
    go : Dec (count ≤ 10) → take i (rows_from base words) ≡ take count (rows_from base words)
    go (yes p) =
        let k : i ≡ count = omega arith in
        rw k
    go (no p) =
        take_all i (rows_from base words) (omega (arith, rows_ten base words))
        ∙ sym (take_all count (rows_from base words) (omega (arith, rows_ten base words)))

pub ruleset sides = (side_goes, side_ends)

-- the lines of a free slot, and of a held one
pub free_put : (words : List ℕ) (old : Output) → get_or words 0 0 ≡ 0 → Put (lines_text (lines (words ∷ []))) book_room old old
unfolding lines lines_text
free_put words old e = rw (eq-eqb (code_of words) 0 e) (same_text (nothing old) refl (omega arith))

pub book_put : (words : List ℕ) (old mid new : Output) → (get_or words 0 0 ≡ 0 → ⊥)
    → Put (lines_text (side_lines (code_of words) 0 1 (take (get_or words 1 0) (rows_from bids_at words)))) side_room old mid
    → Put (lines_text (side_lines (code_of words) 1 1 (take (get_or words 2 0) (rows_from offers_at words)))) side_room mid new
    → Put (lines_text (lines (words ∷ []))) book_room old new
unfolding lines
book_put words old mid new e p q = rw (ne_eqb (code_of words) 0 e, append-nil, lines_behind) (behind p q)

pub ruleset book = (free_put, book_put)

-- the first k books are put
pub record Booking (all : List (List ℕ)) (k : ℕ) (old new : Output) : Type 0 where
  pub so_far : Put (lines_text (lines (take k all))) (book_room * k) old new

pub books_start : (all : List (List ℕ)) (old : Output) → Booking all 0 old old
unfolding lines lines_text
books_start all old = record { so_far = nothing old }

pub books_go : (all : List (List ℕ)) (words : List ℕ) (k : ℕ) (old new last : Output) → Booking all k old new → k < length all → words ≡ get_or all k []
    → Put (lines_text (lines (words ∷ []))) book_room new last → Booking all (k + 1) old last
books_go all words k old new last c h e p =
    let same : lines_text (lines (take k all)) ++ lines_text (lines (words ∷ [])) ≡ lines_text (lines (take (k + 1) all)) =
    rw (add-one, take-suc all k [] h, e, books_behind (take k all), lines_behind) in
    record { so_far = same_text (behind c.so_far p) same (omega arith) }

pub books_end : (table : List ℕ) (all : List (List ℕ)) (k : ℕ) (old new : Output) → length table ≡ table_words → all ≡ first_chunks book_width (length table / book_width) table
    → Booking all k old new → k ≤ length all → length all ≤ k → Put (lines_text (lines (slots_in books table))) books_room old new
books_end table all k old new e h c f g =
    let n : ℕ = length table / book_width in
    let m : n ≡ min 4096 n = omega arith in
    let same : all ≡ slots_in books table = h ∙ chunks_are book_width n table ∙ ap (λ (i : ℕ). blocks book_width i table) m in
    let many : length all ≡ n = rw (h ∙ chunks_are book_width n table) (length_blocks book_width n table) in
    same_text c.so_far (ap (λ (l : List (List ℕ)). lines_text (lines l)) (take_all k all g ∙ same)) (omega arith)

pub ruleset table = (books_go, books_end)
