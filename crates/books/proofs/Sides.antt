-- What the code of reading a side at once comes to, return by return (specs/Reading): what single reads give, rank by rank. Assumes nothing.
use Prim.Native.Nat.{ℕ, zero, suc, ◌+◌, ◌-◌, ◌≤◌, ◌<◌}
use native.Mathlib.Omega.{arith}
use native.Mathlib.Nat.{le_of_suc-le-suc, not-suc-le-zero}
use native.Mathlib.Decide.{dec_lt}
use mathlib.Core.Path.{◌≡◌, refl, sym, ap, ◌∙◌}
use mathlib.Core.Bool.{Bool, true, false, cond, not}
use mathlib.Core.List.{List, [], ◌∷◌, map}
use types.Run
use denote.Enum.Declared
use lib.Dec.{eqb}
use lib.ListN.{length, get_or, length-map, get_or-map}
use borrow.Author.Tests.{le-leb, lt-ltb, le-ltb}
use Rattle.ground.specs.Choice.{first}
use Rattle.slots.specs.Layout as table
use Rattle.slots.specs.declared.Slot.{Slot}
use Rattle.slots.specs.declared.Slot.TheVariants.{Held, Free, Full}
use Rattle.slots.specs.contracts.Slot as slot'
use Rattle.ladder.specs.Message.{depth, listed_rank}
use Rattle.ladder.specs.Words.{bid_count, offer_count, bids_at, offers_at, sound}
use Rattle.ladder.proofs.Tells.{few_bids, few_offers}
use Rattle.books.specs.Table.{books, place_in, block}
use Rattle.books.specs.Reading.{no_book, row_refused, read_row, side_answer, reads_from, row_count, level_of, side_by, read_side}
use Rattle.std.specs.Prelude.{Result, Ok, Err}
use Rattle.std.specs.Result.{result_unwrap_or}
use Rattle.ground.specs.Refusals.{refusal_no}
use Rattle.ground.specs.declared.Refusal.{Refusal}
use Rattle.ground.specs.declared.Refusal.TheVariants.{Unlisted, Unsound}
use Rattle.ladder.specs.Code.Loading.{count_at, rows_at, count_in}
use Rattle.ladder.specs.declared.Way.{Way}
use Rattle.ladder.specs.declared.Way.TheVariants.{Bid, Offer}
use Rattle.books.specs.Code.Rows.{side_no, row_read, side_read, row_of_side, row_of_book, side_refused, reads_of_side, side_of_words, side_of_book}
use Rattle.books.specs.declared.Level.{Level}
use Rattle.books.specs.Reading.{RowRead}
use Rattle.books.specs.Reading.{SideRead}
use Rattle.books.proofs.Showing.{showing, side_asked, asked, read_unasked, no_book_read, held_row}

-- reads at ranks: how many, which, and that equal reads at each rank are equal reads
pub reads_long : (f : ℕ → RowRead) (n rank : ℕ) → length (reads_from f n rank) ≡ n
unfolding reads_from
reads_long f zero rank = refl
reads_long f (suc n) rank = ap suc (reads_long f n (rank + 1))

pub reads_at : (f : ℕ → RowRead) (n rank i : ℕ) (blank : RowRead) → i < n → get_or (reads_from f n rank) i blank ≡ f (rank + i)
unfolding reads_from
reads_at f zero rank i blank h = absurd (not-suc-le-zero h)
reads_at f (suc n) rank zero blank h = ap f (omega arith)
reads_at f (suc n) rank (suc i) blank h = reads_at f n (rank + 1) i blank (le_of_suc-le-suc h) ∙ ap f (omega arith)

pub reads_same : (f g : ℕ → RowRead) (n rank : ℕ) → ((i : ℕ) → rank ≤ i → i < rank + n → f i ≡ g i) → reads_from f n rank ≡ reads_from g n rank
unfolding reads_from
reads_same f g zero rank h = refl
reads_same f g (suc n) rank h =
    λ j. h rank (omega arith) (omega arith) j ∷ reads_same f g n (rank + 1) (λ i a b. h i (omega arith) (omega arith)) j

-- a side of n rows has n reads that are answered 0
module _ (base n : ℕ) (w : List ℕ) where
  shown_answer : (rank : ℕ) → Dec (n < rank) → cond (eqb (row_of_side base n rank w).answer 0) 1 0 ≡ (suc n - rank) - (n - rank)
  unfolding row_of_side
  shown_answer rank (yes a) = rw (lt-ltb n rank a) (omega arith)
  shown_answer rank (no a) = rw (le-ltb n rank (omega arith)) (omega arith)

  pub count_from : (m rank : ℕ) → 1 ≤ rank → n < rank + m → row_count (reads_from (λ r. row_of_side base n r w) m rank) ≡ suc n - rank
  unfolding reads_from row_count
  count_from zero rank l h = omega arith
  count_from (suc m) rank l h =
      let rest : row_count (reads_from (λ r. row_of_side base n r w) m (rank + 1)) ≡ suc n - (rank + 1) = count_from m (rank + 1) (omega arith) (omega arith) in
      rw (rest, shown_answer rank (dec_lt n rank)) (omega arith)

  pub count_is : n ≤ depth → row_count (reads_of_side base n w) ≡ n
  count_is h = count_from depth 1 (omega arith) (omega arith) ∙ omega arith

-- the rows of a side of n rows, read one after the other
abbrev pub levels_of_side : ℕ → ℕ → List ℕ → List Level
levels_of_side base n w = map level_of (reads_of_side base n w)

pub levels_ten : (base n : ℕ) (w : List ℕ) → length (levels_of_side base n w) ≡ depth
levels_ten base n w = length-map (reads_of_side base n w) level_of ∙ reads_long (λ r. row_of_side base n r w) depth 1

pub level_at_lem : (base n : ℕ) (w : List ℕ) (k : ℕ) → k < depth → get_or (levels_of_side base n w) k (level_of (row_refused 0)) ≡ level_of (row_of_side base n (k + 1) w)
level_at_lem base n w k h =
    get_or-map level_of (reads_of_side base n w) k (row_refused 0)
    ∙ ap level_of (reads_at (λ r. row_of_side base n r w) depth 1 k (row_refused 0) h ∙ ap (λ (r : ℕ). row_of_side base n r w) (omega arith))

-- a row that is not there is shown as zeros
level_or : (r : Result Level Refusal) → result_unwrap_or r (level_of (row_refused 0)) ≡ level_of (row_read r)
level_or (Ok l) = refl
level_or (Err e) = refl

pub level_shown : (r : Result Level Refusal) (x : RowRead) (l : Level) → row_read r ≡ x → l ≡ result_unwrap_or r (level_of (row_refused 0)) → l ≡ level_of x
level_shown r x l e h = h ∙ level_or r ∙ ap level_of e

way_few : (way : Way) (w : List ℕ) → sound w ≡ true → count_in way w ≤ depth
way_few Bid w y = few_bids w y
way_few Offer w y = few_offers w y

pub side_whole : (way : Way) (w : List ℕ) (at : ℕ) (rows : List Level) → sound w ≡ true → at ≡ count_at way → rows ≡ levels_of_side (rows_at way) (count_in way w) w
    → side_read (Ok (record { count = get_or w at 0; rows = rows })) ≡ side_of_words (rows_at way) (count_in way w) w
unfolding side_of_words side_by
side_whole way w at rows y e h = rw (e, h, count_is (rows_at way) (count_in way w) w (way_few way w y))

-- a side of a book
book_side : (way : Way) (w : List ℕ) → sound w ≡ true → side_of_words (rows_at way) (count_in way w) w ≡ side_of_book (side_no way) w
unfolding side_of_book
book_side Bid w y = rw y
book_side Offer w y = rw y

side_unsound : (w : List ℕ) (side : ℕ) → sound w ≡ false → side_refused 18 ≡ side_of_book side w
unfolding side_of_book
side_unsound w side n = rw n

-- a side of the table: refused where every single read is
ten_refused : (a : ℕ) → eqb a 0 ≡ false → side_refused a ≡ side_by a (reads_from (λ r. row_refused a) depth 1)
unfolding side_by reads_from row_count
ten_refused a z = rw z

all_refused : (c side a : ℕ) (t : List ℕ) → eqb a 0 ≡ false → side_answer c side t ≡ a → ((rank : ℕ) → 1 ≤ rank → rank ≤ depth → read_row c side rank t ≡ row_refused a)
    → side_refused a ≡ read_side c side t
unfolding read_side
all_refused c side a t z e h =
    let same = reads_same (λ r. read_row c side r t) (λ r. row_refused a) depth 1 (λ rank l m. h rank l (omega arith)) in
    rw (e, same) (ten_refused a z)

pub side_unasked : (c side : ℕ) (t : List ℕ) (e : Refusal) → (side_asked c side ≡ false) × (e ≡ Unlisted) → side_refused (refusal_no e) ≡ read_side c side t
unfolding side_answer first
side_unasked c side t e h =
    rw h.1 (all_refused c side 15 t refl (rw h.0) (λ rank l m. sym (read_unasked c side rank t (asked c side rank) (row_refused 15) refl (rw h.0) refl)))

asked_in : (c side rank : ℕ) → side_asked c side ≡ true → 1 ≤ rank → rank ≤ depth → asked c side rank ≡ true
unfolding listed_rank
asked_in c side rank a l h = rw (a, le-leb 1 rank l, le-leb rank depth h)

no_book_side : (c side : ℕ) (t : List ℕ) → side_asked c side ≡ true → (p : Slot) → place_in c t ≡ p → no_book p ≡ true → side_refused 4 ≡ read_side c side t
unfolding side_answer first
no_book_side c side t a p e n = all_refused c side 4 t refl (rw (a, e, n)) (λ rank l m. sym (no_book_read c side rank t (asked_in c side rank a l m) p e n))

pub side_none : (c side : ℕ) (t : List ℕ) (f : Slot) → side_asked c side ≡ true → f ≡ place_in c t
    → Run.OneOf (1 ∷ 2 ∷ []) (Declared.tag_of slot'.the_type f) → side_refused 4 ≡ read_side c side t
unfolding no_book
side_none c side t (Held k) a ef o = absurd (Run.miss (1 ∷ 2 ∷ []) 0 tt o)
side_none c side t (Free k) a ef o = no_book_side c side t a (Free k) (sym ef) refl
side_none c side t Full a ef o = no_book_side c side t a Full (sym ef) refl

-- the code's book: every single read is one out of its words
module _ (c side k : ℕ) (t : List ℕ) (a : side_asked c side ≡ true) (e : place_in c t ≡ Held k) where
  single : (rank : ℕ) → 1 ≤ rank → rank ≤ depth → read_row c side rank t ≡ row_of_book side rank (block k t)
  single rank l h = held_row c side rank k t (asked_in c side rank a l h) l h e (sound (block k t)) refl (eqb side 0) refl

  unsound_row : sound (block k t) ≡ false → (rank : ℕ) → row_of_book side rank (block k t) ≡ row_refused 18
  unfolding row_of_book
  unsound_row n rank = rw n

  sound_side_lem : sound (block k t) ≡ true → (b : Bool) → eqb side 0 ≡ b → side_by 0 (reads_from (λ r. row_of_book side r (block k t)) depth 1) ≡ side_of_book side (block k t)
  unfolding row_of_book side_of_book side_of_words
  sound_side_lem y true eb = rw (y, eb)
  sound_side_lem y false eb = rw (y, eb)

  held_side : (y : Bool) → sound (block k t) ≡ y → read_side c side t ≡ side_of_book side (block k t)
  unfolding read_side side_answer no_book table.unsound_at first
  held_side false ey =
      sym (all_refused c side 18 t refl (rw (a, e, ey)) (λ rank l h. single rank l h ∙ unsound_row ey rank)) ∙ side_unsound (block k t) side ey
  held_side true ey =
      let same = reads_same (λ r. read_row c side r t) (λ r. row_of_book side r (block k t)) depth 1 (λ rank l h. single rank l (omega arith)) in
      rw (a, e, ey, same) (sound_side_lem ey (eqb side 0) refl)

-- of a code's own book
module _ (c side k : ℕ) (t w : List ℕ) (f : Slot) (way : Way) (a : (side_asked c side ≡ true) × (side ≡ side_no way)) (ef : f ≡ place_in c t) (h : f ≡ Held k) (ew : w ≡ block k t) where
  whole_held : side_of_book (side_no way) w ≡ read_side c side t
  whole_held =
      ap (side_of_book (side_no way)) ew ∙ ap (λ (n : ℕ). side_of_book n (block k t)) (sym a.1)
      ∙ sym (held_side c side k t a.0 (sym ef ∙ h) (sound (block k t)) refl)

  pub side_held : (v : List ℕ) (x : SideRead) → sound v ≡ true → v ≡ w → x ≡ side_of_words (rows_at way) (count_in way v) v → x ≡ read_side c side t
  side_held v x s ev q = q ∙ book_side way v s ∙ ap (side_of_book (side_no way)) ev ∙ whole_held

  pub held_unsound : (u : Refusal) → (sound w ≡ false) × (u ≡ Unsound) → side_refused (refusal_no u) ≡ read_side c side t
  held_unsound u n = rw n.1 (side_unsound w (side_no way) n.0 ∙ whole_held)

not-true : (b : Bool) → not b ≡ true → b ≡ false
not-true false e = refl
not-true true e = sym e

not-false : (b : Bool) → not b ≡ false → b ≡ true
not-false true e = refl
not-false false e = sym e

-- what a side says of single reads: a refused one that each of them is refused alike
pub alike : (c side : ℕ) (t : List ℕ) (rank : ℕ) → 1 ≤ rank → rank ≤ depth → (a : Bool) → side_asked c side ≡ a → (p : Slot) → place_in c t ≡ p → (y : Bool) → table.unsound_at books p t ≡ y
    → (side_answer c side t ≡ 0 → ⊥) → read_row c side rank t ≡ row_refused (side_answer c side t)
unfolding side_answer no_book table.unsound_at first
alike c side t rank l h false ea p ep y ey n = rw ea (sym (read_unasked c side rank t (asked c side rank) (row_refused 15) refl (rw ea) refl))
alike c side t rank l h true ea (Free k) ep y ey n = rw (ea, ep) (sym (no_book_read c side rank t (asked_in c side rank ea l h) (Free k) ep refl))
alike c side t rank l h true ea Full ep y ey n = rw (ea, ep) (sym (no_book_read c side rank t (asked_in c side rank ea l h) Full ep refl))
alike c side t rank l h true ea (Held k) ep true ey n =
    rw (ea, ep, ey) (single c side k t ea ep rank l h ∙ unsound_row c side k t ea ep (not-true (sound (block k t)) ey) rank)
alike c side t rank l h true ea (Held k) ep false ey n = absurd (n (rw (ea, ep, ey)))

-- and one that is read, that they are the rows out of some words, as many as it says
pub record OutOf (c side : ℕ) (t : List ℕ) : Type 0 where
  pub base : ℕ
  pub n : ℕ
  pub words : List ℕ
  pub count : (read_side c side t).count ≡ n
  pub row : (rank : ℕ) → 1 ≤ rank → rank ≤ depth → read_row c side rank t ≡ row_of_side base n rank words

module _ (c side k : ℕ) (t : List ℕ) (a : side_asked c side ≡ true) (e : place_in c t ≡ Held k) (y : sound (block k t) ≡ true) where
  out_of_words : (b : Bool) → eqb side 0 ≡ b → OutOf c side t
  unfolding row_of_book side_of_book side_of_words side_by
  out_of_words true eb = record {
    base = bids_at;
    n = bid_count (block k t);
    words = block k t;
    count = ap (λ (s : SideRead). s.count) (held_side c side k t a e true y) ∙ rw (y, eb) (count_is bids_at (bid_count (block k t)) (block k t) (few_bids (block k t) y));
    row = λ rank l h. single c side k t a e rank l h ∙ rw (y, eb);
  }
  out_of_words false eb = record {
    base = offers_at;
    n = offer_count (block k t);
    words = block k t;
    count = ap (λ (s : SideRead). s.count) (held_side c side k t a e true y) ∙ rw (y, eb) (count_is offers_at (offer_count (block k t)) (block k t) (few_offers (block k t) y));
    row = λ rank l h. single c side k t a e rank l h ∙ rw (y, eb);
  }

other_answer : (c side : ℕ) (t : List ℕ) (n : ℕ) → 0 < n → side_answer c side t ≡ n → side_answer c side t ≡ 0 → ⊥
other_answer c side t n l e h = omega (arith, sym e ∙ h)

pub out_of : (c side : ℕ) (t : List ℕ) → (a : Bool) → side_asked c side ≡ a → (p : Slot) → place_in c t ≡ p → (y : Bool) → table.unsound_at books p t ≡ y
    → side_answer c side t ≡ 0 → OutOf c side t
unfolding side_answer no_book table.unsound_at first
out_of c side t false ea p ep y ey h = absurd (other_answer c side t 15 (omega arith) (rw ea) h)
out_of c side t true ea (Free k) ep y ey h = absurd (other_answer c side t 4 (omega arith) (rw (ea, ep)) h)
out_of c side t true ea Full ep y ey h = absurd (other_answer c side t 4 (omega arith) (rw (ea, ep)) h)
out_of c side t true ea (Held k) ep true ey h = absurd (other_answer c side t 18 (omega arith) (rw (ea, ep, ey)) h)
out_of c side t true ea (Held k) ep false ey h = out_of_words c side k t ea ep (not-false (sound (block k t)) ey) (eqb side 0) refl

-- the row at a rank is what a single read gives there
pub level_is : (c side : ℕ) (t : List ℕ) (rank : ℕ) → 1 ≤ rank → rank ≤ depth → get_or (read_side c side t).rows (rank - 1) (level_of (row_refused 0)) ≡ level_of (read_row c side rank t)
unfolding read_side side_by
level_is c side t rank l h =
    get_or-map level_of (reads_from (λ r. read_row c side r t) depth 1) (rank - 1) (row_refused 0)
    ∙ ap level_of (reads_at (λ r. read_row c side r t) depth 1 (rank - 1) (row_refused 0) (omega arith) ∙ ap (λ (r : ℕ). read_row c side r t) (omega arith))

pub ruleset siding = (showing, level_shown, side_whole, side_unasked, side_none)
