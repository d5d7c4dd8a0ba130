-- A book written to its words (specs/Words). Assumes nothing.
use Prim.Native.Nat.{ℕ, ◌+◌, ◌*◌, ◌≤◌, ◌<◌}
use mathlib.Core.Path.{◌≡◌, refl, ap, sym, ◌∙◌}
use mathlib.Core.List.{List, [], ◌∷◌, ◌++◌, map}
use native.Mathlib.Numerals.{add-one, add-two}
use native.Mathlib.Omega.{arith}
use lib.ListN.{length, take, get_or, set, length-set, length-append}
use lib.Seq.{take_all}
use borrow.Author.Rules.{rules}
use Rattle.slots.specs.Slots.{flat}
use Rattle.slots.specs.Code.Overlay.{overlay}
use Rattle.slots.proofs.Overlay.{length_overlay, length_flat, sets_overlay, overlay_nil, overlay_join, overlay_whole, overlay_more}
use Rattle.ladder.specs.Sides.{no_row}
use Rattle.ladder.specs.Walk.{Book}
use Rattle.ladder.specs.Words.{row_width, side_width, book_width, bids_at, offers_at, row_words, pad, side_words, words_of}
use Rattle.ladder.specs.Code.Arrays.{Side, live, side_at, as_book, Sides}
use Rattle.ladder.specs.Code.Loading.{rows_at}
use Rattle.ladder.specs.declared.Way.{Way}
use Rattle.ladder.specs.declared.Row.{Row}
use Rattle.ladder.proofs.Pads.{length_pad, live_n}
use Rattle.ladder.specs.Message.{depth}

-- a side is thirty words
pub side_words_lem : (s : List Row) → length (side_words s) ≡ side_width
unfolding side_words
side_words_lem s = length_flat row_words row_width (λ r. refl) (pad s) ∙ ap (λ (n : ℕ). row_width * n) (length_pad s)

-- a book is sixty-four words
pub book_words : (c : ℕ) (b : Book) → length (words_of c b) ≡ book_width
unfolding words_of
book_words c b = simp (length-append, side_words_lem)

-- a row written word by word
pub row_second : (t : List ℕ) (at v : ℕ) → at + row_width ≤ length t → at + 1 < length (set t at v)
row_second t at v h = rw length-set (omega arith)

pub row_third : (t : List ℕ) (at v u : ℕ) → at + row_width ≤ length t → at + 2 < length (set (set t at v) (at + 1) u)
row_third t at v u h = rw (length-set, length-set) (omega arith)

pub row_written : (t : List ℕ) (at p q o : ℕ) → at + row_width ≤ length t → set (set (set t at p) (at + 1) q) (at + 2) o ≡ overlay at (p ∷ q ∷ o ∷ []) t
row_written t at p q o h = rw (add-one, add-two) (sets_overlay t at (p ∷ q ∷ o ∷ []) h)

-- the first i of ten rows are written
pub record Writing (base : ℕ) (rows : List Row) (t₀ t : List ℕ) (i : ℕ) : Type 0 where
  pub upto : i ≤ depth
  pub ten : length rows ≡ depth
  pub room : base + side_width ≤ length t₀
  pub same : length t ≡ length t₀
  pub so_far : t ≡ overlay base (flat (map row_words (take i rows))) t₀

pub write_starts : (base : ℕ) (rows : List Row) (t : List ℕ) → length rows ≡ depth → base + side_width ≤ length t → Writing base rows t t 0
unfolding flat
write_starts base rows t n h = record { upto = omega arith; ten = n; room = h; same = refl; so_far = sym (overlay_nil base t) }

pub write_room : (base : ℕ) (rows : List Row) (t₀ t : List ℕ) (i : ℕ) → Writing base rows t₀ t i → i < depth → base + row_width * i + row_width ≤ length t
write_room base rows t₀ t i p h = omega (arith, p.room, p.same)

pub write_goes : (base : ℕ) (rows : List Row) (t₀ t u : List ℕ) (i : ℕ) → Writing base rows t₀ t i → i < depth → u ≡ overlay (base + row_width * i) (row_words (get_or rows i no_row)) t → Writing base rows t₀ u (i + 1)
write_goes base rows t₀ t u i p h e = record {
  upto = omega arith;
  ten = p.ten;
  room = p.room;
  same = ap length e ∙ length_overlay (base + row_width * i) (row_words (get_or rows i no_row)) t (omega (arith, p.room, p.same)) ∙ p.same;
  so_far =
      e ∙ ap (overlay (base + row_width * i) (row_words (get_or rows i no_row))) p.so_far
      ∙ overlay_more row_words row_width (λ r. refl) rows i no_row base t₀ (omega (arith, p.ten)) (omega (arith, p.room));
}

pub write_ends : (way : Way) (base : ℕ) (rows : List Row) (t₀ t : List ℕ) (i : ℕ) → base ≡ rows_at way → Writing base rows t₀ t i → depth ≤ i → t ≡ overlay (rows_at way) (flat (map row_words rows)) t₀
write_ends way base rows t₀ t i e p h =
    p.so_far ∙ ap (λ (l : List Row). overlay base (flat (map row_words l)) t₀) (take_all i rows (omega (arith, p.ten))) ∙ ap (λ (b : ℕ). overlay b (flat (map row_words rows)) t₀) e

-- the four words of the head, then the bids, then the offers, whatever stood there
pub head_room_lem : (t : List ℕ) (c m n z : ℕ) → length t ≡ book_width → bids_at + side_width ≤ length (set (set (set (set t 0 c) 1 m) 2 n) 3 z)
head_room_lem t c m n z h = simp length-set (omega arith)

pub side_room_lem : (t u : List ℕ) (c m n z : ℕ) → length t ≡ book_width → length u ≡ length (set (set (set (set t 0 c) 1 m) 2 n) 3 z) → offers_at + side_width ≤ length u
side_room_lem t u c m n z h e = rw e (simp length-set (omega arith))

pub book_long : (t u v : List ℕ) (c m n z : ℕ) → length u ≡ length (set (set (set (set t 0 c) 1 m) 2 n) 3 z) → length v ≡ length u → length v ≡ length t
book_long t u v c m n z e f = f ∙ e ∙ simp length-set

pub book_written : (t u v : List ℕ) (c : ℕ) (rows : List (List Row)) (counts : List ℕ) → length t ≡ book_width → Sides rows counts
    → u ≡ overlay bids_at (flat (map row_words (get_or rows 0 []))) (set (set (set (set t 0 c) 1 (get_or counts 0 0)) 2 (get_or counts 1 0)) 3 0) → v ≡ overlay offers_at (flat (map row_words (get_or rows 1 []))) u
    → v ≡ words_of c (as_book rows counts)
unfolding words_of side_words
book_written t u v c rows counts n p e f =
    let bids : Side = side_at 0 rows counts in
    let offers : Side = side_at 1 rows counts in
    let b : List ℕ = side_words (live bids) in
    let o : List ℕ = side_words (live offers) in
    let eb : flat (map row_words bids.rows) ≡ b = ap (λ (l : List Row). flat (map row_words l)) p.bids.zeros in
    let eo : flat (map row_words offers.rows) ≡ o = ap (λ (l : List Row). flat (map row_words l)) p.offers.zeros in
    let head : List ℕ = c ∷ bids.n ∷ offers.n ∷ 0 ∷ [] in
    let nb : length b ≡ side_width = side_words_lem (live bids) in
    let no' : length o ≡ side_width = side_words_lem (live offers) in
    f ∙ (λ i. overlay offers_at (eo i) u) ∙ ap (overlay offers_at o) (e ∙ (λ i. overlay bids_at (eb i) (set (set (set (set t 0 c) 1 bids.n) 2 offers.n) 3 0)) ∙ ap (overlay bids_at b) (sets_overlay t 0 head (omega (arith, n))) ∙ overlay_join 0 4 head b t refl (omega (arith, n)))
    ∙ overlay_join 0 offers_at (head ++ b) o t (simp length-append (omega arith)) (omega (arith, n))
    ∙ overlay_whole ((head ++ b) ++ o) t (simp length-append (omega (arith, n)))
    ∙ (λ i. c ∷ sym (live_n bids p.bids) i ∷ sym (live_n offers p.offers) i ∷ 0 ∷ (b ++ o))

pub ruleset writes = (rules, row_second, row_third, row_written, write_starts, write_room, write_goes, write_ends, head_room_lem, side_room_lem, book_long, book_written)
