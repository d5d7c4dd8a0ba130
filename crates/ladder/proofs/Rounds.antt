-- What is written is read back, and what is read from a sound book is written as it stood (specs/Words). Assumes nothing.
use Prim.Native.Nat.{ℕ, ◌+◌, ◌-◌, ◌*◌, ◌≤◌, ◌<◌}
use mathlib.Core.Path.{◌≡◌, refl, ap, sym, ◌∙◌}
use mathlib.Core.Bool.{true, ◌&&◌}
use mathlib.Core.List.{List, [], ◌∷◌, ◌++◌, map, append-nil}
use native.Mathlib.Omega.{arith}
use lib.Dec.{eqb}
use lib.ListN.{length, take, drop, length-append, length-drop, take-append-drop}
use lib.Seq.{take_at, drop_at, take_all, get_or-drop}
use borrow.Author.Tests.{le-leb}
use Rattle.slots.specs.Slots.{blocks, flat, code_of}
use Rattle.slots.proofs.Blocks.{Wide, wide_blocks}
use Rattle.slots.proofs.Blocks as bl
use Rattle.slots.proofs.Overlay.{blocks_flat}
use Rattle.ground.specs.Choice.{all}
use Rattle.ground.proofs.Bools.{join}
use Rattle.ladder.specs.Sides.{no_row}
use Rattle.ladder.specs.Walk.{Book}
use Rattle.ladder.specs.Words.{row_width, side_width, book_width, bid_count, offer_count, spare_word, bids_at, offers_at, row_of, row_words, rows_from, book_of, pad, side_words, words_of, zero_row, sound_side, sound, SoundRows, SoundBook}
use Rattle.ladder.specs.Code.Arrays.{Padded}
use Rattle.ladder.specs.declared.Way.{Way}
use Rattle.ladder.specs.declared.Way.TheVariants.{Bid, Offer}
use Rattle.ladder.specs.declared.Row.{Row}
use Rattle.ladder.proofs.Pads.{length_pad, pad_behind, live_of, live_n}
use Rattle.ladder.proofs.Writes.{side_words_lem}
use Rattle.ladder.proofs.Tells.{all_of, spare_zero, sides_padded}
use Rattle.ladder.specs.Message.{depth}

-- a row is read back from its words
again : (l : List Row) → map row_of (map row_words l) ≡ l
again [] = refl
again (r ∷ l) = ap (λ (m : List Row). r ∷ m) (again l)

-- ten rows at the front of some words
rows_back : (s : List Row) (t : List ℕ) → map row_of (blocks row_width depth (side_words s ++ t)) ≡ pad s
unfolding side_words
rows_back s t =
    let l = pad s in
    ap (λ (n : ℕ). map row_of (blocks row_width n (flat (map row_words l) ++ t))) (sym (length_pad s))
    ∙ ap (map row_of) (blocks_flat row_words row_width (λ r. refl) l t) ∙ again l

module _ (c : ℕ) (b : Book) where
  -- the ten rows of a written book's bids
  pub bids_back : rows_from bids_at (words_of c b) ≡ pad b.bids
  unfolding rows_from words_of
  bids_back = rows_back b.bids (side_words b.offers)

  -- the ten rows of its offers
  pub offers_back : rows_from offers_at (words_of c b) ≡ pad b.offers
  unfolding rows_from words_of
  offers_back =
      ap (λ (w : List ℕ). map row_of (blocks row_width depth w))
      (drop_at (side_words b.bids) (side_words b.offers) side_width (side_words_lem b.bids) ∙ sym (append-nil (side_words b.offers)))
      ∙ rows_back b.offers []

  -- its code
  pub code_back : code_of (words_of c b) ≡ c
  unfolding words_of
  code_back = refl

  -- its bid count
  pub bid_count_back : bid_count (words_of c b) ≡ length b.bids
  unfolding words_of
  bid_count_back = refl

  -- its offer count
  pub offer_count_back : offer_count (words_of c b) ≡ length b.offers
  unfolding words_of
  offer_count_back = refl

  -- a book of at most ten rows a side is read back from its words
  pub book_back : length b.bids ≤ depth → length b.offers ≤ depth → book_of (words_of c b) ≡ b
  book_back h k = λ i. record {
    bids = ((λ j. take (bid_count_back j) (bids_back j)) ∙ live_of b.bids h) i;
    offers = ((λ j. take (offer_count_back j) (offers_back j)) ∙ live_of b.offers k) i;
  }

-- the words of a row are those of what is read from them
as_row : (b : List ℕ) → length b ≡ row_width → row_words (row_of b) ≡ b
as_row [] e = absurd (omega arith)
as_row (x ∷ []) e = absurd (omega arith)
as_row (x ∷ y ∷ []) e = absurd (omega arith)
as_row (x ∷ y ∷ z ∷ []) e = refl
as_row (x ∷ y ∷ z ∷ v ∷ l) e = absurd (omega arith)

-- and so of all rows
words_back : (bs : List (List ℕ)) → Wide row_width bs → map row_words (map row_of bs) ≡ bs
words_back [] p = refl
words_back (b ∷ bs) p = λ i. as_row b p.0 i ∷ words_back bs p.1 i

-- a side read by value is written as it stood
side_again : (base n : ℕ) (w : List ℕ) → base + side_width ≤ length w → Padded (record { n = n; rows = rows_from base w }) → side_words (take n (rows_from base w)) ≡ take side_width (drop base w)
unfolding side_words rows_from
side_again base n w h p =
    let x : List ℕ = drop base w in
    let room : row_width * depth ≤ length x = rw length-drop (omega arith) in
    let back : map row_words (map row_of (blocks row_width depth x)) ≡ blocks row_width depth x = words_back (blocks row_width depth x) (wide_blocks row_width depth x room) in
    let j = ap length (bl.join row_width depth x) in
    let len : length (flat (blocks row_width depth x)) ≡ side_width = omega (arith, simp (length-append, length-drop) at j) in
    ap (λ (l : List Row). flat (map row_words l)) (sym p.zeros) ∙ ap flat back
    ∙ sym (take_at (flat (blocks row_width depth x)) (drop side_width x) side_width len) ∙ ap (take side_width) (bl.join row_width depth x)

-- sixty-four words: four, thirty and thirty
parts : (w : List ℕ) → length w ≡ book_width → code_of w ∷ bid_count w ∷ offer_count w ∷ spare_word w ∷ (take side_width (drop bids_at w) ++ take side_width (drop offers_at w)) ≡ w
parts [] e = absurd (omega arith)
parts (x ∷ []) e = absurd (omega arith)
parts (x ∷ y ∷ []) e = absurd (omega arith)
parts (x ∷ y ∷ z ∷ []) e = absurd (omega arith)
parts (x ∷ y ∷ z ∷ v ∷ l) e =
    ap (λ (m : List ℕ). x ∷ y ∷ z ∷ v ∷ m)
    (ap (λ (m : List ℕ). take side_width l ++ m) (take_all side_width (drop side_width l) (rw length-drop (omega arith))) ∙ take-append-drop side_width l)

-- a sound block is the words of its book
pub block_again : (w : List ℕ) → length w ≡ book_width → sound w ≡ true → words_of (code_of w) (book_of w) ≡ w
unfolding words_of
block_again w h s =
    let b = (sides_padded w s).bids in
    let o = (sides_padded w s).offers in
    (λ i. code_of w ∷ live_n (record { n = bid_count w; rows = rows_from bids_at w }) b i ∷ live_n (record { n = offer_count w; rows = rows_from offers_at w }) o i ∷ sym (spare_zero w s) i
    ∷ (side_again bids_at (bid_count w) w (omega arith) b i ++ side_again offers_at (offer_count w) w (omega arith) o i))
    ∙ parts w h

-- a side that is sound by value is sound as ten rows
rows_sound : (w : Way) (s : List Row) → SoundRows w s → sound_side w (length s) (pad s) ≡ true
unfolding sound_side
rows_sound w s p =
    rw (live_of s p.few, le-leb (length s) depth p.few, p.words, p.best, zeros)
  where
    zero : zero_row no_row ≡ true
    zero = unfold zero_row in refl

    zeros : all zero_row (drop (length s) (pad s)) ≡ true
    zeros =
        all_of zero_row (drop (length s) (pad s)) no_row (λ i h.
        let t : i < depth - length s = rw (length-drop, length_pad) at h in
        ap zero_row (get_or-drop (length s) (pad s) i no_row ∙ pad_behind s (length s + i) (omega arith) (omega arith)) ∙ zero)

module _ (c : ℕ) (b : Book) where
  -- its soundness is that of its two sides
  sound_is : sound (words_of c b) ≡ (sound_side Bid (length b.bids) (pad b.bids) && sound_side Offer (length b.offers) (pad b.offers))
  unfolding sound
  sound_is = λ i. eqb (spare_back i) 0 && sound_side Bid (bid_count_back c b i) (bids_back c b i) && sound_side Offer (offer_count_back c b i) (offers_back c b i)
    where
      spare_back : spare_word (words_of c b) ≡ 0
      spare_back = unfold words_of in refl

  -- the words of a sound book are sound
  pub written_sound : SoundBook b → sound (words_of c b) ≡ true
  written_sound p = sound_is ∙ join _ _ (rows_sound Bid b.bids p.bids) (rows_sound Offer b.offers p.offers)
