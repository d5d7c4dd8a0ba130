-- What a sound book's words tell of its sides (specs/Words). Assumes nothing.
use Prim.Native.Nat.{ℕ, suc, ◌+◌, ◌-◌, ◌≤◌, ◌<◌}
use mathlib.Core.Path.{◌≡◌, refl, ap, sym, ◌∙◌}
use mathlib.Core.Bool.{Bool, true, ◌&&◌}
use mathlib.Core.List.{List, [], ◌∷◌, ◌++◌}
use native.Mathlib.Decide.{dec_lt}
use native.Mathlib.Omega.{arith}
use lib.Dec.{ltb, leb, eqb}
use lib.ListN.{length, take, drop, get_or, length-drop, get_or-append}
use lib.Seq.{ext_get_or, get_or-take, get_or-drop, length-take-le}
use borrow.Author.Tests.{ltb-true, leb-true, eqb-true}
use Rattle.ground.specs.Choice.{all}
use Rattle.wire.specs.Number.{word32}
use Rattle.ground.proofs.Bools.{both, join}
use Rattle.ground.proofs.Choices.{all_at}
use Rattle.ladder.specs.Sides.{no_row}
use Rattle.ladder.specs.Words.{bid_count, offer_count, spare_word, bids_at, offers_at, rows_from, book_of, no_rows, pad, best_first, bounded, zero_row, sound_side, sound, SoundRows, SoundBook}
use Rattle.ladder.specs.Code.Arrays.{Padded, Sides}
use Rattle.ladder.specs.Code.Loading.{rows_in, counts_in}
use Rattle.ladder.specs.declared.Way.{Way}
use Rattle.ladder.specs.declared.Way.TheVariants.{Bid, Offer}
use Rattle.ladder.specs.declared.Row.{Row}
use Rattle.ladder.proofs.Pads.{length_pad, pad_behind}
use Rattle.ladder.proofs.Loads.{rows_ten}
use Rattle.ladder.specs.Message.{depth}

-- a test that passes at each element passes at every one
pub all_of : {A : Type 0} (f : A → Bool) (l : List A) (d : A) → ((i : ℕ) → i < length l → f (get_or l i d) ≡ true) → all f l ≡ true
unfolding all
all_of f [] d h = refl
all_of f (x ∷ l) d h = join (f x) (all f l) (h 0 (omega arith)) (all_of f l d (λ i t. h (suc i) (omega arith)))

-- a zero row is the zero row
pub zero_is : (r : Row) → zero_row r ≡ true → r ≡ no_row
unfolding zero_row
zero_is r e =
    let p = both (eqb r.price 0 && eqb r.quantity 0) (eqb r.orders 0) e in
    let q = both (eqb r.price 0) (eqb r.quantity 0) p.0 in
    λ k. record { price = eqb-true r.price 0 q.0 k; quantity = eqb-true r.quantity 0 q.1 k; orders = eqb-true r.orders 0 p.1 k }

-- a bounded row has its price and orders words below 4,294,967,296
pub bounded_is : (r : Row) → bounded r ≡ true → (r.price < word32) × (r.orders < word32)
unfolding bounded
bounded_is r e =
    let p = both (ltb r.price word32) (ltb r.orders word32) e in
    (ltb-true r.price word32 p.0, ltb-true r.orders word32 p.1)

-- the four parts of a sound side
module _ (w : Way) (n : ℕ) (rows : List Row) (s : sound_side w n rows ≡ true) where
  sound_parts : (leb n depth ≡ true) × (all zero_row (drop n rows) ≡ true) × (all bounded (take n rows) ≡ true) × (best_first w (take n rows) ≡ true)
  unfolding sound_side
  sound_parts =
      let p = both (leb n depth && all zero_row (drop n rows) && all bounded (take n rows)) (best_first w (take n rows)) s in
      let q = both (leb n depth && all zero_row (drop n rows)) (all bounded (take n rows)) p.0 in
      let r = both (leb n depth) (all zero_row (drop n rows)) q.0 in
      (r.0, r.1, q.1, p.1)

  -- at most ten rows are used
  pub side_few : n ≤ depth
  side_few = leb-true n depth sound_parts.0

  module _ (ten : length rows ≡ depth) where
    -- an unused row is the zero row
    pub unused_zero : (i : ℕ) → n ≤ i → i < depth → get_or rows i no_row ≡ no_row
    unused_zero i h t =
        let e : n + (i - n) ≡ i = omega arith in
        ap (λ (k : ℕ). get_or rows k no_row) (sym e) ∙ sym (get_or-drop n rows (i - n) no_row)
        ∙ zero_is (get_or (drop n rows) (i - n) no_row) (all_at zero_row (drop n rows) (i - n) no_row sound_parts.1 (rw length-drop (omega arith)))

    -- a used row is bounded
    pub used_bounded : (i : ℕ) → i < n → bounded (get_or rows i no_row) ≡ true
    used_bounded i h =
        ap bounded (sym (get_or-take n rows i no_row h))
        ∙ all_at bounded (take n rows) i no_row sound_parts.2 (omega (arith, length-take-le n rows (omega (arith, side_few))))

    -- so the side can be walked on
    pub side_padded : Padded (record { n = n; rows = rows })
    side_padded = record { few = side_few; zeros = ext_get_or no_row rows (pad (take n rows)) (ten ∙ sym (length_pad (take n rows))) (λ i h. go i (omega arith) (dec_lt i n)) }
      where
        long : length (take n rows) ≡ n
        long = length-take-le n rows (omega (arith, side_few))

        go : (i : ℕ) → i < depth → Dec (i < n) → get_or rows i no_row ≡ get_or (pad (take n rows)) i no_row
        go i h (yes t) =
            sym (get_or-take depth (take n rows ++ no_rows) i no_row h ∙ get_or-append (take n rows) no_rows no_row i (omega (arith, long)) ∙ get_or-take n rows i no_row t)
        go i h (no t) = unused_zero i (omega arith) h ∙ sym (pad_behind (take n rows) i (omega (arith, long)) h)

    -- and its rows are sound by value
    pub side_rows : SoundRows w (take n rows)
    side_rows = record { few = omega (arith, length-take-le n rows (omega (arith, side_few)), side_few); words = sound_parts.2; best = sound_parts.3 }

-- the parts of a sound book, and its sides by value
module _ (w : List ℕ) (y : sound w ≡ true) where
  book_parts : (eqb (spare_word w) 0 ≡ true) × (sound_side Bid (bid_count w) (rows_from bids_at w) ≡ true) × (sound_side Offer (offer_count w) (rows_from offers_at w) ≡ true)
  unfolding sound
  book_parts =
      let b = sound_side Bid (bid_count w) (rows_from bids_at w) in
      let p = both (eqb (spare_word w) 0 && b) (sound_side Offer (offer_count w) (rows_from offers_at w)) y in
      let q = both (eqb (spare_word w) 0) b p.0 in
      (q.0, q.1, p.1)

  -- word 3 is zero
  pub spare_zero : spare_word w ≡ 0
  spare_zero = eqb-true (spare_word w) 0 book_parts.0

  -- the bid count is at most ten
  pub few_bids : bid_count w ≤ depth
  few_bids = side_few Bid (bid_count w) (rows_from bids_at w) book_parts.1

  -- the offer count is at most ten
  pub few_offers : offer_count w ≤ depth
  few_offers = side_few Offer (offer_count w) (rows_from offers_at w) book_parts.2

  -- its sides read by value can be walked on
  pub sides_padded : Sides (rows_in w) (counts_in w)
  sides_padded = record {
    bids = side_padded Bid (bid_count w) (rows_from bids_at w) book_parts.1 (rows_ten bids_at w);
    offers = side_padded Offer (offer_count w) (rows_from offers_at w) book_parts.2 (rows_ten offers_at w);
  }

  -- used bid rows have their price and orders words below 4,294,967,296
  pub bid_bounds : (i : ℕ) → i < bid_count w → ((get_or (rows_from bids_at w) i no_row).price < word32) × ((get_or (rows_from bids_at w) i no_row).orders < word32)
  bid_bounds i h = bounded_is (get_or (rows_from bids_at w) i no_row) (used_bounded Bid (bid_count w) (rows_from bids_at w) book_parts.1 (rows_ten bids_at w) i h)

  -- used offer rows have their price and orders words below 4,294,967,296
  pub offer_bounds : (i : ℕ) → i < offer_count w → ((get_or (rows_from offers_at w) i no_row).price < word32) × ((get_or (rows_from offers_at w) i no_row).orders < word32)
  offer_bounds i h = bounded_is (get_or (rows_from offers_at w) i no_row) (used_bounded Offer (offer_count w) (rows_from offers_at w) book_parts.2 (rows_ten offers_at w) i h)

  -- the book is sound by value
  pub book_of_sound : SoundBook (book_of w)
  book_of_sound = record {
    bids = side_rows Bid (bid_count w) (rows_from bids_at w) book_parts.1 (rows_ten bids_at w);
    offers = side_rows Offer (offer_count w) (rows_from offers_at w) book_parts.2 (rows_ten offers_at w);
  }
