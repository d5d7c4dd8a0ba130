-- What the code of reading a row comes to, return by return (specs/Reading). Assumes nothing.
use Prim.Native.Nat.{ℕ, zero, suc, ◌+◌, ◌-◌, ◌*◌, ◌≤◌, ◌<◌}
use native.Mathlib.Omega.{arith}
use mathlib.Core.Path.{◌≡◌, refl, sym, ap, ◌∙◌, subst}
use mathlib.Core.Bool.{Bool, true, false, cond, ◌&&◌}
use mathlib.Core.List.{List, [], ◌∷◌}
use native.Mathlib.Decide.{dec_lt}
use Rattle.ground.proofs.Bools.{both}
use types.Run
use denote.Enum.Declared
use lib.Dec.{leb, ltb, eqb}
use lib.ListN.{length, take, drop, get_or}
use lib.Seq.{length-take-le, get_or-take}
use borrow.Author.Tests.{lt-ltb, le-ltb, leb-true}
use Rattle.ground.specs.Choice.{first}
use Rattle.wire.specs.Number.{word32}
use Rattle.slots.specs.Layout as table
use Rattle.slots.specs.declared.Slot.{Slot}
use Rattle.slots.specs.declared.Slot.TheVariants.{Held, Free, Full}
use Rattle.slots.specs.contracts.Slot as slot'
use Rattle.wire.specs.Codes.{listed_code}
use Rattle.ladder.specs.Message.{depth, listed_side, listed_rank}
use Rattle.ladder.specs.Sides.{no_row}
use Rattle.ladder.specs.Words.{bid_count, offer_count, bids_at, offers_at, row_width, row_of, rows_from, sound}
use Rattle.ladder.specs.declared.Row.{Row}
use Rattle.ladder.proofs.Walks.{side_known, side_unknown}
use Rattle.ladder.proofs.Loads.{rows_ten, row_is}
use Rattle.ladder.proofs.Tells.{few_bids, few_offers, bid_bounds, offer_bounds}
use Rattle.books.specs.Table.{place_in, block}
use Rattle.books.specs.Reading.{no_book, read_answer, row_refused, row_shown, read_row}
use Rattle.books.specs.Code.Rows.{side_no, row_read, row_of_side, row_of_book}
use Rattle.books.specs.Reading.{RowRead, level_of}
use Rattle.books.specs.declared.Level.{Level}
use Rattle.std.specs.Prelude.{Result, Ok, Err, MatchResult}
use Rattle.ground.specs.Refusals.{refusal_no}
use Rattle.ground.specs.declared.Refusal.{Refusal}
use Rattle.ground.specs.declared.Refusal.TheVariants.{Unlisted, Unsound}
use Rattle.ladder.specs.Code.Arrays.{way_of}
use Rattle.ladder.specs.Code.Loading.{count_at, rows_at, count_in}
use Rattle.ladder.specs.declared.Way.{Way}
use Rattle.ladder.specs.declared.Way.TheVariants.{Bid, Offer}
use Rattle.books.proofs.Turning.{turning}

-- code and side, and rank
abbrev pub side_asked : ℕ → ℕ → Bool
side_asked c side = listed_code c && listed_side side

abbrev pub asked : ℕ → ℕ → ℕ → Bool
asked c side rank = listed_code c && listed_side side && listed_rank rank

-- a side's number is that of its way
way_side : (side : ℕ) → side ≤ 1 → side ≡ side_no (way_of side)
way_side zero h = refl
way_side (suc zero) h = refl
way_side (suc (suc side)) h = absurd (omega arith)

-- what is asked for is listed, or not
abbrev pub Asked : ℕ → ℕ → Result Way Refusal → Type 0
Asked c side r = MatchResult r (λ way. (side_asked c side ≡ true) × (side ≡ side_no way)) (λ e. (side_asked c side ≡ false) × (e ≡ Unlisted))

pub no_code_asked : (c side : ℕ) (a : Bool) → a ≡ listed_code c → a ≡ false → (side_asked c side ≡ false) × (Unlisted ≡ Unlisted)
no_code_asked c side a e n = (rw (sym e ∙ n), refl)

pub code_asked : (c side : ℕ) (a : Bool) (r : Result Way Refusal) → a ≡ listed_code c → a ≡ true
    → MatchResult r (λ way. (side ≤ 1) × (way ≡ way_of side)) (λ e. (1 < side) × (e ≡ Unlisted)) → Asked c side r
code_asked c side a (Ok way) e y h = (rw (sym e ∙ y, side_known side h.0), rw h.1 (way_side side h.0))
code_asked c side a (Err x) e y h = (rw (sym e ∙ y, side_unknown side h.0), h.1)

-- a row of a side
pub no_such : (way : Way) (at rank : ℕ) (w : List ℕ) → at ≡ count_at way → get_or w at 0 < rank → row_refused 4 ≡ row_of_side (rows_at way) (count_in way w) rank w
unfolding row_of_side
no_such way at rank w e h =
    let n : count_in way w < rank = subst (λ (k : ℕ). get_or w k 0 < rank) e h in
    rw (lt-ltb (count_in way w) rank n)

-- a row of a side of a book that is sound
way_price : (way : Way) (w : List ℕ) (rank : ℕ) → sound w ≡ true → 1 ≤ rank → rank ≤ depth → rank ≤ count_in way w → (row_of (drop (rows_at way + row_width * (rank - 1)) w)).price < word32
way_price Bid w rank y low high h = subst (λ (r : Row). r.price < word32) (row_is bids_at w (rank - 1) (omega arith)) (bid_bounds w y (rank - 1) (omega arith)).0
way_price Offer w rank y low high h = subst (λ (r : Row). r.price < word32) (row_is offers_at w (rank - 1) (omega arith)) (offer_bounds w y (rank - 1) (omega arith)).0

module _ (way : Way) (w : List ℕ) (rank at base : ℕ) (r : Row) (y : sound w ≡ true) (ask : (1 ≤ rank) × (rank ≤ depth)) (ea : at ≡ count_at way) (h : rank ≤ get_or w at 0)
    (eb : base ≡ rows_at way) (e : r ≡ row_of (drop (base + row_width * (rank - 1)) w)) where
  rank_in : rank ≤ count_in way w
  rank_in = subst (λ (k : ℕ). rank ≤ get_or w k 0) ea h

  row_in : r ≡ row_of (drop (rows_at way + row_width * (rank - 1)) w)
  row_in = e ∙ ap (λ (b : ℕ). row_of (drop (b + row_width * (rank - 1)) w)) eb

  pub row_bound : r.price < word32
  row_bound = subst (λ (x : Row). x.price < word32) (sym row_in) (way_price way w rank y ask.0 ask.1 rank_in)

  pub row_shown_lem : (l : Level) → l ≡ level_of (row_shown r) → row_read (Ok l) ≡ row_of_side (rows_at way) (count_in way w) rank w
  unfolding row_of_side
  row_shown_lem l q = rw (q, row_in, le-ltb (count_in way w) rank rank_in)

-- a row of a book
book_row : (way : Way) (w : List ℕ) (rank : ℕ) → sound w ≡ true → row_of_side (rows_at way) (count_in way w) rank w ≡ row_of_book (side_no way) rank w
unfolding row_of_book
book_row Bid w rank y = rw y
book_row Offer w rank y = rw y

book_unsound : (w : List ℕ) (side rank : ℕ) → sound w ≡ false → row_refused 18 ≡ row_of_book side rank w
unfolding row_of_book
book_unsound w side rank n = rw n

-- a row of the table
pub read_unasked : (c side rank : ℕ) (t : List ℕ) (a : Bool) (x : RowRead) → a ≡ asked c side rank → a ≡ false → x ≡ row_refused 15 → x ≡ read_row c side rank t
unfolding read_row read_answer first
read_unasked c side rank t a x e n h = h ∙ rw (sym e ∙ n)

pub no_book_read : (c side rank : ℕ) (t : List ℕ) → asked c side rank ≡ true → (p : Slot) → place_in c t ≡ p → no_book p ≡ true → row_refused 4 ≡ read_row c side rank t
unfolding read_row read_answer first
no_book_read c side rank t a p e n = rw (a, e, n)

-- of a code, a side or a rank that is not listed
pub unlisted_side : (c side rank : ℕ) (t : List ℕ) (e : Refusal) → (side_asked c side ≡ false) × (e ≡ Unlisted) → row_refused (refusal_no e) ≡ read_row c side rank t
unlisted_side c side rank t e h = rw h.1 (read_unasked c side rank t (asked c side rank) (row_refused 15) refl (rw h.0) refl)

pub unlisted_rank : (c side rank : ℕ) (t : List ℕ) (b : Bool) → side_asked c side ≡ true → b ≡ listed_rank rank → b ≡ false → row_refused 15 ≡ read_row c side rank t
unlisted_rank c side rank t b a e n = read_unasked c side rank t (asked c side rank) (row_refused 15) refl (rw (a, sym e ∙ n)) refl

-- of a code that has no book
pub read_none : (c side rank : ℕ) (t : List ℕ) (b : Bool) (f : Slot) → side_asked c side ≡ true → b ≡ listed_rank rank → b ≡ true → f ≡ place_in c t
    → Run.OneOf (1 ∷ 2 ∷ []) (Declared.tag_of slot'.the_type f) → row_refused 4 ≡ read_row c side rank t
unfolding no_book
read_none c side rank t b (Held k) a e y ef o = absurd (Run.miss (1 ∷ 2 ∷ []) 0 tt o)
read_none c side rank t b (Free k) a e y ef o = no_book_read c side rank t (rw (a, sym e ∙ y)) (Free k) (sym ef) refl
read_none c side rank t b Full a e y ef o = no_book_read c side rank t (rw (a, sym e ∙ y)) Full (sym ef) refl

-- the row by the side's own rows is the row by its words
side_read : (base n rank : ℕ) (w : List ℕ) → n ≤ depth → 1 ≤ rank → rank ≤ depth
    → cond (eqb (cond (ltb (length (take n (rows_from base w))) rank) 4 0) 0) (row_shown (get_or (take n (rows_from base w)) (rank - 1) no_row))
    (row_refused (cond (ltb (length (take n (rows_from base w))) rank) 4 0))
    ≡ row_of_side base n rank w
unfolding row_of_side
side_read base n rank w h low high =
    let long : length (take n (rows_from base w)) ≡ n = length-take-le n (rows_from base w) (omega (arith, rows_ten base w)) in
    rw long (go (dec_lt n rank))
  where
    go : Dec (n < rank)
        → cond (eqb (cond (ltb n rank) 4 0) 0) (row_shown (get_or (take n (rows_from base w)) (rank - 1) no_row)) (row_refused (cond (ltb n rank) 4 0))
        ≡ cond (ltb n rank) (row_refused 4) (row_shown (row_of (drop (base + row_width * (rank - 1)) w)))
    go (yes a) = rw (lt-ltb n rank a)
    go (no a) = rw (le-ltb n rank (omega arith), get_or-take n (rows_from base w) (rank - 1) no_row (omega arith), row_is base w (rank - 1) (omega arith))

pub held_row : (c side rank k : ℕ) (t : List ℕ) → asked c side rank ≡ true → 1 ≤ rank → rank ≤ depth → place_in c t ≡ Held k → (y : Bool) → sound (block k t) ≡ y → (b : Bool) → eqb side 0 ≡ b
    → read_row c side rank t ≡ row_of_book side rank (block k t)
unfolding read_row read_answer row_of_book no_book table.unsound_at table.value_at first
held_row c side rank k t a low high e false ey b eb = rw (a, e, ey)
held_row c side rank k t a low high e true ey true eb = rw (a, e, ey, eb) (side_read bids_at (bid_count (block k t)) rank (block k t) (few_bids (block k t) ey) low high)
held_row c side rank k t a low high e true ey false eb = rw (a, e, ey, eb) (side_read offers_at (offer_count (block k t)) rank (block k t) (few_offers (block k t) ey) low high)

rank_is : (rank : ℕ) → listed_rank rank ≡ true → (1 ≤ rank) × (rank ≤ depth)
unfolding listed_rank
rank_is rank e =
    let q = both (leb 1 rank) (leb rank depth) e in
    (leb-true 1 rank q.0, leb-true rank depth q.1)

pub rank_within : (rank : ℕ) (b : Bool) → b ≡ listed_rank rank → b ≡ true → (1 ≤ rank) × (rank ≤ depth)
rank_within rank b e y = rank_is rank (sym e ∙ y)

-- of a code's own book
module _ (c side rank k : ℕ) (t w : List ℕ) (b : Bool) (f : Slot) (way : Way) (a : (side_asked c side ≡ true) × (side ≡ side_no way)) (e : b ≡ listed_rank rank) (y : b ≡ true)
    (ef : f ≡ place_in c t) (h : f ≡ Held k) (ew : w ≡ block k t) where
  row_held : row_of_book (side_no way) rank w ≡ read_row c side rank t
  row_held =
      let r = rank_is rank (sym e ∙ y) in
      ap (row_of_book (side_no way) rank) ew ∙ ap (λ (n : ℕ). row_of_book n rank (block k t)) (sym a.1)
      ∙ sym (held_row c side rank k t (rw (a.0, sym e ∙ y)) r.0 r.1 (sym ef ∙ h) (sound (block k t)) refl (eqb side 0) refl)

  pub read_held : (v : List ℕ) (x : RowRead) → sound v ≡ true → v ≡ w → x ≡ row_of_side (rows_at way) (count_in way v) rank v → x ≡ read_row c side rank t
  read_held v x s ev q = q ∙ book_row way v rank s ∙ ap (row_of_book (side_no way) rank) ev ∙ row_held

  pub read_unsound : (u : Refusal) → (sound w ≡ false) × (u ≡ Unsound) → row_refused (refusal_no u) ≡ read_row c side rank t
  read_unsound u n = rw n.1 (book_unsound w (side_no way) rank n.0 ∙ row_held)

pub ruleset showing = (
  turning,
  no_code_asked,
  code_asked,
  no_such,
  row_bound,
  row_shown_lem,
  unlisted_side,
  unlisted_rank,
  read_none,
  rank_within,
)
