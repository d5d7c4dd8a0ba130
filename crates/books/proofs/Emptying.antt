-- A book message with no entries (document 02, request 1): every word after it, and that the book then looks empty. Assumes nothing.
use Prim.Native.Nat.{ℕ, ◌-◌}
use mathlib.Core.Path.{◌≡◌, refl, ap, ◌∙◌}
use mathlib.Core.Logic.{inl}
use mathlib.Core.Bool.{true, false, ◌&&◌, false≢true}
use mathlib.Core.List.{List, [], ◌∷◌}
use native.Mathlib.Omega.{arith}
use lib.Dec.{leb, ltb, eqb}
use lib.ListN.{replicate}
use borrow.Author.Tests.{lt-ltb, leb-true}
use Rattle.ground.specs.Choice.{first}
use Rattle.ground.proofs.Bools.{both, cond_same}
use Rattle.slots.specs.Slots.{put, flat}
use Rattle.slots.specs.Layout.{unsound_at, value_at, stepped, written}
use Rattle.slots.specs.declared.Slot.{Slot}
use Rattle.slots.specs.declared.Slot.TheVariants.{Held, Free, Full}
use Rattle.slots.proofs.Frame.{write_own}
use Rattle.wire.specs.Codes.{security_code, listed_code}
use Rattle.ladder.specs.Message.{has_entries, listed_side, listed_rank}
use Rattle.ladder.specs.Walk.{Book, empty_book, book_after}
use Rattle.ladder.specs.Words.{book_width, book_of, no_rows, side_words, words_of}
use Rattle.ladder.specs.declared.Row.{Row}
use Rattle.books.specs.Table.{books, place_in, books_after}
use Rattle.books.specs.Reading.{no_book, read_answer, row_refused, read_row}
use Rattle.books.proofs.Lawful.{lawful}

-- an empty book's words: the code, and zeros
pub empty_words : (c : ℕ) → words_of c empty_book ≡ c ∷ replicate (book_width - 1) 0
unfolding words_of side_words no_rows flat
empty_words c = refl

module _ (time : ℕ) (m t : List ℕ) (none : has_entries m ≡ false) where
  abbrev c : ℕ
  c = security_code m

  abbrev after : List ℕ
  after = books_after time m t

  -- in the slot that the code has
  emptied_in : (k : ℕ) → place_in c t ≡ Held k → after ≡ put book_width k (words_of c empty_book) t
  unfolding books_after stepped written
  emptied_in k e = rw (e, book_after, none)

  pub emptied_held : (k : ℕ) → place_in c t ≡ Held k → after ≡ put book_width k (c ∷ replicate (book_width - 1) 0) t
  emptied_held k e = emptied_in k e ∙ ap (λ (w : List ℕ). put book_width k w t) (empty_words c)

  -- and no word where it has none
  no_book_lem : (p : Slot) → place_in c t ≡ p → no_book p ≡ true → after ≡ t
  unfolding books_after stepped written no_book
  no_book_lem (Held k) e n = absurd (false≢true n)
  no_book_lem (Free k) e n = rw (e, book_after, none)
  no_book_lem Full e n = rw (e, book_after, none)

  pub emptied_none : ((k : ℕ) → place_in c t ≡ Held k → ⊥) → after ≡ t
  unfolding no_book
  emptied_none n = go (place_in c t) refl
    where
      go : (p : Slot) → place_in c t ≡ p → after ≡ t
      go (Held k) e = absurd (n k e)
      go (Free k) e = no_book_lem (Free k) e refl
      go Full e = no_book_lem Full e refl

  -- so no row of it can be read: 4 at every rank of both sides
  module _ (side rank : ℕ) (asked : listed_code c && listed_side side && listed_rank rank ≡ true) where
    in_slot : (k : ℕ) → place_in c t ≡ Held k → read_row c side rank after ≡ row_refused 4
    unfolding read_row read_answer first no_book unsound_at value_at listed_rank
    in_slot k e =
        let w = write_own books.most books.width c k t (inl e) (words_of c empty_book) (lawful.whole c empty_book) (lawful.opens c empty_book) in
        let sound = lawful.sounds c empty_book lawful.well_empty in
        let back : book_of (words_of c empty_book) ≡ empty_book = lawful.back c empty_book lawful.fit_empty in
        let bids : (book_of (words_of c empty_book)).bids ≡ [] = ap (λ (b : Book). b.bids) back in
        let offers : (book_of (words_of c empty_book)).offers ≡ [] = ap (λ (b : Book). b.offers) back in
        let ranked = (both (leb 1 rank) (leb rank 10) (both (listed_code c && listed_side side) (listed_rank rank) asked).1).0 in
        let short : ltb 0 rank ≡ true = lt-ltb 0 rank (omega (arith, leb-true 1 rank ranked)) in
        rw (emptied_in k e, asked, w.0, w.1, sound, bids, offers, cond_same {A = List Row} (eqb side 0) [], short)

    nowhere : (p : Slot) → place_in c t ≡ p → no_book p ≡ true → read_row c side rank after ≡ row_refused 4
    unfolding read_row read_answer first
    nowhere p e n = rw (no_book_lem p e n, asked, e, n)

    pub looks_empty_lem : read_row c side rank after ≡ row_refused 4
    unfolding no_book
    looks_empty_lem = go (place_in c t) refl
      where
        go : (p : Slot) → place_in c t ≡ p → read_row c side rank after ≡ row_refused 4
        go (Held k) e = in_slot k e
        go (Free k) e = nowhere (Free k) e refl
        go Full e = nowhere Full e refl
