-- An entry that fits, and a message, leave a sound book sound (specs/Walk, specs/Loading). Assumes nothing.
use Prim.Native.Nat.{ℕ, zero, suc, ◌+◌, ◌-◌, ◌≤◌}
use mathlib.Core.Path.{◌≡◌, refl, sym, subst}
use mathlib.Core.Bool.{Bool, true, false, not, ◌&&◌, ◌||◌, false≢true}
use mathlib.Core.List.{List, [], ◌∷◌, ◌++◌}
use mathlib.Core.Option.{Option, none, some, map, bind}
use native.Mathlib.Omega.{arith}
use lib.Dec.{T, ltb, leb, eqb}
use lib.ListN.{length, take, drop, length-set, length-take}
use borrow.Author.Tests.{lt-ltb, le-leb, leb-true, eqb-true}
use Rattle.ground.specs.Choice.{pick, all}
use Rattle.wire.specs.Number.{field, biased, bytes_only, word32}
use Rattle.ground.proofs.Bools.{both, join, split}
use Rattle.ground.proofs.Choices.{all_set}
use Rattle.wire.proofs.Fields.{field_below}
use Rattle.ladder.specs.Message.{depth, entry_size, entries_at, entry_at, entries_from, entries, listed_rank}
use Rattle.ladder.specs.Sides.{better, no_row, row_at, has, new_fits, new_rows, change_fits, change_rows, delete_fits, delete_rows, fits, rows_after, on_side}
use Rattle.ladder.specs.Walk.{Book, empty_book, with_bids, with_offers, on_book, walk, book_after}
use Rattle.ladder.specs.Words.{best_first, bounded, SoundRows, SoundBook}
use Rattle.ladder.specs.declared.Way.{Way}
use Rattle.ladder.specs.declared.Way.TheVariants.{Bid, Offer}
use Rattle.ladder.specs.declared.Row.{Row}
use Rattle.ladder.specs.declared.Entry.{Entry}
use Rattle.ladder.proofs.Shift.{ins, length_del}
use Rattle.ladder.proofs.Fits.{fit_rank}
use Rattle.ladder.proofs.Walks.{after_keeps}
use Rattle.ladder.proofs.Orders.{best_take, best_ins, best_set, best_del, all_take, all_ins, all_del}

-- a side of no rows is sound
none_sound : (w : Way) → SoundRows w []
unfolding all best_first
none_sound w = record { few = omega arith; words = refl; best = refl }

-- an empty book is sound
pub empty_sound : SoundBook empty_book
empty_sound = record { bids = none_sound Bid; offers = none_sound Offer }

-- where a row is there, its test passes
or_not : (a b : Bool) → a ≡ true → (not a || b) ≡ true → b ≡ true
or_not true b p e = e
or_not false b p e = absurd (false≢true p)

module _ (w : Way) (s : List Row) (p : SoundRows w s) where
  -- a new row
  new_sound : (k : ℕ) (r : Row) → 1 ≤ k → new_fits w k r s ≡ true → bounded r ≡ true → SoundRows w (new_rows k r s)
  unfolding new_fits new_rows has
  new_sound k r one h b =
      let above : Bool = not (has s (k - 1)) || better w (row_at s (k - 1)).price r.price in
      let below : Bool = not (has s k) || better w r.price (row_at s k).price in
      let t = both (leb k (length s + 1) && above) below h in
      let u = both (leb k (length s + 1)) above t.0 in
      let n : k ≤ length s + 1 = leb-true k (length s + 1) u.0 in
      record {
        few = rw length-take (omega arith);
        words = all_take bounded depth (ins (k - 1) r s) (all_ins bounded (k - 1) r s b p.words);
        best =
            best_take w depth (ins (k - 1) r s)
            (best_ins w (k - 1) r s (omega arith) p.best
            (λ q. or_not (leb 1 (k - 1) && leb (k - 1) (length s)) _ (join _ _ (le-leb 1 (k - 1) q) (le-leb (k - 1) (length s) (omega arith))) u.1)
            (λ q. or_not (leb 1 k && leb k (length s)) _ (join _ _ (le-leb 1 k one) (le-leb k (length s) (omega arith))) t.1));
      }

  -- a changed row
  change_sound : (k : ℕ) (r : Row) → change_fits k r s ≡ true → bounded r ≡ true → SoundRows w (change_rows k r s)
  unfolding change_fits change_rows bounded
  change_sound k r h b =
      let x = (row_at s k).price in
      let q : r.price ≡ x = eqb-true r.price x (both (leb k (length s)) (eqb r.price x) h).1 in
      let r' : Row = record { price = x; quantity = r.quantity; orders = r.orders } in
      record {
        few = rw length-set p.few;
        words = all_set bounded (k - 1) r' s (subst (λ (y : ℕ). ltb y word32 && ltb r.orders word32 ≡ true) q b) p.words;
        best = best_set w (k - 1) r' s refl p.best;
      }

  -- a deleted row
  delete_sound : (k : ℕ) → 1 ≤ k → delete_fits k s ≡ true → SoundRows w (delete_rows k s)
  unfolding delete_fits delete_rows
  delete_sound k one h =
      let e : k ≡ suc (k - 1) = omega arith in
      let n : k ≤ length s = leb-true k (length s) h in
      subst (λ (m : ℕ). SoundRows w (take (k - 1) s ++ drop m s)) (sym e) (record {
        few = omega (arith, length_del no_row s (k - 1) (omega arith), p.few);
        words = all_del bounded (k - 1) s p.words;
        best = best_del w (k - 1) s p.best;
      })

-- an entry that fits leaves its side sound
pub rows_after_sound : (w : Way) (e : Entry) (s : List Row) → fits w e s ≡ true → SoundRows w s → bounded e.row ≡ true → SoundRows w (rows_after e s)
unfolding fits rows_after pick
rows_after_sound w e s h p b =
    let one = (fit_rank w e s h).0 in
    let t = (both (listed_rank e.level) _ h).1 in
    split (SoundRows w) (eqb e.action 0) _ _ (λ a. new_sound w s p e.level e.row one (rw a at t) b)
    (λ a. split (SoundRows w) (eqb e.action 1) _ _ (λ c. change_sound w s p e.level e.row (rw (a, c) at t) b)
    (λ c. split (SoundRows w) (eqb e.action 2) _ _ (λ d. delete_sound w s p e.level one (rw (a, c, d) at t)) (λ d. p)))

-- what holds of what is there
abbrev Holds : {A : Type 0} → (A → Type 0) → Option A → Type 0
Holds P none = Unit {0}
Holds P (some x) = P x

-- a side after an entry
side_sound : (w : Way) (e : Entry) (s : List Row) → SoundRows w s → bounded e.row ≡ true → Holds (SoundRows w) (on_side w e s)
unfolding on_side
side_sound w e s p b = split (Holds (SoundRows w)) (fits w e s) (some (rows_after e s)) none (λ h. rows_after_sound w e s h p b) (λ h. tt)

-- of what is made of it
map_holds : {A B : Type 0} (P : A → Type 0) (Q : B → Type 0) (f : A → B) → ((x : A) → P x → Q (f x)) → (o : Option A) → Holds P o → Holds Q (map f o)
map_holds P Q f k none p = tt
map_holds P Q f k (some x) p = k x p

-- a book after an entry
entry_holds : (time : ℕ) (e : Entry) (b : Book) → SoundBook b → bounded e.row ≡ true → Holds SoundBook (on_book time e b)
unfolding on_book pick
entry_holds time e b p f =
    split (Holds SoundBook) (eqb e.action 74) _ _ (λ a. empty_sound)
    (λ a. split (Holds SoundBook) (eqb e.side 0) _ _
    (λ c. map_holds (SoundRows Bid) SoundBook (with_bids b) (λ s q. record { bids = q; offers = p.offers }) (on_side Bid e b.bids) (side_sound Bid e b.bids p.bids f))
    (λ c. split (Holds SoundBook) (eqb e.side 1) _ _
    (λ d. map_holds (SoundRows Offer) SoundBook (with_offers b) (λ s q. record { bids = p.bids; offers = q }) (on_side Offer e b.offers) (side_sound Offer e b.offers p.offers f))
    (λ d. tt)))

-- of what comes after it
bind_holds : {A : Type 0} (P : A → Type 0) (f : A → Option A) (o : Option A) → Holds P o → ((x : A) → P x → Holds P (f x)) → Holds P (bind o f)
unfolding bind
bind_holds P f none p k = tt
bind_holds P f (some x) p k = k x p

-- the row of an entry is bounded
abbrev pub bounded_entry : Entry → Bool
bounded_entry e = bounded e.row

-- a book after entries
walk_holds : (time : ℕ) (es : List Entry) (b : Book) → SoundBook b → all bounded_entry es ≡ true → Holds SoundBook (walk time es b)
unfolding walk all
walk_holds time [] b p h = p
walk_holds time (e ∷ es) b p h =
    let t = both (bounded_entry e) (all bounded_entry es) h in
    bind_holds SoundBook (walk time es) (on_book time e b) (entry_holds time e b p t.0) (λ x q. walk_holds time es x q t.1)

-- entries leave a sound book sound
pub walk_sound : (time : ℕ) (es : List Entry) (b b' : Book) → walk time es b ≡ some b' → SoundBook b → all bounded_entry es ≡ true → SoundBook b'
walk_sound time es b b' q p h = subst (Holds SoundBook) q (walk_holds time es b p h)

-- bytes behind some bytes are bytes
pub bytes_drop : (k : ℕ) (s : List ℕ) → T (bytes_only s) → T (bytes_only (drop k s))
unfolding all
bytes_drop zero s h = h
bytes_drop (suc k) [] h = h
bytes_drop (suc k) (x ∷ s) h = bytes_drop k s (go (ltb x 256) (bytes_only s) h)
  where
    go : (a b : Bool) → T (a && b) → T b
    go true b h = h
    go false b h = absurd h

-- an entry read from bytes is bounded
pub entry_bounded : (at : ℕ) (s : List ℕ) → T (bytes_only s) → bounded_entry (entry_at at s) ≡ true
unfolding bounded biased
entry_bounded at s h =
    join (ltb (biased (field (at + 8) 4 s)) word32) (ltb (field (at + 12) 4 s) word32)
    (lt-ltb (biased (field (at + 8) 4 s)) word32 (omega arith))
    (lt-ltb (field (at + 12) 4 s) word32 (field_below (at + 12) 4 s h))

-- and so are n of them
from_bounded : (n at : ℕ) (s : List ℕ) → T (bytes_only s) → all bounded_entry (entries_from n at s) ≡ true
unfolding all entries_from
from_bounded zero at s h = refl
from_bounded (suc n) at s h = join (bounded_entry (entry_at at s)) (all bounded_entry (entries_from n (at + entry_size) s)) (entry_bounded at s h) (from_bounded n (at + entry_size) s h)

-- all entries of a message of bytes are bounded
pub entries_bounded : (m : List ℕ) → T (bytes_only m) → all bounded_entry (entries m) ≡ true
entries_bounded m h = from_bounded (field 11 1 m) 0 (drop entries_at m) (bytes_drop entries_at m h)

-- a message of bytes leaves a sound book sound
pub book_sound : (time : ℕ) (m : List ℕ) (b b' : Book) → T (bytes_only m) → SoundBook b → book_after time m b ≡ some b' → SoundBook b'
book_sound time m b b' h p q = after_keeps SoundBook time m b b' q (λ w. walk_sound time (entries m) b b' w p (entries_bounded m h)) empty_sound
