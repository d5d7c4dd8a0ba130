-- A side read at once and its rows read one by one (specs/Sides). Assumes nothing.
use Prim.Native.Nat.{ℕ, zero, suc, ◌+◌, ◌≤◌, ◌<◌}
use native.Mathlib.Omega.{arith}
use mathlib.Core.Path.{◌≡◌, refl, sym, ap, ◌∙◌}
use mathlib.Core.List.{List}
use borrow.Author.Tests.{lt-ltb, le-ltb, ne_eqb}
use Rattle.slots.specs.Layout as table
use Rattle.books.specs.Table.{books, place_in}
use Rattle.books.specs.Reading.{row_refused, read_row, level_of, side_answer, reads_from, row_count, side_by, read_side}
use Rattle.ladder.specs.Message.{depth}
use Rattle.books.specs.Code.Rows.{row_of_side}
use Rattle.books.specs.declared.Level.{Level}
use Rattle.books.specs.Reading.{RowRead}
use Rattle.books.specs.Reading.{SideRead}
use Rattle.books.proofs.Showing.{side_asked}
use Rattle.books.proofs.Sides.{OutOf, out_of, alike, level_is}
use Rattle.promises.specs.Sides as S
use Rattle.promises.specs.Sides.{Both, level_at, shown_at}

-- a row that is answered 0 is the row of its level
row_back : (x : RowRead) (l : Level) → x.answer ≡ 0 → l ≡ level_of x → ◌≡◌ {A = RowRead} x (record { answer = 0; price = l.price; quantity = l.quantity; orders = l.orders })
row_back x l e h = rw h (λ j. record { answer = e j; price = x.price; quantity = x.quantity; orders = x.orders })

there : (base n rank : ℕ) (w : List ℕ) → rank ≤ n → (row_of_side base n rank w).answer ≡ 0
unfolding row_of_side
there base n rank w h = rw (le-ltb n rank h)

beyond : (base n rank : ℕ) (w : List ℕ) → n < rank → row_of_side base n rank w ≡ row_refused 4
unfolding row_of_side
beyond base n rank w h = rw (lt-ltb n rank h)

answer_is : (c side : ℕ) (t : List ℕ) → (read_side c side t).answer ≡ side_answer c side t
unfolding read_side side_by
answer_is c side t = refl

-- of reads that all have an answer other than 0 none is counted
none_counted : (f : ℕ → RowRead) (n rank a : ℕ) → (a ≡ 0 → ⊥) → ((k : ℕ) → rank ≤ k → k < rank + n → (f k).answer ≡ a) → row_count (reads_from f n rank) ≡ 0
unfolding row_count reads_from
none_counted f zero rank a z h = refl
none_counted f (suc n) rank a z h =
    rw (h rank (omega arith) (omega arith), ne_eqb a 0 z, none_counted f n (rank + 1) a z (λ k l u. h k (omega arith) (omega arith)))

module _ (t : List ℕ) (c side rank : ℕ) (s : SideRead) (r : RowRead) (b : Both t c side rank s r) where
  answered : s.answer ≡ side_answer c side t
  answered = ap (λ (x : SideRead). x.answer) b.whole ∙ answer_is c side t

  level : level_at s rank ≡ level_of r
  level = ap (λ (x : SideRead). level_at x rank) b.whole ∙ level_is c side t rank b.low b.high ∙ ap level_of (sym b.single)

  tells : OutOf c side t → (rank ≤ s.count → r ≡ shown_at s rank) × (s.count < rank → r ≡ row_refused 4)
  tells o =
      let e : s.count ≡ o.n = ap (λ (x : SideRead). x.count) b.whole ∙ o.count in
      let q : r ≡ row_of_side o.base o.n rank o.words = b.single ∙ o.row rank b.low b.high in (
        λ h. row_back r (level_at s rank) (ap (λ (x : RowRead). x.answer) q ∙ there o.base o.n rank o.words (omega arith)) level,
        λ h. q ∙ beyond o.base o.n rank o.words (omega arith),
      )

no_rows_lem : (c side : ℕ) (t : List ℕ) → (side_answer c side t ≡ 0 → ⊥) → ((k : ℕ) → 1 ≤ k → k ≤ depth → read_row c side k t ≡ row_refused (side_answer c side t))
    → (read_side c side t).count ≡ 0
unfolding read_side side_by
no_rows_lem c side t z h =
    none_counted (λ rank. read_row c side rank t) depth 1 (side_answer c side t) z (λ k l u. ap (λ (x : RowRead). x.answer) (h k l (omega arith)))

pub side_tells : S.SideTells
side_tells t c side rank s r b z =
    tells t c side rank s r b
    (out_of c side t (side_asked c side) refl (place_in c t) refl (table.unsound_at books (place_in c t) t) refl (sym (answered t c side rank s r b) ∙ z))

pub side_refuses : S.SideRefuses
side_refuses t c side rank s r b n =
    let a : s.answer ≡ side_answer c side t = answered t c side rank s r b in
    let refused : (k : ℕ) → 1 ≤ k → k ≤ depth → read_row c side k t ≡ row_refused (side_answer c side t) =
    λ k l u. alike c side t k l u (side_asked c side) refl (place_in c t) refl (table.unsound_at books (place_in c t) t) refl (λ z. n (a ∙ z)) in
    let q : r ≡ row_refused s.answer = b.single ∙ refused rank b.low b.high ∙ ap row_refused (sym a) in
    (q, ap (λ (x : SideRead). x.count) b.whole ∙ no_rows_lem c side t (λ z. n (a ∙ z)) refused, level t c side rank s r b ∙ ap level_of q)
