-- Entries as they are read, judged and walked over (specs/Message, specs/Walk). Assumes nothing.
use Prim.Native.Nat.{ℕ, zero, suc, ◌+◌, ◌-◌, ◌*◌, ◌≤◌, ◌<◌}
use mathlib.Core.Path.{◌≡◌, refl, ap, sym, ◌∙◌, subst}
use mathlib.Core.Bool.{Bool, true, false, cond, ◌&&◌}
use mathlib.Core.List.{List, [], ◌∷◌, ◌++◌}
use mathlib.Core.Option.{Option, none, some, map, bind}
use native.Mathlib.Omega.{arith}
use lib.Dec.{eqb}
use lib.ListN.{length, take, drop, get_or, set, length-set, length-append, length-take, length-drop}
use lib.Seq.{get_or-set_same, get_or-set_other}
use borrow.Author.Rules.{rules}
use borrow.Author.Tests.{eq-eqb, ne_eqb}
use Rattle.std.specs.List.{list_all, range_with_len}
use Rattle.ground.specs.Choice.{one_of, pick, all}
use Rattle.ground.proofs.Bools.{cond_same, split}
use Rattle.slots.specs.Layout.{landed, misfit, or_as_it_was}
use Rattle.ladder.specs.Message.{depth, entry_size, entry_at, entries_from, no_entries, has_entries, entries, listed_entry, listed_side, listed_rank}
use Rattle.ladder.specs.Sides.{no_row, new_rows, change_rows, delete_rows, fits, rows_after, fell_from, was_dropped, on_side}
use Rattle.ladder.specs.Walk.{Book, empty_book, with_bids, with_offers, on_book, walk, fell_off, dropped, dropped_by, book_after, message_drops}
use Rattle.ladder.specs.Code.Arrays.{Side, live, Padded, side_at, as_book, Sides, empty_rows, empty_counts, way_of, fits_at, Applied, applied_by, applied_to}
use Rattle.ladder.specs.Code.Loading.{settled}
use Rattle.ladder.specs.Words.{no_rows, words_of}
use Rattle.ladder.specs.declared.Way.{Way}
use Rattle.ladder.specs.declared.Way.TheVariants.{Bid, Offer}
use Rattle.ladder.specs.declared.Row.{Row}
use Rattle.ladder.specs.declared.Entry.{Entry}
use Rattle.ladder.specs.declared.Applied as told
use Rattle.std.specs.Prelude.{is_some}
use Rattle.ladder.proofs.Pads.{live_n, live_of, padded_of}
use Rattle.ladder.proofs.Fits.{fits_is}

pub side_known : (x : ℕ) → x ≤ 1 → listed_side x ≡ true
unfolding listed_side one_of
side_known zero h = refl
side_known (suc zero) h = refl
side_known (suc (suc x)) h = absurd (omega arith)

pub side_unknown : (x : ℕ) → 1 < x → listed_side x ≡ false
unfolding listed_side one_of
side_unknown x h = rw (ne_eqb x 0 (λ e. omega arith), ne_eqb x 1 (λ e. omega arith))

-- the entries in 24-byte steps, each listed
pub each_listed : (a n : ℕ) (s : List ℕ) → list_all (λ i. listed_entry (entry_at (entry_size * i) s)) (range_with_len a n) ≡ all listed_entry (entries_from n (entry_size * a) s)
unfolding all entries_from
each_listed a zero s = refl
each_listed a (suc n) s =
    let t : entry_size * (a + 1) ≡ entry_size * a + entry_size = omega arith in
    ap (λ (b : Bool). listed_entry (entry_at (entry_size * a) s) && b) (each_listed (a + 1) n s ∙ ap (λ (at : ℕ). all listed_entry (entries_from n at s)) t)

-- the entries from the i-th on
pub rest : ℕ → ℕ → List ℕ → List Entry
rest n i s = entries_from (n - i) (entry_size * i) s

rest_none : (n i : ℕ) (s : List ℕ) → n ≤ i → rest n i s ≡ []
unfolding rest entries_from
rest_none n i s h =
    let e : n - i ≡ 0 = omega arith in
    ap (λ (k : ℕ). entries_from k (entry_size * i) s) e

rest_more : (n i : ℕ) (s : List ℕ) → i < n → rest n i s ≡ entry_at (entry_size * i) s ∷ rest n (i + 1) s
unfolding rest entries_from
rest_more n i s h =
    let e : n - i ≡ suc (n - (i + 1)) = omega arith in
    let t : entry_size * i + entry_size ≡ entry_size * (i + 1) = omega arith in
    ap (λ (k : ℕ). entries_from k (entry_size * i) s) e ∙ ap (λ (a : ℕ). entry_at (entry_size * i) s ∷ entries_from (n - (i + 1)) a s) t

rest_all : (n : ℕ) (s : List ℕ) → rest n 0 s ≡ entries_from n 0 s
unfolding rest
rest_all n s =
    let e : n - 0 ≡ n = omega arith in
    ap (λ (k : ℕ). entries_from k 0 s) e

-- at most ten rows stay at most ten
pub after_few : (e : Entry) (s : List Row) → length s ≤ depth → length (rows_after e s) ≤ depth
unfolding rows_after pick new_rows change_rows delete_rows
after_few e s h =
    let P : List Row → Type 0 = λ l. length l ≤ depth in
    split P (eqb e.action 0) _ _
    (λ a. rw (length-take depth (take (e.level - 1) s ++ (e.row ∷ drop (e.level - 1) s))) (omega arith))
    (λ a. split P (eqb e.action 1) _ _
    (λ b. rw (length-set s (e.level - 1) (record { price = (get_or s (e.level - 1) no_row).price; quantity = e.row.quantity; orders = e.row.orders })) h)
    (λ b. split P (eqb e.action 2) _ _
    (λ c. rw (length-append (take (e.level - 1) s) (drop e.level s), length-take, length-drop) (omega arith))
    (λ c. h)))

-- what one entry does to a book, by the tests that the walk makes
module _ (time : ℕ) (e : Entry) (b : Book) where
  on_clear : e.action ≡ 74 → on_book time e b ≡ some empty_book
  unfolding on_book
  on_clear a = rw (eq-eqb e.action 74 a)

  pub no_side : (e.action ≡ 74 → ⊥) → 1 < e.side → on_book time e b ≡ none
  unfolding on_book pick
  no_side a d = rw (ne_eqb e.action 74 a, ne_eqb e.side 0 (λ z. omega arith), ne_eqb e.side 1 (λ z. omega arith))

  -- a rank that is not listed fits neither side
  no_rank : (e.action ≡ 74 → ⊥) → listed_rank e.level ≡ false → on_book time e b ≡ none
  unfolding on_book on_side fits pick
  no_rank a r = rw (ne_eqb e.action 74 a, r) (ap (cond (eqb e.side 0) none) (cond_same (eqb e.side 1) none) ∙ cond_same (eqb e.side 0) none)

-- a clear drops no row
fell_clear : (e : Entry) (b : Book) → e.action ≡ 74 → fell_off e b ≡ none
unfolding fell_off
fell_clear e b a = rw (eq-eqb e.action 74 a)

-- two sides, of which side k is the one that an entry is for
module _ (rows : List (List Row)) (counts : List ℕ) (two : (length rows ≡ 2) × (length counts ≡ 2)) where
  -- the book with one of them set
  set_bids : (x : List Row) (n : ℕ) → as_book (set rows 0 x) (set counts 0 n) ≡ with_bids (as_book rows counts) (take n x)
  set_bids x n =
      rw (get_or-set_same rows 0 x [] (omega (arith, two)), get_or-set_same counts 0 n 0 (omega (arith, two)), get_or-set_other rows 0 1 x [] (λ e. omega arith), get_or-set_other counts 0 1 n 0 (λ e. omega arith))

  set_offers : (x : List Row) (n : ℕ) → as_book (set rows 1 x) (set counts 1 n) ≡ with_offers (as_book rows counts) (take n x)
  set_offers x n =
      rw (get_or-set_same rows 1 x [] (omega (arith, two)), get_or-set_same counts 1 n 0 (omega (arith, two)), get_or-set_other rows 1 0 x [] (λ e. omega arith), get_or-set_other counts 1 0 n 0 (λ e. omega arith))

  set_sides : (k : ℕ) (x : List Row) (n : ℕ) → k ≤ 1 → Sides rows counts → Padded (record { n = n; rows = x }) → Sides (set rows k x) (set counts k n)
  set_sides zero x n h p q = record {
    bids = rw (get_or-set_same rows 0 x [] (omega (arith, two)), get_or-set_same counts 0 n 0 (omega (arith, two))) q;
    offers = rw (get_or-set_other rows 0 1 x [] (λ e. omega arith), get_or-set_other counts 0 1 n 0 (λ e. omega arith)) p.offers;
  }
  set_sides (suc zero) x n h p q = record {
    bids = rw (get_or-set_other rows 1 0 x [] (λ e. omega arith), get_or-set_other counts 1 0 n 0 (λ e. omega arith)) p.bids;
    offers = rw (get_or-set_same rows 1 x [] (omega (arith, two)), get_or-set_same counts 1 n 0 (omega (arith, two))) q;
  }
  set_sides (suc (suc k)) x n h p q = absurd (omega arith)

  -- the book after an entry that fits, and after one that does not
  on_side_lem : (time : ℕ) (e : Entry) (k : ℕ) (x : List Row) (n : ℕ) → (e.action ≡ 74 → ⊥) → e.side ≡ k → k ≤ 1 → fits (way_of k) e (live (side_at k rows counts)) ≡ true
      → take n x ≡ rows_after e (live (side_at k rows counts)) → on_book time e (as_book rows counts) ≡ some (as_book (set rows k x) (set counts k n))
  unfolding on_book on_side pick
  on_side_lem time e zero x n a d h f q = rw (ne_eqb e.action 74 a, eq-eqb e.side 0 d, f, set_bids x n, q)
  on_side_lem time e (suc zero) x n a d h f q = rw (ne_eqb e.action 74 a, ne_eqb e.side 0 (λ z. omega arith), eq-eqb e.side 1 d, f, set_offers x n, q)
  on_side_lem time e (suc (suc k)) x n a d h f q = absurd (omega arith)

  not_side : (time : ℕ) (e : Entry) (k : ℕ) → (e.action ≡ 74 → ⊥) → e.side ≡ k → k ≤ 1 → fits (way_of k) e (live (side_at k rows counts)) ≡ false → on_book time e (as_book rows counts) ≡ none
  unfolding on_book on_side pick
  not_side time e zero a d h f = rw (ne_eqb e.action 74 a, eq-eqb e.side 0 d, f)
  not_side time e (suc zero) a d h f = rw (ne_eqb e.action 74 a, ne_eqb e.side 0 (λ z. omega arith), eq-eqb e.side 1 d, f)
  not_side time e (suc (suc k)) a d h f = absurd (omega arith)

  -- the row dropped is one of that side
  fell_side : (e : Entry) (k : ℕ) → (e.action ≡ 74 → ⊥) → e.side ≡ k → k ≤ 1 → fell_off e (as_book rows counts) ≡ fell_from e (live (side_at k rows counts))
  unfolding fell_off pick
  fell_side e zero a d h = rw (ne_eqb e.action 74 a, eq-eqb e.side 0 d)
  fell_side e (suc zero) a d h = rw (ne_eqb e.action 74 a, ne_eqb e.side 0 (λ z. omega arith), eq-eqb e.side 1 d)
  fell_side e (suc (suc k)) a d h = absurd (omega arith)

-- an empty book's sides
pub empty_sides : Sides empty_rows empty_counts
unfolding no_rows
empty_sides = record { bids = padded_of [] (omega arith); offers = padded_of [] (omega arith) }

pub no_sides : (rows : List (List Row)) → rows ≡ empty_rows → Sides rows empty_counts
no_sides rows e = rw e empty_sides

-- each of the two sides is padded
pub side_padded : (rows : List (List Row)) (counts : List ℕ) (k : ℕ) → Sides rows counts → k ≤ 1 → Padded (side_at k rows counts)
side_padded rows counts zero p h = p.bids
side_padded rows counts (suc zero) p h = p.offers
side_padded rows counts (suc (suc k)) p h = absurd (omega arith)

-- what is left of the walk from the i-th entry on comes to what all of it does; the rows dropped so far and those that the rest drops are all that are
pub record Walking (time : ℕ) (s : List ℕ) (n : ℕ) (rows₀ : List (List Row)) (counts₀ : List ℕ) (rows : List (List Row)) (counts : List ℕ) (d i : ℕ) : Type 0 where
  pub upto : i ≤ n
  pub room : entry_size * n ≤ length s
  pub two : (length rows ≡ 2) × (length counts ≡ 2)
  pub sides : Sides rows counts
  pub same : walk time (rest n i s) (as_book rows counts) ≡ walk time (entries_from n 0 s) (as_book rows₀ counts₀)
  pub few : d ≤ i
  pub tally : d + dropped time (rest n i s) (as_book rows counts) ≡ dropped time (entries_from n 0 s) (as_book rows₀ counts₀)

pub walk_starts : (time : ℕ) (s : List ℕ) (n : ℕ) (rows : List (List Row)) (counts : List ℕ) → Sides rows counts → entry_size * n ≤ length s
    → length rows ≡ 2 → length counts ≡ 2 → Walking time s n rows counts rows counts 0 0
walk_starts time s n rows counts p q r c = record {
  upto = omega arith;
  room = q;
  two = (r, c);
  sides = p;
  same = ap (λ (es : List Entry). walk time es (as_book rows counts)) (rest_all n s);
  few = omega arith;
  tally = omega (arith, ap (λ (es : List Entry). dropped time es (as_book rows counts)) (rest_all n s));
}

module _ (time : ℕ) (s : List ℕ) (n c : ℕ) (rows₀ : List (List Row)) (counts₀ : List ℕ) (rows : List (List Row)) (counts : List ℕ) (d i : ℕ)
    (p : Walking time s n rows₀ counts₀ rows counts d i) (h : n ≤ i) where
  ended : walk time (entries_from n 0 s) (as_book rows₀ counts₀) ≡ some (as_book rows counts)
  unfolding walk
  ended = sym p.same ∙ ap (λ (es : List Entry). walk time es (as_book rows counts)) (rest_none n i s h)

  pub walk_ends : (w₀ u : List ℕ) → u ≡ words_of c (as_book rows counts) → landed 0 u ≡ settled c (walk time (entries_from n 0 s) (as_book rows₀ counts₀)) w₀
  walk_ends w₀ u e = rw (ended, e)

  pub ends_count : d ≡ dropped_by time (entries_from n 0 s) (as_book rows₀ counts₀)
  unfolding dropped misfit
  ends_count =
      let none : dropped time (rest n i s) (as_book rows counts) ≡ 0 = ap (λ (es : List Entry). dropped time es (as_book rows counts)) (rest_none n i s h) in
      rw ended (omega (arith, none, p.tally))

-- the test on numbers told whether the entry fits its side
pub fits_told : (rows : List (List Row)) (counts : List ℕ) (e : Entry) (way : Way) (t f : Bool) (up : ℕ) → Sides rows counts → e.side ≤ 1 → 1 ≤ e.level → e.level ≤ depth → way ≡ way_of e.side → up ≡ e.level - 2
    → f ≡ fits_at way e.action (get_or counts e.side 0) e.level (get_or (get_or rows e.side []) up no_row).price (get_or (get_or rows e.side []) (e.level - 1) no_row).price e.row.price → f ≡ t
    → fits (way_of e.side) e (live (side_at e.side rows counts)) ≡ t
fits_told rows counts e way t f up p k a b y u q r =
    fits_is (way_of e.side) (side_at e.side rows counts) e (side_padded rows counts e.side p k) a b ∙ rw (← u, ← y) (sym q ∙ r)

module _ (time : ℕ) (s : List ℕ) (n : ℕ) (rows₀ : List (List Row)) (counts₀ : List ℕ) (rows : List (List Row)) (counts : List ℕ) (d i : ℕ)
    (p : Walking time s n rows₀ counts₀ rows counts d i) (h : i < n) (e : Entry) (q : e ≡ entry_at (entry_size * i) s) where
  one_more : bind (on_book time e (as_book rows counts)) (walk time (rest n (i + 1) s)) ≡ walk time (entries_from n 0 s) (as_book rows₀ counts₀)
  unfolding walk
  one_more = rw q (sym (ap (λ (es : List Entry). walk time es (as_book rows counts)) (rest_more n i s h)) ∙ p.same)

  one_tally : d + (cond (was_dropped (fell_off e (as_book rows counts))) 1 0 + dropped time (rest n (i + 1) s) (or_as_it_was (on_book time e (as_book rows counts)) (as_book rows counts)))
      ≡ dropped time (entries_from n 0 s) (as_book rows₀ counts₀)
  unfolding dropped
  one_tally = rw q (sym (ap (λ (es : List Entry). d + dropped time es (as_book rows counts)) (rest_more n i s h)) ∙ p.tally)

  goes : (rows' : List (List Row)) (counts' : List ℕ) (b : Bool) → (length rows' ≡ 2) × (length counts' ≡ 2) → Sides rows' counts' → on_book time e (as_book rows counts) ≡ some (as_book rows' counts')
      → b ≡ was_dropped (fell_off e (as_book rows counts)) → Walking time s n rows₀ counts₀ rows' counts' (d + cond b 1 0) (i + 1)
  unfolding bind or_as_it_was
  goes rows' counts' b two sides f g = record {
    upto = omega arith;
    room = p.room;
    two = two;
    sides = sides;
    same = rw f at one_more;
    few = go b;
    tally =
        let t : d + (cond b 1 0 + dropped time (rest n (i + 1) s) (as_book rows' counts')) ≡ dropped time (entries_from n 0 s) (as_book rows₀ counts₀) = rw g (rw f at one_tally) in
        omega (arith, t);
  }
    where
      go : (b : Bool) → d + cond b 1 0 ≤ i + 1
      go true = omega (arith, p.few)
      go false = omega (arith, p.few)

  -- an entry that does not fit ends it
  ends : on_book time e (as_book rows counts) ≡ none → walk time (entries_from n 0 s) (as_book rows₀ counts₀) ≡ none
  unfolding bind
  ends f = sym (rw f at one_more)

  pub stops : (c : ℕ) (w : List ℕ) → on_book time e (as_book rows counts) ≡ none
      → (landed 16 w ≡ settled c (walk time (entries_from n 0 s) (as_book rows₀ counts₀)) w) × (0 ≡ dropped_by time (entries_from n 0 s) (as_book rows₀ counts₀))
  unfolding misfit
  stops c w f = (
    ap (λ (o : Option Book). settled c o w) (sym (ends f)),
    sym (ap (λ (o : Option Book). cond (misfit o) 0 (dropped time (entries_from n 0 s) (as_book rows₀ counts₀))) (ends f)),
  )

  pub walk_clear : (rows' : List (List Row)) (counts' : List ℕ) → e.action ≡ 74 → rows' ≡ empty_rows → counts' ≡ empty_counts → Walking time s n rows₀ counts₀ rows' counts' d (i + 1)
  unfolding was_dropped
  walk_clear rows' counts' a r c =
      let none : d + 0 ≡ d = omega arith in
      subst (λ (k : ℕ). Walking time s n rows₀ counts₀ rows' counts' k (i + 1)) none
      (rw (r, c) (goes empty_rows empty_counts false (refl, refl) empty_sides (on_clear time e (as_book rows counts) a) (sym (ap was_dropped (fell_clear e (as_book rows counts) a)))))

  pub walk_side : (a : told.Applied) (k : ℕ) → (e.action ≡ 74 → ⊥) → e.side ≤ 1 → fits (way_of e.side) e (live (side_at e.side rows counts)) ≡ true
      → applied_by a ≡ applied_to e (live (side_at e.side rows counts)) → k ≡ cond (is_some a.last) 1 0
      → Walking time s n rows₀ counts₀ (set rows e.side a.rows) (set counts e.side a.count) (d + k) (i + 1)
  walk_side a k z u f ea ek =
      let side : Side = side_at e.side rows counts in
      let l : List Row = rows_after e (live side) in
      let pad = side_padded rows counts e.side p.sides u in
      let few = after_few e (live side) (omega (arith, live_n side pad, pad.few)) in
      let er : a.rows ≡ take depth (l ++ no_rows) = ap (λ (x : Applied). x.rows) ea in
      let ec : a.count ≡ length l = ap (λ (x : Applied). x.count) ea in
      let ed : is_some a.last ≡ was_dropped (fell_from e (live side)) = ap (λ (x : Applied). x.dropped) ea in
      rw (ek, er, ec, ed)
      (goes (set rows e.side (take depth (l ++ no_rows))) (set counts e.side (length l)) (was_dropped (fell_from e (live side)))
      (length-set rows e.side (take depth (l ++ no_rows)) ∙ p.two.0, length-set counts e.side (length l) ∙ p.two.1)
      (set_sides rows counts p.two e.side (take depth (l ++ no_rows)) (length l) u p.sides (padded_of l few))
      (on_side_lem rows counts p.two time e e.side (take depth (l ++ no_rows)) (length l) z refl u f (live_of l few))
      (sym (ap was_dropped (fell_side rows counts p.two e e.side z refl u))))

  pub side_fits : e.side ≤ 1 → fits (way_of e.side) e (live (side_at e.side rows counts)) ≡ true
      → Padded (side_at e.side rows counts) × (fits (way_of e.side) e (live (side_at e.side rows counts)) ≡ true)
  side_fits u f = (side_padded rows counts e.side p.sides u, f)

  pub count_few : e.side ≤ 1 → get_or counts e.side 0 ≤ depth
  count_few u = (side_padded rows counts e.side p.sides u).few

  pub none_rank : (e.action ≡ 74 → ⊥) → listed_rank e.level ≡ false → on_book time e (as_book rows counts) ≡ none
  none_rank a r = no_rank time e (as_book rows counts) a r

  pub none_fits : (e.action ≡ 74 → ⊥) → e.side ≤ 1 → fits (way_of e.side) e (live (side_at e.side rows counts)) ≡ false → on_book time e (as_book rows counts) ≡ none
  none_fits a u f = not_side rows counts p.two time e e.side a refl u f

pub ruleset walking = (rules, walk_starts, walk_ends, ends_count, walk_clear, count_few, stops)

-- at most ten rows a side, of a book and of what may be a book
abbrev pub Few : Book → Type 0
Few b = (length b.bids ≤ depth) × (length b.offers ≤ depth)

abbrev pub FewIn : Option Book → Type 0
FewIn none = Unit {0}
FewIn (some b) = Few b

pub few_on : (time : ℕ) (e : Entry) (b : Book) → Few b → FewIn (on_book time e b)
unfolding on_book on_side pick
few_on time e b h =
    split FewIn (eqb e.action 74) _ _ (λ a. (omega arith, omega arith))
    (λ a. split FewIn (eqb e.side 0) _ _
    (λ d. split (λ (o : Option (List Row)). FewIn (map (with_bids b) o)) (fits Bid e b.bids) _ _ (λ f. (after_few e b.bids h.0, h.1)) (λ f. tt))
    (λ d. split FewIn (eqb e.side 1) _ _
    (λ d. split (λ (o : Option (List Row)). FewIn (map (with_offers b) o)) (fits Offer e b.offers) _ _ (λ f. (h.0, after_few e b.offers h.1)) (λ f. tt))
    (λ d. tt)))

few_walk : (time : ℕ) (es : List Entry) (b : Book) → Few b → FewIn (walk time es b)
unfolding walk bind
few_walk time [] b h = h
few_walk time (e ∷ es) b h = go (on_book time e b) (few_on time e b h) (few_walk time es)
  where
    go : (o : Option Book) → FewIn o → ((c : Book) → Few c → FewIn (walk time es c)) → FewIn (bind o (walk time es))
    go none f k = tt
    go (some c) f k = k c f

-- the walk keeps at most ten rows a side
pub walk_few : (time : ℕ) (es : List Entry) (b b' : Book) → walk time es b ≡ some b' → Few b → Few b'
walk_few time es b b' e h = subst FewIn e (few_walk time es b h)

-- a message: what its walk keeps, and an empty book has, the book has that it leaves
pub after_keeps : (P : Book → Type 0) (time : ℕ) (m : List ℕ) (b b' : Book) → book_after time m b ≡ some b' → (walk time (entries m) b ≡ some b' → P b')
    → P empty_book → P b'
unfolding or_as_it_was
after_keeps P time m b b' e walked empty = go (has_entries m) e
  where
    go : (more : Bool) → cond more (walk time (entries m) b) (some empty_book) ≡ some b' → P b'
    go true e = walked e
    go false e = subst P (ap (λ (r : Option Book). or_as_it_was r empty_book) e) empty

-- and so does a message
pub book_few : (time : ℕ) (m : List ℕ) (b b' : Book) → Few b → book_after time m b ≡ some b' → Few b'
book_few time m b b' h e = after_keeps Few time m b b' e (λ w. walk_few time (entries m) b b' w h) (omega arith, omega arith)

-- entries drop at most a row each, and a message at most as many as it has entries
dropped_few : (time : ℕ) (es : List Entry) (b : Book) → dropped time es b ≤ length es
unfolding dropped
dropped_few time [] b = omega arith
dropped_few time (e ∷ es) b = go (was_dropped (fell_off e b)) (dropped_few time es (or_as_it_was (on_book time e b) b))
  where
    go : (x : Bool) → dropped time es (or_as_it_was (on_book time e b) b) ≤ length es → cond x 1 0 + dropped time es (or_as_it_was (on_book time e b) b) ≤ suc (length es)
    go true h = omega arith
    go false h = omega arith

count_entries : (n at : ℕ) (s : List ℕ) → length (entries_from n at s) ≡ n
unfolding entries_from
count_entries zero at s = refl
count_entries (suc n) at s = ap suc (count_entries n (at + entry_size) s)

pub drops_few : (time : ℕ) (m : List ℕ) (b : Book) → message_drops time m b ≤ no_entries m
drops_few time m b = go (has_entries m)
  where
    go : (x : Bool) → cond x (dropped time (entries m) b) 0 ≤ no_entries m
    go true = omega (arith, dropped_few time (entries m) b, count_entries (no_entries m) 0 (drop 12 m))
    go false = omega arith
