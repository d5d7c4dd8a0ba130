-- Lines by the C calls (document 02, request 5). Each statement is proved in proofs/Lines, under its name with a small letter. Assumes nothing.
use Rattle.std.specs.Prelude.{ℕ, zero, suc, ◌+◌, ◌<◌, ◌≡◌, Bool, true, false, cond, not, ◌&&◌, List, [], ◌∷◌, ◌++◌, length, take, drop, T, eqb}
use Rattle.ground.specs.Choice.{one_of}
use Rattle.feed.specs.Feeds.{new_given, plain_badge}
use Rattle.feed.specs.Events.{Tables, Connect}
use Rattle.feed.specs.Steps.{accepted, state_of, outcome}
use Rattle.promises.specs.Refusals.{ending}
use Rattle.promises.specs.Runs.{Sizes, zeroed, tale, green, replay}
use Rattle.promises.specs.Ledger.{up_to}
use Rattle.promises.specs.NoHole.{kept}
use Rattle.promises.specs.Frames.{answers_in}
use Rattle.promises.specs.Scraps.{lined, scrap_said, scrap_answers, one_piece, LineAct, Links, Hears, end_line, line_run}
use Rattle.lines.specs.Scraps.{behind}
use Rattle.lines.specs.declared.Line.{Line}
use Rattle.screen.specs.Plain.{yes, link_of, feed_of, plain_given, line_of, plain_line, PlainHearing, plain_hearing}
use Rattle.screen.specs.Calls.{links_back, plain_silent, hears_back}
use Rattle.screen.specs.declared.MmdhFeed.{MmdhFeed}
use Rattle.screen.specs.declared.MmdhLine.{MmdhLine}

-- a line's numbers come back
abbrev pub LineComesBack : Type 0
LineComesBack = (l : Line) → line_of (plain_line l) ≡ l

-- mmdh_line_scrap unit by unit: called with 1 allowed, each time at the rest of the scrap, until none is said or one is refused
unfoldable pub plain_onward : List ℕ → ℕ → PlainHearing → PlainHearing
plain_onward scrap time y =
    let z : PlainHearing = hears_back y.heard.line y.tables y.hold (drop y.heard.used scrap) 1 time in
    plain_hearing
    (record {
      said = z.heard.said;
      answer = z.heard.answer;
      accepted = y.heard.accepted + z.heard.accepted;
      used = y.heard.used + z.heard.used;
      line = z.heard.line;
      dropped = y.heard.dropped + z.heard.dropped;
    })
    z.tables
    z.hold

unfoldable pub plain_through : ℕ → List ℕ → ℕ → PlainHearing → PlainHearing
plain_through zero scrap time y = y
plain_through (suc left) scrap time y =
    let z : PlainHearing = plain_onward scrap time y in
    cond (yes z.heard.said && accepted z.heard.answer) (plain_through left scrap time z) z

-- so each answer is seen, and a loop of such calls hands back what one call with so many allowed does, for any numbers
abbrev pub ScrapIsLoop : Type 0
ScrapIsLoop =
    (l : MmdhLine) (x : Tables) (hold scrap : List ℕ) (allowed time : ℕ)
    → hears_back l x hold scrap allowed time ≡ plain_through allowed scrap time (plain_hearing (plain_silent 0 l) x hold)

-- the answers that this loop is told, one by one ..
unfoldable pub plain_said : ℕ → List ℕ → ℕ → PlainHearing → List ℕ
plain_said zero scrap time y = []
plain_said (suc left) scrap time y =
    let z : PlainHearing = plain_onward scrap time y in
    cond (yes z.heard.said) (z.heard.answer ∷ cond (accepted z.heard.answer) (plain_said left scrap time z) []) []

-- .. are those of the events that the scrap is written out as
abbrev pub EachSaid : Type 0
EachSaid =
    (l : MmdhLine) (x : Tables) (hold scrap : List ℕ) (allowed time : ℕ)
    → plain_said allowed scrap time (plain_hearing (plain_silent 0 l) x hold) ≡ answers_in (scrap_said (lined (line_of l) x) hold scrap allowed time)

-- DEMAND 1 of the calls: any numbers, any words, any buffer, any bytes, any clock reading gets one of the numbered answers, and a scrap never 3
abbrev pub PlainLinesListed : Type 0
PlainLinesListed =
    (l : MmdhLine) (x : Tables) (hold scrap : List ℕ) (allowed resuming time : ℕ)
    → T (one_of (hears_back l x hold scrap allowed time).heard.answer scrap_answers)
    × T (one_of (links_back l hold (outcome (state_of (feed_of l.feed) x) (Connect (link_of resuming) time)).given).answer (10 ∷ 20 ∷ 22 ∷ 0 ∷ []))

-- DOCUMENT 02'S SENTENCE OF THE CALLS: what is seen after scraps, at each so many units allowed, from any numbers on
pub record PlainView : Type 0 where
  pub answers : List ℕ
  pub feed : MmdhFeed
  pub tables : Tables
  pub waiting : List ℕ
  pub dropping : ℕ

unfoldable pub plain_scraps : List ℕ → MmdhLine → Tables → List ℕ → List (List ℕ) → ℕ → ℕ → PlainView
plain_scraps answers l x hold [] allowed time = record { answers = answers; feed = l.feed; tables = x; waiting = take l.held hold; dropping = l.dropping }
plain_scraps answers l x hold (s ∷ ss) allowed time =
    let y : PlainHearing = hears_back l x hold s allowed time in
    plain_scraps (answers ++ plain_said allowed s time (plain_hearing (plain_silent 0 l) x hold)) y.heard.line y.tables y.hold ss allowed time

abbrev pub PlainAnyScraps : Type 0
PlainAnyScraps =
    (l : MmdhLine) (x : Tables) (hold s : List ℕ) (ss : List (List ℕ)) (allowed time : ℕ) → length (behind l.held hold (one_piece (s ∷ ss))) < allowed
    → plain_scraps [] l x hold (s ∷ ss) allowed time ≡ plain_scraps [] l x hold (one_piece (s ∷ ss) ∷ []) allowed time

-- document 02, request 6: nor does it change how many rows the calls say were dropped, in all
unfoldable pub plain_dropped : MmdhLine → Tables → List ℕ → List (List ℕ) → ℕ → ℕ → ℕ
plain_dropped l x hold [] allowed time = 0
plain_dropped l x hold (s ∷ ss) allowed time =
    let y : PlainHearing = hears_back l x hold s allowed time in
    y.heard.dropped + plain_dropped y.heard.line y.tables y.hold ss allowed time

abbrev pub PlainAnyScrapsDrop : Type 0
PlainAnyScrapsDrop =
    (l : MmdhLine) (x : Tables) (hold s : List ℕ) (ss : List (List ℕ)) (allowed time : ℕ) → length (behind l.held hold (one_piece (s ∷ ss))) < allowed
    → plain_dropped l x hold (s ∷ ss) allowed time ≡ plain_dropped l x hold (one_piece (s ∷ ss) ∷ []) allowed time

-- RUNS: mmdh_new, then mmdh_line_connect and mmdh_line_scrap with any buffers
pub record HeldLine : Type 0 where
  pub line : MmdhLine
  pub tables : Tables

pub data PlainLineAct : Type 0 where
  LinksBy : (hold : List ℕ) (resuming time : ℕ) → PlainLineAct
  HearsBy : (hold scrap : List ℕ) (allowed time : ℕ) → PlainLineAct

unfoldable pub plain_after_line : HeldLine → PlainLineAct → HeldLine
plain_after_line x (LinksBy hold resuming time) = record {
  line = (links_back x.line hold (outcome (state_of (feed_of x.line.feed) x.tables) (Connect (link_of resuming) time)).given).line;
  tables = x.tables;
}
plain_after_line x (HearsBy hold scrap allowed time) =
    let y : PlainHearing = hears_back x.line x.tables hold scrap allowed time in
    record { line = y.heard.line; tables = y.tables }

unfoldable pub plain_run_line : HeldLine → List PlainLineAct → HeldLine
plain_run_line x [] = x
plain_run_line x (a ∷ acts) = plain_run_line (plain_after_line x a) acts

unfoldable pub line_act_of : PlainLineAct → LineAct
line_act_of (LinksBy hold resuming time) = Links hold (link_of resuming) time
line_act_of (HearsBy hold scrap allowed time) = Hears hold scrap allowed time

unfoldable pub line_acts_of : List PlainLineAct → List LineAct
line_acts_of [] = []
line_acts_of (a ∷ acts) = line_act_of a ∷ line_acts_of acts

-- a new line: nothing waits, nothing is dropped
abbrev pub plain_new_line : ℕ → Sizes → HeldLine
plain_new_line limit n = record { line = record { feed = (plain_given (new_given limit)).feed; held = 0; dropping = 0 }; tables = zeroed n }

-- each is a run of a line's calls as the demands have it, number by number and word by word
abbrev pub IsLineRun : Type 0
IsLineRun =
    (limit : ℕ) (n : Sizes) (acts : List PlainLineAct)
    → ((plain_run_line (plain_new_line limit n) acts).line ≡ plain_line (end_line limit n (line_acts_of acts)).line)
    × ((plain_run_line (plain_new_line limit n) acts).tables ≡ (end_line limit n (line_acts_of acts)).tables)

-- whether mmdh_badge says green, of the line's feed
abbrev pub line_says_green : HeldLine → ℕ → Bool
line_says_green x time = eqb (plain_badge x.line.feed.phase x.line.feed.heard x.line.feed.limit time) 1

-- so demand 2: while it does, every counted message that went through the feed since the connect has been met, in its order, none left out
abbrev pub PlainLinesNoneLeftOut : Type 0
PlainLinesNoneLeftOut =
    (limit : ℕ) (n : Sizes) (acts : List PlainLineAct) (time : ℕ) → line_says_green (plain_run_line (plain_new_line limit n) acts) time ≡ true
    → ((kept limit n (line_run limit n (line_acts_of acts))).came ≡ (kept limit n (line_run limit n (line_acts_of acts))).met)
    × ((kept limit n (line_run limit n (line_acts_of acts))).met ≡ up_to (length (kept limit n (line_run limit n (line_acts_of acts))).met))

-- and demand 3: both tables are the replay, and mmdh_badge is green exactly when the history says so
abbrev pub PlainLinesReplayed : Type 0
PlainLinesReplayed =
    (limit : ℕ) (n : Sizes) (acts : List PlainLineAct)
    → (plain_run_line (plain_new_line limit n) acts).tables ≡ replay (tale limit n (line_run limit n (line_acts_of acts))).deeds (zeroed n)

abbrev pub PlainLinesGreen : Type 0
PlainLinesGreen =
    (limit : ℕ) (n : Sizes) (acts : List PlainLineAct) (time : ℕ)
    → line_says_green (plain_run_line (plain_new_line limit n) acts) time
    ≡ green (tale limit n (line_run limit n (line_acts_of acts))) (plain_new_line limit n).line.feed.limit time

-- THE MORNING by the calls: after a scrap answered 12 to 18 or 22 mmdh_badge does not say green at any time, whatever comes, as long as no
-- mmdh_line_connect is answered 0
unfoldable pub is_linked : HeldLine → PlainLineAct → Bool
is_linked x (LinksBy hold resuming time) =
    eqb (links_back x.line hold (outcome (state_of (feed_of x.line.feed) x.tables) (Connect (link_of resuming) time)).given).answer 0
is_linked x (HearsBy hold scrap allowed time) = false

unfoldable pub none_linked : HeldLine → List PlainLineAct → Bool
none_linked x [] = true
none_linked x (a ∷ acts) = not (is_linked x a) && none_linked (plain_after_line x a) acts

abbrev pub PlainLineStaysDark : Type 0
PlainLineStaysDark =
    (limit : ℕ) (n : Sizes) (acts : List PlainLineAct) (hold scrap : List ℕ) (allowed moment : ℕ) (more : List PlainLineAct) (time : ℕ)
    → let x : HeldLine = plain_run_line (plain_new_line limit n) acts in
    let lost : PlainLineAct = HearsBy hold scrap allowed moment in
    T (one_of (hears_back x.line x.tables hold scrap allowed moment).heard.answer ending)
    → T (none_linked (plain_after_line x lost) more)
    → line_says_green (plain_run_line (plain_after_line x lost) more) time ≡ false
