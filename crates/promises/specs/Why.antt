-- The badge and its reason: proved in proofs/Why. Assumes nothing.
use Rattle.std.specs.Prelude.{ℕ, ◌≡◌}
use Rattle.feed.specs.Feeds.{badge_no, badge, plain_badge}
use Rattle.feed.specs.Reasons.{why, plain_why, badge_by}
use Rattle.feed.specs.declared.Phase.{Phase}

-- the reason tells the badge: green exactly if it is 0 (live), filling exactly if it is 2, 3 or 4 (waiting), stale otherwise
abbrev pub WhyTells : Type 0
WhyTells = (p : Phase) (heard limit time : ℕ) → badge_no (badge p heard limit time) ≡ badge_by (why p heard limit time)

-- the same of plain numbers, as mmdh_badge and mmdh_why have them
abbrev pub PlainWhyTells : Type 0
PlainWhyTells = (phase heard limit time : ℕ) → plain_badge phase heard limit time ≡ badge_by (plain_why phase heard limit time)
