-- The contracts of the exported calls as the prover has them, as border/proofs/Contracts has those of the calls that they hand on to:
-- they ask nothing, and any two outcomes that one of them allows are the same. To weaken a contract, or to leave it out, breaks one of these. Assumes nothing.
use mathlib.Core.Path.{◌≡◌, sym, ap, ◌∙◌}
use mathlib.Core.List.{[]}
use Rattle.feed.specs.Steps.{lent}
use Rattle.screen.specs.Plain.{PlainOut, PlainFramed, PlainHearing}
use Rattle.screen_c.proofs.mmdh_new.Reads as new
use Rattle.screen_c.proofs.mmdh_connect.Reads as connect
use Rattle.screen_c.proofs.mmdh_arrive.Reads as arrive
use Rattle.screen_c.proofs.mmdh_arrive_frame.Reads as arrive-frame
use Rattle.screen_c.proofs.mmdh_arrive_cut.Reads as arrive-cut
use Rattle.screen_c.proofs.mmdh_line_connect.Reads as line-connect
use Rattle.screen_c.proofs.mmdh_line_scrap.Reads as line-scrap
use Rattle.screen_c.proofs.mmdh_badge.Reads as badge
use Rattle.screen_c.proofs.mmdh_why.Reads as why
use Rattle.screen_c.proofs.mmdh_read_row.Reads as read-row
use Rattle.screen_c.proofs.mmdh_read_side.Reads as read-side
use Rattle.screen_c.proofs.mmdh_read_strip.Reads as read-strip
use Rattle.screen_c.proofs.mmdh_password.Reads as password
use Rattle.screen_c.proofs.mmdh_version.Reads as version

-- nothing is asked of who calls
pub new_asks : (κs : _) (a : _) → new.Asked κs a
new_asks κs a = tt

pub connect_asks : (κs : _) (a : _) → connect.Asked κs a
connect_asks κs a = tt

pub arrive_asks : (κs : _) (a : _) → arrive.Asked κs a
arrive_asks κs a = tt

pub arrive_frame_asks : (κs : _) (a : _) → arrive-frame.Asked κs a
arrive_frame_asks κs a = tt

pub arrive_cut_asks : (κs : _) (a : _) → arrive-cut.Asked κs a
arrive_cut_asks κs a = tt

pub line_connect_asks : (κs : _) (a : _) → line-connect.Asked κs a
line_connect_asks κs a = tt

pub line_scrap_asks : (κs : _) (a : _) → line-scrap.Asked κs a
line_scrap_asks κs a = tt

pub badge_asks : (κs : _) (a : _) → badge.Asked κs a
badge_asks κs a = tt

pub why_asks : (κs : _) (a : _) → why.Asked κs a
why_asks κs a = tt

pub read_row_asks : (κs : _) (a : _) → read-row.Asked κs a
read_row_asks κs a = tt

pub read_side_asks : (κs : _) (a : _) → read-side.Asked κs a
read_side_asks κs a = tt

pub read_strip_asks : (κs : _) (a : _) → read-strip.Asked κs a
read_strip_asks κs a = tt

pub password_asks : (κs : _) (a : _) → password.Asked κs a
password_asks κs a = tt

pub version_asks : (κs : _) (a : _) → version.Asked κs a
version_asks κs a = tt

-- two outcomes are one: the numbers handed back, and where a table is lent every word of it, and every byte of a holding buffer
pub new_one : (κs : _) (a : _) (r r' : _) (x x' : _) → new.Learnt κs a r x → new.Learnt κs a r' x' → r ≡ r'
new_one κs a r r' x x' p q = p ∙ sym q

pub connect_one : (κs : _) (a : _) (r r' : _) (x x' : _) → connect.Learnt κs a r x → connect.Learnt κs a r' x' → r ≡ r'
connect_one κs a r r' x x' p q = ap (λ (o : PlainOut). o.given) (p (lent [] []) ∙ sym (q (lent [] [])))

pub arrive_one : (κs : _) (a : _) (r r' : _) (x x' : _) → arrive.Learnt κs a r x → arrive.Learnt κs a r' x'
    → (r ≡ r') × (x.1.0.now ≡ x'.1.0.now) × (x.1.1.0.now ≡ x'.1.1.0.now)
arrive_one κs a r r' x x' p q = (ap (λ (o : PlainOut). o.given) (p ∙ sym q), ap (λ (o : PlainOut). o.tables.books) (p ∙ sym q), ap (λ (o : PlainOut). o.tables.strips) (p ∙ sym q))

pub arrive_frame_one : (κs : _) (a : _) (r r' : _) (x x' : _) → arrive-frame.Learnt κs a r x → arrive-frame.Learnt κs a r' x'
    → (r ≡ r') × (x.1.0.now ≡ x'.1.0.now) × (x.1.1.0.now ≡ x'.1.1.0.now)
arrive_frame_one κs a r r' x x' p q =
    (ap (λ (o : PlainFramed). o.frame) (p ∙ sym q), ap (λ (o : PlainFramed). o.tables.books) (p ∙ sym q), ap (λ (o : PlainFramed). o.tables.strips) (p ∙ sym q))

pub arrive_cut_one : (κs : _) (a : _) (r r' : _) (x x' : _) → arrive-cut.Learnt κs a r x → arrive-cut.Learnt κs a r' x'
    → (r ≡ r') × (x.1.0.now ≡ x'.1.0.now) × (x.1.1.0.now ≡ x'.1.1.0.now)
arrive_cut_one κs a r r' x x' p q = (ap (λ (o : PlainOut). o.given) (p ∙ sym q), ap (λ (o : PlainOut). o.tables.books) (p ∙ sym q), ap (λ (o : PlainOut). o.tables.strips) (p ∙ sym q))

pub line_connect_one : (κs : _) (a : _) (r r' : _) (x x' : _) → line-connect.Learnt κs a r x → line-connect.Learnt κs a r' x' → r ≡ r'
line_connect_one κs a r r' x x' p q = p (lent [] []) ∙ sym (q (lent [] []))

pub line_scrap_one : (κs : _) (a : _) (r r' : _) (x x' : _) → line-scrap.Learnt κs a r x → line-scrap.Learnt κs a r' x'
    → (r ≡ r') × (x.1.0.now ≡ x'.1.0.now) × (x.1.1.0.now ≡ x'.1.1.0.now) × (x.1.1.1.0.now ≡ x'.1.1.1.0.now)
line_scrap_one κs a r r' x x' p q =
    (ap (λ (o : PlainHearing). o.heard) (p ∙ sym q), ap (λ (o : PlainHearing). o.tables.books) (p ∙ sym q), ap (λ (o : PlainHearing). o.tables.strips) (p ∙ sym q), ap (λ (o : PlainHearing). o.hold) (p ∙ sym q))

pub badge_one : (κs : _) (a : _) (r r' : _) (x x' : _) → badge.Learnt κs a r x → badge.Learnt κs a r' x' → r ≡ r'
badge_one κs a r r' x x' p q = p ∙ sym q

pub why_one : (κs : _) (a : _) (r r' : _) (x x' : _) → why.Learnt κs a r x → why.Learnt κs a r' x' → r ≡ r'
why_one κs a r r' x x' p q = p ∙ sym q

pub read_row_one : (κs : _) (a : _) (r r' : _) (x x' : _) → read-row.Learnt κs a r x → read-row.Learnt κs a r' x' → r ≡ r'
read_row_one κs a r r' x x' p q = p ∙ sym q

pub read_side_one : (κs : _) (a : _) (r r' : _) (x x' : _) → read-side.Learnt κs a r x → read-side.Learnt κs a r' x' → r ≡ r'
read_side_one κs a r r' x x' p q = p ∙ sym q

pub read_strip_one : (κs : _) (a : _) (r r' : _) (x x' : _) → read-strip.Learnt κs a r x → read-strip.Learnt κs a r' x' → r ≡ r'
read_strip_one κs a r r' x x' p q = p ∙ sym q

pub password_one : (κs : _) (a : _) (r r' : _) (x x' : _) → password.Learnt κs a r x → password.Learnt κs a r' x' → r ≡ r'
password_one κs a r r' x x' p q = p ∙ sym q

pub version_one : (κs : _) (a : _) (r r' : _) (x x' : _) → version.Learnt κs a r x → version.Learnt κs a r' x' → r ≡ r'
version_one κs a r r' x x' p q = p ∙ sym q
