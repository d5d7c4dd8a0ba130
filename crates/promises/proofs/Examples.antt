-- The cases hold: of each list, no case is wrong. Assumes nothing.
use mathlib.Core.Path.{◌≡◌, refl}
use mathlib.Core.List.{[]}
use Rattle.promises.specs.Checks.{wrong}
use Rattle.promises.specs.Desk as Desk
use Rattle.promises.specs.Section6 as Section6
use Rattle.promises.specs.Answering as Answering
use Rattle.promises.specs.Phases as Phases
use Rattle.promises.specs.Statuses as Statuses
use Rattle.promises.specs.Sizes as Sizes
use Rattle.promises.specs.Entries as Entries
use Rattle.promises.specs.Widths as Widths
use Rattle.promises.specs.Tables as Tables
use Rattle.promises.specs.Emptied as Emptied
use Rattle.promises.specs.Strips as Strips
use Rattle.feed.specs.declared.Phase.TheVariants.{WaitKey, WaitLogon, Refreshing, Live}
use Rattle.promises.specs.Traps as Traps
use Rattle.promises.specs.Mornings as Mornings
use Rattle.promises.specs.Repaints as Repaints
use Rattle.promises.specs.Torn as Torn
use Rattle.promises.specs.Fallen as Fallen
use Rattle.promises.specs.Passwords as Passwords
use Rattle.promises.proofs.Computes.{computes}

pub desk_hold : wrong Desk.desk ≡ []
unfolding computes
desk_hold = refl

pub section6_hold : wrong Section6.section6 ≡ []
unfolding computes
section6_hold = refl

pub new_feeds_hold : wrong Answering.new_feeds ≡ []
unfolding computes
new_feeds_hold = refl

pub connects_hold : wrong Answering.connects ≡ []
unfolding computes
connects_hold = refl

pub answers_hold : wrong Answering.answers ≡ []
unfolding computes
answers_hold = refl

pub cuts_hold : wrong Answering.cuts ≡ []
unfolding computes
cuts_hold = refl

pub order_hold : wrong Answering.order ≡ []
unfolding computes
order_hold = refl

pub in_idle_hold : wrong Phases.in_idle ≡ []
unfolding computes
in_idle_hold = refl

pub in_wait_key_hold : wrong Phases.in_wait_key ≡ []
unfolding computes
in_wait_key_hold = refl

pub in_wait_logon_hold : wrong Phases.in_wait_logon ≡ []
unfolding computes
in_wait_logon_hold = refl

pub in_refreshing_hold : wrong Phases.in_refreshing ≡ []
unfolding computes
in_refreshing_hold = refl

pub in_live_hold : wrong Phases.in_live ≡ []
unfolding computes
in_live_hold = refl

pub in_lost_hold : wrong Phases.in_lost ≡ []
unfolding computes
in_lost_hold = refl

pub in_closed_hold : wrong Phases.in_closed ≡ []
unfolding computes
in_closed_hold = refl

pub whole_hold : wrong Phases.whole ≡ []
unfolding computes
whole_hold = refl

pub logons_hold : wrong Statuses.logons ≡ []
unfolding computes
logons_hold = refl

pub others_hold : wrong Statuses.others ≡ []
unfolding computes
others_hold = refl

pub all_statuses_hold : wrong Statuses.all_statuses ≡ []
unfolding computes
all_statuses_hold = refl

pub more_hold : wrong Sizes.more ≡ []
unfolding computes
more_hold = refl

pub heartbeats_hold : wrong Sizes.heartbeats ≡ []
unfolding computes
heartbeats_hold = refl

pub tiny_hold : wrong Sizes.tiny ≡ []
unfolding computes
tiny_hold = refl

pub sizes_hold : wrong Sizes.sizes ≡ []
unfolding computes
sizes_hold = refl

pub types_hold : wrong Sizes.types ≡ []
unfolding computes
types_hold = refl

pub sequence_hold : wrong Sizes.sequence ≡ []
unfolding computes
sequence_hold = refl

pub news_hold : wrong Entries.news ≡ []
unfolding computes
news_hold = refl

pub changes_hold : wrong Entries.changes ≡ []
unfolding computes
changes_hold = refl

pub deletes_hold : wrong Entries.deletes ≡ []
unfolding computes
deletes_hold = refl

pub walks_hold : wrong Entries.walks ≡ []
unfolding computes
walks_hold = refl

pub widths_hold : wrong Widths.widths ≡ []
unfolding computes
widths_hold = refl

pub lengths_hold : wrong Tables.lengths ≡ []
unfolding computes
lengths_hold = refl

pub slots_hold : wrong Tables.slots ≡ []
unfolding computes
slots_hold = refl

pub sounds_hold : wrong Tables.sounds ≡ []
unfolding computes
sounds_hold = refl

pub rows_hold : wrong Tables.rows ≡ []
unfolding computes
rows_hold = refl

pub emptied_live_hold : wrong Emptied.live ≡ []
unfolding computes
emptied_live_hold = refl

pub emptied_live_without_hold : wrong Emptied.live_without ≡ []
unfolding computes
emptied_live_without_hold = refl

pub emptied_refreshing_hold : wrong Emptied.refreshing ≡ []
unfolding computes
emptied_refreshing_hold = refl

pub emptied_refreshing_without_hold : wrong Emptied.refreshing_without ≡ []
unfolding computes
emptied_refreshing_without_hold = refl

pub emptied_around_hold : wrong Emptied.around ≡ []
unfolding computes
emptied_around_hold = refl

pub emptied_days_hold : wrong Emptied.days ≡ []
unfolding computes
emptied_days_hold = refl

pub strip_firsts_live_hold : wrong (Strips.firsts Live 8 8) ≡ []
unfolding computes
strip_firsts_live_hold = refl

pub strip_firsts_refreshing_hold : wrong (Strips.firsts Refreshing 0 7) ≡ []
unfolding computes
strip_firsts_refreshing_hold = refl

pub strip_extremes_live_hold : wrong (Strips.extremes Live 8 8) ≡ []
unfolding computes
strip_extremes_live_hold = refl

pub strip_extremes_refreshing_hold : wrong (Strips.extremes Refreshing 0 7) ≡ []
unfolding computes
strip_extremes_refreshing_hold = refl

pub strip_seconds_live_hold : wrong (Strips.seconds Live 8 8) ≡ []
unfolding computes
strip_seconds_live_hold = refl

pub strip_seconds_refreshing_hold : wrong (Strips.seconds Refreshing 0 7) ≡ []
unfolding computes
strip_seconds_refreshing_hold = refl

pub strip_unlisted_live_hold : wrong (Strips.unlisted Live 8 8) ≡ []
unfolding computes
strip_unlisted_live_hold = refl

pub strip_unlisted_refreshing_hold : wrong (Strips.unlisted Refreshing 0 7) ≡ []
unfolding computes
strip_unlisted_refreshing_hold = refl

pub strip_unsound_live_hold : wrong (Strips.unsound Live 8 8) ≡ []
unfolding computes
strip_unsound_live_hold = refl

pub strip_unsound_refreshing_hold : wrong (Strips.unsound Refreshing 0 7) ≡ []
unfolding computes
strip_unsound_refreshing_hold = refl

pub strip_uncome_live_hold : wrong (Strips.uncome Live 8 8) ≡ []
unfolding computes
strip_uncome_live_hold = refl

pub strip_uncome_refreshing_hold : wrong (Strips.uncome Refreshing 0 7) ≡ []
unfolding computes
strip_uncome_refreshing_hold = refl

pub strip_sounds_live_hold : wrong (Strips.sounds Live 8 8) ≡ []
unfolding computes
strip_sounds_live_hold = refl

pub strip_sounds_refreshing_hold : wrong (Strips.sounds Refreshing 0 7) ≡ []
unfolding computes
strip_sounds_refreshing_hold = refl

pub strip_slots_live_hold : wrong (Strips.slots Live 8 8) ≡ []
unfolding computes
strip_slots_live_hold = refl

pub strip_slots_refreshing_hold : wrong (Strips.slots Refreshing 0 7) ≡ []
unfolding computes
strip_slots_refreshing_hold = refl

pub strip_sizes_wait_key_hold : wrong (Strips.sizes WaitKey) ≡ []
unfolding computes
strip_sizes_wait_key_hold = refl

pub strip_sizes_wait_logon_hold : wrong (Strips.sizes WaitLogon) ≡ []
unfolding computes
strip_sizes_wait_logon_hold = refl

pub strip_sizes_refreshing_hold : wrong (Strips.sizes Refreshing) ≡ []
unfolding computes
strip_sizes_refreshing_hold = refl

pub strip_sizes_live_hold : wrong (Strips.sizes Live) ≡ []
unfolding computes
strip_sizes_live_hold = refl

pub strip_counts_hold : wrong Strips.counts ≡ []
unfolding computes
strip_counts_hold = refl

pub strip_around_hold : wrong Strips.around ≡ []
unfolding computes
strip_around_hold = refl

pub strip_apart_hold : wrong Strips.apart ≡ []
unfolding computes
strip_apart_hold = refl

pub strip_crossed_hold : wrong Strips.crossed ≡ []
unfolding computes
strip_crossed_hold = refl

pub strip_clears_hold : wrong Strips.clears ≡ []
unfolding computes
strip_clears_hold = refl

pub strip_days_hold : wrong Strips.days ≡ []
unfolding computes
strip_days_hold = refl

pub strip_reading_hold : wrong Strips.reading ≡ []
unfolding computes
strip_reading_hold = refl

pub traps_hold : wrong Traps.traps ≡ []
unfolding computes
traps_hold = refl

pub mornings_hold : wrong Traps.mornings ≡ []
unfolding computes
mornings_hold = refl

pub programs_hold : wrong Traps.programs ≡ []
unfolding computes
programs_hold = refl

pub programs2_hold : wrong Traps.programs2 ≡ []
unfolding computes
programs2_hold = refl

pub rooms_hold : wrong Traps.rooms ≡ []
unfolding computes
rooms_hold = refl

pub badges_hold : wrong Traps.badges ≡ []
unfolding computes
badges_hold = refl

pub talks_hold : wrong Mornings.talks ≡ []
unfolding computes
talks_hold = refl

pub ledgers_hold : wrong Mornings.ledgers ≡ []
unfolding computes
ledgers_hold = refl

pub tales_hold : wrong Mornings.tales ≡ []
unfolding computes
tales_hold = refl

pub striped_hold : wrong Mornings.striped ≡ []
unfolding computes
striped_hold = refl

pub endings_hold : wrong Mornings.endings ≡ []
unfolding computes
endings_hold = refl

pub frame_numbers_hold : wrong Repaints.numbers ≡ []
unfolding computes
frame_numbers_hold = refl

pub frame_none_hold : wrong Repaints.none ≡ []
unfolding computes
frame_none_hold = refl

pub frame_refusals_hold : wrong Repaints.refusals ≡ []
unfolding computes
frame_refusals_hold = refl

pub frame_phases_hold : wrong Repaints.phases ≡ []
unfolding computes
frame_phases_hold = refl

pub frame_halves_hold : wrong Repaints.halves ≡ []
unfolding computes
frame_halves_hold = refl

pub frame_scripts_hold : wrong Repaints.scripts ≡ []
unfolding computes
frame_scripts_hold = refl

pub frame_mornings_hold : wrong Repaints.mornings ≡ []
unfolding computes
frame_mornings_hold = refl

pub scrap_waits_hold : wrong Torn.waits ≡ []
unfolding computes
scrap_waits_hold = refl

pub scrap_singly_hold : wrong Torn.singly ≡ []
unfolding computes
scrap_singly_hold = refl

pub scrap_torn_units_hold : wrong Torn.torn_units ≡ []
unfolding computes
scrap_torn_units_hold = refl

pub scrap_places_hold : wrong Torn.places ≡ []
unfolding computes
scrap_places_hold = refl

pub scrap_numbers_hold : wrong Torn.numbers ≡ []
unfolding computes
scrap_numbers_hold = refl

pub scrap_lengths_hold : wrong Torn.lengths ≡ []
unfolding computes
scrap_lengths_hold = refl

pub scrap_limits_hold : wrong Torn.limits ≡ []
unfolding computes
scrap_limits_hold = refl

pub scrap_order_hold : wrong Torn.order ≡ []
unfolding computes
scrap_order_hold = refl

pub scrap_late_hold : wrong Torn.late ≡ []
unfolding computes
scrap_late_hold = refl

pub scrap_refusals_hold : wrong Torn.refusals ≡ []
unfolding computes
scrap_refusals_hold = refl

pub scrap_connects_hold : wrong Torn.reconnects ≡ []
unfolding computes
scrap_connects_hold = refl

pub scrap_mornings_hold : wrong Torn.mornings ≡ []
unfolding computes
scrap_mornings_hold = refl

pub scrap_dark_hold : wrong Torn.dark ≡ []
unfolding computes
scrap_dark_hold = refl

pub scrap_cuttings_hold : wrong Torn.cuttings ≡ []
unfolding computes
scrap_cuttings_hold = refl

pub scrap_broken_hold : wrong Torn.broken ≡ []
unfolding computes
scrap_broken_hold = refl

pub falls_entries_hold : wrong Fallen.entries ≡ []
unfolding computes
falls_entries_hold = refl

pub falls_messages_hold : wrong Fallen.messages ≡ []
unfolding computes
falls_messages_hold = refl

pub falls_others_hold : wrong Fallen.others ≡ []
unfolding computes
falls_others_hold = refl

pub falls_sums_hold : wrong Fallen.sums ≡ []
unfolding computes
falls_sums_hold = refl

pub falls_pieces_hold : wrong Fallen.pieces ≡ []
unfolding computes
falls_pieces_hold = refl

pub password_items_hold : wrong Passwords.items ≡ []
unfolding computes
password_items_hold = refl

pub password_classes_hold : wrong Passwords.classes ≡ []
unfolding computes
password_classes_hold = refl

pub password_borders_hold : wrong Passwords.borders ≡ []
unfolding computes
password_borders_hold = refl

pub password_histories_hold : wrong Passwords.histories ≡ []
unfolding computes
password_histories_hold = refl

pub password_editions_hold : wrong Passwords.editions ≡ []
unfolding computes
password_editions_hold = refl
