-- All definitions that compute, for the examples: written by tools/computes. Assumes nothing.
use Rattle.std.specs.Prelude.{ℕ}
use Rattle.std.proofs.Math.Option.{bind}
use Rattle.ground.specs.Choice as ground_Choice
use Rattle.wire.specs.Codes as wire_Codes
use Rattle.wire.specs.Number as wire_Number
use Rattle.wire.specs.Units as wire_Units
use Rattle.slots.specs.Code.Turns as slots_Code_Turns
use Rattle.slots.specs.Layout as slots_Layout
use Rattle.slots.specs.Slots as slots_Slots
use Rattle.ladder.specs.Code.Arrays as ladder_Code_Arrays
use Rattle.ladder.specs.Code.Loading as ladder_Code_Loading
use Rattle.ladder.specs.Message as ladder_Message
use Rattle.ladder.specs.Sides as ladder_Sides
use Rattle.ladder.specs.Walk as ladder_Walk
use Rattle.ladder.specs.Words as ladder_Words
use Rattle.books.specs.Code.Rows as books_Code_Rows
use Rattle.books.specs.Code.Turns as books_Code_Turns
use Rattle.books.specs.Reading as books_Reading
use Rattle.books.specs.Table as books_Table
use Rattle.strips.specs.Code.Shapes as strips_Code_Shapes
use Rattle.strips.specs.Forms as strips_Forms
use Rattle.strips.specs.Reading as strips_Reading
use Rattle.strips.specs.Table as strips_Table
use Rattle.strips.specs.Words as strips_Words
use Rattle.feed.specs.Answers as feed_Answers
use Rattle.feed.specs.Code.Judging as feed_Code_Judging
use Rattle.feed.specs.Events as feed_Events
use Rattle.feed.specs.Feeds as feed_Feeds
use Rattle.feed.specs.Frames as feed_Frames
use Rattle.feed.specs.Messages as feed_Messages
use Rattle.feed.specs.Program as feed_Program
use Rattle.feed.specs.Reasons as feed_Reasons
use Rattle.feed.specs.Steps as feed_Steps
use Rattle.lines.specs.Looks as lines_Looks
use Rattle.lines.specs.Scraps as lines_Scraps
use Rattle.password.specs.Rule as password_Rule
use Rattle.promises.specs.Answering as promises_Answering
use Rattle.promises.specs.Build as promises_Build
use Rattle.promises.specs.Checks as promises_Checks
use Rattle.promises.specs.Decisions as promises_Decisions
use Rattle.promises.specs.Demands as promises_Demands
use Rattle.promises.specs.Desk as promises_Desk
use Rattle.promises.specs.Dropped as promises_Dropped
use Rattle.promises.specs.Emptied as promises_Emptied
use Rattle.promises.specs.Entries as promises_Entries
use Rattle.promises.specs.Fallen as promises_Fallen
use Rattle.promises.specs.Frames as promises_Frames
use Rattle.promises.specs.GoodMorning as promises_GoodMorning
use Rattle.promises.specs.Leaves as promises_Leaves
use Rattle.promises.specs.Ledger as promises_Ledger
use Rattle.promises.specs.Mornings as promises_Mornings
use Rattle.promises.specs.Passwords as promises_Passwords
use Rattle.promises.specs.Phases as promises_Phases
use Rattle.promises.specs.Pieces as promises_Pieces
use Rattle.promises.specs.Refusals as promises_Refusals
use Rattle.promises.specs.Repaints as promises_Repaints
use Rattle.promises.specs.Runs as promises_Runs
use Rattle.promises.specs.Scraps as promises_Scraps
use Rattle.promises.specs.Section6 as promises_Section6
use Rattle.promises.specs.Sizes as promises_Sizes
use Rattle.promises.specs.Statuses as promises_Statuses
use Rattle.promises.specs.Strips as promises_Strips
use Rattle.promises.specs.Tables as promises_Tables
use Rattle.promises.specs.Torn as promises_Torn
use Rattle.promises.specs.Traps as promises_Traps
use Rattle.promises.specs.Widths as promises_Widths

unfoldable ground_choice : ℕ
unfolding ground_Choice.one_of ground_Choice.pick ground_Choice.first ground_Choice.all ground_Choice.any ground_Choice.same
ground_choice = 0

unfoldable wire_codes : ℕ
unfolding wire_Codes.listed_code
wire_codes = 0

unfoldable wire_number : ℕ
unfolding wire_Number.field wire_Number.biased
wire_number = 0

unfoldable wire_units : ℕ
unfolding wire_Units.unit_of
wire_units = 0

unfoldable slots_code_turns : ℕ
unfolding slots_Code_Turns.slot_turn slots_Code_Turns.place_turn slots_Code_Turns.held_turn
slots_code_turns = 0

unfoldable slots_layout : ℕ
unfolding slots_Layout.none_free slots_Layout.misfit slots_Layout.or_as_it_was slots_Layout.unsound_at slots_Layout.value_at slots_Layout.written slots_Layout.answer slots_Layout.stepped slots_Layout.with_code slots_Layout.turns slots_Layout.value_after slots_Layout.values_after
slots_layout = 0

unfoldable slots_slots : ℕ
unfolding slots_Slots.blocks slots_Slots.lowest slots_Slots.place slots_Slots.flat slots_Slots.cleared
slots_slots = 0

unfoldable ladder_code_arrays : ℕ
unfolding ladder_Code_Arrays.fits_at ladder_Code_Arrays.ten_after ladder_Code_Arrays.count_after ladder_Code_Arrays.drops_tenth
ladder_code_arrays = 0

unfoldable ladder_code_loading : ℕ
unfolding ladder_Code_Loading.in_order ladder_Code_Loading.used_of ladder_Code_Loading.lows_of ladder_Code_Loading.sound_words
ladder_code_loading = 0

unfoldable ladder_message : ℕ
unfolding ladder_Message.entries_from ladder_Message.book_sized ladder_Message.listed_side ladder_Message.listed_rank ladder_Message.listed_entry ladder_Message.listed_book
ladder_message = 0

unfoldable ladder_sides : ℕ
unfolding ladder_Sides.better ladder_Sides.has ladder_Sides.new_fits ladder_Sides.new_rows ladder_Sides.pushed_out ladder_Sides.change_fits ladder_Sides.change_rows ladder_Sides.delete_fits ladder_Sides.delete_rows ladder_Sides.fits ladder_Sides.rows_after ladder_Sides.fell_from ladder_Sides.was_dropped ladder_Sides.on_side
ladder_sides = 0

unfoldable ladder_walk : ℕ
unfolding ladder_Walk.on_book ladder_Walk.walk ladder_Walk.fell_off ladder_Walk.dropped
ladder_walk = 0

unfoldable ladder_words : ℕ
unfolding ladder_Words.rows_from ladder_Words.no_rows ladder_Words.side_words ladder_Words.words_of ladder_Words.best_first ladder_Words.bounded ladder_Words.zero_row ladder_Words.sound_side ladder_Words.sound
ladder_words = 0

unfoldable books_code_rows : ℕ
unfolding books_Code_Rows.row_of_side books_Code_Rows.row_of_book books_Code_Rows.side_of_words books_Code_Rows.side_of_book
books_code_rows = 0

unfoldable books_code_turns : ℕ
unfolding books_Code_Turns.slot_drops books_Code_Turns.place_drops
books_code_turns = 0

unfoldable books_reading : ℕ
unfolding books_Reading.no_book books_Reading.read_answer books_Reading.read_row books_Reading.side_answer books_Reading.reads_from books_Reading.row_count books_Reading.side_by books_Reading.read_side
books_reading = 0

unfoldable books_table : ℕ
unfolding books_Table.unsound books_Table.no_slot books_Table.misfits books_Table.book_answer books_Table.books_after books_Table.rows_dropped
books_table = 0

unfoldable strips_code_shapes : ℕ
unfolding strips_Code_Shapes.shape_of strips_Code_Shapes.field_of strips_Code_Shapes.fields_from strips_Code_Shapes.width_of
strips_code_shapes = 0

unfoldable strips_forms : ℕ
unfolding strips_Forms.form_of strips_Forms.is_strip strips_Forms.strip_sized strips_Forms.fields_of strips_Forms.value_of strips_Forms.listed_as strips_Forms.listed_strip
strips_forms = 0

unfoldable strips_reading : ℕ
unfolding strips_Reading.no_strip strips_Reading.read_answer strips_Reading.price_shown strips_Reading.read_strip
strips_reading = 0

unfoldable strips_table : ℕ
unfolding strips_Table.unsound strips_Table.no_slot strips_Table.strips_after
strips_table = 0

unfoldable strips_words : ℕ
unfolding strips_Words.words_from strips_Words.strip_of strips_Words.words_of strips_Words.come strips_Words.legal strips_Words.sound_from strips_Words.sound_strip strips_Words.sound strips_Words.stored strips_Words.stored_all strips_Words.strip_after
strips_words = 0

unfoldable feed_answers : ℕ
unfolding feed_Answers.number feed_Answers.arrives feed_Answers.lacks_need feed_Answers.is_more feed_Answers.is_too_long feed_Answers.is_next feed_Answers.allowed feed_Answers.seen feed_Answers.unsound_for feed_Answers.no_slot_for feed_Answers.misfits_for feed_Answers.passed feed_Answers.line_tests feed_Answers.table_tests feed_Answers.tests
feed_answers = 0

unfoldable feed_code_judging : ℕ
unfolding feed_Code_Judging.on_tables
feed_code_judging = 0

unfoldable feed_events : ℕ
unfolding feed_Events.time_of feed_Events.cut_from feed_Events.news feed_Events.on_message feed_Events.news_size feed_Events.offered
feed_events = 0

unfoldable feed_feeds : ℕ
unfolding feed_Feeds.is feed_Feeds.deaf feed_Feeds.listed_limit feed_Feeds.new_given feed_Feeds.badge feed_Feeds.phase_of
feed_feeds = 0

unfoldable feed_frames : ℕ
unfolding feed_Frames.onward feed_Frames.through
feed_frames = 0

unfoldable feed_messages : ℕ
unfolding feed_Messages.datum_of feed_Messages.kind_of feed_Messages.on_market feed_Messages.market feed_Messages.tabled feed_Messages.sized feed_Messages.wrong_size feed_Messages.status_of feed_Messages.listed_status feed_Messages.listed
feed_messages = 0

unfoldable feed_program : ℕ
unfolding feed_Program.follow feed_Program.side_lines feed_Program.lines
feed_program = 0

unfoldable feed_reasons : ℕ
unfolding feed_Reasons.why feed_Reasons.badge_by
feed_reasons = 0

unfoldable feed_steps : ℕ
unfolding feed_Steps.logged_on feed_Steps.clears_on feed_Steps.clears feed_Steps.tables_after feed_Steps.does feed_Steps.counted feed_Steps.taken feed_Steps.act feed_Steps.used_of feed_Steps.drops feed_Steps.news_drops feed_Steps.dropped_on feed_Steps.handed feed_Steps.outcome
feed_steps = 0

unfoldable lines_looks : ℕ
unfolding lines_Looks.is_sized lines_Looks.exceeds lines_Looks.finished lines_Looks.look
lines_looks = 0

unfoldable lines_scraps : ℕ
unfolding lines_Scraps.gathered lines_Scraps.settled lines_Scraps.looked lines_Scraps.once lines_Scraps.onward lines_Scraps.goes_on lines_Scraps.through lines_Scraps.links
lines_scraps = 0

unfoldable password_rule : ℕ
unfolding password_Rule.is_of password_Rule.lacks password_Rule.total password_Rule.bad_history password_Rule.lasts password_Rule.items password_Rule.verdict_of password_Rule.plain_verdict
password_rule = 0

unfoldable promises_answering : ℕ
unfolding promises_Answering.one_call promises_Answering.fed promises_Answering.lost promises_Answering.spoilt promises_Answering.heard promises_Answering.held promises_Answering.broken promises_Answering.taken promises_Answering.fits promises_Answering.misfits promises_Answering.unlisted promises_Answering.both promises_Answering.opens promises_Answering.new_feeds promises_Answering.connects promises_Answering.answers promises_Answering.cuts promises_Answering.order
promises_answering = 0

unfoldable promises_build : ℕ
unfolding promises_Build.bytes promises_Build.joined promises_Build.header promises_Build.unit promises_Build.heartbeat promises_Build.message promises_Build.send_key promises_Build.logon promises_Build.logout promises_Build.refresh promises_Build.complete promises_Build.entry promises_Build.book_message promises_Build.fill promises_Build.row promises_Build.block promises_Build.feed promises_Build.both promises_Build.state promises_Build.start promises_Build.arrives promises_Build.gets promises_Build.dropping promises_Build.ends_both promises_Build.ends promises_Build.case promises_Build.logs_on
promises_build = 0

unfoldable promises_checks : ℕ
unfolding promises_Checks.wrong promises_Checks.same_feed promises_Checks.same_given promises_Checks.same_badges promises_Checks.same_end promises_Checks.runs promises_Checks.same_number promises_Checks.reads promises_Checks.same_levels promises_Checks.reads_side
promises_checks = 0

unfoldable promises_decisions : ℕ
unfolding promises_Decisions.fits_deed promises_Decisions.fitting
promises_decisions = 0

unfoldable promises_demands : ℕ
unfolding promises_Demands.hands_bytes promises_Demands.connects promises_Demands.lets_in promises_Demands.is_logon promises_Demands.logs_on
promises_demands = 0

unfoldable promises_desk : ℕ
unfolding promises_Desk.example1 promises_Desk.words1 promises_Desk.ten_entries promises_Desk.ten_rows promises_Desk.alone promises_Desk.next promises_Desk.live promises_Desk.spoilt promises_Desk.desk
promises_desk = 0

unfoldable promises_dropped : ℕ
unfolding promises_Dropped.side_for promises_Dropped.meets_ten promises_Dropped.tens_met promises_Dropped.tens_of promises_Dropped.tens_brought promises_Dropped.dropped_by_all
promises_dropped = 0

unfoldable promises_emptied : ℕ
unfolding promises_Emptied.emptying promises_Emptied.full promises_Emptied.empty promises_Emptied.garbage promises_Emptied.leaves promises_Emptied.unsound promises_Emptied.unlisted promises_Emptied.emptied promises_Emptied.without promises_Emptied.live promises_Emptied.live_without promises_Emptied.refreshing promises_Emptied.refreshing_without promises_Emptied.around promises_Emptied.days
promises_emptied = 0

unfoldable promises_entries : ℕ
unfolding promises_Entries.drops promises_Entries.makes promises_Entries.not promises_Entries.bids promises_Entries.offers promises_Entries.news promises_Entries.changes promises_Entries.deletes promises_Entries.walks
promises_entries = 0

unfoldable promises_fallen : ℕ
unfolding promises_Fallen.bids promises_Fallen.offers promises_Fallen.row_out promises_Fallen.falls promises_Fallen.entries promises_Fallen.tells promises_Fallen.three promises_Fallen.messages promises_Fallen.too_far promises_Fallen.full promises_Fallen.others promises_Fallen.first promises_Fallen.second promises_Fallen.last promises_Fallen.after_one promises_Fallen.after_two promises_Fallen.frame promises_Fallen.live promises_Fallen.sums promises_Fallen.numbers promises_Fallen.scraps promises_Fallen.pieces
promises_fallen = 0

unfoldable promises_frames : ℕ
unfolding promises_Frames.singles promises_Frames.answers_in promises_Frames.accepted_in promises_Frames.used_in promises_Frames.dropped_in promises_Frames.after_act promises_Frames.run_acts promises_Frames.events_of promises_Frames.written promises_Frames.acts_bytes
promises_frames = 0

unfoldable promises_goodmorning : ℕ
unfolding promises_GoodMorning.on promises_GoodMorning.due promises_GoodMorning.again promises_GoodMorning.fits promises_GoodMorning.good promises_GoodMorning.fair_news promises_GoodMorning.fair promises_GoodMorning.after_logon promises_GoodMorning.told promises_GoodMorning.says promises_GoodMorning.said_news promises_GoodMorning.talk promises_GoodMorning.fairly
promises_goodmorning = 0

unfoldable promises_leaves : ℕ
unfolding promises_Leaves.wipes promises_Leaves.clearing promises_Leaves.writing
promises_leaves = 0

unfoldable promises_ledger : ℕ
unfolding promises_Ledger.enter_status promises_Ledger.enter_taken promises_Ledger.enter_accepted promises_Ledger.enter_came promises_Ledger.enter promises_Ledger.keep promises_Ledger.up_to promises_Ledger.rising promises_Ledger.last_of
promises_ledger = 0

unfoldable promises_mornings : ℕ
unfolding promises_Mornings.two_bids promises_Mornings.better promises_Mornings.tenth promises_Mornings.logs_on promises_Mornings.day promises_Mornings.refilled promises_Mornings.empties promises_Mornings.strips promises_Mornings.two_strips promises_Mornings.one_slot promises_Mornings.words_of_one promises_Mornings.words_of_two promises_Mornings.allows promises_Mornings.forbids promises_Mornings.talks promises_Mornings.keeps promises_Mornings.resumed promises_Mornings.ledgers promises_Mornings.same_times promises_Mornings.of_strip promises_Mornings.strips_are promises_Mornings.recounts promises_Mornings.green_from promises_Mornings.dark promises_Mornings.three_bids promises_Mornings.one_bid promises_Mornings.free_slot promises_Mornings.logon_then promises_Mornings.connects_again promises_Mornings.of_code promises_Mornings.two_codes promises_Mornings.one_emptied promises_Mornings.tales promises_Mornings.striped promises_Mornings.endings
promises_mornings = 0

unfoldable promises_passwords : ℕ
unfolding promises_Passwords.under_lent promises_Passwords.under promises_Passwords.made promises_Passwords.sixteen promises_Passwords.eight promises_Passwords.items promises_Passwords.passing promises_Passwords.range promises_Passwords.make_up promises_Passwords.classes promises_Passwords.borders promises_Passwords.others promises_Passwords.histories promises_Passwords.named promises_Passwords.editions
promises_passwords = 0

unfoldable promises_phases : ℕ
unfolding promises_Phases.units promises_Phases.left promises_Phases.barred promises_Phases.met promises_Phases.beats promises_Phases.paired promises_Phases.in_idle promises_Phases.in_wait_key promises_Phases.in_wait_logon promises_Phases.in_refreshing promises_Phases.in_live promises_Phases.in_lost promises_Phases.in_closed promises_Phases.whole
promises_phases = 0

unfoldable promises_pieces : ℕ
unfolding promises_Pieces.calls promises_Pieces.calls_in promises_Pieces.stream promises_Pieces.times
promises_pieces = 0

unfoldable promises_refusals : ℕ
unfolding promises_Refusals.answers_to promises_Refusals.feed_refused
promises_refusals = 0

unfoldable promises_repaints : ℕ
unfolding promises_Repaints.tells promises_Repaints.frame promises_Repaints.nothing promises_Repaints.five promises_Repaints.mixed promises_Repaints.live promises_Repaints.one_in promises_Repaints.listed promises_Repaints.all_in promises_Repaints.numbers promises_Repaints.none promises_Repaints.second promises_Repaints.lost_at promises_Repaints.refusals promises_Repaints.session promises_Repaints.phases promises_Repaints.splits promises_Repaints.halves promises_Repaints.same_events promises_Repaints.writes promises_Repaints.scripts promises_Repaints.opening promises_Repaints.after promises_Repaints.mornings
promises_repaints = 0

unfoldable promises_runs : ℕ
unfolding promises_Runs.after promises_Runs.run promises_Runs.trace promises_Runs.note_status promises_Runs.note_taken promises_Runs.note_news promises_Runs.note promises_Runs.recall promises_Runs.green promises_Runs.perform promises_Runs.replay promises_Runs.perform_on promises_Runs.replay_on promises_Runs.perform_strip promises_Runs.replay_strip
promises_runs = 0

unfoldable promises_scraps : ℕ
unfolding promises_Scraps.due_events promises_Scraps.turn_events promises_Scraps.units promises_Scraps.bytes_in promises_Scraps.scraps promises_Scraps.one_piece promises_Scraps.is_overrun promises_Scraps.after_line promises_Scraps.run_line promises_Scraps.line_events promises_Scraps.written_line promises_Scraps.line_bytes promises_Scraps.refused_since
promises_scraps = 0

unfoldable promises_section6 : ℕ
unfolding promises_Section6.turns promises_Section6.bids_from9730 promises_Section6.offers_before promises_Section6.offers_after1 promises_Section6.offers_after5 promises_Section6.bids_before promises_Section6.bids_after3 promises_Section6.bids_after4 promises_Section6.eight_bids promises_Section6.six_bids promises_Section6.section6
promises_section6 = 0

unfoldable promises_sizes : ℕ
unfolding promises_Sizes.torn promises_Sizes.quiet promises_Sizes.with_length promises_Sizes.headed promises_Sizes.more promises_Sizes.heartbeats promises_Sizes.tiny promises_Sizes.wrongly promises_Sizes.sizes promises_Sizes.passes promises_Sizes.types promises_Sizes.sequence
promises_sizes = 0

unfoldable promises_statuses : ℕ
unfolding promises_Statuses.freshly promises_Statuses.resumed promises_Statuses.wiped promises_Statuses.logons promises_Statuses.others promises_Statuses.answers_below promises_Statuses.listed_below promises_Statuses.all256 promises_Statuses.all_statuses
promises_statuses = 0

unfoldable promises_strips : ℕ
unfolding promises_Strips.nominal promises_Strips.iep promises_Strips.reference promises_Strips.imbalance promises_Strips.closing promises_Strips.word promises_Strips.strip promises_Strips.free promises_Strips.whole promises_Strips.other_strip promises_Strips.on_both promises_Strips.makes promises_Strips.refuses promises_Strips.firsts promises_Strips.extremes promises_Strips.seconds promises_Strips.unlisted promises_Strips.unsound promises_Strips.uncome promises_Strips.sounds promises_Strips.slots promises_Strips.counts promises_Strips.wrongly promises_Strips.sizes promises_Strips.around promises_Strips.apart promises_Strips.crossed promises_Strips.clears promises_Strips.days promises_Strips.same_strip promises_Strips.reads promises_Strips.shows promises_Strips.reading
promises_strips = 0

unfoldable promises_tables : ℕ
unfolding promises_Tables.on promises_Tables.refused promises_Tables.first_bid promises_Tables.opened promises_Tables.wipes promises_Tables.other promises_Tables.lengths promises_Tables.slots promises_Tables.three promises_Tables.ten_offers promises_Tables.sounds promises_Tables.row_is promises_Tables.no_row promises_Tables.level promises_Tables.ten_bids promises_Tables.ten_levels promises_Tables.side_is promises_Tables.rows
promises_tables = 0

unfoldable promises_torn : ℕ
unfolding promises_Torn.climbing promises_Torn.own promises_Torn.room promises_Torn.line promises_Torn.torn promises_Torn.shut promises_Torn.same_line promises_Torn.tells promises_Torn.quiet_after promises_Torn.quiet promises_Torn.says promises_Torn.booked promises_Torn.with_strips promises_Torn.on promises_Torn.scrap promises_Torn.hand promises_Torn.follows promises_Torn.after promises_Torn.book promises_Torn.passed promises_Torn.priced promises_Torn.beaten promises_Torn.lays promises_Torn.waits promises_Torn.byte_by_byte promises_Torn.singly promises_Torn.torn_units promises_Torn.mixed promises_Torn.places promises_Torn.numbers promises_Torn.sized promises_Torn.lengths promises_Torn.over promises_Torn.limits promises_Torn.stays promises_Torn.order promises_Torn.silent promises_Torn.finishes promises_Torn.late promises_Torn.refuses_on promises_Torn.refuses promises_Torn.refusals promises_Torn.connect promises_Torn.reconnects promises_Torn.opening promises_Torn.opened promises_Torn.ran promises_Torn.early promises_Torn.too_long promises_Torn.gap promises_Torn.again promises_Torn.beat promises_Torn.mornings promises_Torn.dark promises_Torn.spelt promises_Torn.same_said promises_Torn.cut promises_Torn.scraps_of promises_Torn.good_morning promises_Torn.logged_on promises_Torn.all_good promises_Torn.cuttings promises_Torn.ends_at promises_Torn.left_out promises_Torn.no_size promises_Torn.too_early promises_Torn.logged_out promises_Torn.closed promises_Torn.broken
promises_torn = 0

unfoldable promises_traps : ℕ
unfolding promises_Traps.traps promises_Traps.mornings promises_Traps.same_lines promises_Traps.prints promises_Traps.example10 promises_Traps.line10 promises_Traps.programs promises_Traps.programs2 promises_Traps.long_key promises_Traps.rooms promises_Traps.asked promises_Traps.badges
promises_traps = 0

unfoldable promises_widths : ℕ
unfolding promises_Widths.widths
promises_widths = 0

unfoldable pub computes : ℕ
unfolding bind ground_choice wire_codes wire_number wire_units slots_code_turns slots_layout slots_slots ladder_code_arrays ladder_code_loading ladder_message ladder_sides ladder_walk ladder_words books_code_rows books_code_turns books_reading books_table strips_code_shapes strips_forms strips_reading strips_table strips_words feed_answers feed_code_judging feed_events feed_feeds feed_frames feed_messages feed_program feed_reasons feed_steps lines_looks lines_scraps password_rule promises_answering promises_build promises_checks promises_decisions promises_demands promises_desk promises_dropped promises_emptied promises_entries promises_fallen promises_frames promises_goodmorning promises_leaves promises_ledger promises_mornings promises_passwords promises_phases promises_pieces promises_refusals promises_repaints promises_runs promises_scraps promises_section6 promises_sizes promises_statuses promises_strips promises_tables promises_torn promises_traps promises_widths
computes = 0
