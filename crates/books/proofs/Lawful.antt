-- Books are a lawful layout (slots/specs/Lawful): so the laws of slots/proofs hold of the table of books. Assumes nothing.
use native.Mathlib.Omega.{arith}
use mathlib.Core.Path.{refl}
use Rattle.ground.specs.Choice.{all}
use Rattle.slots.specs.Slots.{blocks}
use Rattle.slots.proofs.Lawful.{Lawful}
use Rattle.ladder.specs.Words.{rows_from, best_first, bounded, zero_row, sound_side, sound, SoundBook}
use Rattle.ladder.proofs.Walks.{Few}
use Rattle.ladder.proofs.Writes.{book_words}
use Rattle.ladder.proofs.Rounds.{code_back, book_back, written_sound}
use Rattle.ladder.proofs.Tells.{book_of_sound}
use Rattle.ladder.proofs.Keeps.{empty_sound}
use Rattle.books.specs.Table.{books}

-- a book of at most ten rows a side is read back; a sound book is written as a sound block
pub lawful : Lawful books Few SoundBook
unfolding all sound sound_side rows_from blocks best_first bounded zero_row
lawful = record {
  wide = omega arith;
  whole = book_words;
  opens = code_back;
  back = λ c b f. book_back c b f.0 f.1;
  sounds = written_sound;
  fit = λ w s. let b = book_of_sound w s in (b.bids.few, b.offers.few);
  well = book_of_sound;
  fit_empty = (omega arith, omega arith);
  well_empty = empty_sound;
  zeros = refl;
}
