-- `entry_at` meets its contract: three words.
use Rattle.motor_table.specs.Text.{entry_at}
use Rattle.motor_table.proofs.text.entry_at.Goals as goal

pub returns : goal.returns
unfolding entry_at
returns c = simp (c.word_number-3.ensures, c.word_number-2.ensures, c.word_number.ensures)
