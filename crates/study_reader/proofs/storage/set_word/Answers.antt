-- `set_word` meets its contract.
use mathlib.Core.Path.{sym}
use lib.Seq.{set_out}
use Rattle.study_reader.proofs.storage.set_word.Goals as goal

pub returns-else-at-s : goal.returns-else-at-s
returns-else-at-s c = sym (set_out c.args.s.now c.args.at c.args.x c.if-at-s.false)
