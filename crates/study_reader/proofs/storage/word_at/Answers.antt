-- `word_at` meets its contract.
use mathlib.Core.Path.{sym}
use lib.ListN.{get_or-eq_default}
use Rattle.study_reader.proofs.storage.word_at.Goals as goal

pub returns : goal.returns
returns c = sym (get_or-eq_default c.args.s.now _ c.if-at-s.false)
