-- `number_at` meets its contract.
use mathlib.Core.Path.{sym}
use lib.ListN.{get_or-eq_default}
use Rattle.study_reader.proofs.WordLaws.{get_d_default}
use Rattle.study_reader.proofs.storage.number_at.Goals as goal

pub returns-then-at-s : goal.returns-then-at-s
returns-then-at-s c = get_d_default c.args.s.now c.args.at _ _ c.if-at-s.true

pub returns : goal.returns
returns c = sym (get_or-eq_default c.args.s.now _ c.if-at-s.false)
