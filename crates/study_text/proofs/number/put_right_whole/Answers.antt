-- `put_right_whole` meets its contract.
use mathlib.Core.Path.{ap, ◌∙◌}
use Rattle.study_text.specs.Number.{signed}
use Rattle.study_text.proofs.NumberLaws.{read, right-whole}
use Rattle.study_text.proofs.number.put_right_whole.Goals as goal

pub returns : goal.returns
returns c = right-whole _ c.ranges.n _ (c.signed-number.ensures ∙ ap signed (read _ c.ranges.n)) c.put_number-len.ensures c.blanks_before.ensures c.put_blanks-a.ensures c.put_number-b.ensures c.put_byte.ensures
