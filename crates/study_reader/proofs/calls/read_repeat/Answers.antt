-- `read_repeat` meets its contract.
use mathlib.Core.Path.{◌∙◌}
use Rattle.study_reader.specs.Calls.{read_repeat}
use Rattle.study_reader.proofs.CallLaws.{true-is, false-is}
use Rattle.study_reader.proofs.calls.read_repeat.Goals as goal

pub returns-then-repeats : goal.returns-then-repeats
unfolding read_repeat
returns-then-repeats c = c.wrong.ensures ∙ true-is _ _ _ c.if-repeats.true

pub returns : goal.returns
unfolding read_repeat
returns c = c.read_whole.ensures ∙ false-is _ _ _ c.if-repeats.false
