-- `read_end` meets its contract.
use Rattle.study_reader.specs.Calls.{read_end}
use Rattle.study_reader.proofs.calls.read_end.Goals as goal

pub returns-then-repeats : goal.returns-then-repeats
unfolding read_end
returns-then-repeats c = simp c.if-repeats.true

pub returns : goal.returns
unfolding read_end
returns c = simp c.if-repeats.false c.wrong.ensures
