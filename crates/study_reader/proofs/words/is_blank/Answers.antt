-- `is_blank` meets its contract.
use Rattle.study_reader.specs.Words.{is_blank}
use Rattle.study_reader.proofs.words.is_blank.Goals as goal

pub returns : goal.returns
unfolding is_blank
returns c = c.has_byte.ensures
