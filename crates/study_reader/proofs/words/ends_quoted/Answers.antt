-- `ends_quoted` meets its contract.
use Rattle.study_reader.specs.Words.{ends_quoted}
use Rattle.study_reader.proofs.words.ends_quoted.Goals as goal

pub returns : goal.returns
unfolding ends_quoted
returns c = c.has_byte.ensures
