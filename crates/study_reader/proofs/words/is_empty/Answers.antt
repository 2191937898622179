-- `is_empty` meets its contract.
use mathlib.Core.Path.{refl}
use Rattle.study_reader.specs.Words.{is_empty}
use Rattle.study_reader.proofs.words.is_empty.Goals as goal

pub returns : goal.returns
unfolding is_empty
returns c = refl
