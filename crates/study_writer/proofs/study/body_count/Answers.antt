-- `body_count` meets its contract.
use Rattle.multibody.specs.Counts.{body_count}
use borrow.Author.Rules.{rules}
use Rattle.study_writer.proofs.study.body_count.Goals as goal

pub returns : goal.returns
unfolding body_count
returns c = search rules
