use borrow.Author.Rules.{rules}
use Rattle.multibody.specs.Counts.{body_count}
use Rattle.multibody.proofs.counts.body_count.Goals as goal

pub returns : goal.returns
unfolding body_count
returns g c = search rules
