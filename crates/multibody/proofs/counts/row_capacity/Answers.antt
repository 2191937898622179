use borrow.Author.Rules.{rules}
use Rattle.multibody.specs.Counts.{row_capacity}
use Rattle.multibody.proofs.counts.row_capacity.Goals as goal

pub returns : goal.returns
unfolding row_capacity
returns g c = search rules
