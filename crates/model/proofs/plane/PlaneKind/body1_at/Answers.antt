use borrow.Author.Rules.{rules}
use Rattle.model.specs.Store.{body1_at}
use Rattle.model.proofs.plane.PlaneKind.body1_at.Goals as goal

pub returns : goal.returns
unfolding body1_at
returns c = search rules
