use borrow.Author.Rules.{rules}
use Rattle.model.specs.Store.{body2_at}
use Rattle.model.proofs.plane.PlaneKind.body2_at.Goals as goal

pub returns : goal.returns
unfolding body2_at
returns c = search rules
