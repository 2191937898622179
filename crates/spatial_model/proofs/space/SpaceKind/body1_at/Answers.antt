use borrow.Author.Rules.{rules}
use Rattle.spatial_model.specs.Store.{body1_at}
use Rattle.spatial_model.proofs.space.SpaceKind.body1_at.Goals as goal

pub returns : goal.returns
unfolding body1_at
returns c = search rules
