use borrow.Author.Rules.{rules}
use Rattle.spatial_model.specs.Store.{body2_at}
use Rattle.spatial_model.proofs.space.SpaceKind.body2_at.Goals as goal

pub returns : goal.returns
unfolding body2_at
returns c = search rules
