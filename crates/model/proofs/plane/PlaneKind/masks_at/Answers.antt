use borrow.Author.Rules.{rules}
use Rattle.model.specs.Store.{masks_at}
use Rattle.model.proofs.plane.PlaneKind.masks_at.Goals as goal

pub returns : goal.returns
unfolding masks_at
returns c = search rules
