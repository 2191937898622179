use mathlib.Core.Path.{sym, ◌∙◌}
use Rattle.spatial_model.proofs.Tried.{body-tried}
use Rattle.spatial_model.proofs.space.SpaceWork.finite_body.Goals as goal

pub returns : goal.returns
returns c = c.finite_from.ensures ∙ sym (body-tried _ _)
