use mathlib.Core.Path.{sym, ◌∙◌}
use Rattle.model.proofs.Tried.{body-tried}
use Rattle.model.proofs.plane.PlaneWork.finite_body.Goals as goal

pub returns : goal.returns
returns c = c.finite_from.ensures ∙ sym (body-tried _ _)
