-- `model_refusal` meets its contract, by that of `first_refusal`.
use mathlib.Core.Path.{refl, ap}
use mathlib.Core.Bool.{◌&&◌}
use Rattle.spatial_model.proofs.refusals.model_refusal.Goals as goal

pub returns : goal.returns
returns c =
    let a = c.args in
    c.first_refusal.ensures a.header a.arguments refl (ap (λ t. t && a.arguments) c.finite_params.ensures)
