-- `residual_at` is put together from what its callees promise.
use Rattle.model.specs.Reactions.{residual_at}
use Rattle.model.proofs.reactions.residual_at.Goals as goal

pub returns : goal.returns
unfolding residual_at
returns c =
    simp (c.residual.ensures, c.read_vel-vel2.ensures, c.read_body2.ensures, c.read_vel-vel1.ensures, c.read_body1.ensures)
