-- `limit_bias` is put together from what its callees promise.
use Rattle.floats.proofs.ScalarLaws.{clamped-value}
use Rattle.rows.specs.Makers.{limit_bias_of}
use Rattle.rows.proofs.joint_constraint_helper.limit_bias.Goals as goal

pub returns : goal.returns
unfolding limit_bias_of
returns c =
    simp (c.clamp-capped.ensures, clamped-value, c.max-2.ensures, c.max.ensures, c.max_corrective_velocity-max_bias.ensures)
