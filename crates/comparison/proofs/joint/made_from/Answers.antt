-- `made_from` meets its contract, by what its calls ensure.
use mathlib.Core.Path.{◌∙◌}
use Rattle.comparison.specs.JointExports.{made_from}
use Rattle.comparison.proofs.joint.made_from.Goals as goal

pub returns : goal.returns
unfolding made_from
returns c =
    c.update.ensures ∙ rw (c.joint_from-joint.ensures, c.body_at-body2.ensures, c.body_at-body1.ensures, c.warm_from-warmstart.ensures)
