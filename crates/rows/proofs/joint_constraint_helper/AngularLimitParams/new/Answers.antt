-- `AngularLimitParams::new` meets its contract: each answer is the case that the two tests left.
use Rattle.rows.specs.Helper.{angular_limit_params_of}
use Rattle.rows.proofs.joint_constraint_helper.AngularLimitParams.new.Goals as goal
use Rattle.rows.proofs.joint_constraint_helper.AngularLimitParams.new.Goals.{then-half_range-via-then-half_range, then-half_range-via-else-half_range+then-half_range-2}

pub returns-then-half_range : goal.returns-then-half_range
unfolding angular_limit_params_of
returns-then-half_range c =
    elim c.then-half_range.branch [
      | then-half_range-via-then-half_range w ↦ simp w.if-half_range.true
      | then-half_range-via-else-half_range+then-half_range-2 w ↦ simp (w.if-half_range.false, w.if-half_range-2.true)
    ]

pub returns : goal.returns
unfolding angular_limit_params_of
returns c = simp (c.if-half_range.false, c.if-half_range-2.false)
