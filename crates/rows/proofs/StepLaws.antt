-- What a step and the removal of the bias do to a row. A step changes nothing of the row but its impulse, nothing at all where the impulse
-- within the bounds is the old one, and it leaves an impulse that is neither below the lower bound nor above the upper one, where the
-- bounds are in order; what it gives the bodies is the row's residual. To remove the bias twice is to remove it once. Assumes nothing.
use mathlib.Core.Path.{◌≡◌, refl}
use mathlib.Core.Bool.{false}
use lib.Ieee.{lt}
use Rattle.floats.specs.Scalar.{clamp_of}
use Rattle.floats.proofs.ScalarLaws.{Within, clamp-within}
use Rattle.rows.specs.Row.{with_impulse}
use Rattle.rows.specs.Step.{wanted_impulse_of, applied_of, step_of, residual_of, remove_bias_of}
use Rattle.rows.specs.declared.joint_velocity_constraint.JointConstraint.{JointConstraint}
use Rattle.rows.specs.declared.joint_velocity_constraint.SolverVel.{SolverVel}

-- with its old impulse put back, the row after a step is the row before it
pub step_keeps : (c : JointConstraint) (v1 v2 : SolverVel) → with_impulse (step_of c v1 v2).row c.impulse ≡ c
unfolding step_of with_impulse
step_keeps c v1 v2 = refl

pub step-at-rest : (c : JointConstraint) (v1 v2 : SolverVel) → clamp_of (wanted_impulse_of c v1 v2) c.impulse_min c.impulse_max ≡ c.impulse → (step_of c v1 v2).row ≡ c
unfolding step_of with_impulse
step-at-rest c v1 v2 same = rw same

-- ---- residual

pub step-gives-residual : (c : JointConstraint) (v1 v2 : SolverVel) → (step_of c v1 v2).vels ≡ applied_of c v1 v2 (residual_of c v1 v2)
unfolding step_of residual_of
step-gives-residual c v1 v2 = refl

-- ---- bounds

pub step-within : (c : JointConstraint) (v1 v2 : SolverVel) → lt c.impulse_max c.impulse_min ≡ false → Within c.impulse_min c.impulse_max (step_of c v1 v2).row.impulse
unfolding step_of with_impulse
step-within c v1 v2 order = clamp-within (wanted_impulse_of c v1 v2) c.impulse_min c.impulse_max order

-- ---- bias

pub remove-bias-twice : (c : JointConstraint) → remove_bias_of (remove_bias_of c) ≡ remove_bias_of c
unfolding remove_bias_of
remove-bias-twice c = refl
