-- The Rust's joint_velocity_constraint.rs: what a row does to the velocities of its two bodies.
use Rattle.std.specs.Prelude.{Float}
use Rattle.floats.specs.Operators.{◌⊕◌, ◌⊖◌, ◌⊗◌}
use Rattle.floats.specs.Scalar.{clamp_of, side_of}
use Rattle.floats.specs.Vector.{add_of, sub_of, mul_of, gdot_of, component_mul_of}
use Rattle.rows.specs.Row.{with_impulse, with_rhs}
use Rattle.rows.specs.declared.joint_velocity_constraint.JointConstraint.{JointConstraint}
use Rattle.rows.specs.declared.joint_velocity_constraint.SolverVel.{SolverVel}
use Rattle.rows.specs.declared.joint_velocity_constraint.SolverVels.{SolverVels}
use Rattle.rows.specs.declared.joint_velocity_constraint.Solved.{Solved}

-- the impulse that a row wants, before its bounds: at it J v + rhs − cfm_gain λ would be 0
unfoldable pub wanted_impulse_of : JointConstraint → SolverVel → SolverVel → Float
wanted_impulse_of c v1 v2 =
    let dlinvel = gdot_of c.lin_jac (sub_of v2.linear v1.linear) in
    let dangvel = c.ang_jac2 ⊗ v2.angular ⊖ c.ang_jac1 ⊗ v1.angular in
    let rhs = dlinvel ⊕ dangvel ⊕ c.rhs in
    c.impulse ⊕ c.inv_lhs ⊗ (rhs ⊖ c.cfm_gain ⊗ c.impulse)

-- both velocities once an impulse acts along the row: body 1 moves along lin_jac, body 2 against it
unfoldable pub applied_of : JointConstraint → SolverVel → SolverVel → Float → SolverVels
applied_of c v1 v2 p =
    let lin_impulse = mul_of c.lin_jac p in
    record {
      vel1 = record { linear = add_of v1.linear (component_mul_of lin_impulse c.im1); angular = v1.angular ⊕ c.ii_ang_jac1 ⊗ p };
      vel2 = record { linear = sub_of v2.linear (component_mul_of lin_impulse c.im2); angular = v2.angular ⊖ c.ii_ang_jac2 ⊗ p };
    }

-- `solve_generic`: the wanted impulse within the row's bounds, its change acting on both bodies, and which bound the wanted impulse met (document 02, R-9)
unfoldable pub step_of : JointConstraint → SolverVel → SolverVel → Solved
step_of c v1 v2 =
    let wanted = wanted_impulse_of c v1 v2 in
    let total = clamp_of wanted c.impulse_min c.impulse_max in
    record { row = with_impulse c total; vels = applied_of c v1 v2 (total ⊖ c.impulse); side = side_of wanted c.impulse_min c.impulse_max }

-- the residual of a row at these velocities: the change that one more step would make to its impulse
unfoldable pub residual_of : JointConstraint → SolverVel → SolverVel → Float
residual_of c v1 v2 = clamp_of (wanted_impulse_of c v1 v2) c.impulse_min c.impulse_max ⊖ c.impulse

-- `warmstart_generic`: the row's impulse acts on both bodies
unfoldable pub warmstart_of : JointConstraint → SolverVel → SolverVel → SolverVels
warmstart_of c v1 v2 = applied_of c v1 v2 c.impulse

-- `remove_bias_from_rhs`
unfoldable pub remove_bias_of : JointConstraint → JointConstraint
remove_bias_of c = with_rhs c c.rhs_wo_bias
