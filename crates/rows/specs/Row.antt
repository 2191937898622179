-- A row, the Rust's `JointConstraint`, and the row with a field changed.
--
-- A row is one scalar equation on the velocities of two bodies. Its Jacobian J acts on (v1, ω1, v2, ω2) as
--     J v = lin_jac · (v2 − v1) + ang_jac2 ω2 − ang_jac1 ω1,
-- and a solver looks for the impulse λ, within [impulse_min, impulse_max], at which J v + rhs − cfm_gain λ is 0.
--
-- The sign of an impulse: a positive one moves body 1 along lin_jac (and turns it by ii_ang_jac1) and body 2 the other way, so the change of v is −M⁻¹ Jᵀ λ.
--
--     lin_jac, ang_jac1, ang_jac2    the Jacobian
--     im1, im2, ii_ang_jac1, ii_ang_jac2    M⁻¹: inverse masses by direction, and inverse inertias, the latter times the angular Jacobian
--     rhs, rhs_wo_bias    the velocity that is to be added to J v, with and without the bias that corrects the position's error
--     cfm_coeff, cfm_gain    cfm, "constraint force mixing": softness, as a part of J M⁻¹ Jᵀ and as an inverse mass on top of it
--     inv_lhs    the inverse of the left-hand side J M⁻¹ Jᵀ + cfm. J M⁻¹ Jᵀ is the inverse of the effective mass, so this is the effective mass, softened
--
-- Units, with lengths in metres: a linear row's impulse is in N·s and its rhs in m/s; an angular row's in N·m·s and rad/s. An angular lock's bias is the sine of the
-- angle between the frames, as the Rust has it, and an angular limit's and motor's are angles.
use Rattle.std.specs.Prelude.{Float}
use Rattle.rows.specs.declared.joint_constraint_helper.ImpulseBounds.{ImpulseBounds}
use Rattle.rows.specs.declared.joint_velocity_constraint.JointConstraint.{JointConstraint}

-- the row with another impulse
unfoldable pub with_impulse : JointConstraint → Float → JointConstraint
with_impulse c p = record {
  impulse = p;
  impulse_min = c.impulse_min;
  impulse_max = c.impulse_max;
  lin_jac = c.lin_jac;
  ang_jac1 = c.ang_jac1;
  ang_jac2 = c.ang_jac2;
  ii_ang_jac1 = c.ii_ang_jac1;
  ii_ang_jac2 = c.ii_ang_jac2;
  inv_lhs = c.inv_lhs;
  rhs = c.rhs;
  rhs_wo_bias = c.rhs_wo_bias;
  cfm_gain = c.cfm_gain;
  cfm_coeff = c.cfm_coeff;
  im1 = c.im1;
  im2 = c.im2;
}

-- with other bounds of its impulse
abbrev pub with_bounds : JointConstraint → ImpulseBounds → JointConstraint
with_bounds c bounds = record {
  impulse = c.impulse;
  impulse_min = bounds.min;
  impulse_max = bounds.max;
  lin_jac = c.lin_jac;
  ang_jac1 = c.ang_jac1;
  ang_jac2 = c.ang_jac2;
  ii_ang_jac1 = c.ii_ang_jac1;
  ii_ang_jac2 = c.ii_ang_jac2;
  inv_lhs = c.inv_lhs;
  rhs = c.rhs;
  rhs_wo_bias = c.rhs_wo_bias;
  cfm_gain = c.cfm_gain;
  cfm_coeff = c.cfm_coeff;
  im1 = c.im1;
  im2 = c.im2;
}

-- with another inverse left-hand side
abbrev pub with_inv_lhs : JointConstraint → Float → JointConstraint
with_inv_lhs c x = record {
  impulse = c.impulse;
  impulse_min = c.impulse_min;
  impulse_max = c.impulse_max;
  lin_jac = c.lin_jac;
  ang_jac1 = c.ang_jac1;
  ang_jac2 = c.ang_jac2;
  ii_ang_jac1 = c.ii_ang_jac1;
  ii_ang_jac2 = c.ii_ang_jac2;
  inv_lhs = x;
  rhs = c.rhs;
  rhs_wo_bias = c.rhs_wo_bias;
  cfm_gain = c.cfm_gain;
  cfm_coeff = c.cfm_coeff;
  im1 = c.im1;
  im2 = c.im2;
}

-- with another right-hand side
abbrev pub with_rhs : JointConstraint → Float → JointConstraint
with_rhs c x = record {
  impulse = c.impulse;
  impulse_min = c.impulse_min;
  impulse_max = c.impulse_max;
  lin_jac = c.lin_jac;
  ang_jac1 = c.ang_jac1;
  ang_jac2 = c.ang_jac2;
  ii_ang_jac1 = c.ii_ang_jac1;
  ii_ang_jac2 = c.ii_ang_jac2;
  inv_lhs = c.inv_lhs;
  rhs = x;
  rhs_wo_bias = c.rhs_wo_bias;
  cfm_gain = c.cfm_gain;
  cfm_coeff = c.cfm_coeff;
  im1 = c.im1;
  im2 = c.im2;
}

-- with another right-hand side without bias
abbrev pub with_rhs_wo_bias : JointConstraint → Float → JointConstraint
with_rhs_wo_bias c x = record {
  impulse = c.impulse;
  impulse_min = c.impulse_min;
  impulse_max = c.impulse_max;
  lin_jac = c.lin_jac;
  ang_jac1 = c.ang_jac1;
  ang_jac2 = c.ang_jac2;
  ii_ang_jac1 = c.ii_ang_jac1;
  ii_ang_jac2 = c.ii_ang_jac2;
  inv_lhs = c.inv_lhs;
  rhs = c.rhs;
  rhs_wo_bias = x;
  cfm_gain = c.cfm_gain;
  cfm_coeff = c.cfm_coeff;
  im1 = c.im1;
  im2 = c.im2;
}

-- with another gain
abbrev pub with_cfm_gain : JointConstraint → Float → JointConstraint
with_cfm_gain c x = record {
  impulse = c.impulse;
  impulse_min = c.impulse_min;
  impulse_max = c.impulse_max;
  lin_jac = c.lin_jac;
  ang_jac1 = c.ang_jac1;
  ang_jac2 = c.ang_jac2;
  ii_ang_jac1 = c.ii_ang_jac1;
  ii_ang_jac2 = c.ii_ang_jac2;
  inv_lhs = c.inv_lhs;
  rhs = c.rhs;
  rhs_wo_bias = c.rhs_wo_bias;
  cfm_gain = x;
  cfm_coeff = c.cfm_coeff;
  im1 = c.im1;
  im2 = c.im2;
}

-- with another coefficient
abbrev pub with_cfm_coeff : JointConstraint → Float → JointConstraint
with_cfm_coeff c x = record {
  impulse = c.impulse;
  impulse_min = c.impulse_min;
  impulse_max = c.impulse_max;
  lin_jac = c.lin_jac;
  ang_jac1 = c.ang_jac1;
  ang_jac2 = c.ang_jac2;
  ii_ang_jac1 = c.ii_ang_jac1;
  ii_ang_jac2 = c.ii_ang_jac2;
  inv_lhs = c.inv_lhs;
  rhs = c.rhs;
  rhs_wo_bias = c.rhs_wo_bias;
  cfm_gain = c.cfm_gain;
  cfm_coeff = x;
  im1 = c.im1;
  im2 = c.im2;
}
