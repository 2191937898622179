-- Document 02, R-13: how far a row's step moves the momentum sum of its two bodies, over whole numbers. A velocity counts units of 2^-149. A body's inverse mass is
-- 2^(20 - w) for a w from 0 to 40, so that its mass is 2^w units of 2^-20, and its momentum along an axis is a whole number of units of 2^-169.
use Rattle.std.specs.Prelude.{◌≡◌, true, false, ℕ, ◌+◌, ◌*◌, ◌^◌, ◌≤◌, ℤ, pos, nat_abs, ◌+ℤ◌, ◌-ℤ◌, ◌*ℤ◌, Float}
use Rattle.std.specs.Float.{fin, binary32}
use Rattle.std.specs.Float.Ieee.{minus, fits}
use Rattle.floats.specs.Operators.{◌⊖◌}
use Rattle.floats.specs.Scalar.{is_finite, clamp_of}
use Rattle.floats.specs.Value.{exact_value_of, spacing_of, ZeroOrNormal}
use Rattle.floats.specs.Vector.{Axis, component, mul_of}
use Rattle.floats.specs.declared.vector.Vector.{Vector}
use Rattle.rows.specs.Step.{wanted_impulse_of, applied_of, step_of}
use Rattle.rows.specs.declared.joint_velocity_constraint.JointConstraint.{JointConstraint}
use Rattle.rows.specs.declared.joint_velocity_constraint.SolverVel.{SolverVel}
use Rattle.rows.specs.declared.joint_velocity_constraint.SolverVels.{SolverVels}

-- 2^(20 - w)
abbrev pub inverse_mass : ℕ → Float
inverse_mass w = fin false 1 (minus 20 w)

-- a velocity over an inverse mass, and the spacing at a velocity over an inverse mass, in units of 2^-169
abbrev pub momentum_of : ℕ → Float → ℤ
momentum_of w v = exact_value_of v *ℤ pos (2 ^ w)

abbrev pub momentum_spacing : ℕ → Float → ℕ
momentum_spacing w v = spacing_of v * 2 ^ w

-- the exact momentum sum of two bodies along an axis
abbrev pub momentum_sum : ℕ → ℕ → Axis → SolverVel → SolverVel → ℤ
momentum_sum w1 w2 i v1 v2 = momentum_of w1 (component i v1.linear) +ℤ momentum_of w2 (component i v2.linear)

-- ---- what R-13 asks

-- Both bodies of a row move, and each body's two inverse masses are one power of two from 2^-20 to 2^20: 2^(20 - w1), and 2^(20 - w2).
pub record PowersOfTwo (c : JointConstraint) (w1 w2 : ℕ) : Type 0 where
  pub range1 : w1 ≤ 40
  pub range2 : w2 ≤ 40
  pub mass1 : (i : Axis) → component i c.im1 ≡ inverse_mass w1
  pub mass2 : (i : Axis) → component i c.im2 ≡ inverse_mass w2

-- A velocity's components are binary32 numbers, as those of every program are: the logic's `Float` has more.
abbrev pub Binary32 : SolverVel → Type 0
Binary32 v = (i : Axis) → fits binary32 (component i v.linear) ≡ true

-- An impulse p acts along a row without overflow and underflow: the new velocities are finite, and with them every value on the way; each component of the rounded
-- impulse, times either body's inverse mass, is exactly zero or at least 2^-126 in size.
pub record InRange (c : JointConstraint) (v1 v2 : SolverVel) (p : Float) : Type 0 where
  pub finite1 : (i : Axis) → is_finite (component i (applied_of c v1 v2 p).vel1.linear) ≡ true
  pub finite2 : (i : Axis) → is_finite (component i (applied_of c v1 v2 p).vel2.linear) ≡ true
  pub normal1 : (i : Axis) → ZeroOrNormal (component i (mul_of c.lin_jac p)) (component i c.im1)
  pub normal2 : (i : Axis) → ZeroOrNormal (component i (mul_of c.lin_jac p)) (component i c.im2)

-- ---- what it claims

-- The momentum sum changes by at most half the spacing at each new velocity, each half over that body's inverse mass. Both sides are doubled.
abbrev pub DriftBound : ℕ → ℕ → SolverVel → SolverVel → SolverVels → Type 0
DriftBound w1 w2 v1 v2 new =
    (i : Axis)
    → 2 * nat_abs (momentum_sum w1 w2 i new.vel1 new.vel2 -ℤ momentum_sum w1 w2 i v1 v2)
    ≤ momentum_spacing w1 (component i new.vel1.linear) + momentum_spacing w2 (component i new.vel2.linear)

-- the impulse that a row's step applies: the change of its own
abbrev pub impulse_change_of : JointConstraint → SolverVel → SolverVel → Float
impulse_change_of c v1 v2 = clamp_of (wanted_impulse_of c v1 v2) c.impulse_min c.impulse_max ⊖ c.impulse

-- R-13 for one row's step
abbrev pub StepDrift : Type 0
StepDrift =
    (c : JointConstraint) (v1 v2 : SolverVel) (w1 w2 : ℕ)
    → PowersOfTwo c w1 w2 → Binary32 v1 → Binary32 v2 → InRange c v1 v2 (impulse_change_of c v1 v2)
    → DriftBound w1 w2 v1 v2 (step_of c v1 v2).vels

-- a row's copies of its two bodies' inverse masses are im1 and im2
pub record HasInverseMasses (im1 im2 : Vector) (c : JointConstraint) : Type 0 where
  pub first : c.im1 ≡ im1
  pub second : c.im2 ≡ im2
