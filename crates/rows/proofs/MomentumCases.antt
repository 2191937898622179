-- Momentum drift on single rows: inverse masses by their bit patterns; steps that meet all that R-13 asks and drift, one of them by the bound but for the other body's part of it;
-- and an impulse whose product is below 2^-126, of which the claim would be false.
use mathlib.Core.Path.{◌≡◌, refl}
use mathlib.Core.Logic.{inl, inr}
use Prim.Native.Nat.{ℕ, ◌+◌, ◌*◌, ◌^◌, ◌<◌}
use lib.Dec.{lit<, lit≤}
use lib.IntN.{nat_abs, ◌-ℤ◌}
use lib.Ieee.{Float, size, of_bits, add, sub, mul, neg, lt}
use Rattle.floats.specs.Operators.{bits}
use Rattle.floats.specs.Scalar.{clamp_of, is_finite}
use Rattle.floats.specs.Bits.{units_of}
use Rattle.floats.specs.Value.{magnitude_of, exact_value_of, spacing_of}
use Rattle.floats.specs.Vector.{Axis, X, Y, add_of, sub_of, mul_of, gdot_of, component_mul_of}
use Rattle.rows.specs.Step.{wanted_impulse_of, applied_of}
use Rattle.rows.specs.Momentum.{inverse_mass, momentum_sum, momentum_spacing, PowersOfTwo, InRange, impulse_change_of}
use Rattle.rows.specs.declared.joint_velocity_constraint.JointConstraint.{JointConstraint}
use Rattle.rows.specs.declared.joint_velocity_constraint.SolverVel.{SolverVel}

-- what holds along both axes
along-both : (P : Axis → Type 0) → P X → P Y → (i : Axis) → P i
along-both P x y X = x
along-both P x y Y = y

-- 2^20, 1 and 2^-20
masses : (inverse_mass 0 ≡ bits 0x4980_0000) × (inverse_mass 20 ≡ bits 0x3F80_0000) × (inverse_mass 40 ≡ bits 0x3580_0000)
unfolding of_bits
masses = (refl, refl, refl)

-- a row along x between bodies of these inverse masses, which wants to change its impulse by `rhs`
row : Float → Float → Float → JointConstraint
row m1 m2 rhs = record {
  impulse = bits 0;
  impulse_min = bits 0xBF80_0000;
  impulse_max = bits 0x3F80_0000;
  lin_jac = record { x = bits 0x3F80_0000; y = bits 0 };
  ang_jac1 = bits 0;
  ang_jac2 = bits 0;
  ii_ang_jac1 = bits 0;
  ii_ang_jac2 = bits 0;
  inv_lhs = bits 0x3F80_0000;
  rhs = rhs;
  rhs_wo_bias = bits 0;
  cfm_gain = bits 0;
  cfm_coeff = bits 0;
  im1 = record { x = m1; y = m1 };
  im2 = record { x = m2; y = m2 };
}

along-x : Float → SolverVel
along-x v = record { linear = record { x = v; y = bits 0 }; angular = bits 0 }

-- twice the change of the momentum sum along x, and what R-13 allows
change : JointConstraint → SolverVel → SolverVel → Float → ℕ → ℕ → ℕ
change c v1 v2 p w1 w2 = let new = applied_of c v1 v2 p in 2 * nat_abs (momentum_sum w1 w2 X new.vel1 new.vel2 -ℤ momentum_sum w1 w2 X v1 v2)

allowed : JointConstraint → SolverVel → SolverVel → Float → ℕ → ℕ → ℕ
allowed c v1 v2 p w1 w2 = let new = applied_of c v1 v2 p in momentum_spacing w1 new.vel1.linear.x + momentum_spacing w2 new.vel2.linear.x

-- ---- inverse masses 1 and 1 / 2, velocities 1 and 0, impulse 2^-24: body 1 stays at 1, body 2 leaves at -2^-25, and 2^-24 of momentum is lost

halves : JointConstraint
halves = row (inverse_mass 20) (inverse_mass 21) (bits 0)

halves-masses : PowersOfTwo halves 20 21
unfolding halves row
halves-masses = record {
  range1 = lit≤ tt;
  range2 = lit≤ tt;
  mass1 = along-both _ refl refl;
  mass2 = along-both _ refl refl;
}

halves-values : InRange halves (along-x (bits 0x3F80_0000)) (along-x (bits 0)) (bits 0x3380_0000)
unfolding halves row along-x applied_of add_of sub_of mul_of component_mul_of is_finite magnitude_of units_of of_bits add sub mul neg
halves-values = record {
  finite1 = along-both _ refl refl;
  finite2 = along-both _ refl refl;
  normal1 = along-both _ (inr (lit≤ tt)) (inl refl);
  normal2 = along-both _ (inr (lit≤ tt)) (inl refl);
}

halves-drift : (change halves (along-x (bits 0x3F80_0000)) (along-x (bits 0)) (bits 0x3380_0000) 20 21 ≡ 2 ^ 146)
    × (allowed halves (along-x (bits 0x3F80_0000)) (along-x (bits 0)) (bits 0x3380_0000) 20 21 ≡ 2 ^ 146 + 2 ^ 122)
unfolding halves change allowed row along-x applied_of add_of sub_of mul_of component_mul_of exact_value_of spacing_of magnitude_of units_of of_bits size add sub mul neg
halves-drift = (refl, refl)

-- ---- a whole step: both inverse masses 1, both velocities 1, and the right-hand side asks for 2^-24: body 1 stays at 1, body 2 leaves at 1 - 2^-24

alike : JointConstraint
alike = row (inverse_mass 20) (inverse_mass 20) (bits 0x3380_0000)

alike-masses : PowersOfTwo alike 20 20
unfolding alike row
alike-masses = record {
  range1 = lit≤ tt;
  range2 = lit≤ tt;
  mass1 = along-both _ refl refl;
  mass2 = along-both _ refl refl;
}

alike-impulse : impulse_change_of alike (along-x (bits 0x3F80_0000)) (along-x (bits 0x3F80_0000)) ≡ bits 0x3380_0000
unfolding alike row along-x wanted_impulse_of clamp_of gdot_of sub_of of_bits add sub mul neg lt
alike-impulse = refl

alike-values : InRange alike (along-x (bits 0x3F80_0000)) (along-x (bits 0x3F80_0000)) (impulse_change_of alike (along-x (bits 0x3F80_0000)) (along-x (bits 0x3F80_0000)))
unfolding alike row along-x applied_of wanted_impulse_of clamp_of gdot_of add_of sub_of mul_of component_mul_of is_finite magnitude_of units_of of_bits add sub mul neg lt
alike-values = record {
  finite1 = along-both _ refl refl;
  finite2 = along-both _ refl refl;
  normal1 = along-both _ (inr (lit≤ tt)) (inl refl);
  normal2 = along-both _ (inr (lit≤ tt)) (inl refl);
}

alike-drift : (change alike (along-x (bits 0x3F80_0000)) (along-x (bits 0x3F80_0000)) (bits 0x3380_0000) 20 20 ≡ 2 ^ 146)
    × (allowed alike (along-x (bits 0x3F80_0000)) (along-x (bits 0x3F80_0000)) (bits 0x3380_0000) 20 20 ≡ 2 ^ 146 + 2 ^ 145)
unfolding alike change allowed row along-x applied_of add_of sub_of mul_of component_mul_of exact_value_of spacing_of magnitude_of units_of of_bits size add sub mul neg
alike-drift = (refl, refl)

-- ---- Inverse masses 2^-20 and 2^20, velocities 2^-125 and 0, impulse 5 · 2^-131: body 1's product is 5 / 4 of the smallest value, is rounded to 1 of it, and then lost in
-- the sum. The change is more than R-13 would allow.

small_product : allowed (row (inverse_mass 40) (inverse_mass 0) (bits 0)) (along-x (bits 0x0100_0000)) (along-x (bits 0)) (bits 0x0014_0000) 40 0
    < change (row (inverse_mass 40) (inverse_mass 0) (bits 0)) (along-x (bits 0x0100_0000)) (along-x (bits 0)) (bits 0x0014_0000) 40 0
unfolding allowed change row along-x applied_of add_of sub_of mul_of component_mul_of exact_value_of spacing_of magnitude_of units_of of_bits size add sub mul neg
small_product = lit< tt
