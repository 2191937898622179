-- `seed` meets its contract, by the three kinds of ids. Past the last axis 0 / 0 is what the definition reads, a NaN; that there are six impulses
-- is what owning `self` tells of its second field.
use Prim.Native.Nat.{◌≤◌}
use mathlib.Core.Path.{◌≡◌, refl, sym, ◌∙◌}
use native.Mathlib.Omega.{arith}
use lib.ListN.{length, get_or-eq_default}
use lib.Ieee.{nan, binary32, of_bits, div}
use Rattle.spatial_rows.specs.Builder.{seed_of}
use Rattle.spatial_rows.proofs.joint_constraint_builder.ImpulseJoint.seed.Goals as goal

-- past the last axis
no_number : div binary32 (of_bits binary32 0) (of_bits binary32 0) ≡ nan
unfolding div of_bits
no_number = refl

pub returns-then-axis-lt6 : goal.returns-then-axis-lt6
unfolding seed_of
returns-then-axis-lt6 c = simp c.in-Dof.is

pub returns-else-axis-lt6 : goal.returns-else-axis-lt6
unfolding seed_of
returns-else-axis-lt6 c =
    let i = c.in-Dof.axis in
    let six = c.well_formed.0.1.1.1.0.1.0.1 in
    let h : length c.args.self.impulses ≤ i = omega (arith, six) in
    simp c.in-Dof.is (no_number ∙ sym (get_or-eq_default c.args.self.impulses nan h))

pub returns-in-Limit : goal.returns-in-Limit
unfolding seed_of
returns-in-Limit c = simp (c.in-Limit.is, c.limits_at.ensures)

pub returns-in-Motor : goal.returns-in-Motor
unfolding seed_of
returns-in-Motor c = simp (c.in-Motor.is, c.motor_at.ensures)
