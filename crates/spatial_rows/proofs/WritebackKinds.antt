-- What `writeback_impulses` changes of a joint in space, by the kind of the row's id: a lock's impulse goes to its axis's Dof impulse (`dof-written`), a
-- limit's to the stored impulse of its axis's limit (`limit-written`), a motor's to that of its axis's motor (`motor-written`). All else stays.
-- An axis past the last one is a store past a list's end, which changes nothing. Assumes nothing.
use Prim.Native.Nat.{ℕ}
use mathlib.Core.Path.{◌≡◌, refl}
use lib.ListN.{set}
use lib.Ieee.{Float}
use Rattle.rows.specs.Writeback.{limits_with, motor_with}
use Rattle.rows.specs.declared.joint_velocity_constraint.WritebackId.TheVariants.{Dof, Limit, Motor}
use Rattle.spatial_rows.specs.GenericJoint.{limits_at, motor_at}
use Rattle.spatial_rows.specs.Writeback.{data_with, joint_with, writeback_of}
use Rattle.spatial_rows.specs.declared.joint_constraint_builder.ImpulseJoint.{ImpulseJoint}

module _ (joint : ImpulseJoint) (i : ℕ) (p : Float) where
  pub dof-written : writeback_of joint (Dof i) p ≡ joint_with joint.«data» (set joint.impulses i p)
  unfolding writeback_of
  dof-written = refl

  pub limit-written : writeback_of joint (Limit i) p
      ≡ joint_with (data_with joint.«data» (set joint.«data».limits i (limits_with (limits_at joint.«data» i) p)) joint.«data».motors) joint.impulses
  unfolding writeback_of
  limit-written = refl

  pub motor-written : writeback_of joint (Motor i) p
      ≡ joint_with (data_with joint.«data» joint.«data».limits (set joint.«data».motors i (motor_with (motor_at joint.«data» i) p))) joint.impulses
  unfolding writeback_of
  motor-written = refl
