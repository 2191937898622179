-- Document 01, "Two studies side by side": the rows that a joint's masks give it, and when two joints have equal contents but for numbers that are not named.
use Rattle.std.specs.Prelude.{ℕ, ◌≡◌, get_or}
use mathlib.Core.List.{Memᴰ}
use Rattle.std.specs.Float.{nan}
use Rattle.rows.specs.RowIds.{row_ids}
use Rattle.rows.specs.GenericJoint.{limits_at, motor_at}
use Rattle.rows.specs.declared.generic_joint.Masks.{Masks}
use Rattle.rows.specs.declared.joint_constraint_builder.ImpulseJoint.{ImpulseJoint}
use Rattle.rows.specs.declared.joint_velocity_constraint.WritebackId.{WritebackId}
use Rattle.rows.specs.declared.joint_velocity_constraint.WritebackId.TheVariants.{Dof, Limit, Motor}

-- these masks give a joint a row with this id
abbrev pub GivesRow : Masks → WritebackId → Type 0
GivesRow masks id = Memᴰ id (row_ids 2 1 masks)

-- Equal contents, unnamed numbers aside. Where Motor(i) isn't named, axis i's motor may differ, its stored impulse included; without Limit(i), its limit ends and
-- their stored impulse, and for i = 2 the centre; without Dof(i), that Dof impulse.
pub record SameNamed (named : WritebackId → Type 0) (j k : ImpulseJoint) : Type 0 where
  pub frame1 : j.«data».local_frame1 ≡ k.«data».local_frame1
  pub frame2 : j.«data».local_frame2 ≡ k.«data».local_frame2
  pub masks : j.«data».masks ≡ k.«data».masks
  pub softness : j.«data».softness ≡ k.«data».softness
  pub enabled : j.«data».enabled ≡ k.«data».enabled
  pub motor : (i : ℕ) → named (Motor i) → motor_at j.«data» i ≡ motor_at k.«data» i
  pub limits : (i : ℕ) → named (Limit i) → limits_at j.«data» i ≡ limits_at k.«data» i
  pub center : named (Limit 2) → j.center ≡ k.center
  pub dof : (i : ℕ) → named (Dof i) → get_or j.impulses i nan ≡ get_or k.impulses i nan
