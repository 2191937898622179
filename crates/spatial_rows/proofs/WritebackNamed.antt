-- An impulse written back by one id to two joints in space with equal contents, unnamed numbers aside, leaves them so (`named-written`), and both keep their axes
-- (`written-axes`). The stored impulse of a named id is the same in both (`named-seeds`); a joint agrees with itself (`named_self`), and two joints agree where fewer ids are
-- named (`fewer-named`). Stated over any naming of ids. Assumes nothing.
use mathlib.Core.Path.{◌≡◌, refl, sym, ap, ◌∙◌}
use lib.ListN.{length, length-set}
use lib.Ieee.{Float, nan}
use Rattle.rows.specs.declared.generic_joint.JointLimits.{JointLimits}
use Rattle.rows.specs.declared.generic_joint.JointMotor.{JointMotor}
use Rattle.rows.specs.declared.joint_velocity_constraint.WritebackId.{WritebackId}
use Rattle.rows.specs.declared.joint_velocity_constraint.WritebackId.TheVariants.{Dof, Limit, Motor}
use Rattle.rows.proofs.WritebackNamed.{set_same}
use Rattle.spatial_rows.specs.Builder.{seed_of}
use Rattle.spatial_rows.specs.Writeback.{writeback_of}
use Rattle.spatial_rows.specs.Named.{SameNamed}
use Rattle.spatial_rows.specs.declared.joint_constraint_builder.ImpulseJoint.{ImpulseJoint}

-- a joint has three linear axes, with limits and motors, and six Dof impulses
pub record Axes (a : ImpulseJoint) : Type 0 where
  pub limits : length a.«data».limits ≡ 3
  pub motors : length a.«data».motors ≡ 3
  pub impulses : length a.impulses ≡ 6

pub written-axes : (a : ImpulseJoint) (id : WritebackId) (p : Float) → Axes a → Axes (writeback_of a id p)
unfolding writeback_of
written-axes a (Dof i) p x = record { limits = x.limits; motors = x.motors; impulses = length-set a.impulses i p ∙ x.impulses }
written-axes a (Limit i) p x = record { limits = length-set a.«data».limits i _ ∙ x.limits; motors = x.motors; impulses = x.impulses }
written-axes a (Motor i) p x = record { limits = x.limits; motors = length-set a.«data».motors i _ ∙ x.motors; impulses = x.impulses }

-- one impulse written to both by one id
pub named-written : {named : WritebackId → Type 0} (a b : ImpulseJoint) (id : WritebackId) (p : Float) → Axes a → Axes b → SameNamed named a b
    → SameNamed named (writeback_of a id p) (writeback_of b id p)
unfolding writeback_of
named-written a b (Dof i) p x y s = record {
  frame1 = s.frame1;
  frame2 = s.frame2;
  masks = s.masks;
  softness = s.softness;
  enabled = s.enabled;
  motor = s.motor;
  limits = s.limits;
  dof = λ i' n. set_same a.impulses b.impulses i i' p p nan (x.impulses ∙ sym y.impulses) (λ e. refl) (s.dof i' n);
}
named-written a b (Limit i) p x y s = record {
  frame1 = s.frame1;
  frame2 = s.frame2;
  masks = s.masks;
  softness = s.softness;
  enabled = s.enabled;
  motor = s.motor;
  limits = λ i' n.
      set_same a.«data».limits b.«data».limits i i' _ _ _ (x.limits ∙ sym y.limits) (λ e. rw (rw e at (s.limits i' n))) (s.limits i' n);
  dof = s.dof;
}
named-written a b (Motor i) p x y s = record {
  frame1 = s.frame1;
  frame2 = s.frame2;
  masks = s.masks;
  softness = s.softness;
  enabled = s.enabled;
  motor = λ i' n.
      set_same a.«data».motors b.«data».motors i i' _ _ _ (x.motors ∙ sym y.motors) (λ e. rw (rw e at (s.motor i' n))) (s.motor i' n);
  limits = s.limits;
  dof = s.dof;
}

pub named_self : (named : WritebackId → Type 0) (a : ImpulseJoint) → SameNamed named a a
named_self named a = record {
  frame1 = refl;
  frame2 = refl;
  masks = refl;
  softness = refl;
  enabled = refl;
  motor = λ i n. refl;
  limits = λ i n. refl;
  dof = λ i n. refl;
}

-- the stored impulses of named ids
pub named-seeds : {named : WritebackId → Type 0} (a b : ImpulseJoint) → SameNamed named a b → (id : WritebackId) → named id → seed_of a id ≡ seed_of b id
unfolding seed_of
named-seeds a b s (Dof i) n = s.dof i n
named-seeds a b s (Limit i) n = ap (λ (l : JointLimits). l.impulse) (s.limits i n)
named-seeds a b s (Motor i) n = ap (λ (l : JointMotor). l.impulse) (s.motor i n)

pub fewer-named : {named fewer : WritebackId → Type 0} (a b : ImpulseJoint) → ((id : WritebackId) → fewer id → named id) → SameNamed named a b → SameNamed fewer a b
fewer-named a b f s = record {
  frame1 = s.frame1;
  frame2 = s.frame2;
  masks = s.masks;
  softness = s.softness;
  enabled = s.enabled;
  motor = λ i n. s.motor i (f (Motor i) n);
  limits = λ i n. s.limits i (f (Limit i) n);
  dof = λ i n. s.dof i (f (Dof i) n);
}
