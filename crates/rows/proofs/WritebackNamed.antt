-- An impulse written back by one id to two joints with equal contents, unnamed numbers aside, leaves them so (`named-written`), and both keep their three axes
-- (`written-axes`). The stored impulse of a named id is the same in both (`named-seeds`); and the joints agree where fewer ids are named (`fewer-named`).
-- Stated over any naming of ids. Assumes nothing.
use Prim.Native.Nat.{ℕ, zero, suc}
use native.Mathlib.Omega.{arith}
use mathlib.Core.Path.{◌≡◌, refl, sym, ap, ◌∙◌}
use mathlib.Core.List.{List, [], ◌∷◌}
use lib.ListN.{length, get_or, set, length-set}
use lib.Ieee.{Float, nan}
use Rattle.rows.specs.declared.generic_joint.JointLimits.{JointLimits}
use Rattle.rows.specs.declared.generic_joint.JointMotor.{JointMotor}
use Rattle.rows.specs.declared.joint_constraint_builder.ImpulseJoint.{ImpulseJoint}
use Rattle.rows.specs.declared.joint_velocity_constraint.WritebackId.{WritebackId}
use Rattle.rows.specs.declared.joint_velocity_constraint.WritebackId.TheVariants.{Dof, Limit, Motor}
use Rattle.rows.specs.Builder.{seed_of}
use Rattle.rows.specs.Writeback.{writeback_of}
use Rattle.rows.specs.Named.{SameNamed}

-- an element that two lists share, after a store at one place in both
pub set_same : {A : Type 0} (l l' : List A) (i i' : ℕ) (v v' d : A) → length l ≡ length l' → (i' ≡ i → v ≡ v') → get_or l i' d ≡ get_or l' i' d
    → get_or (set l i v) i' d ≡ get_or (set l' i v') i' d
set_same [] [] i i' v v' d n h e = refl
set_same [] (b ∷ l') i i' v v' d n h e = absurd (omega arith)
set_same (a ∷ l) [] i i' v v' d n h e = absurd (omega arith)
set_same (a ∷ l) (b ∷ l') zero zero v v' d n h e = h refl
set_same (a ∷ l) (b ∷ l') zero (suc i') v v' d n h e = e
set_same (a ∷ l) (b ∷ l') (suc i) zero v v' d n h e = e
set_same (a ∷ l) (b ∷ l') (suc i) (suc i') v v' d n h e = set_same l l' i i' v v' d (omega arith) (λ q. h (ap suc q)) e

-- a joint has three axes
pub record Axes (a : ImpulseJoint) : Type 0 where
  pub limits : length a.«data».limits ≡ 3
  pub motors : length a.«data».motors ≡ 3
  pub impulses : length a.impulses ≡ 3

pub written-axes : (a : ImpulseJoint) (id : WritebackId) (p : Float) → Axes a → Axes (writeback_of a id p)
unfolding writeback_of
written-axes a (Dof i) p x = record { limits = x.limits; motors = x.motors; impulses = length-set a.impulses i p ∙ x.impulses }
written-axes a (Limit i) p x = record { limits = length-set a.«data».limits i _ ∙ x.limits; motors = x.motors; impulses = x.impulses }
written-axes a (Motor i) p x = record { limits = x.limits; motors = length-set a.«data».motors i _ ∙ x.motors; impulses = x.impulses }

-- one impulse written to both by one id
pub named-written : {named : WritebackId → Type 0} (a b : ImpulseJoint) (id : WritebackId) (p : Float) → Axes a → Axes b → SameNamed named a b
    → SameNamed named (writeback_of a id p) (writeback_of b id p)
unfolding writeback_of
named-written a b (Dof i) p x y s = record {
  frame1 = s.frame1;
  frame2 = s.frame2;
  masks = s.masks;
  softness = s.softness;
  enabled = s.enabled;
  motor = s.motor;
  limits = s.limits;
  center = s.center;
  dof = λ i' n. set_same a.impulses b.impulses i i' p p nan (x.impulses ∙ sym y.impulses) (λ e. refl) (s.dof i' n);
}
named-written a b (Limit i) p x y s = record {
  frame1 = s.frame1;
  frame2 = s.frame2;
  masks = s.masks;
  softness = s.softness;
  enabled = s.enabled;
  motor = s.motor;
  limits = λ i' n.
      set_same a.«data».limits b.«data».limits i i' _ _ _ (x.limits ∙ sym y.limits) (λ e. rw (rw e at (s.limits i' n))) (s.limits i' n);
  center = s.center;
  dof = s.dof;
}
named-written a b (Motor i) p x y s = record {
  frame1 = s.frame1;
  frame2 = s.frame2;
  masks = s.masks;
  softness = s.softness;
  enabled = s.enabled;
  motor = λ i' n.
      set_same a.«data».motors b.«data».motors i i' _ _ _ (x.motors ∙ sym y.motors) (λ e. rw (rw e at (s.motor i' n))) (s.motor i' n);
  limits = s.limits;
  center = s.center;
  dof = s.dof;
}

-- the stored impulses of named ids
pub named-seeds : {named : WritebackId → Type 0} (a b : ImpulseJoint) → SameNamed named a b → (id : WritebackId) → named id → seed_of a id ≡ seed_of b id
unfolding seed_of
named-seeds a b s (Dof i) n = s.dof i n
named-seeds a b s (Limit i) n = ap (λ (l : JointLimits). l.impulse) (s.limits i n)
named-seeds a b s (Motor i) n = ap (λ (l : JointMotor). l.impulse) (s.motor i n)

pub fewer-named : {named fewer : WritebackId → Type 0} (a b : ImpulseJoint) → ((id : WritebackId) → fewer id → named id) → SameNamed named a b → SameNamed fewer a b
fewer-named a b f s = record {
  frame1 = s.frame1;
  frame2 = s.frame2;
  masks = s.masks;
  softness = s.softness;
  enabled = s.enabled;
  motor = λ i n. s.motor i (f (Motor i) n);
  limits = λ i n. s.limits i (f (Limit i) n);
  center = λ n. s.center (f (Limit 2) n);
  dof = λ i n. s.dof i (f (Dof i) n);
}
