-- A joint's stored impulses are read as seeds only. Two joints with the same frames, masks, softness, ends of limits, motors and centre have the
-- same rows made by `update` (`same_rows`), as a joint has before and after `writeback_of` (`written-rows`). What the builder's `update`
-- gives then differs at most by the seeds of the joint's ids (`same-seeds`), and after substep 0 not at all (`later-reads-no-seed`).
-- Assumes nothing.
use Rattle.std.specs.Prelude.{Option}
use Prim.Native.Nat.{ℕ, zero, suc}
use mathlib.Core.Path.{◌≡◌, refl, ◌∙◌}
use mathlib.Core.List.{List, [], ◌∷◌, map, Memᴰ}
use lib.ListN.{get_or, set}
use lib.Ieee.{Float}
use Rattle.rows.specs.declared.integration_parameters.IntegrationParameters.{IntegrationParameters}
use Rattle.rows.specs.declared.generic_joint.GenericJoint.{GenericJoint}
use Rattle.rows.specs.declared.generic_joint.JointLimits.{JointLimits}
use Rattle.rows.specs.declared.generic_joint.JointMotor.{JointMotor}
use Rattle.rows.specs.declared.joint_constraint_builder.SolverPose.{SolverPose}
use Rattle.rows.specs.declared.joint_constraint_builder.ImpulseJoint.{ImpulseJoint}
use Rattle.rows.specs.declared.joint_velocity_constraint.RowContext.{RowContext}
use Rattle.rows.specs.declared.joint_velocity_constraint.WritebackId.{WritebackId}
use Rattle.rows.specs.declared.joint_velocity_constraint.WritebackId.TheVariants.{Dof, Limit, Motor}
use Rattle.rows.specs.GenericJoint.{limits_at, motor_at, motor_params_of}
use Rattle.rows.specs.Row.{with_impulse}
use Rattle.rows.specs.RowIds.{group_one, group_two, row_ids}
use Rattle.rows.specs.Update.{context_of, motor_limits_of, row_of, update_of}
use Rattle.rows.specs.Builder.{joint_context_of, seed_of, builder_update_of}
use Rattle.rows.specs.Writeback.{writeback_of}
use Rattle.rows.proofs.WarmedFinalize.{warmed_all-seeds, warmed_all-later}

-- what a row reads of a joint's contents, that is all but the stored impulses
pub record SameParts (a b : GenericJoint) : Type 0 where
  pub frame1 : a.local_frame1 ≡ b.local_frame1
  pub frame2 : a.local_frame2 ≡ b.local_frame2
  pub masks : a.masks ≡ b.masks
  pub softness : a.softness ≡ b.softness
  pub mins : (i : ℕ) → (limits_at a i).min ≡ (limits_at b i).min
  pub maxs : (i : ℕ) → (limits_at a i).max ≡ (limits_at b i).max
  pub motors : (i : ℕ) (dt : Float) → motor_params_of (motor_at a i) dt ≡ motor_params_of (motor_at b i) dt

pub equal-parts : (a b : GenericJoint) → a ≡ b → SameParts a b
equal-parts a b e = record {
  frame1 = rw e;
  frame2 = rw e;
  masks = rw e;
  softness = rw e;
  mins = λ i. rw e;
  maxs = λ i. rw e;
  motors = λ i dt. rw e;
}

motor-limits-ends : (a b : GenericJoint) → SameParts a b → (i : ℕ) → motor_limits_of a i ≡ motor_limits_of b i
unfolding motor_limits_of
motor-limits-ends a b s i = rw (s.masks, s.mins i, s.maxs i)

-- two contexts that differ in their joints' stored impulses at most
record SameContext (x y : RowContext) : Type 0 where
  params : x.params ≡ y.params
  body1 : x.body1 ≡ y.body1
  body2 : x.body2 ≡ y.body2
  helper : x.helper ≡ y.helper
  joint : SameParts x.joint y.joint
  ang_limit : x.ang_limit ≡ y.ang_limit
  erp : x.erp_inv_dt ≡ y.erp_inv_dt
  cfm : x.cfm_coeff ≡ y.cfm_coeff

same_row : (x y : RowContext) → SameContext x y → (i : WritebackId) → row_of x i ≡ row_of y i
unfolding row_of
same_row x y s (Dof i) = rw (s.helper, s.body1, s.body2, s.erp, s.cfm)
same_row x y s (Limit i) =
    rw (
      s.helper,
      s.params,
      s.body1,
      s.body2,
      s.erp,
      s.cfm,
      s.ang_limit,
      s.joint.masks,
      s.joint.mins i,
      s.joint.maxs i,
    )
same_row x y s (Motor i) =
    rw (
      s.helper,
      s.params,
      s.body1,
      s.body2,
      motor-limits-ends x.joint y.joint s.joint i,
      s.joint.motors i y.params.dt,
      s.joint.masks,
    )

same_map : (x y : RowContext) → SameContext x y → (is : List WritebackId) → map (row_of x) is ≡ map (row_of y) is
same_map x y s [] = refl
same_map x y s (i ∷ is) = rw (same_row x y s i, same_map x y s is)

same_update : (x y : RowContext) → SameContext x y → update_of x ≡ update_of y
unfolding update_of
same_update x y s =
    rw (same_map x y s (group_one 2 1 x.joint.masks), same_map x y s (group_two 2 1 x.joint.masks), s.joint.masks)

module _ (params : IntegrationParameters) (body1 body2 : SolverPose) where
  same-context : (a b : ImpulseJoint) → SameParts a.«data» b.«data» → a.center ≡ b.center → SameContext (joint_context_of params body1 body2 a) (joint_context_of params body1 body2 b)
  unfolding joint_context_of context_of
  same-context a b s e = record {
    params = refl;
    body1 = refl;
    body2 = refl;
    helper = rw (s.frame1, s.frame2, s.masks);
    joint = s;
    ang_limit = rw (s.mins 2, s.maxs 2, e);
    erp = rw s.softness;
    cfm = rw s.softness;
  }

  pub same_rows : (a b : ImpulseJoint) → SameParts a.«data» b.«data» → a.center ≡ b.center
      → update_of (joint_context_of params body1 body2 a) ≡ update_of (joint_context_of params body1 body2 b)
  same_rows a b s e = same_update (joint_context_of params body1 body2 a) (joint_context_of params body1 body2 b) (same-context a b s e)

  pub same-seeds : (substep : ℕ) (warm : Option Float) (a b : ImpulseJoint) (prevs : List Float) → SameParts a.«data» b.«data» → a.center ≡ b.center
      → ((i : WritebackId) → Memᴰ i (row_ids 2 1 a.«data».masks) → seed_of a i ≡ seed_of b i)
      → builder_update_of params substep warm body1 body2 a prevs ≡ builder_update_of params substep warm body1 body2 b prevs
  unfolding builder_update_of
  same-seeds substep warm a b prevs s e h =
      warmed_all-seeds with_impulse warm substep (seed_of a) (seed_of b) (row_ids 2 1 a.«data».masks) prevs (update_of (joint_context_of params body1 body2 a)) h
      ∙ rw (same_rows a b s e, s.masks)

  pub later-reads-no-seed : (substep : ℕ) (warm : Option Float) (a b : ImpulseJoint) (prevs : List Float) → SameParts a.«data» b.«data» → a.center ≡ b.center
      → builder_update_of params (suc substep) warm body1 body2 a prevs ≡ builder_update_of params (suc substep) warm body1 body2 b prevs
  unfolding builder_update_of
  later-reads-no-seed substep warm a b prevs s e =
      warmed_all-later with_impulse warm substep (seed_of a) (seed_of b) (row_ids 2 1 a.«data».masks) prevs (update_of (joint_context_of params body1 body2 a)) ∙ rw (same_rows a b s e, s.masks)

-- ---- what is written back

-- a part that a store at place i keeps
set-kept : {A B : Type 0} (f : A → B) (l : List A) (i j : ℕ) (v d : A) → f v ≡ f (get_or l i d) → f (get_or (set l i v) j d) ≡ f (get_or l j d)
set-kept f [] i j v d e = refl
set-kept f (a ∷ l) zero zero v d e = e
set-kept f (a ∷ l) zero (suc j) v d e = refl
set-kept f (a ∷ l) (suc i) zero v d e = refl
set-kept f (a ∷ l) (suc i) (suc j) v d e = set-kept f l i j v d e

pub written-parts : (joint : ImpulseJoint) (id : WritebackId) (p : Float) → SameParts (writeback_of joint id p).«data» joint.«data»
unfolding writeback_of motor_params_of
written-parts joint (Dof i) p = record { frame1 = refl; frame2 = refl; masks = refl; softness = refl; mins = λ j. refl; maxs = λ j. refl; motors = λ j dt. refl }
written-parts joint (Limit i) p = record {
  frame1 = refl;
  frame2 = refl;
  masks = refl;
  softness = refl;
  mins = λ j. set-kept (λ (l : JointLimits). l.min) joint.«data».limits i j _ _ refl;
  maxs = λ j. set-kept (λ (l : JointLimits). l.max) joint.«data».limits i j _ _ refl;
  motors = λ j dt. refl;
}
written-parts joint (Motor i) p = record {
  frame1 = refl;
  frame2 = refl;
  masks = refl;
  softness = refl;
  mins = λ j. refl;
  maxs = λ j. refl;
  motors = λ j dt. set-kept (λ (m : JointMotor). motor_params_of m dt) joint.«data».motors i j _ _ refl;
}

written-center : (joint : ImpulseJoint) (id : WritebackId) (p : Float) → (writeback_of joint id p).center ≡ joint.center
unfolding writeback_of
written-center joint (Dof i) p = refl
written-center joint (Limit i) p = refl
written-center joint (Motor i) p = refl

pub written-rows : (params : IntegrationParameters) (body1 body2 : SolverPose) (joint : ImpulseJoint) (id : WritebackId) (p : Float)
    → update_of (joint_context_of params body1 body2 (writeback_of joint id p)) ≡ update_of (joint_context_of params body1 body2 joint)
written-rows params body1 body2 joint id p =
    same_rows params body1 body2 (writeback_of joint id p) joint (written-parts joint id p) (written-center joint id p)
