-- A joint's rows have their bodies' inverse masses, however a build makes them (`built-masses`); a step, a warm start and a bias removal keep them. Assumes nothing.
use Rattle.std.specs.Prelude.{Option, Some, None}
use Prim.Native.Nat.{ℕ, zero, suc, ◌<◌}
use native.Mathlib.Nat.{le_of_suc-le-suc, not-suc-le-zero}
use mathlib.Core.Path.{refl}
use mathlib.Core.Bool.{Bool, true, false, cond}
use mathlib.Core.List.{List, [], ◌∷◌, ◌++◌, map}
use lib.Dec.{eqb}
use lib.ListN.{length, get_or, drop}
use lib.Ieee.{Float}
use Rattle.floats.specs.Operators.{bits}
use Rattle.floats.specs.declared.vector.Vector.{Vector}
use Rattle.rows.specs.declared.integration_parameters.IntegrationParameters.{IntegrationParameters}
use Rattle.rows.specs.declared.joint_constraint_builder.SolverPose.{SolverPose}
use Rattle.rows.specs.declared.joint_constraint_builder.ImpulseJoint.{ImpulseJoint}
use Rattle.rows.specs.declared.joint_velocity_constraint.JointConstraint.{JointConstraint}
use Rattle.rows.specs.declared.joint_velocity_constraint.RowContext.{RowContext}
use Rattle.rows.specs.declared.joint_velocity_constraint.SolverVel.{SolverVel}
use Rattle.rows.specs.declared.joint_velocity_constraint.WritebackId.{WritebackId}
use Rattle.rows.specs.declared.joint_velocity_constraint.WritebackId.TheVariants.{Dof, Limit, Motor}
use Rattle.rows.specs.RowIds.{is_coupled, group_one, group_two, row_ids}
use Rattle.rows.specs.Makers.{assemble_of, motor_row_of, lock_linear_of, lock_angular_of, limit_linear_of, limit_linear_coupled_of, limit_angular_of, motor_linear_of, motor_linear_coupled_of, motor_angular_of}
use Rattle.rows.specs.Row.{with_impulse}
use Rattle.rows.specs.Groups as Groups
use Rattle.rows.specs.Warmed as Warmed
use Rattle.rows.specs.Finalize.{head_of, less_of, row_group, finalize_of}
use Rattle.rows.specs.Step.{step_of, remove_bias_of}
use Rattle.rows.specs.Update.{context_of, row_of, update_of, blank_row}
use Rattle.rows.specs.Momentum.{HasInverseMasses}
use Rattle.rows.specs.Builder.{solver_body_of, joint_context_of, seed_of, warmed_of, warmed_all, builder_update_of}
use Rattle.rows.proofs.OrthogonaliseLaws.{Every}
use Rattle.rows.proofs.GroupLaws.{every-finalize_of}

pub every-at : (P : JointConstraint → Type 0) (rs : List JointConstraint) (i : ℕ) → Every P rs → i < length rs → P (get_or rs i blank_row)
every-at P [] i e h = absurd (not-suc-le-zero h)
every-at P (r ∷ rs) zero e h = e.0
every-at P (r ∷ rs) (suc i) e h = every-at P rs i e.1 (le_of_suc-le-suc h)

pub every-cond : (P : JointConstraint → Type 0) (t : Bool) (rs : List JointConstraint) → Every P rs → Every P (cond t rs [])
every-cond P true rs e = e
every-cond P false rs e = tt

module _ (a b : Vector) where
  both : (rs ss : List JointConstraint) → Every (HasInverseMasses a b) rs → Every (HasInverseMasses a b) ss → Every (HasInverseMasses a b) (rs ++ ss)
  both [] ss p q = q
  both (r ∷ rs) ss p q = (p.0, both rs ss p.1 q)

  -- ---- orthogonalising

  finalized : (rs : List JointConstraint) → Every (HasInverseMasses a b) rs → Every (HasInverseMasses a b) (finalize_of rs)
  unfolding head_of less_of Groups.reduce_of
  finalized = every-finalize_of row_group (HasInverseMasses a b) (λ im r e. record { first = e.first; second = e.second }) (λ im c r e. record { first = e.first; second = e.second })

  -- ---- warm rows

  warmed : (warm : Option Float) (substep : ℕ) (seed prev : Float) (r : JointConstraint) → HasInverseMasses a b r → HasInverseMasses a b (warmed_of warm substep seed prev r)
  unfolding Warmed.warmed_of with_impulse
  warmed None substep seed prev r e = e
  warmed (Some c) zero seed prev r e = record { first = e.first; second = e.second }
  warmed (Some c) (suc n) seed prev r e = record { first = e.first; second = e.second }

  all-warmed : (warm : Option Float) (substep : ℕ) (joint : ImpulseJoint) (is : List WritebackId) (ps : List Float) (rs : List JointConstraint) → Every (HasInverseMasses a b) rs
      → Every (HasInverseMasses a b) (warmed_all warm substep joint is ps rs)
  unfolding Warmed.warmed_all
  all-warmed warm substep joint [] ps rs e = tt
  all-warmed warm substep joint (i ∷ is) ps [] e = tt
  all-warmed warm substep joint (i ∷ is) ps (r ∷ rs) e =
      (warmed warm substep (seed_of joint i) (get_or ps 0 (bits 0)) r e.0, all-warmed warm substep joint is (drop 1 ps) rs e.1)

  -- ---- rows at work

  pub step-masses : (r : JointConstraint) (v1 v2 : SolverVel) → HasInverseMasses a b r → HasInverseMasses a b (step_of r v1 v2).row
  unfolding step_of with_impulse
  step-masses r v1 v2 e = record { first = e.first; second = e.second }

  pub bias-masses : (r : JointConstraint) → HasInverseMasses a b r → HasInverseMasses a b (remove_bias_of r)
  unfolding remove_bias_of
  bias-masses r e = record { first = e.first; second = e.second }

-- ---- rows made

cond-masses : (a b : Vector) (t : Bool) (r s : JointConstraint) → HasInverseMasses a b r → HasInverseMasses a b s → HasInverseMasses a b (cond t r s)
cond-masses a b true r s p q = p
cond-masses a b false r s p q = q

module _ (cx : RowContext) where
  row-masses : (i : WritebackId) → HasInverseMasses cx.body1.im cx.body2.im (row_of cx i)
  unfolding row_of lock_linear_of lock_angular_of limit_linear_of limit_linear_coupled_of limit_angular_of motor_linear_of motor_linear_coupled_of motor_angular_of motor_row_of assemble_of
  row-masses (Dof i) = cond-masses _ _ (eqb i 2) _ _ (record { first = refl; second = refl }) (record { first = refl; second = refl })
  row-masses (Limit i) =
      cond-masses _ _ (eqb i 2) _ _ (record { first = refl; second = refl })
      (cond-masses _ _ (is_coupled cx.joint.masks i) _ _ (record { first = refl; second = refl }) (record { first = refl; second = refl }))
  row-masses (Motor i) =
      cond-masses _ _ (eqb i 2) _ _ (record { first = refl; second = refl })
      (cond-masses _ _ (is_coupled cx.joint.masks i) _ _ (record { first = refl; second = refl }) (record { first = refl; second = refl }))

  rows-masses : (is : List WritebackId) → Every (HasInverseMasses cx.body1.im cx.body2.im) (map (row_of cx) is)
  rows-masses [] = tt
  rows-masses (i ∷ is) = (row-masses i, rows-masses is)

  update-masses : Every (HasInverseMasses cx.body1.im cx.body2.im) (update_of cx)
  unfolding update_of
  update-masses =
      both _ _ (finalize_of (map (row_of cx) (group_one 2 1 cx.joint.masks))) (finalize_of (map (row_of cx) (group_two 2 1 cx.joint.masks)))
      (finalized _ _ (map (row_of cx) (group_one 2 1 cx.joint.masks)) (rows-masses (group_one 2 1 cx.joint.masks)))
      (finalized _ _ (map (row_of cx) (group_two 2 1 cx.joint.masks)) (rows-masses (group_two 2 1 cx.joint.masks)))

pub built-masses : (params : IntegrationParameters) (substep : ℕ) (warm : Option Float) (body1 body2 : SolverPose) (joint : ImpulseJoint) (prevs : List Float)
    → Every (HasInverseMasses body1.im body2.im) (builder_update_of params substep warm body1 body2 joint prevs)
unfolding builder_update_of joint_context_of context_of solver_body_of
built-masses params substep warm body1 body2 joint prevs =
    all-warmed _ _ warm substep joint (row_ids 2 1 joint.«data».masks) prevs (update_of (joint_context_of params body1 body2 joint)) (update-masses (joint_context_of params body1 body2 joint))
