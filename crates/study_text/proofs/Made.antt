-- A row is made by the definition of the rule that its line cites, and a group of them is then made orthogonal.
use Prim.Native.Nat.{ℕ}
use mathlib.Core.Path.{◌≡◌, refl, ap, ◌∙◌}
use mathlib.Core.Bool.{Bool, true, false, cond}
use mathlib.Core.List.{List, ◌++◌, map, map_congr_left}
use lib.Dec.{eqb}
use Rattle.rows.specs.RowIds.{has_axis, group_one, group_two}
use Rattle.rows.specs.Finalize.{finalize_of}
use Rattle.rows.specs.Update.{row_of, update_of}
use Rattle.rows.specs.declared.joint_velocity_constraint.JointConstraint.{JointConstraint}
use Rattle.rows.specs.declared.joint_velocity_constraint.RowContext.{RowContext}
use Rattle.rows.specs.declared.joint_velocity_constraint.WritebackId.{WritebackId}
use Rattle.rows.specs.declared.joint_velocity_constraint.WritebackId.TheVariants.{Dof, Limit, Motor}
use Rattle.study_text.specs.Definitions.{Definition, lock_angular, lock_linear, limit_angular, limit_linear, limit_linear_coupled, motor_angular, motor_linear, motor_linear_coupled, definition_of}
use Rattle.study_text.specs.Made.{made_by, Cited}
use Rattle.study_text.specs.declared.rules.Rule.TheVariants.{Motor2, Motor0, Motor1, MotorF, Dof2, Dof0, Dof1, Limit2, Limit0, Limit1, LimitF}

module _ (cx : RowContext) (i : ℕ) where
  abbrev by : Definition → JointConstraint
  by d = d.row cx i

  locks : row_of cx (Dof i) ≡ made_by cx (Dof i)
  unfolding row_of made_by
  locks = go (eqb i 2) (eqb i 0)
    where
      go : (a c : Bool) → cond a (by lock_angular) (by lock_linear) ≡ by (definition_of (cond a Dof2 (cond c Dof0 Dof1)))
      go true c = refl
      go false true = refl
      go false false = refl

  limits : row_of cx (Limit i) ≡ made_by cx (Limit i)
  unfolding row_of made_by
  limits = go (eqb i 2) (has_axis cx.joint.masks.coupled_axes i) (eqb i 0)
    where
      go : (a b c : Bool) → cond a (by limit_angular) (cond b (by limit_linear_coupled) (by limit_linear)) ≡ by (definition_of (cond a Limit2 (cond b LimitF (cond c Limit0 Limit1))))
      go true b c = refl
      go false true c = refl
      go false false true = refl
      go false false false = refl

  motors : row_of cx (Motor i) ≡ made_by cx (Motor i)
  unfolding row_of made_by
  motors = go (eqb i 2) (has_axis cx.joint.masks.coupled_axes i) (eqb i 0)
    where
      go : (a b c : Bool) → cond a (by motor_angular) (cond b (by motor_linear_coupled) (by motor_linear)) ≡ by (definition_of (cond a Motor2 (cond b MotorF (cond c Motor0 Motor1))))
      go true b c = refl
      go false true c = refl
      go false false true = refl
      go false false false = refl

made : (cx : RowContext) (id : WritebackId) → row_of cx id ≡ made_by cx id
made cx (Dof i) = locks cx i
made cx (Limit i) = limits cx i
made cx (Motor i) = motors cx i

all_made : (cx : RowContext) (ids : List WritebackId) → map (row_of cx) ids ≡ map (made_by cx) ids
all_made cx ids = map_congr_left {l = ids} (λ id _. made cx id)

pub cited : Cited
unfolding update_of
cited cx =
    let one = group_one 2 1 cx.joint.masks in
    let two = group_two 2 1 cx.joint.masks in
    ap (λ (rows : List JointConstraint). finalize_of rows ++ finalize_of (map (row_of cx) two)) (all_made cx one)
    ∙ ap (λ (rows : List JointConstraint). finalize_of (map (made_by cx) one) ++ finalize_of rows) (all_made cx two)
