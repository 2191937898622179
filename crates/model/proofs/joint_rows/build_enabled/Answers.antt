-- `build_enabled` meets its contract, by those of its parts: as many rows are made as the joint has, at most six.
use mathlib.Core.Path.{refl, ap, ◌∙◌}
use native.Mathlib.Omega.{arith}
use Rattle.rows.specs.Update.{rows_array}
use Rattle.multibody.proofs.JointRowsLaws.{few-rows, build_steps}
use Rattle.model.proofs.JointRowsLaws.{built-len, built-rows}
use Rattle.model.specs.Planar.{plane}
use Rattle.model.proofs.PlanarLaws.{planar-laws}
use Rattle.model.proofs.joint_rows.build_enabled.Goals as goal

pub last_impulses-prevs-requires : goal.last_impulses-prevs-requires
last_impulses-prevs-requires c =
    let e = c.count_at-n.ensures.value in
    record { n_bound = few-rows planar-laws _ _ e; row_width_in_bounds = omega (arith, e, c.requires.row_width_in_bounds) }

pub solver_pose_at-body1-requires : goal.solver_pose_at-body1-requires
solver_pose_at-body1-requires c = rw c.body1_at.ensures c.requires.present

pub body2_at-requires : goal.body2_at-requires
body2_at-requires c = c.requires.words_width_in_bounds

pub solver_pose_at-body2-requires : goal.solver_pose_at-body2-requires
solver_pose_at-body2-requires c = rw c.body2_at.ensures c.requires.present_2

pub put_rows-requires : goal.put_rows-requires
put_rows-requires c =
    let on = c.requires.j_value in
    let e = built-len _ _ _ _ _ _ _ _ _ on c.joint_at-joint.ensures (c.update-made.ensures ∙ ap rows_array (c.last_impulses-prevs.ensures _ _ _ _)) in
    record { len_bound = few-rows planar-laws _ _ e; row_width_in_bounds = omega (arith, e, c.requires.row_width_in_bounds) }

pub returns : goal.returns
returns c =
    let on = c.requires.j_value in
    let made = built-rows _ _ _ _ _ _ _ _ _ on c.joint_at-joint.ensures (c.update-made.ensures ∙ ap rows_array (c.last_impulses-prevs.ensures _ _ _ _)) in (
      c.count_at-n.ensures.value,
      build_steps plane _ _ _ _ _ _ _ _ _ on c.count_at-n.ensures.value refl c.joint_at-joint.ensures c.body1_at.ensures c.solver_pose_at-body1.ensures c.body2_at.ensures c.solver_pose_at-body2.ensures made
          c.put_rows.ensures,
    )
