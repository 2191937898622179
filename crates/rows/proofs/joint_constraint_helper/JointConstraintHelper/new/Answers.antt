-- `JointConstraintHelper::new` is put together from what its callees promise.
use Rattle.rows.specs.Helper.{new_of}
use Rattle.rows.proofs.joint_constraint_helper.JointConstraintHelper.new.Goals as goal

pub returns : goal.returns
unfolding new_of
returns c =
    simp (
      c.mul.ensures,
      c.inverse.ensures,
      c.gdot-4.ensures,
      c.gdot-3.ensures,
      c.gdot-2.ensures,
      c.gdot.ensures,
      c.column-column1.ensures,
      c.column-column0.ensures,
      c.gcross_matrix-cmat2.ensures,
      c.sub-2.ensures,
      c.gcross_matrix-cmat1.ensures,
      c.sub.ensures,
      c.snapped-new_center1.ensures,
      c.snapped-once.ensures,
      c.sub-lin_err.ensures,
      c.to_mat-basis.ensures,
    )
