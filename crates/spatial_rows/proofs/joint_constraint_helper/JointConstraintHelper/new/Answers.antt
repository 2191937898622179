-- `new` is put together from what its callees promise.
use Rattle.spatial_rows.specs.Helper.{new_of}
use Rattle.spatial_rows.proofs.joint_constraint_helper.JointConstraintHelper.new.Goals as goal

pub returns : goal.returns
unfolding new_of
returns c =
    simp (
      c.cross_basis-cmat2_basis.ensures,
      c.sub-2.ensures,
      c.cross_basis-cmat1_basis.ensures,
      c.sub.ensures,
      c.angular_part-angular.ensures,
      c.snapped-new_center1.ensures,
      c.snapped-twice.ensures,
      c.snapped-once.ensures,
      c.sub-lin_err.ensures,
      c.to_mat-basis.ensures,
    )
