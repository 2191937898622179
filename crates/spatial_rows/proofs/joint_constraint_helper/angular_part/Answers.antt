-- `angular_part` is put together from what its callees promise.
use Rattle.spatial_rows.specs.Helper.{angular_part_of}
use Rattle.spatial_rows.proofs.joint_constraint_helper.angular_part.Goals as goal

pub returns : goal.returns
unfolding angular_part_of
returns c =
    simp (c.times.ensures, c.scaled.ensures, c.mul-error.ensures, c.diff_conj1_2_tr-derivative.ensures, c.inverse.ensures, c.sign_of-sign.ensures, c.dot.ensures)
