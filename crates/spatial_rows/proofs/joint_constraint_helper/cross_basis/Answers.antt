-- `cross_basis` is put together from what its callees promise.
use Rattle.spatial_rows.specs.Helper.{cross_basis_of}
use Rattle.spatial_rows.proofs.joint_constraint_helper.cross_basis.Goals as goal

pub returns : goal.returns
unfolding cross_basis_of
returns c =
    simp (c.mul.ensures, c.gcross_matrix.ensures)
