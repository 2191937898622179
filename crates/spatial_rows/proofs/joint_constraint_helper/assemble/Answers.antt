-- `assemble` is put together from what its callees promise.
use Rattle.spatial_rows.specs.Makers.{assemble_of}
use Rattle.spatial_rows.proofs.joint_constraint_helper.assemble.Goals as goal

pub returns : goal.returns
unfolding assemble_of
returns c = simp (c.transform_vector-2.ensures, c.transform_vector.ensures)
