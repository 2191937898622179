-- `row_dot` is put together from what its callees promise.
use Rattle.spatial_rows.specs.Finalize.{row_dot_of}
use Rattle.spatial_rows.proofs.joint_constraint_helper.row_dot.Goals as goal

pub returns : goal.returns
unfolding row_dot_of
returns c =
    simp (c.gdot-3.ensures, c.gdot-2.ensures, c.gdot.ensures, c.component_mul.ensures)
