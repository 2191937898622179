-- `new` is put together from what its callees promise.
use Rattle.spatial_rows.specs.Update.{context_of}
use Rattle.spatial_rows.proofs.joint_velocity_constraint.RowContext.new.Goals as goal

pub returns : goal.returns
unfolding context_of
returns c = simp (c.cfm_coeff.ensures, c.erp_inv_dt.ensures, c.new-helper.ensures)
