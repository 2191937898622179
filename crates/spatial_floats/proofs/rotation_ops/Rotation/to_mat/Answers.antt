-- `to_mat` is put together from what its callees promise.
use Rattle.spatial_floats.specs.Rotation.{to_mat_of}
use Rattle.spatial_floats.proofs.rotation_ops.Rotation.to_mat.Goals as goal

pub returns : goal.returns
unfolding to_mat_of
returns c = cc
