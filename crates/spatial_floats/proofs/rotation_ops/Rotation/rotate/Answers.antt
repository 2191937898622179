-- `rotate` is put together from what its callees promise.
use Rattle.spatial_floats.specs.Rotation.{rotate_of}
use Rattle.spatial_floats.proofs.rotation_ops.Rotation.rotate.Goals as goal

pub returns : goal.returns
unfolding rotate_of
returns c = cc
