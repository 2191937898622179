-- `sandwich` is put together from what its callees promise.
use Rattle.spatial_floats.specs.Rotation.{sandwich_of}
use Rattle.spatial_floats.proofs.rotation_ops.Rotation.sandwich.Goals as goal

pub returns : goal.returns
unfolding sandwich_of
returns c = cc
