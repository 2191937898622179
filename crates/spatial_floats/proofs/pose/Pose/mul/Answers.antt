-- `Pose::mul` is put together from what its callees promise.
use Rattle.spatial_floats.specs.Pose.{pose_product_of}
use Rattle.spatial_floats.proofs.pose.Pose.mul.Goals as goal

pub returns : goal.returns
unfolding pose_product_of
returns c = cc
