-- `diff_conj1_2` is put together from what its callees promise.
use Rattle.spatial_floats.specs.Rotation.{diff_conj12_of}
use Rattle.spatial_floats.proofs.rotation_ops.Rotation.diff_conj1_2.Goals as goal

pub returns : goal.returns
unfolding diff_conj12_of
returns c = cc
