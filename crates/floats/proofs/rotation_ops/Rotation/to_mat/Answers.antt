-- `to_mat` computes what its definition says.
use Rattle.std.proofs.Common.{refl}
use Rattle.floats.specs.Rotation.{to_mat_of}
use Rattle.floats.proofs.rotation_ops.Rotation.to_mat.Goals as goal

pub returns : goal.returns
unfolding to_mat_of
returns c = refl
