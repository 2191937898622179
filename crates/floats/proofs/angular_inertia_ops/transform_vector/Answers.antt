-- `transform_vector` computes what its definition says.
use Rattle.std.proofs.Common.{refl}
use Rattle.floats.specs.Vector.{transform_vector_of}
use Rattle.floats.proofs.angular_inertia_ops.transform_vector.Goals as goal

pub returns : goal.returns
unfolding transform_vector_of
returns c = refl
