-- `transform_vector` computes what its definition says.
use mathlib.Core.Path.{refl}
use Rattle.spatial_floats.specs.AngularInertia.{transform_vector_of}
use Rattle.spatial_floats.proofs.angular_inertia_ops.transform_vector.Goals as goal

pub returns : goal.returns
unfolding transform_vector_of
returns c = refl
