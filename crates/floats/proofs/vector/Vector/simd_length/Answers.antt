-- `simd_length` is put together from what its callees promise.
use Rattle.floats.specs.Vector.{length_of}
use Rattle.floats.proofs.vector.Vector.simd_length.Goals as goal

pub returns : goal.returns
unfolding length_of
returns c = cc
