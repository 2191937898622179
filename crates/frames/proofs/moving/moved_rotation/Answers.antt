-- `moved_rotation` meets its contract.
use Rattle.frames.specs.Moving.{moved_rotation}
use Rattle.frames.proofs.moving.moved_rotation.Goals as goal

pub returns-then-length : goal.returns-then-length
unfolding moved_rotation
returns-then-length c = rw (← c.simd_length-length.ensures, c.if-length.true)

pub returns-else-length : goal.returns-else-length
unfolding moved_rotation
returns-else-length c = rw (← c.simd_length-length.ensures, c.if-length.false)
