-- `moved_pose` meets its contract.
use Rattle.frames.specs.Moving.{moved_pose}
use Rattle.frames.proofs.moving.moved_pose.Goals as goal

pub returns : goal.returns
unfolding moved_pose
returns c = rw (c.add.ensures, c.mul.ensures, c.moved_rotation.ensures)
