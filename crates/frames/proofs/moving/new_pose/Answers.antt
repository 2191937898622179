-- `new_pose` meets its contract: the body is there.
use Rattle.std.proofs.Common.{refl}
use Rattle.model.proofs.SingleRecordsLaws.{pose-there, vel-there}
use Rattle.frames.specs.Moving.{new_pose}
use Rattle.frames.proofs.moving.new_pose.Goals as goal

pub returns : goal.returns
unfolding new_pose
returns c =
    let there = c.requires in
    rw (c.read_pose.ensures, c.read_vel.ensures, pose-there _ _ refl there, vel-there _ _ refl there) at c.moved_pose.ensures
