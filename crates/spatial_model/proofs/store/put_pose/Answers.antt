use Rattle.spatial_model.specs.Store.{put_pose}
use native.Mathlib.Nat.{add_assoc, add-zero}
use Rattle.spatial_model.proofs.store.put_pose.Goals as goal

pub returns : goal.returns
unfolding put_pose
returns c = rw c.put6.ensures (simp (add-zero, add_assoc))
