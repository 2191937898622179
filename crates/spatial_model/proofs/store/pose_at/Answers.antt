use native.Mathlib.Nat.{add_assoc}
use Rattle.spatial_model.proofs.store.pose_at.Goals as goal

pub returns : goal.returns
returns c = simp add_assoc
