use native.Mathlib.Nat.{add-zero}
use native.Mathlib.Omega.{arith}
use lib.ListN.{length-set}
use Rattle.model.specs.Store.{put_pose}
use Rattle.model.proofs.store.put_pose.Goals as goal

pub bounds-b-o-2 : goal.bounds-b-o-2
bounds-b-o-2 c = simp length-set (omega arith)

pub bounds-b-o-3 : goal.bounds-b-o-3
bounds-b-o-3 c = simp length-set (omega arith)

pub bounds-b-o-4 : goal.bounds-b-o-4
bounds-b-o-4 c = simp length-set (omega arith)

pub returns : goal.returns
unfolding put_pose
returns c = simp add-zero
