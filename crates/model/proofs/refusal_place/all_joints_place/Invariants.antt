-- `all_joints_place` meets its contract. Before turn j, the joints from joint j on decide.
use Rattle.model.specs.RefusalPlace.{joint_tests, all_joint_tests}
use Rattle.model.proofs.PlaceSearch.{Unfound}
use Rattle.model.proofs.refusal_place.all_joints_place.Given as goal

abbrev pub invariant-loop-j : goal.invariant-loop-j
invariant-loop-j l = Unfound (joint_tests l.bodies l.words l.numbers l.k) (all_joint_tests l.bodies l.words l.numbers l.k) l.n l.j
