-- A joint's reaction and a row's residual from flat storage, for callers who have the joint's rows: what a row read answered. What is there is read; an absent joint is one of zeros
-- between the world and the world, and an absent body is the world.
use Rattle.std.specs.Prelude.{ℕ, ◌/◌, cond, List, ltb, length, Float}
use Rattle.rows.specs.Step.{residual_of}
use Rattle.rows.specs.Reaction.{reaction_of}
use Rattle.rows.specs.declared.joint_velocity_constraint.JointConstraint.{JointConstraint}
use Rattle.rows.specs.declared.reaction.Reaction.{Reaction}
use Rattle.model.specs.Layout.{words_width}
use Rattle.model.specs.Store.{world, body1_at, body2_at}
use Rattle.model.specs.SingleRecords.{pose_if_there, vel_if_there, joint_if_there}

-- joint j's bodies
unfoldable pub body1_if_there : List ℕ → ℕ → ℕ
body1_if_there words j = cond (ltb j (length words / words_width)) (body1_at words j) world

unfoldable pub body2_if_there : List ℕ → ℕ → ℕ
body2_if_there words j = cond (ltb j (length words / words_width)) (body2_at words j) world

-- the reaction of joint j, which has these rows
unfoldable pub reaction_at : List Float → List ℕ → List Float → List JointConstraint → ℕ → Reaction
reaction_at bodies words numbers rows j =
    reaction_of rows (pose_if_there bodies (body1_if_there words j)) (pose_if_there bodies (body2_if_there words j)) (joint_if_there words numbers j).«data»

-- the residual of a row of joint j
unfoldable pub residual_at : List Float → List ℕ → JointConstraint → ℕ → Float
residual_at bodies words row j = residual_of row (vel_if_there bodies (body1_if_there words j)) (vel_if_there bodies (body2_if_there words j))
