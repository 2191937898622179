-- The exported reaction and residual, over the rows that a row read stored.
use Rattle.std.specs.Prelude.{ℕ, Bool, cond, List, [], ◌∷◌, leb, length, take, Float}
use Rattle.rows.specs.declared.joint_velocity_constraint.JointConstraint.{JointConstraint}
use Rattle.rows.specs.declared.reaction.Reaction.{Reaction}
use Rattle.model.specs.SingleRecords.{row_if_there}
use Rattle.capi.specs.CallExports.{short_slice}
use Rattle.capi.specs.Stored.{put_three}

-- the first six rows of a slice; one that is not there is a row of zeros
abbrev pub six_rows : List Float → List JointConstraint
six_rows rows = row_if_there rows 0 ∷ row_if_there rows 1 ∷ row_if_there rows 2 ∷ row_if_there rows 3 ∷ row_if_there rows 4 ∷ row_if_there rows 5 ∷ []

-- the first n of them
abbrev pub first_rows : List Float → ℕ → List JointConstraint
first_rows rows n = take n (six_rows rows)

-- whether a slice has room for a reaction's nine numbers, and the answer that says so
abbrev pub room_for_reaction : List Float → Bool
room_for_reaction out = leb 9 (length out)

unfoldable pub reaction_number : List Float → ℕ
reaction_number out = cond (room_for_reaction out) 0 short_slice

-- what body 1 and body 2 got, linear x and y and angular; along frame 1's directions, and the moment
unfoldable pub put_reaction : List Float → Reaction → List Float
put_reaction out r =
    let got1 = r.impulses.body1 in
    let got2 = r.impulses.body2 in
    put_three
    (put_three (put_three out 0 got1.linear.x got1.linear.y got1.angular) 3 got2.linear.x got2.linear.y got2.angular)
    6
    r.along.x
    r.along.y
    r.moment

unfoldable pub reaction_out : List Float → Reaction → List Float
reaction_out out r = cond (room_for_reaction out) (put_reaction out r) out
