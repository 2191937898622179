-- A joint's reaction: what its rows together gave its two bodies.
--
-- One row's impulse is not the joint's reaction along that row's axis: the row was made orthogonal to the locks before it (`finalize_of`), so its impulse multiplies what is
-- left of the axis. The sums over all rows are the reaction, since a step gives body 1 M⁻¹ of lin_jac · impulse and ang_jac1 · impulse, and takes them from body 2 with ang_jac2
-- (`applied_of`).
--
-- Units, with lengths in metres: N·s, and N·m·s for what turns.
use Rattle.std.specs.Prelude.{List, [], ◌∷◌, take, Float}
use Rattle.floats.specs.Operators.{bits, ◌⊕◌, ◌⊖◌, ◌⊗◌}
use Rattle.floats.specs.Vector.{add_of, sub_of, mul_of, gdot_of, gcross_matrix_of}
use Rattle.floats.specs.Rotation.{to_mat_of, column_of}
use Rattle.floats.specs.Pose.{pose_product_of}
use Rattle.floats.specs.declared.vector.Vector.{Vector}
use Rattle.floats.specs.declared.rotation_ops.Rotation.{Rotation}
use Rattle.floats.specs.declared.pose.Pose.{Pose}
use Rattle.rows.specs.declared.generic_joint.GenericJoint.{GenericJoint}
use Rattle.rows.specs.declared.joint_velocity_constraint.JointConstraint.{JointConstraint}
use Rattle.rows.specs.declared.joint_velocity_constraint.Rows.{Rows}
use Rattle.rows.specs.declared.reaction.BodyImpulse.{BodyImpulse}
use Rattle.rows.specs.declared.reaction.BodyImpulses.{BodyImpulses}
use Rattle.rows.specs.declared.reaction.Reaction.{Reaction}

-- the rows that an array holds
abbrev pub rows_in : Rows → List JointConstraint
rows_in r = take r.len r.rows

-- nothing given: +0 everywhere
abbrev pub no_impulses : BodyImpulses
no_impulses =
    let none : BodyImpulse = record { linear = record { x = bits 0; y = bits 0 }; angular = bits 0 } in
    record { body1 = none; body2 = none }

-- what was given, with one more row: body 1 gets its impulse along the row, body 2 the opposite. The angular part is about the body's centre of mass.
unfoldable pub given_of : BodyImpulses → JointConstraint → BodyImpulses
given_of given c =
    let linear = mul_of c.lin_jac c.impulse in
    record {
      body1 = record { linear = add_of given.body1.linear linear; angular = given.body1.angular ⊕ c.ang_jac1 ⊗ c.impulse };
      body2 = record { linear = sub_of given.body2.linear linear; angular = given.body2.angular ⊖ c.ang_jac2 ⊗ c.impulse };
    }

-- the rows in their order
unfoldable pub given_by : BodyImpulses → List JointConstraint → BodyImpulses
given_by given [] = given
given_by given (c ∷ cs) = given_by (given_of given c) cs

abbrev pub impulses_of : List JointConstraint → BodyImpulses
impulses_of rows = given_by no_impulses rows

-- a vector along the two directions of a frame
unfoldable pub along_of : Rotation → Vector → Vector
along_of frame v =
    let basis = to_mat_of frame in
    record { x = gdot_of (column_of basis 0) v; y = gdot_of (column_of basis 1) v }

-- The moment that body 1 gets at a point, from what body 2 got about its centre of mass: the moment there of body 2's linear part at the point, less body 2's angular part. Body 2
-- gets the opposite.
unfoldable pub moment_of : Vector → Vector → BodyImpulse → Float
moment_of point center got = gdot_of (gcross_matrix_of (sub_of point center)) got.linear ⊖ got.angular

-- The reaction of a joint that has these rows, its bodies at these poses: what each body got; body 1's linear part along frame 1's directions, the joint's own axes; and the
-- moment at frame 2's place, where the rows act on body 2.
unfoldable pub reaction_of : List JointConstraint → Pose → Pose → GenericJoint → Reaction
reaction_of rows pose1 pose2 joint =
    let given = impulses_of rows in
    let frame1 = pose_product_of pose1 joint.local_frame1 in
    let frame2 = pose_product_of pose2 joint.local_frame2 in
    record {
      impulses = given;
      along = along_of frame1.rotation given.body1.linear;
      moment = moment_of frame2.translation pose2.translation given.body2;
    }
