-- The rows that an array holds.
use Rattle.std.specs.Prelude.{List, take}
use Rattle.rows.specs.declared.joint_velocity_constraint.JointConstraint.{JointConstraint}
use Rattle.rows.specs.declared.joint_velocity_constraint.Rows.{Rows}

abbrev pub rows_list : Rows → List JointConstraint
rows_list r = take r.len r.rows
