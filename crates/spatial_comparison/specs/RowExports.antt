-- What the exported functions on the rows of a joint in space answer.
use Rattle.std.specs.Prelude.{ℕ, ◌+◌, ◌%◌, cond, eqb, ltb, get_or, Float, Option, Some, None}
use Rattle.floats.specs.declared.scalar.Side.{Side}
use Rattle.floats.specs.declared.scalar.Side.TheVariants.{Low, High, Inside}
use Rattle.rows.specs.RowIds.{row_id}
use Rattle.rows.specs.declared.generic_joint.Masks.{Masks}
use Rattle.rows.specs.declared.integration_parameters.IntegrationParameters.{IntegrationParameters}
use Rattle.rows.specs.declared.joint_velocity_constraint.WritebackId.{WritebackId}
use Rattle.rows.specs.declared.joint_velocity_constraint.WritebackId.TheVariants.{Dof, Limit, Motor}
use Rattle.spatial_rows.specs.Finalize.{finalize_groups}
use Rattle.spatial_rows.specs.RowIds.{row_ids_array}
use Rattle.spatial_rows.specs.declared.joint_velocity_constraint.Rows.{Rows}
use Rattle.spatial_rows.specs.declared.joint_velocity_constraint.Solved.{Solved}
use Rattle.spatial_comparison.specs.declared.joint.Stepped.{Stepped}

-- which bound a step met, as a number: inside is 0, low 1 and high 2
abbrev pub side_number : Side → ℕ
side_number Inside = 0
side_number Low = 1
side_number High = 2

-- a step's row and velocities, with that number
unfoldable pub stepped_of : Solved → Stepped
stepped_of s = record { row = s.row; vels = s.vels; side = side_number s.side }

-- at most nine
abbrev pub at_most_nine : ℕ → ℕ
at_most_nine n = cond (ltb n 9) n 9

-- the first rows as one group, as many as there are said to be, or all nine
unfoldable pub finalized : Rows → Rows
finalized r = record { rows = finalize_groups 0 (at_most_nine r.len) r.rows; len = r.len }

-- an id's number: 8 times its kind (Dof, Limit, Motor) plus its axis
abbrev pub id_number : WritebackId → ℕ
id_number (Dof i) = i % 8
id_number (Limit i) = 8 + i % 8
id_number (Motor i) = 16 + i % 8

-- the id of that number; a number past these kinds is a lock of axis 6, which has no stored impulse
unfoldable pub id_of : ℕ → WritebackId
id_of n = cond (ltb n 8) (Dof (n % 8)) (cond (ltb n 16) (Limit (n % 8)) (cond (ltb n 24) (Motor (n % 8)) (Dof 6)))

-- the number of a joint's id k, and 1000 past the ninth
unfoldable pub id_at : Masks → ℕ → ℕ
id_at masks k = cond (ltb k 9) (id_number (get_or (row_ids_array masks).ids k (row_id (Dof 0))).id) 1000

-- the settings from their three numbers, and a warm coefficient or none from a flag and a number
abbrev pub params_of : Float → Float → Float → IntegrationParameters
params_of dt length_unit normalized = record { dt = dt; length_unit = length_unit; normalized_max_corrective_velocity = normalized }

abbrev pub warm_of : ℕ → Float → Option Float
warm_of warm coefficient = cond (eqb warm 0) None (Some coefficient)
