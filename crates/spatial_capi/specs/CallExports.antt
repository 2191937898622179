-- The exported calls of the model in space: a header from its numbers, an answer as a number, and what is stored of a row read and of a velocity read. What has no dimension is capi's.
use Rattle.std.specs.Prelude.{ℕ, Bool, cond, ◌&&◌, List, [], leb, length, Float, Result, Ok, Err}
use Rattle.spatial_floats.specs.declared.vector.Vector.{Vector}
use Rattle.spatial_floats.specs.declared.pose.Pose.{Pose}
use Rattle.spatial_rows.specs.declared.joint_velocity_constraint.SolverVel.{SolverVel}
use Rattle.spatial_rows.specs.declared.joint_velocity_constraint.Rows.{Rows}
use Rattle.spatial_rows.specs.declared.row_ids.RowIds.{RowIds}
use Rattle.multibody.specs.JointRows.{row_masks_at}
use Rattle.multibody.specs.Model.{Model}
use Rattle.multibody.specs.Calls.{Answer, run}
use Rattle.multibody.specs.Calls.Answer.{granted, total, rows_read, velocity_read, swept, refused}
use Rattle.multibody.specs.Calls.Call.{sweep, read_rows}
use Rattle.spatial_model.specs.Spatial.{space, spatial}
use Rattle.spatial_model.specs.Model.{model_of}
use Rattle.rows.specs.declared.generic_joint.Masks.{Masks}
use Rattle.rows.specs.RowIds.{no_masks}
use Rattle.spatial_rows.specs.RowIds.{row_ids_array}
use Rattle.spatial_rows.specs.Update.{rows_array}
use Rattle.capi.specs.CallExports.{header_of, rows_granted, rows_granted_or, short_slice}
use Rattle.capi.specs.Stored.{put_three}
use Rattle.spatial_capi.specs.Stored.{put_first, put_ids}

-- ---- what is handed over

abbrev pub lent : Float → Float → Float → ℕ → List Float → List ℕ → List Float → Model
lent dt unit normalized built bodies words numbers = model_of (header_of dt unit normalized built) bodies words numbers

-- a rotation, then a translation
abbrev pub pose_from : Float → Float → Float → Float → Float → Float → Float → Pose
pose_from qx qy qz qw x y z = record { rotation = record { x = qx; y = qy; z = qz; w = qw }; translation = record { x = x; y = y; z = z } }

-- ---- a joint's rows and ids, stored

-- a row read's ids and rows in the arrays that the program has them in, of a joint with these masks; or the number of the refusal
abbrev pub rows_given : Masks → Answer space → Result (RowIds × Rows) ℕ
rows_given masks (rows_read ids rows) = Ok (row_ids_array masks, rows_array rows)
rows_given masks (refused k) = Err k
-- a row read answers none of these: no rows
rows_given masks granted = Ok (row_ids_array no_masks, rows_array [])
rows_given masks (total n) = Ok (row_ids_array no_masks, rows_array [])
rows_given masks (velocity_read v) = Ok (row_ids_array no_masks, rows_array [])
rows_given masks (swept counts) = Ok (row_ids_array no_masks, rows_array [])

abbrev pub rows_read_at : ℕ → Model → List Float → Result (RowIds × Rows) ℕ
rows_read_at joint m rows = rows_given (row_masks_at space m.words joint) (run spatial (read_rows joint) m rows).answer

-- there is room for nine rows and nine ids, however many a joint has
unfoldable pub room_for_rows : List Float → List ℕ → Bool
room_for_rows out ids = leb 261 (length out) && leb 9 (length ids)

abbrev pub rows_number : Result (RowIds × Rows) ℕ → List Float → List ℕ → ℕ
rows_number (Ok r) out ids = rows_granted_or r.1.len (room_for_rows out ids)
rows_number (Err k) out ids = k

unfoldable pub rows_if_room : Rows → List Float → List ℕ → List Float
rows_if_room made out ids = cond (room_for_rows out ids) (put_first out made) out

unfoldable pub ids_if_room : RowIds → List Float → List ℕ → List ℕ
ids_if_room named out ids = cond (room_for_rows out ids) (put_ids ids named) ids

abbrev pub rows_out : Result (RowIds × Rows) ℕ → List Float → List ℕ → List Float
rows_out (Ok r) out ids = rows_if_room r.1 out ids
rows_out (Err k) out ids = out

abbrev pub ids_out : Result (RowIds × Rows) ℕ → List Float → List ℕ → List ℕ
ids_out (Ok r) out ids = ids_if_room r.0 out ids
ids_out (Err k) out ids = ids

-- ---- a sweep's counts, stored as capi's `counts_out` says

abbrev pub swept_at : ℕ → Model → List Float → Answer space
swept_at n m rows = (run spatial (sweep n) m rows).answer

-- ---- a velocity, stored

abbrev pub room_for_velocity : List Float → ℕ
room_for_velocity out = cond (leb 6 (length out)) 0 short_slice

abbrev pub velocity_number : Answer space → List Float → ℕ
velocity_number (velocity_read v) out = room_for_velocity out
velocity_number granted out = 0
velocity_number (total n) out = rows_granted n
velocity_number (rows_read ids rows) out = rows_granted (length rows)
velocity_number (swept counts) out = 0
velocity_number (refused k) out = k

-- a vector stored from i on
abbrev pub put_vector : List Float → ℕ → Vector → List Float
put_vector out i v = put_three out i v.x v.y v.z

unfoldable pub put_velocity : SolverVel → List Float → List Float
put_velocity v out = cond (leb 6 (length out)) (put_vector (put_vector out 0 v.linear) 3 v.angular) out

abbrev pub velocity_out : Answer space → List Float → List Float
velocity_out (velocity_read v) out = put_velocity v out
velocity_out granted out = out
velocity_out (total n) out = out
velocity_out (rows_read ids rows) out = out
velocity_out (swept counts) out = out
velocity_out (refused k) out = out
