-- The exported calls of the model: a header from its numbers, an answer as a number, and what is stored of a row read and of a velocity read.
use Rattle.std.specs.Prelude.{ℕ, ◌+◌, ◌%◌, Bool, true, false, not, cond, ◌&&◌, List, [], ◌∷◌, ◌++◌, leb, eqb, length, drop, Float, Option, Some, None, Result, Ok, Err}
use Rattle.floats.specs.declared.pose.Pose.{Pose}
use Rattle.rows.specs.declared.generic_joint.Masks.{Masks}
use Rattle.rows.specs.declared.integration_parameters.IntegrationParameters.{IntegrationParameters}
use Rattle.rows.specs.declared.joint_velocity_constraint.SolverVel.{SolverVel}
use Rattle.rows.specs.declared.joint_velocity_constraint.Rows.{Rows}
use Rattle.rows.specs.declared.row_ids.RowIds.{RowIds}
use Rattle.multibody.specs.JointRows.{row_masks_at}
use Rattle.multibody.specs.Model.{Model}
use Rattle.multibody.specs.Store.{Store}
use Rattle.multibody.specs.Calls.{Answer, Outcome, run}
use Rattle.multibody.specs.Calls.Answer.{granted, total, rows_read, velocity_read, swept, refused}
use Rattle.multibody.specs.Calls.Call.{sweep, read_rows}
use Rattle.model.specs.Planar.{plane, planar}
use Rattle.model.specs.Model.{model_of}
use Rattle.rows.specs.RowIds.{row_ids_array, no_masks, filled}
use Rattle.rows.specs.Update.{rows_array}
use Rattle.multibody.specs.Answers.{refusal_number}
use Rattle.multibody.specs.declared.header.Header.{Header}
use Rattle.multibody.specs.declared.refusal.Refusal.{Refusal}
use Rattle.capi.specs.Stored.{put_three, put_first, put_ids}

-- ---- what is handed over

-- the settings that a row reads
abbrev pub params_of : Float → Float → Float → IntegrationParameters
params_of dt unit normalized = record { dt = dt; length_unit = unit; normalized_max_corrective_velocity = normalized }

-- the settings in the order in which a caller hands them over. That those of a header are the caller's is a theorem of proofs/CallExportsLaws.antt.
abbrev pub settings_of : IntegrationParameters → List Float
settings_of params = params.dt ∷ params.length_unit ∷ params.normalized_max_corrective_velocity ∷ []

-- a flag is a word: 0 is false, and every other word true
unfoldable pub flag : ℕ → Bool
flag w = not (eqb w 0)

abbrev pub header_of : Float → Float → Float → ℕ → Header
header_of dt unit normalized built = record { params = params_of dt unit normalized; built = flag built }

abbrev pub lent : Float → Float → Float → ℕ → List Float → List ℕ → List Float → Model
lent dt unit normalized built bodies words numbers = model_of (header_of dt unit normalized built) bodies words numbers

abbrev pub pose_from : Float → Float → Float → Float → Pose
pose_from re im x y = record { rotation = record { re = re; im = im }; translation = record { x = x; y = y } }

abbrev pub masks_from : ℕ → ℕ → ℕ → ℕ → Masks
masks_from locked limit motor coupled = record { locked_axes = locked; limit_axes = limit; motor_axes = motor; coupled_axes = coupled }

abbrev pub warm_of : ℕ → Float → Option Float
warm_of warm coefficient = cond (flag warm) (Some coefficient) None

-- ---- answers as numbers

-- of any kind of system: a refusal is its number, and what is granted 0, or 2^32 plus the number of rows; of a number only the lower 32 bits count
abbrev pub rows_granted : ℕ → ℕ
rows_granted n = 4294967296 + n % 4294967296

abbrev pub number : {store : Store} → Answer store → ℕ
number granted = 0
number (total n) = rows_granted n
number (rows_read ids rows) = rows_granted (length rows)
number (velocity_read v) = 0
number (swept counts) = 0
number (refused k) = k

-- the same, where a granted load that left the mark set, or a build that left it clear, would show
abbrev pub marked : {store : Store} → Answer store → Bool → ℕ
marked granted true = 100
marked granted false = 0
marked (total n) true = rows_granted n
marked (total n) false = 8589934592 + n % 4294967296
marked (rows_read ids rows) built = 0
marked (velocity_read v) built = 0
marked (swept counts) built = 0
marked (refused k) built = k

-- what a load, and a build, come to in that number, by what the program answers (`load-marked`, `build-marked` in proofs/CallExportsLaws.antt)
abbrev pub loaded_number : Result Header Refusal → ℕ
loaded_number (Ok h) = cond h.built 100 0
loaded_number (Err e) = refusal_number e

abbrev pub built_number : Result (Header × ℕ) Refusal → ℕ
built_number (Ok b) = cond b.0.built (rows_granted b.1) (8589934592 + b.1 % 4294967296)
built_number (Err e) = refusal_number e

abbrev pub marked_number : {store : Store} → Outcome store → ℕ
marked_number o = marked o.answer o.after.built

-- the answer where the model grants a read for which a slice has no room: a number above all refusals
abbrev pub short_slice : ℕ
short_slice = 1000

-- ---- a joint's rows and ids, stored

-- a row read's ids and rows in the arrays that the program has them in, of a joint with these masks; or the number of the refusal
abbrev pub rows_given : Masks → Answer plane → Result (RowIds × Rows) ℕ
rows_given masks (rows_read ids rows) = Ok (row_ids_array masks, rows_array rows)
rows_given masks (refused k) = Err k
-- a row read answers none of these: no rows
rows_given masks granted = Ok (row_ids_array no_masks, rows_array [])
rows_given masks (total n) = Ok (row_ids_array no_masks, rows_array [])
rows_given masks (velocity_read v) = Ok (row_ids_array no_masks, rows_array [])
rows_given masks (swept counts) = Ok (row_ids_array no_masks, rows_array [])

abbrev pub rows_read_at : ℕ → Model → List Float → Result (RowIds × Rows) ℕ
rows_read_at joint m rows = rows_given (row_masks_at plane m.words joint) (run planar (read_rows joint) m rows).answer

abbrev pub rows_granted_or : ℕ → Bool → ℕ
rows_granted_or n stored = cond stored (rows_granted n) short_slice

-- there is room for six rows and six ids, however many a joint has
unfoldable pub room_for_rows : List Float → List ℕ → Bool
room_for_rows out ids = leb 108 (length out) && leb 6 (length ids)

abbrev pub rows_number : Result (RowIds × Rows) ℕ → List Float → List ℕ → ℕ
rows_number (Ok r) out ids = rows_granted_or r.1.len (room_for_rows out ids)
rows_number (Err k) out ids = k

unfoldable pub rows_if_room : Rows → List Float → List ℕ → List Float
rows_if_room made out ids = cond (room_for_rows out ids) (put_first out made) out

unfoldable pub ids_if_room : RowIds → List Float → List ℕ → List ℕ
ids_if_room named out ids = cond (room_for_rows out ids) (put_ids ids named) ids

abbrev pub rows_out : Result (RowIds × Rows) ℕ → List Float → List ℕ → List Float
rows_out (Ok r) out ids = rows_if_room r.1 out ids
rows_out (Err k) out ids = out

abbrev pub ids_out : Result (RowIds × Rows) ℕ → List Float → List ℕ → List ℕ
ids_out (Ok r) out ids = ids_if_room r.0 out ids
ids_out (Err k) out ids = ids

-- ---- a sweep's counts, stored

abbrev pub swept_at : ℕ → Model → List Float → Answer plane
swept_at n m rows = (run planar (sweep n) m rows).answer

-- all 128 where it is granted, and nothing where it is refused
abbrev pub counts_out : {store : Store} → Answer store → List ℕ → List ℕ
counts_out (swept counts) out = filled 128 0 counts ++ drop 128 out
counts_out (refused k) out = out
-- a sweep answers none of these: zeros
counts_out granted out = filled 128 0 [] ++ drop 128 out
counts_out (total n) out = filled 128 0 [] ++ drop 128 out
counts_out (rows_read ids rows) out = filled 128 0 [] ++ drop 128 out
counts_out (velocity_read v) out = filled 128 0 [] ++ drop 128 out

-- where fewer than 128 bytes are lent for them, nothing is done
abbrev pub room_for_counts : List ℕ → Bool
room_for_counts counts = leb 128 (length counts)

-- ---- a velocity, stored

abbrev pub room_for_velocity : List Float → ℕ
room_for_velocity out = cond (leb 3 (length out)) 0 short_slice

abbrev pub velocity_number : Answer plane → List Float → ℕ
velocity_number (velocity_read v) out = room_for_velocity out
velocity_number granted out = 0
velocity_number (total n) out = rows_granted n
velocity_number (rows_read ids rows) out = rows_granted (length rows)
velocity_number (swept counts) out = 0
velocity_number (refused k) out = k

unfoldable pub put_velocity : SolverVel → List Float → List Float
put_velocity v out = cond (leb 3 (length out)) (put_three out 0 v.linear.x v.linear.y v.angular) out

abbrev pub velocity_out : Answer plane → List Float → List Float
velocity_out (velocity_read v) out = put_velocity v out
velocity_out granted out = out
velocity_out (total n) out = out
velocity_out (rows_read ids rows) out = out
velocity_out (swept counts) out = out
velocity_out (refused k) out = out
