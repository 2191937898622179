-- What the exported functions on the rows of a joint leave in the slices that they are lent. Where a slice is shorter than what is read or written of it, all stays.
use Rattle.std.specs.Prelude.{ℕ, ◌+◌, ◌%◌, Bool, cond, ◌&&◌, List, [], ◌∷◌, leb, ltb, eqb, length, get_or, take, drop, Float, Option, Some, None}
use Rattle.comparison.specs.Exports.{at, vector_at, put_two}
use Rattle.rows.specs.Step.{step_of, warmstart_of, remove_bias_of}
use Rattle.rows.specs.Finalize.{finalize_groups}
use Rattle.rows.specs.MotorModel.{combine_coefficients_of}
use Rattle.rows.specs.IntegrationParameters.{erp_inv_dt_of, cfm_coeff_of}
use Rattle.rows.specs.Helper.{angular_limit_params_of}
use Rattle.rows.specs.RowIds.{row_ids_array}
use Rattle.rows.specs.Update.{rows_array}
use Rattle.rows.specs.Builder.{builder_update_of}
use Rattle.rows.specs.declared.generic_joint.Masks.{Masks}
use Rattle.rows.specs.declared.joint_constraint_builder.SolverPose.{SolverPose}
use Rattle.rows.specs.declared.joint_constraint_builder.ImpulseJoint.{ImpulseJoint}
use Rattle.rows.specs.declared.integration_parameters.SpringCoefficients.{SpringCoefficients}
use Rattle.rows.specs.declared.joint_velocity_constraint.JointConstraint.{JointConstraint}
use Rattle.rows.specs.declared.joint_velocity_constraint.WritebackId.{WritebackId}
use Rattle.rows.specs.declared.joint_velocity_constraint.WritebackId.TheVariants.{Dof, Limit, Motor}
use Rattle.rows.specs.declared.joint_velocity_constraint.SolverVel.{SolverVel}
use Rattle.rows.specs.declared.joint_velocity_constraint.SolverVels.{SolverVels}
use Rattle.rows.specs.declared.joint_velocity_constraint.Solved.{Solved}
use Rattle.capi.specs.Stored.{put_three, of_six, put_first, put_ids}
use Rattle.capi.specs.CallExports.{short_slice, params_of}
use Rattle.model.specs.Layout.{row_width, numbers_width}
use Rattle.model.specs.Store.{row_at, put_row, put_seed, motor_model_of, joint_at}
use Rattle.comparison.specs.Exports.{side_number}

-- ---- one row between two velocities

-- the velocity in the three numbers from i on: linear x and y, angular
abbrev pub vel_at : List Float → ℕ → SolverVel
vel_at x i = record { linear = vector_at x i; angular = at x (i + 2) }

-- both velocities stored
abbrev pub put_vels : List Float → SolverVels → List Float
put_vels out v =
    put_three (put_three out 0 v.vel1.linear.x v.vel1.linear.y v.vel1.angular) 3 v.vel2.linear.x v.vel2.linear.y v.vel2.angular

-- a row's numbers and the six of two velocities are there
abbrev pub has_row : List Float → List Float → Bool
has_row row vels = leb row_width (length row) && leb 6 (length vels)

-- one step of the row between the two velocities
abbrev pub stepped : List Float → List Float → Solved
stepped row vels = step_of (row_at row 0) (vel_at vels 0) (vel_at vels 3)

-- the row after a step, and the velocities after it
unfoldable pub step_row : List Float → List Float → List Float
step_row row vels = cond (has_row row vels) (put_row row 0 (stepped row vels).row) row

unfoldable pub step_vels : List Float → List Float → List Float
step_vels row vels = cond (has_row row vels) (put_vels vels (stepped row vels).vels) vels

-- and which bound the step met; 3 where they are not there
unfoldable pub step_side : List Float → List Float → ℕ
step_side row vels = cond (has_row row vels) (side_number (stepped row vels).side) 3

-- the velocities after the row's warm start
unfoldable pub warmstart : List Float → List Float → List Float
warmstart row vels = cond (has_row row vels) (put_vels vels (warmstart_of (row_at row 0) (vel_at vels 0) (vel_at vels 3))) vels

-- the row without its bias
unfoldable pub remove_bias : List Float → List Float
remove_bias row = cond (leb row_width (length row)) (put_row row 0 (remove_bias_of (row_at row 0))) row

-- the id of a number, 4 times its kind (Dof, Limit, Motor) plus its axis; a number past these kinds is a lock of axis 3, which has no stored impulse
abbrev pub id_of : ℕ → WritebackId
id_of n = cond (ltb n 4) (Dof (n % 4)) (cond (ltb n 8) (Limit (n % 4)) (cond (ltb n 12) (Motor (n % 4)) (Dof 3)))

-- an impulse stored by its id in a joint's numbers
unfoldable pub writeback : ℕ → Float → List Float → List Float
writeback id p numbers = cond (leb numbers_width (length numbers)) (put_seed numbers 0 (id_of id) p) numbers

-- ---- a group of six rows

abbrev pub rows_at : List Float → List JointConstraint
rows_at s = row_at s 0 ∷ row_at s 1 ∷ row_at s 2 ∷ row_at s 3 ∷ row_at s 4 ∷ row_at s 5 ∷ []

abbrev pub put_six : List Float → List JointConstraint → List Float
put_six s cs = put_row (put_row (put_row (put_row (put_row (put_row s 0 (of_six cs 0)) 1 (of_six cs 1)) 2 (of_six cs 2)) 3 (of_six cs 3)) 4 (of_six cs 4)) 5 (of_six cs 5)

unfoldable pub at_most_six : ℕ → ℕ
at_most_six n = cond (ltb n 6) n 6

-- the first n of six rows, or all six, orthogonalised as group two of a joint that has no group one
unfoldable pub finalize : ℕ → List Float → List Float
finalize n rows = cond (leb 108 (length rows)) (put_six rows (finalize_groups 0 (at_most_six n) (rows_at rows))) rows

-- ---- single numbers

-- `combine_coefficients`: erp_inv_dt, cfm_coeff and cfm_gain of a motor model, which is a number
unfoldable pub combine_coefficients : ℕ → Float → Float → Float → List Float → List Float
combine_coefficients model dt stiffness damping out =
    let c = combine_coefficients_of (motor_model_of model) dt stiffness damping in
    cond (leb 3 (length out)) (put_three out 0 c.erp_inv_dt c.cfm_coeff c.cfm_gain) out

-- softness: erp_inv_dt and cfm_coeff
unfoldable pub spring : Float → Float → Float → List Float → List Float
spring frequency ratio dt out =
    let s : SpringCoefficients = record { natural_frequency = frequency; damping_ratio = ratio } in
    cond (leb 2 (length out)) (put_two out 0 (erp_inv_dt_of s dt) (cfm_coeff_of s dt)) out

-- an angular limit's centre, as cosine and sine, and half its range
unfoldable pub angular_limit : Float → Float → Float → Float → List Float → List Float
angular_limit min max cos sin out =
    let l = angular_limit_params_of min max (record { re = cos; im = sin }) in
    cond (leb 3 (length out)) (put_three out 0 l.center.re l.center.im l.half_range) out

-- ---- a joint's rows. The 9 words: four masks, three motor models, whether a warm coefficient is given, substep. The 60 numbers: dt, length unit
-- and largest corrective velocity; seven of body 1; seven of body 2; the joint's 42; warm coefficient.

-- the body in the seven numbers from i on: pose, inverse inertia, inverse masses
abbrev pub body_at : List Float → ℕ → SolverPose
body_at x i = record {
  pose = record { rotation = record { re = at x i; im = at x (i + 1) }; translation = record { x = at x (i + 2); y = at x (i + 3) } };
  ii = at x (i + 4);
  im = record { x = at x (i + 5); y = at x (i + 6) };
}

-- word i
abbrev pub word_at : List ℕ → ℕ → ℕ
word_at w i = get_or w i 0

-- the joint: its stored words would start with its two bodies, and end with two that say that it is enabled and that its centre is typed as cosine and sine, and its first row
unfoldable pub joint_from : List ℕ → List Float → ImpulseJoint
joint_from w x =
    joint_at (0 ∷ 0 ∷ word_at w 0 ∷ word_at w 1 ∷ word_at w 2 ∷ word_at w 3 ∷ word_at w 4 ∷ word_at w 5 ∷ word_at w 6 ∷ 0 ∷ 0 ∷ 0 ∷ []) (take numbers_width (drop 17 x)) 0

unfoldable pub warm_from : List ℕ → List Float → Option Float
warm_from w x = cond (eqb (word_at w 7) 0) None (Some (at x 59))

-- the impulses that six rows hold
abbrev pub impulses_from : List Float → List Float
impulses_from s = at s 0 ∷ at s 18 ∷ at s 36 ∷ at s 54 ∷ at s 72 ∷ at s 90 ∷ []

-- the rows made, from the impulses of the last ones, before they are stored
unfoldable pub made_from : List ℕ → List Float → List Float → List JointConstraint
made_from w x prevs =
    builder_update_of (params_of (at x 0) (at x 1) (at x 2)) (word_at w 8) (warm_from w x) (body_at x 3) (body_at x 10) (joint_from w x) prevs

abbrev pub masks_from : List ℕ → Masks
masks_from w = record { locked_axes = word_at w 0; limit_axes = word_at w 1; motor_axes = word_at w 2; coupled_axes = word_at w 3 }

-- the number of rows, the rows and the ids, where all slices are long enough
abbrev pub roomy_count : List ℕ → List Float → List Float → ℕ
roomy_count w x rows = (rows_array (made_from w x (impulses_from rows))).len

unfoldable pub roomy_rows : List ℕ → List Float → List Float → List Float
roomy_rows w x rows = put_first rows (rows_array (made_from w x (impulses_from rows)))

unfoldable pub roomy_ids : List ℕ → List ℕ → List ℕ
roomy_ids w ids = put_ids ids (row_ids_array (masks_from w))

abbrev pub has_room : List ℕ → List Float → List Float → List ℕ → Bool
has_room w x rows ids = leb 9 (length w) && leb 60 (length x) && leb 108 (length rows) && leb 6 (length ids)

unfoldable pub build_count : List ℕ → List Float → List Float → List ℕ → ℕ
build_count w x rows ids = cond (has_room w x rows ids) (roomy_count w x rows) short_slice

unfoldable pub build_rows : List ℕ → List Float → List Float → List ℕ → List Float
build_rows w x rows ids = cond (has_room w x rows ids) (roomy_rows w x rows) rows

unfoldable pub build_ids : List ℕ → List Float → List Float → List ℕ → List ℕ
build_ids w x rows ids = cond (has_room w x rows ids) (roomy_ids w ids) ids
