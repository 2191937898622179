-- Document 02, R-12: how a substep moves the bodies.
use Rattle.std.specs.Prelude.{ℕ, zero, suc, ◌+◌, Bool, true, false, cond, List, Float}
use Rattle.std.specs.Float.Ieee.{eq}
use Rattle.floats.specs.Operators.{◌⊕◌, ◌⊖◌, ◌⊗◌, ◌⊘◌, bits}
use Rattle.floats.specs.Vector.{add_of, mul_of, length_of}
use Rattle.floats.specs.declared.vector.Vector.{Vector}
use Rattle.floats.specs.declared.rotation_ops.Rotation.{Rotation}
use Rattle.floats.specs.declared.pose.Pose.{Pose}
use Rattle.rows.specs.declared.joint_velocity_constraint.SolverVel.{SolverVel}
use Rattle.model.specs.Store.{solver_pose_at, vel_at, put_pose}
use Rattle.model.specs.Refusals.{finite_pose}

-- "with a = angular velocity times the substep, rotation becomes (re − im·a, im + re·a)",
abbrev pub turned : Rotation → Float → Vector
turned r a = record { x = r.re ⊖ r.im ⊗ a; y = r.im ⊕ r.re ⊗ a }

-- "each over its length, and the old rotation stays if that is zero"
unfoldable pub moved_rotation : Rotation → Float → Rotation
moved_rotation old a =
    let new = turned old a in
    let length = length_of new in
    cond (eq length (bits 0)) old (record { re = new.x ⊘ length; im = new.y ⊘ length })

-- "Moving adds velocity times the substep"
unfoldable pub moved_pose : Pose → SolverVel → Float → Pose
moved_pose p v h = record { rotation = moved_rotation p.rotation (v.angular ⊗ h); translation = add_of p.translation (mul_of v.linear h) }

-- body i's new pose
unfoldable pub new_pose : Float → List Float → ℕ → Pose
new_pose h b i = moved_pose (solver_pose_at b i).pose (vel_at b i) h

-- n bodies from body i on, ascending, up to the first whose new pose is not finite
pub record Moved : Type 0 where
  pub bodies : List Float
  pub finite : Bool

abbrev pub moved : List Float → Bool → Moved
moved b f = record { bodies = b; finite = f }

unfoldable pub move_from : Float → ℕ → ℕ → List Float → Moved
move_from h i zero b = moved b true
move_from h i (suc n) b = cond (finite_pose (new_pose h b i)) (move_from h (i + 1) n (put_pose b i (new_pose h b i))) (moved b false)
