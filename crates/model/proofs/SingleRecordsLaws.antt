-- A row, a body's pose or velocity, a joint or a stored impulse is read and stored where its record is there whole; elsewhere zeros are read, of a body the world, and nothing is stored.
use Prim.Native.Nat.{ℕ, ◌+◌, ◌*◌, ◌/◌, ◌≤◌, ◌<◌}
use mathlib.Core.Path.{◌≡◌}
use mathlib.Core.List.{List}
use native.Mathlib.Omega.{arith}
use borrow.Author.Tests.{lt-ltb, le-ltb}
use lib.ListN.{length}
use lib.Ieee.{Float}
use Rattle.floats.specs.declared.pose.Pose.{Pose}
use Rattle.rows.specs.Update.{blank_row}
use Rattle.rows.specs.declared.joint_velocity_constraint.JointConstraint.{JointConstraint}
use Rattle.rows.specs.declared.joint_velocity_constraint.WritebackId.{WritebackId}
use Rattle.model.specs.Layout.{row_width, body_width, words_width, numbers_width}
use Rattle.model.specs.Store.{row_at, put_row, world_pose, rest, solver_pose_at, vel_at, put_pose, joint_at, put_seed}
use Rattle.multibody.specs.Counts.{body_count, joint_count, row_capacity}
use Rattle.model.specs.Planar.{plane}
use Rattle.model.specs.SingleRecords.{row_if_there, put_row_if_there, pose_if_there, vel_if_there, put_pose_if_there, blank_joint, joint_if_there, put_seed_if_there}
use Rattle.multibody.proofs.CountLaws.{row-there as row_room, there-row, body-there, there-body, joint-there}
use Rattle.model.proofs.PlanarLaws.{planar-laws}

-- ---- rows

module _ (rows : List Float) (k : ℕ) where
  pub row_fits : {n : ℕ} → n ≡ row_capacity plane rows → k < n → k * row_width + row_width ≤ length rows
  row_fits e h = row_room plane rows k (rw e at h)

  pub row-there : k * row_width + row_width ≤ length rows → row_if_there rows k ≡ row_at rows k
  unfolding row_if_there
  row-there h = rw (lt-ltb k (row_capacity plane rows) (there-row planar-laws rows k h))

  pub row-absent : {n : ℕ} → n ≡ row_capacity plane rows → n ≤ k → row_if_there rows k ≡ blank_row
  unfolding row_if_there
  row-absent {n} e h = rw (← e, le-ltb k n h)

  pub put-row-there : (r : JointConstraint) → k * row_width + row_width ≤ length rows → put_row_if_there rows k r ≡ put_row rows k r
  unfolding put_row_if_there
  put-row-there r h = rw (lt-ltb k (row_capacity plane rows) (there-row planar-laws rows k h))

  pub put-row-absent : (r : JointConstraint) {n : ℕ} → n ≡ row_capacity plane rows → n ≤ k → put_row_if_there rows k r ≡ rows
  unfolding put_row_if_there
  put-row-absent r {n} e h = rw (← e, le-ltb k n h)

-- ---- bodies

module _ (bodies : List Float) (i : ℕ) {n : ℕ} (e : n ≡ body_count plane bodies) where
  pub body-fits : i < n → i * body_width + body_width ≤ length bodies
  body-fits h = body-there plane bodies i (rw e at h)

  pub pose-there : i < n → pose_if_there bodies i ≡ (solver_pose_at bodies i).pose
  unfolding pose_if_there
  pose-there h = rw (← e, lt-ltb i n h)

  pub pose-absent : n ≤ i → pose_if_there bodies i ≡ world_pose.pose
  unfolding pose_if_there
  pose-absent h = rw (← e, le-ltb i n h)

  pub vel-there : i < n → vel_if_there bodies i ≡ vel_at bodies i
  unfolding vel_if_there
  vel-there h = rw (← e, lt-ltb i n h)

  pub vel-absent : n ≤ i → vel_if_there bodies i ≡ rest
  unfolding vel_if_there
  vel-absent h = rw (← e, le-ltb i n h)

module _ (bodies : List Float) (i : ℕ) (p : Pose) where
  pub put-pose-there : i * body_width + body_width ≤ length bodies → put_pose_if_there bodies i p ≡ put_pose bodies i p
  unfolding put_pose_if_there
  put-pose-there h = rw (lt-ltb i (body_count plane bodies) (there-body planar-laws bodies i h))

  pub put-pose-absent : {n : ℕ} → n ≡ body_count plane bodies → n ≤ i → put_pose_if_there bodies i p ≡ bodies
  unfolding put_pose_if_there
  put-pose-absent {n} e h = rw (← e, le-ltb i n h)

-- ---- joints

module _ (words : List ℕ) (numbers : List Float) (j : ℕ) where
  pub joint-read : j * words_width + words_width ≤ length words → j * numbers_width + numbers_width ≤ length numbers → joint_if_there words numbers j ≡ joint_at words numbers j
  unfolding joint_if_there
  joint-read h g = rw (lt-ltb j (joint_count plane words numbers) (joint-there planar-laws words numbers j h g))

  pub joint-absent : {n : ℕ} → n ≡ joint_count plane words numbers → n ≤ j → joint_if_there words numbers j ≡ blank_joint
  unfolding joint_if_there
  joint-absent {n} e h = rw (← e, le-ltb j n h)

module _ (numbers : List Float) (j : ℕ) (id : WritebackId) (p : Float) where
  pub seed-there : j * numbers_width + numbers_width ≤ length numbers → put_seed_if_there numbers j id p ≡ put_seed numbers j id p
  unfolding put_seed_if_there
  seed-there h = rw (lt-ltb j (length numbers / numbers_width) (omega arith))

  pub seed-absent : length numbers / numbers_width ≤ j → put_seed_if_there numbers j id p ≡ numbers
  unfolding put_seed_if_there
  seed-absent h = rw (le-ltb j (length numbers / numbers_width) h)
