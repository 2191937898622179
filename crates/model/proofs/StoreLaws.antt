-- What was stored of a row, a body or a joint is what is read there again, and every other row, body and joint reads as before; lengths are kept.
use mathlib.Core.Path.{◌≡◌, refl, ap}
use mathlib.Core.Logic.{◌≢◌, inr}
use mathlib.Core.Bool.{Bool, true, false, cond}
use mathlib.Core.List.{List, [], ◌∷◌}
use Prim.Native.Nat.{ℕ, ◌+◌, ◌*◌, ◌-◌, ◌≤◌, ◌<◌}
use native.Mathlib.Nat.{zero-add}
use native.Mathlib.Omega.{arith}
use borrow.Author.Tests.{ne_eqb, lt-ltb, le-ltb, ltb-true}
use lib.ListN.{length, get_or, set}
use lib.Seq.{get_or-set_same}
use lib.Dec.{eqb, ltb, lit<}
use lib.Ieee.{Float, nan}
use Rattle.floats.specs.declared.pose.Pose.{Pose}
use Rattle.rows.specs.declared.joint_constraint_builder.SolverPose.{SolverPose}
use Rattle.rows.specs.declared.joint_velocity_constraint.JointConstraint.{JointConstraint}
use Rattle.rows.specs.declared.joint_velocity_constraint.SolverVel.{SolverVel}
use Rattle.rows.specs.declared.joint_velocity_constraint.WritebackId.{WritebackId}
use Rattle.rows.specs.declared.joint_velocity_constraint.WritebackId.TheVariants.{Dof, Limit, Motor}
use Rattle.model.specs.Layout.{row_width, body_width, pose_place, inertia_place, mass_place, velocity_place, words_width, numbers_width, target_place}
use Rattle.model.specs.Records.{num, word, puts}
use Rattle.model.specs.Store.{row_of_numbers, row_at, row_numbers, put_row, world, pose_of, world_pose, solver_pose_at, rest, vel_at, put_vel, put_pose, seed_index, axis_of, put_seed, put_target, joint_at, joint_of}
use Rattle.multibody.proofs.Strided.{length-puts, num-stored, num-kept, num-set, num-other, num-beside}

-- an id of one of the three axes has its stored impulse among the joint's numbers
pub seed-index-below : (id : WritebackId) → axis_of id < 3 → seed_index id < numbers_width
seed-index-below (Dof i) h = omega arith
seed-index-below (Limit i) h = omega arith
seed-index-below (Motor i) h = omega arith

-- ---- rows

row_of_numbers-cong : (f g : ℕ → Float) → ((c : ℕ) → c < row_width → f c ≡ g c) → row_of_numbers f ≡ row_of_numbers g
row_of_numbers-cong f g h =
    cc (
      h 0 (lit< tt),
      h 1 (lit< tt),
      h 2 (lit< tt),
      h 3 (lit< tt),
      h 4 (lit< tt),
      h 5 (lit< tt),
      h 6 (lit< tt),
      h 7 (lit< tt),
      h 8 (lit< tt),
      h 9 (lit< tt),
      h 10 (lit< tt),
      h 11 (lit< tt),
      h 12 (lit< tt),
      h 13 (lit< tt),
      h 14 (lit< tt),
      h 15 (lit< tt),
      h 16 (lit< tt),
      h 17 (lit< tt),
    )

pub length-put_row : (s : List Float) (k : ℕ) (r : JointConstraint) → length (put_row s k r) ≡ length s
unfolding put_row
length-put_row s k r = length-puts (row_numbers r) s (k * row_width) 0

pub row_at-put_row : (s : List Float) (k : ℕ) (r : JointConstraint) → k * row_width + row_width ≤ length s → row_at (put_row s k r) k ≡ r
unfolding row_at put_row
row_at-put_row s k r room =
    row_of_numbers-cong (num row_width (puts s (k * row_width) 0 (row_numbers r)) k) (λ c. get_or (row_numbers r) c nan)
    (λ c h. rw (zero-add c) at (num-stored row_width s (row_numbers r) k 0 c h (omega arith)))

pub row_at-put_row-other : (s : List Float) (k k' : ℕ) (r : JointConstraint) → k' ≢ k → row_at (put_row s k r) k' ≡ row_at s k'
unfolding row_at put_row
row_at-put_row-other s k k' r ne =
    row_of_numbers-cong (num row_width (puts s (k * row_width) 0 (row_numbers r)) k') (num row_width s k') (λ c h. num-other row_width s (row_numbers r) k k' 0 c ne (omega arith) h)

-- ---- bodies

-- what is read of a body whose number c is f c, and which is not the world
abbrev body_of : (ℕ → Float) → SolverPose
body_of f = record { pose = pose_of f pose_place; ii = f inertia_place; im = record { x = f mass_place; y = f (mass_place + 1) } }

abbrev vel_of : (ℕ → Float) → SolverVel
vel_of f = record { linear = record { x = f velocity_place; y = f (velocity_place + 1) }; angular = f (velocity_place + 2) }

body_of-cong : (f g : ℕ → Float) → ((c : ℕ) → c < velocity_place → f c ≡ g c) → body_of f ≡ body_of g
body_of-cong f g h = cc (h 0 (lit< tt), h 1 (lit< tt), h 2 (lit< tt), h 3 (lit< tt), h 4 (lit< tt), h 5 (lit< tt), h 6 (lit< tt))

vel_of-cong : (f g : ℕ → Float) → f velocity_place ≡ g velocity_place → f (velocity_place + 1) ≡ g (velocity_place + 1)
    → f (velocity_place + 2) ≡ g (velocity_place + 2) → vel_of f ≡ vel_of g
vel_of-cong f g x y a = cc

-- the world
pub vel_at-world : (b : List Float) → vel_at b world ≡ rest
unfolding vel_at
vel_at-world b = refl

pub solver_pose_at-world : (b : List Float) → solver_pose_at b world ≡ world_pose
unfolding solver_pose_at
solver_pose_at-world b = refl

-- two lists of bodies that agree in the numbers that are read of body i
vel_at-cong : (b b' : List Float) (i : ℕ) → ((c : ℕ) → velocity_place ≤ c → c < body_width → num body_width b' i c ≡ num body_width b i c) → vel_at b' i ≡ vel_at b i
unfolding vel_at
vel_at-cong b b' i h =
    ap (cond (eqb i world) rest) (vel_of-cong (num body_width b' i) (num body_width b i) (h 7 (lit< tt) (lit< tt)) (h 8 (lit< tt) (lit< tt)) (h 9 (lit< tt) (lit< tt)))

pub solver_pose_at-cong : (b b' : List Float) (i : ℕ) → ((c : ℕ) → c < velocity_place → num body_width b' i c ≡ num body_width b i c) → solver_pose_at b' i ≡ solver_pose_at b i
unfolding solver_pose_at
solver_pose_at-cong b b' i h = ap (cond (eqb i world) world_pose) (body_of-cong (num body_width b' i) (num body_width b i) h)

-- ---- a velocity stored

abbrev vel_numbers : SolverVel → List Float
vel_numbers v = v.linear.x ∷ v.linear.y ∷ v.angular ∷ []

pub vel_at-put_vel : (b : List Float) (i : ℕ) (v : SolverVel) → i ≢ world → i * body_width + body_width ≤ length b → vel_at (put_vel b i v) i ≡ v
unfolding vel_at put_vel
vel_at-put_vel b i v ne room =
    rw (ne_eqb i world ne)
    (vel_of-cong (num body_width (puts b (i * body_width) velocity_place (vel_numbers v)) i) (λ c. get_or (vel_numbers v) (c - velocity_place) nan) (stored 0 (lit< tt)) (stored 1 (lit< tt)) (stored 2 (lit< tt)))
  where
    stored : (c : ℕ) → c < 3 → num body_width (puts b (i * body_width) velocity_place (vel_numbers v)) i (velocity_place + c) ≡ get_or (vel_numbers v) c nan
    stored c h = num-stored body_width b (vel_numbers v) i velocity_place c h (omega arith)

pub vel_at-put_vel-other : (b : List Float) (i i' : ℕ) (v : SolverVel) → i' ≢ i → vel_at (put_vel b i v) i' ≡ vel_at b i'
unfolding put_vel
vel_at-put_vel-other b i i' v ne = go (eqb i world)
  where
    go : (t : Bool) → vel_at (cond t b (puts b (i * body_width) velocity_place (vel_numbers v))) i' ≡ vel_at b i'
    go true = refl
    go false = vel_at-cong b (puts b (i * body_width) velocity_place (vel_numbers v)) i' (λ c _ h. num-other body_width b (vel_numbers v) i i' velocity_place c ne (lit< tt) h)

-- ---- a pose stored

abbrev pose_numbers : Pose → List Float
pose_numbers p = p.rotation.re ∷ p.rotation.im ∷ p.translation.x ∷ p.translation.y ∷ []

-- a body's pose replaced
abbrev pub with_pose : SolverPose → Pose → SolverPose
with_pose s p = record { pose = p; ii = s.ii; im = s.im }

body_of-pose : (f g : ℕ → Float) (p : Pose) → f 0 ≡ p.rotation.re → f 1 ≡ p.rotation.im → f 2 ≡ p.translation.x → f 3 ≡ p.translation.y
    → f 4 ≡ g 4 → f 5 ≡ g 5 → f 6 ≡ g 6 → body_of f ≡ with_pose (body_of g) (pose_of (λ c. get_or (pose_numbers p) c nan) 0)
body_of-pose f g p e0 e1 e2 e3 e4 e5 e6 = cc

pub length-put_pose : (b : List Float) (i : ℕ) (p : Pose) → length (put_pose b i p) ≡ length b
unfolding put_pose
length-put_pose b i p = length-puts (pose_numbers p) b (i * body_width) pose_place

pub solver_pose_at-put_pose : (b : List Float) (i : ℕ) (p : Pose) → i ≢ world → i * body_width + body_width ≤ length b → solver_pose_at (put_pose b i p) i ≡ with_pose (solver_pose_at b i) p
unfolding solver_pose_at put_pose
solver_pose_at-put_pose b i p ne room =
    rw (ne_eqb i world ne)
    (body_of-pose (num body_width (puts b (i * body_width) pose_place (pose_numbers p)) i) (num body_width b i) p (stored 0 (lit< tt)) (stored 1 (lit< tt)) (stored 2 (lit< tt)) (stored 3 (lit< tt))
    (kept 4 (lit< tt) (lit< tt)) (kept 5 (lit< tt) (lit< tt)) (kept 6 (lit< tt) (lit< tt)))
  where
    stored : (c : ℕ) → c < 4 → num body_width (puts b (i * body_width) pose_place (pose_numbers p)) i c ≡ get_or (pose_numbers p) c nan
    stored c h = rw (zero-add c) at (num-stored body_width b (pose_numbers p) i pose_place c h (omega arith))

    kept : (c : ℕ) → inertia_place ≤ c → c < body_width → num body_width (puts b (i * body_width) pose_place (pose_numbers p)) i c ≡ num body_width b i c
    kept c l h = num-beside body_width b (pose_numbers p) i i pose_place c (lit< tt) h (inr l)

pub solver_pose_at-put_pose-other : (b : List Float) (i i' : ℕ) (p : Pose) → i' ≢ i → solver_pose_at (put_pose b i p) i' ≡ solver_pose_at b i'
unfolding put_pose
solver_pose_at-put_pose-other b i i' p ne =
    solver_pose_at-cong b (puts b (i * body_width) pose_place (pose_numbers p)) i' (λ c h. num-other body_width b (pose_numbers p) i i' pose_place c ne (lit< tt) (omega arith))

-- velocities stay
pub vel_at-put_pose : (b : List Float) (i i' : ℕ) (p : Pose) → vel_at (put_pose b i p) i' ≡ vel_at b i'
unfolding put_pose
vel_at-put_pose b i i' p = vel_at-cong b (puts b (i * body_width) pose_place (pose_numbers p)) i' (λ c l h. num-beside body_width b (pose_numbers p) i i' pose_place c (lit< tt) h (inr (omega arith)))

-- ---- a stored impulse stored

-- an id past the last axis
pub put_seed-past : (numbers : List Float) (j : ℕ) (id : WritebackId) (p : Float) → 3 ≤ axis_of id → put_seed numbers j id p ≡ numbers
unfolding put_seed
put_seed-past numbers j id p h = rw (le-ltb (axis_of id) 3 h)

-- every number of another joint
pub num-put_seed-other : (numbers : List Float) (j j' : ℕ) (id : WritebackId) (p : Float) (c : ℕ) → j' ≢ j → c < numbers_width → num numbers_width (put_seed numbers j id p) j' c ≡ num numbers_width numbers j' c
unfolding put_seed
num-put_seed-other numbers j j' id p c ne l = go (ltb (axis_of id) 3) refl
  where
    go : (t : Bool) → ltb (axis_of id) 3 ≡ t → num numbers_width (cond t (set numbers (j * numbers_width + seed_index id) p) numbers) j' c ≡ num numbers_width numbers j' c
    go true e =
        let h = seed-index-below id (ltb-true (axis_of id) 3 e) in
        num-other numbers_width numbers (p ∷ []) j j' (seed_index id) c ne (omega arith) l
    go false e = refl

-- ---- joints

joint_of-cong : (f f' : ℕ → Float) (g : ℕ → ℕ) → ((c : ℕ) → c < numbers_width → f c ≡ f' c) → joint_of f g ≡ joint_of f' g
joint_of-cong f f' g h =
    cc (
      h 0 (lit< tt),
      h 1 (lit< tt),
      h 2 (lit< tt),
      h 3 (lit< tt),
      h 4 (lit< tt),
      h 5 (lit< tt),
      h 6 (lit< tt),
      h 7 (lit< tt),
      h 8 (lit< tt),
      h 9 (lit< tt),
      h 10 (lit< tt),
      h 11 (lit< tt),
      h 12 (lit< tt),
      h 13 (lit< tt),
      h 14 (lit< tt),
      h 15 (lit< tt),
      h 16 (lit< tt),
      h 17 (lit< tt),
      h 18 (lit< tt),
      h 19 (lit< tt),
      h 20 (lit< tt),
      h 21 (lit< tt),
      h 22 (lit< tt),
      h 23 (lit< tt),
      h 24 (lit< tt),
      h 25 (lit< tt),
      h 26 (lit< tt),
      h 27 (lit< tt),
      h 28 (lit< tt),
      h 29 (lit< tt),
      h 30 (lit< tt),
      h 31 (lit< tt),
      h 32 (lit< tt),
      h 33 (lit< tt),
      h 34 (lit< tt),
      h 35 (lit< tt),
      h 36 (lit< tt),
      h 37 (lit< tt),
      h 38 (lit< tt),
      h 39 (lit< tt),
      h 40 (lit< tt),
      h 41 (lit< tt),
    )

-- another joint
pub joint_at-put_seed-other : (words : List ℕ) (numbers : List Float) (j j' : ℕ) (id : WritebackId) (p : Float) → j' ≢ j → joint_at words (put_seed numbers j id p) j' ≡ joint_at words numbers j'
unfolding joint_at
joint_at-put_seed-other words numbers j j' id p ne =
    joint_of-cong (num numbers_width (put_seed numbers j id p) j') (num numbers_width numbers j') (word words_width words j') (λ c h. num-put_seed-other numbers j j' id p c ne h)

-- The same joint: its numbers with p at the id's place.
pub joint_at-put_seed : (words : List ℕ) (numbers : List Float) (j : ℕ) (id : WritebackId) (p : Float) → axis_of id < 3 → j * numbers_width + numbers_width ≤ length numbers
    → joint_at words (put_seed numbers j id p) j ≡ joint_of (λ c. cond (eqb c (seed_index id)) p (num numbers_width numbers j c)) (word words_width words j)
unfolding joint_at put_seed
joint_at-put_seed words numbers j id p h room =
    let l = seed-index-below id h in
    rw (lt-ltb (axis_of id) 3 h)
    (joint_of-cong (num numbers_width (set numbers (j * numbers_width + seed_index id) p) j) (λ c. cond (eqb c (seed_index id)) p (num numbers_width numbers j c)) (word words_width words j)
    (λ c _. num-set numbers_width numbers p j (seed_index id) c (omega arith)))

-- ---- a target velocity stored

module _ (numbers : List Float) (j i : ℕ) (v : Float) where
  pub length-put_target : length (put_target numbers j i v) ≡ length numbers
  unfolding put_target
  length-put_target = length-puts (v ∷ []) numbers (j * numbers_width) (target_place i)

  -- the target's number, and every other number of the joint
  pub num-put_target : i < 3 → j * numbers_width + numbers_width ≤ length numbers → num numbers_width (put_target numbers j i v) j (target_place i) ≡ v
  unfolding put_target
  num-put_target h room = get_or-set_same numbers (j * numbers_width + target_place i) v nan (omega arith)

  pub num-put_target-kept : (c : ℕ) → c ≢ target_place i → num numbers_width (put_target numbers j i v) j c ≡ num numbers_width numbers j c
  unfolding put_target
  num-put_target-kept c ne = num-kept numbers_width numbers v j (target_place i) c ne

  -- every number of another joint
  pub num-put_target-other : (j' c : ℕ) → i < 3 → j' ≢ j → c < numbers_width → num numbers_width (put_target numbers j i v) j' c ≡ num numbers_width numbers j' c
  unfolding put_target
  num-put_target-other j' c h ne l = num-other numbers_width numbers (v ∷ []) j j' (target_place i) c ne (omega arith) l

  pub joint_at-put_target-other : (words : List ℕ) (j' : ℕ) → i < 3 → j' ≢ j → joint_at words (put_target numbers j i v) j' ≡ joint_at words numbers j'
  unfolding joint_at
  joint_at-put_target-other words j' h ne =
      joint_of-cong (num numbers_width (put_target numbers j i v) j') (num numbers_width numbers j') (word words_width words j') (λ c l. num-put_target-other j' c h ne l)

  -- the same joint: its numbers with v at the target's place
  pub joint_at-put_target : (words : List ℕ) → i < 3 → j * numbers_width + numbers_width ≤ length numbers
      → joint_at words (put_target numbers j i v) j ≡ joint_of (λ c. cond (eqb c (target_place i)) v (num numbers_width numbers j c)) (word words_width words j)
  unfolding joint_at put_target
  joint_at-put_target words h room =
      joint_of-cong (num numbers_width (put_target numbers j i v) j) (λ c. cond (eqb c (target_place i)) v (num numbers_width numbers j c)) (word words_width words j)
      (λ c _. num-set numbers_width numbers v j (target_place i) c (omega arith))
