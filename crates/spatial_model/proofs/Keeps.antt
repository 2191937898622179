-- What the stores of calls change of bodies and joints. A stored velocity changes free places alone, which no pose, mass or inertia is read from; a placed pose that is finite passes rule 6; a stored impulse changes free places alone.
use Prim.Native.Nat.{ℕ, ◌+◌, ◌*◌, ◌<◌}
use mathlib.Core.Path.{◌≡◌, refl, sym, ap, ◌∙◌}
use mathlib.Core.Bool.{Bool, true, false, cond, ◌&&◌, false≢true}
use mathlib.Core.List.{List}
use native.Mathlib.Omega.{arith}
use borrow.Author.Tests.{ltb-true}
use lib.Dec.{eqb, ltb, lit≤}
use lib.ListN.{get_or, set, replicate}
use lib.Ieee.{Float}
use Rattle.floats.specs.Scalar.{is_finite}
use Rattle.rows.specs.declared.joint_velocity_constraint.WritebackId.{WritebackId}
use Rattle.rows.specs.declared.joint_velocity_constraint.WritebackId.TheVariants.{Dof, Limit, Motor}
use Rattle.spatial_floats.specs.declared.pose.Pose.{Pose}
use Rattle.spatial_rows.specs.declared.joint_velocity_constraint.SolverVel.{SolverVel}
use Rattle.multibody.specs.Model.{world}
use Rattle.multibody.specs.Rules.{all}
use Rattle.multibody.specs.Records.{puts}
use Rattle.multibody.specs.JointRecords.{axis_of}
use Rattle.multibody.specs.Finite.{passes}
use Rattle.multibody.specs.Finite.Asks.{free}
use Rattle.multibody.proofs.RuleLaws.{both, all-below}
use Rattle.multibody.proofs.AskLaws.{is_free, free-passes, front-finite}
use Rattle.multibody.proofs.Footprints.{SameBut, Free, Passing, EachMay, same_self, set_same, puts-same, kept}
use Rattle.spatial_model.specs.Layout.{body_width, pose_place, velocity_place, numbers_width}
use Rattle.spatial_model.specs.Store.{solver_pose_at, vel_numbers, put_vel, pose_numbers, put_pose, put_seed, seed_index, seed_axes}
use Rattle.spatial_model.specs.Refusals.{body_asks, joint_asks, finite_vector, finite_rotation, finite_pose}
use Rattle.multibody.proofs.Laws.{Stored}
use Rattle.spatial_model.specs.Spatial.{spatial}
use Rattle.spatial_model.proofs.StoreLaws.{seed-index-below, solver_pose_at-cong}

-- ---- bodies

velocity-free : (v : SolverVel) → EachMay (Free body_asks) velocity_place (vel_numbers v)
velocity-free v = (refl, (refl, (refl, (refl, (refl, (refl, tt))))))

pub put_vel-same : (b : List Float) (i : ℕ) (v : SolverVel) → SameBut body_width (Free body_asks) b (put_vel b i v)
unfolding put_vel
put_vel-same b i v = go (eqb i world)
  where
    go : (t : Bool) → SameBut body_width (Free body_asks) b (cond t b (puts b (i * body_width) velocity_place (vel_numbers v)))
    go true = same_self b
    go false = puts-same (vel_numbers v) b i velocity_place (lit≤ tt) (velocity-free v)

pub solver_pose_at-same : {b b' : List Float} → SameBut body_width (Free body_asks) b b' → (i : ℕ) → solver_pose_at b' i ≡ solver_pose_at b i
solver_pose_at-same {b} {b'} s i =
    solver_pose_at-cong b b' i (λ c h. kept s i c (omega arith) (λ f. false≢true (sym (ap is_free (front-finite velocity_place (replicate 6 free) c h)) ∙ f)))

-- rule 6 holds of bodies once a pose is placed of which it holds
pub put_pose-same : (b : List Float) (i : ℕ) (p : Pose) → finite_pose p ≡ true → SameBut body_width (Passing body_asks) b (put_pose b i p)
unfolding put_pose finite_pose finite_rotation finite_vector passes
put_pose-same b i p f =
    let q = p.rotation in
    let v = p.translation in
    let halves = both (finite_rotation q) (finite_vector v) f in
    let qx = both (is_finite q.x) (is_finite q.y && (is_finite q.z && is_finite q.w)) halves.0 in
    let qy = both (is_finite q.y) (is_finite q.z && is_finite q.w) qx.1 in
    let qz = both (is_finite q.z) (is_finite q.w) qy.1 in
    let vx = both (is_finite v.x) (is_finite v.y && is_finite v.z) halves.1 in
    let vy = both (is_finite v.y) (is_finite v.z) vx.1 in
    puts-same (pose_numbers p) b i pose_place (lit≤ tt) (qx.0, (qy.0, (qz.0, (qz.1, (vx.0, (vy.0, (vy.1, tt)))))))

-- ---- joints

seed-free : (id : WritebackId) → axis_of id < seed_axes id → is_free (get_or joint_asks (seed_index id) free) ≡ true
unfolding all
seed-free (Dof i) h = all-below (λ i. is_free (get_or joint_asks (seed_index (Dof i)) free)) 6 refl i h
seed-free (Limit i) h = all-below (λ i. is_free (get_or joint_asks (seed_index (Limit i)) free)) 3 refl i h
seed-free (Motor i) h = all-below (λ i. is_free (get_or joint_asks (seed_index (Motor i)) free)) 3 refl i h

pub put_seed-same : (n : List Float) (j : ℕ) (id : WritebackId) (p : Float) → SameBut numbers_width (Stored spatial (λ c. false)) n (put_seed n j id p)
unfolding put_seed
put_seed-same n j id p = go (ltb (axis_of id) (seed_axes id)) refl
  where
    go : (t : Bool) → ltb (axis_of id) (seed_axes id) ≡ t → SameBut numbers_width (Stored spatial (λ c. false)) n (cond t (set n (j * numbers_width + seed_index id) p) n)
    go true e =
        let h = ltb-true (axis_of id) (seed_axes id) e in
        set_same n j (seed_index id) p (seed-index-below id h) (refl, λ words j'. free-passes _ p (seed-free id h))
    go false e = same_self n
