-- What the stores of calls change of bodies and joints. A stored velocity changes free places alone, which no pose, mass or inertia is read from; a placed pose that is finite passes rule 6. A stored impulse and a motor table's
-- target store numbers that pass rule 6, before the centre, so that rule 12 reads what it read (`PlanarStored`).
use Prim.Native.Nat.{ℕ, ◌+◌, ◌*◌, ◌<◌}
use mathlib.Core.Path.{◌≡◌, refl, sym, ap, ◌∙◌}
use mathlib.Core.Bool.{Bool, true, false, cond, ◌&&◌, true≢false, false≢true}
use mathlib.Core.List.{List, [], ◌∷◌}
use native.Mathlib.Omega.{arith}
use borrow.Author.Tests.{ltb-true, lt-leb}
use lib.Dec.{eqb, ltb, leb, lit≤, lit<}
use lib.ListN.{get_or, set, replicate}
use lib.Ieee.{Float}
use Rattle.floats.specs.Scalar.{is_finite}
use Rattle.floats.specs.declared.pose.Pose.{Pose}
use Rattle.rows.specs.declared.joint_velocity_constraint.SolverVel.{SolverVel}
use Rattle.rows.specs.declared.joint_velocity_constraint.WritebackId.{WritebackId}
use Rattle.rows.specs.declared.joint_velocity_constraint.WritebackId.TheVariants.{Dof, Limit, Motor}
use Rattle.multibody.specs.Rules.{rule, all}
use Rattle.multibody.specs.Finite.{passes}
use Rattle.multibody.specs.Finite.Asks.{free}
use Rattle.model.specs.Layout.{body_width, pose_place, velocity_place, words_width, center_choice_place, numbers_width, center_place, target_place}
use Rattle.model.specs.Records.{word, puts}
use Rattle.model.specs.Store.{world, solver_pose_at, put_vel, put_pose, put_seed, put_target, seed_index, axis_of, center_at}
use Rattle.model.specs.Refusals.{body_asks, joint_asks, finite_pose, center_fits}
use Rattle.model.specs.Planar.{planar}
use Rattle.multibody.proofs.RuleLaws.{both, all-below, all-cong}
use Rattle.multibody.proofs.AskLaws.{is_free, finite-passes, free-passes, front-finite}
use Rattle.multibody.proofs.Footprints.{SameBut, Free, Passing, same_self, set_same, puts-same, kept}
use Rattle.multibody.proofs.Laws.{Stored}
use Rattle.model.proofs.StoreLaws.{seed-index-below, solver_pose_at-cong}

-- ---- bodies

pub put_vel-same : (b : List Float) (i : ℕ) (v : SolverVel) → SameBut body_width (Free body_asks) b (put_vel b i v)
unfolding put_vel
put_vel-same b i v = go (eqb i world)
  where
    go : (t : Bool) → SameBut body_width (Free body_asks) b (cond t b (puts b (i * body_width) velocity_place (v.linear.x ∷ v.linear.y ∷ v.angular ∷ [])))
    go true = same_self b
    go false = puts-same (v.linear.x ∷ v.linear.y ∷ v.angular ∷ []) b i velocity_place (lit≤ tt) (refl, (refl, (refl, tt)))

pub solver_pose_at-same : {b b' : List Float} → SameBut body_width (Free body_asks) b b' → (i : ℕ) → solver_pose_at b' i ≡ solver_pose_at b i
solver_pose_at-same {b} {b'} s i =
    solver_pose_at-cong b b' i (λ c h. kept s i c (omega arith) (λ f. false≢true (sym (ap is_free (front-finite velocity_place (replicate 3 free) c h)) ∙ f)))

-- rule 6 holds of bodies once a pose is placed of which it holds
pub put_pose-same : (b : List Float) (i : ℕ) (p : Pose) → planar.finite_pose p ≡ true → SameBut body_width (Passing body_asks) b (put_pose b i p)
unfolding put_pose finite_pose passes
put_pose-same b i p f =
    let re = both (is_finite p.rotation.re) (is_finite p.rotation.im && (is_finite p.translation.x && is_finite p.translation.y)) f in
    let im = both (is_finite p.rotation.im) (is_finite p.translation.x && is_finite p.translation.y) re.1 in
    let xy = both (is_finite p.translation.x) (is_finite p.translation.y) im.1 in
    puts-same (p.rotation.re ∷ p.rotation.im ∷ p.translation.x ∷ p.translation.y ∷ []) b i pose_place (lit≤ tt) (re.0, (im.0, (xy.0, (xy.1, tt))))

-- ---- joints

-- rule 12 reads the centre, and calls store before it
abbrev pub center_read : ℕ → Bool
center_read c = leb center_place c

abbrev pub PlanarStored : ℕ → Float → Type 0
PlanarStored = Stored planar center_read

seed-free : (choice : ℕ) (id : WritebackId) → axis_of id < 3 → is_free (get_or (joint_asks choice) (seed_index id) free) ≡ true
unfolding all
seed-free choice (Dof i) h = all-below (λ i. is_free (get_or (joint_asks choice) (seed_index (Dof i)) free)) 3 refl i h
seed-free choice (Limit i) h = all-below (λ i. is_free (get_or (joint_asks choice) (seed_index (Limit i)) free)) 3 refl i h
seed-free choice (Motor i) h = all-below (λ i. is_free (get_or (joint_asks choice) (seed_index (Motor i)) free)) 3 refl i h

seed-before : (id : WritebackId) → axis_of id < 3 → seed_index id < center_place
seed-before (Dof i) h = omega arith
seed-before (Limit i) h = omega arith
seed-before (Motor i) h = omega arith

pub put_seed-same : (n : List Float) (j : ℕ) (id : WritebackId) (p : Float) → SameBut numbers_width PlanarStored n (put_seed n j id p)
unfolding put_seed
put_seed-same n j id p = go (ltb (axis_of id) 3) refl
  where
    go : (t : Bool) → ltb (axis_of id) 3 ≡ t → SameBut numbers_width PlanarStored n (cond t (set n (j * numbers_width + seed_index id) p) n)
    go true e =
        let h = ltb-true (axis_of id) 3 e in
        set_same n j (seed_index id) p (seed-index-below id h) (lt-leb center_place (seed_index id) (seed-before id h), λ words j'. free-passes _ p (seed-free (word words_width words j' center_choice_place) id h))
    go false e = same_self n

pub put_target-same : (n : List Float) (j i : ℕ) (v : Float) → i < 3 → is_finite v ≡ true → SameBut numbers_width PlanarStored n (put_target n j i v)
unfolding put_target
put_target-same n j i v h f = set_same n j (target_place i) v (omega arith) (lt-leb center_place (target_place i) (omega arith), λ words j'. finite-passes _ v f)

module _ {n n' : List Float} (s : SameBut numbers_width PlanarStored n n') (words : List ℕ) where
  center-same : (j : ℕ) → center_at words n' j ≡ center_at words n j
  unfolding center_at
  center-same j = rw (kept s j 40 (lit< tt) (λ m. true≢false m.0), kept s j 41 (lit< tt) (λ m. true≢false m.0))

  pub content_rules-same : (joints : ℕ) → planar.content_rules words n' joints ≡ planar.content_rules words n joints
  unfolding center_fits
  content_rules-same joints = ap (λ t. rule 12 t ∷ []) (all-cong (center_fits words n') (center_fits words n) 0 joints (λ j _ _. rw (center-same j)))
