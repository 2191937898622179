-- What a move that stays finite does to each body (`MovedAs`): its pose becomes the new one, and nothing else of it changes. So rules 1 to 7 and 12 hold after it where they held before (`moved-rules`).
use Rattle.std.proofs.Common.{◌≡◌, ℕ, zero, suc, ◌+◌, ◌<◌, ◌≤◌, Bool, true, false, cond, eqb, List, length, refl, ap, ◌∙◌, arith, eqb-true}
use mathlib.Core.Bool.{false≢true}
use borrow.Author.Tests.{eqb-false}
use lib.Ieee.{Float}
use Rattle.rows.specs.declared.joint_constraint_builder.SolverPose.{SolverPose}
use Rattle.multibody.specs.Model.{Model, most_bodies, with_bodies}
use Rattle.multibody.specs.Counts.{body_count, joint_count}
use Rattle.multibody.specs.Refusals.{finite_body, finite_joint}
use Rattle.multibody.proofs.Tests.{by_cases}
use Rattle.multibody.proofs.RuleLaws.{all-below}
use Rattle.multibody.proofs.RefusalLaws.{RulesHold, sound-held}
use Rattle.multibody.proofs.CountLaws.{same-bodies, body-there}
use Rattle.multibody.proofs.Keeps.{finite-placed, held_with}
use Rattle.model.specs.Planar.{plane, planar}
use Rattle.model.specs.Store.{solver_pose_at, vel_at, put_pose}
use Rattle.model.specs.Refusals.{finite_pose}
use Rattle.model.proofs.StoreLaws.{with_pose, solver_pose_at-put_pose, solver_pose_at-put_pose-other, vel_at-put_pose, length-put_pose}
use Rattle.model.proofs.Keeps.{put_pose-same}
use Rattle.model.proofs.PlanarLaws.{planar-laws}
use Rattle.frames.specs.Moving.{new_pose, Moved, moved, move_from}
use Rattle.frames.specs.Frames.{moment, moved_moment, move_of}

-- a new pose comes from the body's own pose and velocity
pub new-same : (h : Float) (b b' : List Float) (i : ℕ) → solver_pose_at b i ≡ solver_pose_at b' i → vel_at b i ≡ vel_at b' i → new_pose h b i ≡ new_pose h b' i
unfolding new_pose
new-same h b b' i p v = rw (p, v)

-- n bodies from body i on have moved
pub record MovedAs (h : Float) (i n : ℕ) (b b1 : List Float) : Type 0 where
  pub size : length b1 ≡ length b
  pub vels : (k : ℕ) → vel_at b1 k ≡ vel_at b k
  pub moves : (k : ℕ) → i ≤ k → k < i + n → solver_pose_at b1 k ≡ with_pose (solver_pose_at b k) (new_pose h b k)
  pub stays : (k : ℕ) → k < i → solver_pose_at b1 k ≡ solver_pose_at b k
  pub fine : (k : ℕ) → k < body_count plane b → finite_body planar b1 k ≡ true

module _ (h : Float) where
  move-as : (n i : ℕ) (b : List Float) → i + n ≤ body_count plane b → body_count plane b ≤ most_bodies → ((k : ℕ) → k < body_count plane b → finite_body planar b k ≡ true) → (move_from h i n b).finite ≡ true
      → MovedAs h i n b (move_from h i n b).bodies
  unfolding move_from
  move-as zero i b l few was f = record { size = refl; vels = λ k. refl; moves = λ k g g2. absurd (omega (arith, g, g2)); stays = λ k g. refl; fine = was }
  move-as (suc n) i b l few was f = by_cases (finite_pose (new_pose h b i))
      (λ t.
      let p = new_pose h b i in
      let b2 = put_pose b i p in
      let count : body_count plane b2 ≡ body_count plane b = same-bodies plane b b2 (length-put_pose b i p) in
      let here : i < body_count plane b = omega (arith, l) in
      let rest = move-as n (i + 1) b2 (rw count (omega (arith, l))) (rw count few)
      (λ k g. finite-placed planar-laws (put_pose-same b i p t) k (was k (rw count at g))) (rw t at f) in
      rw t
      (record {
        size = rest.size ∙ length-put_pose b i p;
        vels = λ k. rest.vels k ∙ vel_at-put_pose b i k p;
        moves = λ k g g2. by_cases (eqb k i)
            (λ s. rw (eqb-true k i s) (rest.stays i (omega arith) ∙ solver_pose_at-put_pose b i p (λ e. omega (arith, e, few, here)) (body-there plane b i here)))
            (λ s.
            let ne = eqb-false k i s in
            let other = solver_pose_at-put_pose-other b i k p ne in
            rest.moves k (omega (arith, g, ne)) (omega (arith, g2)) ∙ ap (λ (q : SolverPose). with_pose q (new_pose h b2 k)) other
            ∙ ap (with_pose (solver_pose_at b k)) (new-same h b2 b k other (vel_at-put_pose b i k p)));
        stays = λ k g. rest.stays k (omega (arith, g)) ∙ solver_pose_at-put_pose-other b i k p (λ e. omega (arith, e, g));
        fine = λ k g. rest.fine k (rw count g);
      }))
      (λ t. absurd (false≢true (rw t at f)))

  -- no move changes a storage's length
  pub length_moved : (n i : ℕ) (b : List Float) → length (move_from h i n b).bodies ≡ length b
  unfolding move_from
  length_moved zero i b = refl
  length_moved (suc n) i b = go (move_from h (i + 1) n (put_pose b i (new_pose h b i))) (finite_pose (new_pose h b i)) (length_moved n (i + 1) (put_pose b i (new_pose h b i)) ∙ length-put_pose b i (new_pose h b i))
    where
      go : (b2 : Moved) (t : Bool) → length b2.bodies ≡ length b → length (cond t b2 (moved b false)).bodies ≡ length b
      go b2 true e = e
      go b2 false e = refl

-- ---- the rules hold after a move that stays finite

pub moved_as : (q : Model) → RulesHold planar-laws q → (move_from q.params.dt 0 (body_count plane q.bodies) q.bodies).finite ≡ true
    → MovedAs q.params.dt 0 (body_count plane q.bodies) q.bodies (move_from q.params.dt 0 (body_count plane q.bodies) q.bodies).bodies
moved_as q held f =
    move-as q.params.dt (body_count plane q.bodies) 0 q.bodies (omega arith) (sound-held planar-laws q held).few
    (all-below (finite_body planar q.bodies) (body_count plane q.bodies) held.finite-bodies) f

pub moved-held : (q : Model) → RulesHold planar-laws q → (b : List Float) → length b ≡ length q.bodies → ((k : ℕ) → k < body_count plane q.bodies → finite_body planar b k ≡ true)
    → RulesHold planar-laws (with_bodies q b)
moved-held q held b size fine =
    held_with planar-laws q q.built b q.numbers size refl held fine
    (all-below (finite_joint planar q.words q.numbers) (joint_count plane q.words q.numbers) held.finite-joints) refl

pub moved-rules : (q : Model) (rows : List Float) → RulesHold planar-laws q → (move_of (moment q rows)).finite ≡ true → RulesHold planar-laws (moved_moment (moment q rows)).model
unfolding move_of
moved-rules q rows held f =
    let a = moved_as q held f in
    moved-held q held _ a.size a.fine
