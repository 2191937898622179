-- The loop over the bodies: before each turn, the bodies that are left move to what all of them move to.
use Rattle.std.proofs.Common.{◌≡◌, ℕ, suc, ◌+◌, ◌-◌, ◌<◌, ◌≤◌, true, false, List, length, ◌∙◌, arith}
use lib.Ieee.{Float}
use Rattle.floats.specs.declared.pose.Pose.{Pose}
use Rattle.multibody.specs.Counts.{body_count}
use Rattle.multibody.proofs.CountLaws.{same-bodies, body-there}
use Rattle.model.specs.Planar.{plane}
use Rattle.model.specs.SingleRecords.{put_pose_if_there}
use Rattle.model.proofs.SingleRecordsLaws.{put-pose-there}
use Rattle.model.specs.Refusals.{finite_pose}
use Rattle.frames.specs.Moving.{new_pose, moved, move_from}

module _ (h : Float) (i n : ℕ) (b : List Float) where
  pub no_move : n ≤ i → move_from h i (n - i) b ≡ moved b true
  unfolding move_from
  no_move g =
      let e : n - i ≡ 0 = omega arith in
      rw e

  module _ (g : i < n) {p : Pose} (e : p ≡ new_pose h b i) where
    pub stop-move : finite_pose p ≡ false → move_from h i (n - i) b ≡ moved b false
    unfolding move_from
    stop-move f =
        let z : n - i ≡ suc (n - (i + 1)) = omega arith in
        rw (z, ← e, f)

    pub next-move : finite_pose p ≡ true → i < body_count plane b → {b2 : List Float} → b2 ≡ put_pose_if_there b i p → move_from h i (n - i) b ≡ move_from h (i + 1) (n - (i + 1)) b2
    unfolding move_from
    next-move f here d =
        let z : n - i ≡ suc (n - (i + 1)) = omega arith in
        let q = d ∙ put-pose-there b i p (body-there plane b i here) in
        rw (z, ← e, f, q)

-- a body whose turn it is is there
pub body-turn : (b₀ b : List Float) (n i : ℕ) → n ≡ body_count plane b₀ → length b ≡ length b₀ → i < n → i < body_count plane b
body-turn b₀ b n i e s g = rw (same-bodies plane b₀ b s, ← e) g
