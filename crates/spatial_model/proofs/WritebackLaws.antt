-- An impulse stored by its id in a joint's record is the Rust's `writeback_impulses` of the joint that is read there.
use mathlib.Core.Path.{◌≡◌, refl, ◌∙◌}
use mathlib.Core.Bool.{Bool, true, false, cond}
use mathlib.Core.List.{List}
use Prim.Native.Nat.{ℕ, zero, suc, ◌+◌, ◌*◌, ◌≤◌, ◌<◌}
use native.Mathlib.Omega.{arith}
use borrow.Author.Tests.{ltb-true, ltb-false}
use lib.ListN.{length}
use lib.Dec.{eqb, ltb}
use lib.Ieee.{Float}
use Rattle.rows.specs.declared.joint_velocity_constraint.WritebackId.{WritebackId}
use Rattle.rows.specs.declared.joint_velocity_constraint.WritebackId.TheVariants.{Dof, Limit, Motor}
use Rattle.spatial_rows.specs.Writeback.{writeback_of}
use Rattle.multibody.specs.Records.{num, word}
use Rattle.multibody.specs.JointRecords.{axis_of}
use Rattle.spatial_model.specs.Layout.{words_width, numbers_width}
use Rattle.spatial_model.specs.Store.{seed_index, seed_axes, put_seed, joint_at, joint_of}
use Rattle.spatial_model.proofs.StoreLaws.{put_seed-past, joint_at-put_seed}

module _ (f : ℕ → Float) (g : ℕ → ℕ) (p : Float) where
  -- an axis of its kind: each is seen by computing what its id writes
  seeded : (id : WritebackId) → axis_of id < seed_axes id → joint_of (λ c. cond (eqb c (seed_index id)) p (f c)) g ≡ writeback_of (joint_of f g) id p
  unfolding writeback_of
  seeded (Dof zero) h = refl
  seeded (Dof (suc zero)) h = refl
  seeded (Dof (suc (suc zero))) h = refl
  seeded (Dof (suc (suc (suc zero)))) h = refl
  seeded (Dof (suc (suc (suc (suc zero))))) h = refl
  seeded (Dof (suc (suc (suc (suc (suc zero)))))) h = refl
  seeded (Dof (suc (suc (suc (suc (suc (suc i))))))) h = absurd (omega arith)
  seeded (Limit zero) h = refl
  seeded (Limit (suc zero)) h = refl
  seeded (Limit (suc (suc zero))) h = refl
  seeded (Limit (suc (suc (suc i)))) h = absurd (omega arith)
  seeded (Motor zero) h = refl
  seeded (Motor (suc zero)) h = refl
  seeded (Motor (suc (suc zero))) h = refl
  seeded (Motor (suc (suc (suc i)))) h = absurd (omega arith)

  past : (id : WritebackId) → seed_axes id ≤ axis_of id → joint_of f g ≡ writeback_of (joint_of f g) id p
  unfolding writeback_of
  past (Dof zero) h = absurd (omega arith)
  past (Dof (suc zero)) h = absurd (omega arith)
  past (Dof (suc (suc zero))) h = absurd (omega arith)
  past (Dof (suc (suc (suc zero)))) h = absurd (omega arith)
  past (Dof (suc (suc (suc (suc zero))))) h = absurd (omega arith)
  past (Dof (suc (suc (suc (suc (suc zero)))))) h = absurd (omega arith)
  past (Dof (suc (suc (suc (suc (suc (suc i))))))) h = refl
  past (Limit zero) h = absurd (omega arith)
  past (Limit (suc zero)) h = absurd (omega arith)
  past (Limit (suc (suc zero))) h = absurd (omega arith)
  past (Limit (suc (suc (suc i)))) h = refl
  past (Motor zero) h = absurd (omega arith)
  past (Motor (suc zero)) h = absurd (omega arith)
  past (Motor (suc (suc zero))) h = absurd (omega arith)
  past (Motor (suc (suc (suc i)))) h = refl

pub joint_at-put_seed-writeback : (words : List ℕ) (numbers : List Float) (j : ℕ) (id : WritebackId) (p : Float) → j * numbers_width + numbers_width ≤ length numbers
    → joint_at words (put_seed numbers j id p) j ≡ writeback_of (joint_at words numbers j) id p
unfolding joint_at
joint_at-put_seed-writeback words numbers j id p room = go (ltb (axis_of id) (seed_axes id)) refl
  where
    go : (t : Bool) → ltb (axis_of id) (seed_axes id) ≡ t → joint_at words (put_seed numbers j id p) j ≡ writeback_of (joint_at words numbers j) id p
    go true e =
        let h = ltb-true (axis_of id) (seed_axes id) e in
        joint_at-put_seed words numbers j id p h room ∙ seeded (num numbers_width numbers j) (word words_width words j) p id h
    go false e =
        let h = ltb-false (axis_of id) (seed_axes id) e in
        rw (put_seed-past numbers j id p h) (past (num numbers_width numbers j) (word words_width words j) p id h)
