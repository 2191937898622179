-- An impulse stored by its id in a joint's record is the Rust's `writeback_impulses` of the joint that is read there.
use mathlib.Core.Path.{◌≡◌, refl, ◌∙◌}
use mathlib.Core.Bool.{Bool, true, false, cond}
use mathlib.Core.List.{List}
use Prim.Native.Nat.{ℕ, zero, suc, ◌+◌, ◌*◌, ◌≤◌, ◌<◌}
use native.Mathlib.Omega.{arith}
use borrow.Author.Tests.{ltb-true, ltb-false}
use lib.ListN.{length}
use lib.Dec.{eqb, ltb}
use lib.Ieee.{Float}
use Rattle.rows.specs.Writeback.{writeback_of}
use Rattle.rows.specs.declared.joint_velocity_constraint.WritebackId.{WritebackId}
use Rattle.rows.specs.declared.joint_velocity_constraint.WritebackId.TheVariants.{Dof, Limit, Motor}
use Rattle.rows.proofs.WritebackKinds.{dof-written, limit-written, motor-written}
use Rattle.model.specs.Layout.{words_width, numbers_width}
use Rattle.model.specs.Records.{num, word}
use Rattle.model.specs.Store.{seed_index, axis_of, put_seed, joint_at, joint_of}
use Rattle.model.proofs.StoreLaws.{put_seed-past, joint_at-put_seed}

module _ (f : ℕ → Float) (g : ℕ → ℕ) (p : Float) where
  -- one of the three axes: each is seen by computing what its kind of id writes
  seeded : (id : WritebackId) → axis_of id < 3 → joint_of (λ c. cond (eqb c (seed_index id)) p (f c)) g ≡ writeback_of (joint_of f g) id p
  seeded (Dof zero) h = rw dof-written
  seeded (Dof (suc zero)) h = rw dof-written
  seeded (Dof (suc (suc zero))) h = rw dof-written
  seeded (Dof (suc (suc (suc i)))) h = absurd (omega arith)
  seeded (Limit zero) h = rw limit-written
  seeded (Limit (suc zero)) h = rw limit-written
  seeded (Limit (suc (suc zero))) h = rw limit-written
  seeded (Limit (suc (suc (suc i)))) h = absurd (omega arith)
  seeded (Motor zero) h = rw motor-written
  seeded (Motor (suc zero)) h = rw motor-written
  seeded (Motor (suc (suc zero))) h = rw motor-written
  seeded (Motor (suc (suc (suc i)))) h = absurd (omega arith)

  past : (id : WritebackId) → 3 ≤ axis_of id → joint_of f g ≡ writeback_of (joint_of f g) id p
  past (Dof zero) h = absurd (omega arith)
  past (Dof (suc zero)) h = absurd (omega arith)
  past (Dof (suc (suc zero))) h = absurd (omega arith)
  past (Dof (suc (suc (suc i)))) h = rw dof-written
  past (Limit zero) h = absurd (omega arith)
  past (Limit (suc zero)) h = absurd (omega arith)
  past (Limit (suc (suc zero))) h = absurd (omega arith)
  past (Limit (suc (suc (suc i)))) h = rw limit-written
  past (Motor zero) h = absurd (omega arith)
  past (Motor (suc zero)) h = absurd (omega arith)
  past (Motor (suc (suc zero))) h = absurd (omega arith)
  past (Motor (suc (suc (suc i)))) h = rw motor-written

pub joint_at-put_seed-writeback : (words : List ℕ) (numbers : List Float) (j : ℕ) (id : WritebackId) (p : Float) → j * numbers_width + numbers_width ≤ length numbers
    → joint_at words (put_seed numbers j id p) j ≡ writeback_of (joint_at words numbers j) id p
unfolding joint_at
joint_at-put_seed-writeback words numbers j id p room = go (ltb (axis_of id) 3) refl
  where
    go : (t : Bool) → ltb (axis_of id) 3 ≡ t → joint_at words (put_seed numbers j id p) j ≡ writeback_of (joint_at words numbers j) id p
    go true e =
        let h = ltb-true (axis_of id) 3 e in
        joint_at-put_seed words numbers j id p h room ∙ seeded (num numbers_width numbers j) (word words_width words j) p id h
    go false e =
        let h = ltb-false (axis_of id) 3 e in
        rw (put_seed-past numbers j id p h) (past (num numbers_width numbers j) (word words_width words j) p id h)
