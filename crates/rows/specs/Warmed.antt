-- Where a row's impulse starts, for any kind of row and however a row is given another impulse. `update` of the Rust's joint_constraint_builder.rs.
use Rattle.std.specs.Prelude.{ℕ, zero, suc, List, [], ◌∷◌, get_or, drop, Float, Option, Some, None}
use Rattle.floats.specs.Operators.{bits, ◌⊗◌}
use Rattle.rows.specs.declared.joint_velocity_constraint.WritebackId.{WritebackId}

module _ {Row : Type 0} (with_impulse : Row → Float → Row) where
  -- at 0 with no warm coefficient, at the id's stored impulse times it in substep 0, and at the row's last impulse times it later
  unfoldable pub warmed_of : Option Float → ℕ → Float → Float → Row → Row
  warmed_of None substep seed prev row = row
  warmed_of (Some coeff) zero seed prev row = with_impulse row (seed ⊗ coeff)
  warmed_of (Some coeff) (suc substep) seed prev row = with_impulse row (prev ⊗ coeff)

  -- row by row, with the row's id, whose seed is its stored impulse, and its last impulse, which reads 0 where there is none
  unfoldable pub warmed_all : Option Float → ℕ → (WritebackId → Float) → List WritebackId → List Float → List Row → List Row
  warmed_all warm substep seed [] prevs rows = []
  warmed_all warm substep seed (i ∷ is) prevs [] = []
  warmed_all warm substep seed (i ∷ is) prevs (r ∷ rs) =
      warmed_of warm substep (seed i) (get_or prevs 0 (bits 0)) r ∷ warmed_all warm substep seed is (drop 1 prevs) rs
